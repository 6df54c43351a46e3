-- The last of some segments, and the last two of them, as readers have them.
use Rattle.std.proofs.Common.{◌≡◌, ℕ, zero, suc, ◌+◌, ◌-◌, ◌<◌, ◌≤◌, List, [], ◌∷◌, ◌++◌, append_assoc, arith, ap, drop, get_or, length, subst, sym, take, ◌∙◌}
use Rattle.std.specs.List.{remove}
use Rattle.std.proofs.Math.Seq.{get_or-append_seam}
use Rattle.std.proofs.lemmas.List.{drop-append-le, drop_all, get_or-append-add, get_or-take, length-append, length-map, length-take-le, map-append, take-append-le, take-map, take-take, take_all, take_more}
use Rattle.qm_folder.specs.Disk.{Contents}
use Rattle.qm_postings.specs.Reading.{Reader}
use Rattle.qm_postings.specs.Segment.{Segment}
use Rattle.qm_store.specs.declared.kept_segment.KeptSegment.{KeptSegment}
use Rattle.qm_index.specs.Indexed.{indexed}
use Rattle.qm_index.specs.Joining.{LastOne, LastTwo}
use Rattle.qm_index.specs.Parts.{segments_of}
use Rattle.qm_index.specs.SavedIndex.{WereHeld}
use Rattle.qm_index.specs.Saving.{IsKeptIn}
use Rattle.qm_index.specs.declared.index.Index.{Index}

-- ---- a list and its last

-- so many and one more
pub take-last : {X : Type 0} (xs : List X) (n : ℕ) (x : X) → 0 < n → n ≤ length xs → x ≡ get_or xs (n - 1) x → take n xs ≡ take (n - 1) xs ++ x ∷ []
take-last xs n x some within is =
    let up : n ≡ n - 1 + 1 = omega (arith, some) in
    ap (λ k. take k xs) up ∙ take_more xs (n - 1) x (omega (arith, some, within)) ∙ ap (λ y. take (n - 1) xs ++ y ∷ []) (sym is)

-- without the last
pub front-of : {X : Type 0} (xs : List X) (x : X) → take (length (xs ++ x ∷ []) - 1) (xs ++ x ∷ []) ≡ xs
front-of xs x =
    let less : length (xs ++ x ∷ []) - 1 ≡ length xs = omega (arith, length-append xs (x ∷ [])) in
    ap (λ n. take n (xs ++ x ∷ [])) less ∙ take-append-le (length xs) xs (x ∷ []) (omega arith) ∙ take_all (length xs) xs (omega arith)

-- with one taken out, those before it and those behind it
pub take-removed : {X : Type 0} (n : ℕ) (xs : List X) → n ≤ length xs → take n (remove xs n) ≡ take n xs
take-removed n xs within =
    let long = length-take-le n xs within in
    take-append-le n (take n xs) (drop (suc n) xs) (omega (arith, long)) ∙ take_all n (take n xs) (omega (arith, long))

pub drop-removed : {X : Type 0} (n : ℕ) (xs : List X) → n ≤ length xs → drop n (remove xs n) ≡ drop (n + 1) xs
drop-removed n xs within =
    let long = length-take-le n xs within in
    let none : drop n (take n xs) ≡ [] = drop_all n (take n xs) (omega (arith, long)) in
    let next : suc n ≡ n + 1 = omega arith in
    drop-append-le n (take n xs) (drop (suc n) xs) (omega (arith, long)) ∙ ap (λ l. l ++ drop (suc n) xs) none ∙ ap (λ k. drop k xs) next

-- ---- the last one, and the last two, are told by the segments

pub same-last : (ss : List Segment) (it at : LastOne ss) → it.last ≡ at.last
same-last ss it at =
    own it ∙ sym (own at)
  where
    own : (x : LastOne ss) → x.last ≡ get_or ss (length ss - 1) it.last
    own x =
        let place : length ss - 1 ≡ length x.others = omega (arith, ap length x.all, length-append x.others (x.last ∷ [])) in
        sym (get_or-append_seam x.others x.last [] it.last) ∙ ap (λ l. get_or l (length x.others) it.last) (sym x.all)
        ∙ ap (λ n. get_or ss n it.last) (sym place)

pub same-first : (ss : List Segment) (it at : LastTwo ss) → it.first ≡ at.first
same-first ss it at =
    own it ∙ sym (own at)
  where
    own : (x : LastTwo ss) → x.first ≡ get_or ss (length ss - 2) it.first
    own x =
        let place : length ss - 2 ≡ length x.others = omega (arith, ap length x.all, length-append x.others (x.first ∷ x.second ∷ [])) in
        sym (get_or-append_seam x.others x.first (x.second ∷ []) it.first) ∙ ap (λ l. get_or l (length x.others) it.first) (sym x.all)
        ∙ ap (λ n. get_or ss n it.first) (sym place)

pub same-second : (ss : List Segment) (it at : LastTwo ss) → it.second ≡ at.second
same-second ss it at =
    own it ∙ sym (own at)
  where
    own : (x : LastTwo ss) → x.second ≡ get_or ss (length ss - 1) it.second
    own x =
        let place : length ss - 1 ≡ length x.others + 1 = omega (arith, ap length x.all, length-append x.others (x.first ∷ x.second ∷ [])) in
        sym (get_or-append-add x.others (x.first ∷ x.second ∷ []) 1 it.second) ∙ ap (λ l. get_or l (length x.others + 1) it.second) (sym x.all)
        ∙ ap (λ n. get_or ss n it.second) (sym place)

-- the first of what was held
were-fewer : (c : Contents) (n : ℕ) (ks : List KeptSegment) (ss : List Segment) → WereHeld c ks ss → WereHeld c (take n ks) (take n ss)
were-fewer c zero ks ss were = tt
were-fewer c (suc n) [] ss were = tt
were-fewer c (suc n) (k ∷ ks) [] were = absurd were
were-fewer c (suc n) (k ∷ ks) (s ∷ ss) were = (were.0, were-fewer c n ks ss were.1)

-- ---- as an index has them

module _ (i : Index) where
  pub ended-count : length (indexed i).ended ≡ i.ended
  ended-count =
      length-map (take i.ended i.searcher.segments) (λ (r : Reader). r.segment) ∙ length-take-le i.ended i.searcher.segments i.within

  abbrev pub last-one : (r : Reader) → 0 < i.ended → r ≡ get_or i.searcher.segments (i.ended - 1) r → LastOne (indexed i).ended
  last-one r some is = record {
    others = segments_of (take (i.ended - 1) i.searcher.segments);
    last = r.segment;
    all = ap segments_of (take-last i.searcher.segments i.ended r some i.within is)
        ∙ map-append (λ (x : Reader). x.segment) (take (i.ended - 1) i.searcher.segments) (r ∷ []);
  }

  abbrev pub last-two : (a b : Reader) → 2 ≤ i.ended → a ≡ get_or i.searcher.segments (i.ended - 2) a → b ≡ get_or i.searcher.segments (i.ended - 1) b →
      LastTwo (indexed i).ended
  last-two a b two first second =
      let rs = i.searcher.segments in
      let before : i.ended - 1 - 1 ≡ i.ended - 2 = omega arith in
      let front : take (i.ended - 1) rs ≡ take (i.ended - 2) rs ++ a ∷ [] =
      take-last rs (i.ended - 1) a (omega (arith, two)) (omega (arith, i.within)) (first ∙ ap (λ n. get_or rs n a) (sym before)) ∙ ap (λ n. take n rs ++ a ∷ []) before in
      let all : take i.ended rs ≡ take (i.ended - 2) rs ++ a ∷ b ∷ [] =
      take-last rs i.ended b (omega (arith, two)) i.within second ∙ ap (λ l. l ++ b ∷ []) front ∙ append_assoc (take (i.ended - 2) rs) (a ∷ []) (b ∷ []) in
      record {
        others = segments_of (take (i.ended - 2) rs);
        first = a.segment;
        second = b.segment;
        all = ap segments_of all ∙ map-append (λ (x : Reader). x.segment) (take (i.ended - 2) rs) (a ∷ b ∷ []);
      }

  -- as they are read
  abbrev pub last-two-read : (readers : List Reader) (a b : Reader) → 2 ≤ i.ended → readers ≡ i.searcher.segments → a ≡ get_or readers (i.ended - 2) a →
      b ≡ get_or readers (i.ended - 1) b → LastTwo (indexed i).ended
  last-two-read readers a b two are first second =
      last-two a b two (first ∙ ap (λ rs. get_or rs (i.ended - 2) a) are) (second ∙ ap (λ rs. get_or rs (i.ended - 1) b) are)

  -- an ended segment has the fields of all
  pub read-schema : (readers : List Reader) (k : ℕ) (r : Reader) → k < i.ended → readers ≡ i.searcher.segments → r ≡ get_or readers k r →
      r.segment.schema ≡ i.searcher.schema
  read-schema readers k r below are is =
      let own : r ≡ get_or (take i.ended i.searcher.segments) k r =
      is ∙ ap (λ rs. get_or rs k r) are ∙ sym (get_or-take i.ended i.searcher.segments k r below) in
      ap (λ (x : Reader). x.segment.schema) own
      ∙ i.alike k r (omega (arith, below, length-take-le i.ended i.searcher.segments i.within))

  -- all but the last of the ended segments
  pub front-segments : take (length (indexed i).ended - 1) (indexed i).ended ≡ segments_of (take (i.ended - 1) i.searcher.segments)
  front-segments =
      let rs = i.searcher.segments in
      let less : length (indexed i).ended - 1 ≡ i.ended - 1 = omega (arith, ended-count) in
      ap (λ n. take n (indexed i).ended) less ∙ take-map (λ (r : Reader). r.segment) (i.ended - 1) (take i.ended rs)
      ∙ ap segments_of (take-take (i.ended - 1) i.ended rs (omega arith))

  -- what was saved of them
  pub front-kept : (c : Contents) → IsKeptIn i c → WereHeld c (take (i.ended - 1) i.saved.segments.items) (segments_of (take (i.ended - 1) i.searcher.segments))
  front-kept c kept =
      let less : length (indexed i).ended - 1 ≡ i.ended - 1 = omega (arith, ended-count) in
      subst (WereHeld c (take (i.ended - 1) i.saved.segments.items)) (ap (λ n. take n (indexed i).ended) (sym less) ∙ front-segments)
      (were-fewer c (i.ended - 1) i.saved.segments.items (indexed i).ended kept)
