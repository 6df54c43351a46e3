-- Parts of an open segment that are joined, and the one part that is left at last.
use Rattle.std.proofs.Common.{◌≡◌, ℕ, suc, ◌+◌, ◌-◌, ◌<◌, ◌≤◌, false, List, [], ◌∷◌, ◌++◌, All, length, map, take, drop, set, get_or, vec_len}
use Rattle.std.proofs.Common.{append_assoc, append-nil, ap, sym, ◌∙◌, arith, refl, subst}
use Rattle.std.specs.List.{remove}
use Rattle.std.proofs.lemmas.List.{drop-append-le, drop-take, drop_all, get_or_append_left, get_or-append-add, length-append, length-drop, length-map, map-append, take-append-drop, take-take, take_all}
use Rattle.std.proofs.lemmas.List.Elements.{All-cons}
use Rattle.std.proofs.lemmas.List.Sums.{sum_by-append, sum_by-cons}
use Rattle.qm_docset.specs.Members.{members_between}
use Rattle.qm_docset.proofs.MembersLemmas.{members_between-same, members_between-shift, members_between-split}
use Rattle.qm_merge.specs.Merging.{AreAlike, AreTooMany, joined}
use Rattle.qm_postings.specs.Reading.{Reader}
use Rattle.qm_postings.specs.Segment.{Document, Segment}
use Rattle.qm_schema.specs.Schema.{FieldFacts}
use Rattle.qm_index.specs.Indexed.{indexed}
use Rattle.qm_index.specs.Numbers.{document_count}
use Rattle.qm_index.specs.OpenDocuments.{is_marked, kept_of, marked, segment_of}
use Rattle.qm_index.specs.Parts.{cut, segments_of}
use Rattle.qm_index.specs.declared.index.Index.{Index}
use Rattle.qm_index.specs.declared.open_document.OpenDocument.{OpenDocument}
use Rattle.qm_index.proofs.LastSegments.{front-of, take-last}

-- ---- two of them

take-more : {X : Type 0} (n m : ℕ) (xs : List X) → take (n + m) xs ≡ take n xs ++ take m (drop n xs)
take-more n m xs =
    sym (take-append-drop n (take (n + m) xs)) ∙ ap (λ l. l ++ drop n (take (n + m) xs)) (take-take n (n + m) xs (omega arith))
    ∙ ap (λ l. take n xs ++ l) (drop-take n m xs)

-- which of documents behind others are marked
marked-append : (xs ys : List OpenDocument) → marked (xs ++ ys) ≡ marked xs ++ map (λ d. length xs + d) (marked ys)
marked-append xs ys =
    ap (members_between (is_marked (xs ++ ys)) 0) (length-append xs ys)
    ∙ members_between-split (is_marked (xs ++ ys)) 0 (length xs) (length xs + length ys) (omega arith) (omega arith)
    ∙ ap (λ l. l ++ members_between (is_marked (xs ++ ys)) (length xs) (length xs + length ys))
    (members_between-same (is_marked (xs ++ ys)) (is_marked xs) 0 (length xs) (λ d _ below. front d below))
    ∙ ap (λ l. marked xs ++ l) (ap (λ n. members_between (is_marked (xs ++ ys)) n (length xs + length ys)) (omega arith)
    ∙ members_between-shift (is_marked (xs ++ ys)) (length xs) 0 (length ys)
    ∙ ap (map (λ d. length xs + d)) (members_between-same (λ d. is_marked (xs ++ ys) (length xs + d)) (is_marked ys) 0 (length ys) (λ d _ _. behind d)))
  where
    front : (d : ℕ) → d < length xs → is_marked (xs ++ ys) d ≡ is_marked xs d
    front d below =
        ap (λ bs. get_or bs d false) (map-append (λ (x : OpenDocument). x.is_deleted) xs ys)
        ∙ get_or_append_left (map (λ (x : OpenDocument). x.is_deleted) xs) (map (λ (x : OpenDocument). x.is_deleted) ys) false d
        (omega (arith, below, length-map xs (λ (x : OpenDocument). x.is_deleted)))

    behind : (d : ℕ) → is_marked (xs ++ ys) (length xs + d) ≡ is_marked ys d
    behind d =
        ap (λ bs. get_or bs (length xs + d) false) (map-append (λ (x : OpenDocument). x.is_deleted) xs ys)
        ∙ ap (λ n. get_or (map (λ (x : OpenDocument). x.is_deleted) xs ++ map (λ (x : OpenDocument). x.is_deleted) ys) (n + d) false)
        (sym (length-map xs (λ (x : OpenDocument). x.is_deleted)))
        ∙ get_or-append-add (map (λ (x : OpenDocument). x.is_deleted) xs) (map (λ (x : OpenDocument). x.is_deleted) ys) d false

module _ (schema : List FieldFacts) (block_len : ℕ) where
  -- the segment of some documents, joined with that of others behind them, is that of all
  segment_of-append : (xs ys : List OpenDocument) →
      joined (segment_of schema block_len xs) (segment_of schema block_len ys) ≡ segment_of schema block_len (xs ++ ys)
  segment_of-append xs ys =
      let made : List Document → List ℕ →
      Segment = λ documents deleted. record { schema = schema; block_len = block_len; documents = documents; deleted = deleted } in
      ap (λ n. made (map (kept_of schema) xs ++ map (kept_of schema) ys) (marked xs ++ map (λ d. n + d) (marked ys))) (length-map xs (kept_of schema))
      ∙ ap (λ documents. made documents (marked xs ++ map (λ d. length xs + d) (marked ys))) (sym (map-append (kept_of schema) xs ys))
      ∙ ap (made (map (kept_of schema) (xs ++ ys))) (sym (marked-append xs ys))

  -- what is cut has the fields and the blocks of all
  pub cut-fields : (rs : List Reader) (ds : List OpenDocument) → segments_of rs ≡ cut schema block_len rs ds →
      All (λ r. (r.segment.schema ≡ schema) × (r.segment.block_len ≡ block_len)) rs
  cut-fields [] ds are = λ k d below. absurd (omega (arith, below))
  cut-fields (r ∷ rs) ds are =
      let head : r.segment ≡ segment_of schema block_len (take (length r.segment.documents) ds) = ap (λ l. get_or l 0 r.segment) are in
      All-cons (λ x. (x.segment.schema ≡ schema) × (x.segment.block_len ≡ block_len)) r rs (ap (λ s. s.schema) head, ap (λ s. s.block_len) head)
      (cut-fields rs (drop (length r.segment.documents) ds) (ap (drop 1) are))

  -- the last two of some parts are joined
  pub cut-joined : (rs : List Reader) (a b j : Reader) (ds : List OpenDocument) → j.segment ≡ joined a.segment b.segment →
      segments_of (rs ++ a ∷ b ∷ []) ≡ cut schema block_len (rs ++ a ∷ b ∷ []) ds → segments_of (rs ++ j ∷ []) ≡ cut schema block_len (rs ++ j ∷ []) ds
  cut-joined [] a b j ds is are =
      let n = length a.segment.documents in
      let m = length b.segment.documents in
      let first : a.segment ≡ segment_of schema block_len (take n ds) = ap (λ l. get_or l 0 a.segment) are in
      let second : b.segment ≡ segment_of schema block_len (take m (drop n ds)) = ap (λ l. get_or l 1 b.segment) are in
      let long : length j.segment.documents ≡ n + m = ap (λ s. length s.documents) is ∙ length-append a.segment.documents b.segment.documents in
      let whole : j.segment ≡ segment_of schema block_len (take (length j.segment.documents) ds) =
      is ∙ (λ i. joined (first i) (second i)) ∙ segment_of-append (take n ds) (take m (drop n ds))
      ∙ ap (segment_of schema block_len) (sym (take-more n m ds) ∙ ap (λ k. take k ds) (sym long)) in
      ap (λ s. s ∷ []) whole
  cut-joined (q ∷ rs) a b j ds is are =
      let n = length q.segment.documents in
      ap (λ s. s ∷ segments_of (rs ++ j ∷ [])) (ap (λ l. get_or l 0 q.segment) are)
      ∙ ap (λ cs. segment_of schema block_len (take n ds) ∷ cs) (cut-joined rs a b j (drop n ds) is (ap (drop 1) are))

  -- one part that has all documents is the segment of them
  pub cut-one : (r : Reader) (ds : List OpenDocument) → segments_of (r ∷ []) ≡ cut schema block_len (r ∷ []) ds →
      document_count (r ∷ []) ≡ length ds → r.segment ≡ segment_of schema block_len ds
  cut-one r ds are all =
      ap (λ l. get_or l 0 r.segment) are
      ∙ ap (segment_of schema block_len) (take_all (length r.segment.documents) ds (omega (arith, all, sum_by-cons (λ (x : Reader). length x.segment.documents) r [])))

-- ---- as an index has them

-- The one part that an open segment has, with all of its documents.
pub record HasWhole (i : Index) : Type 0 where
  pub part : Reader
  pub behind : drop i.ended i.searcher.segments ≡ part ∷ []
  pub whole : part.segment ≡ (indexed i).current

one-of : {X : Type 0} (xs : List X) → length xs ≡ 1 → (x : X) × (xs ≡ x ∷ [])
one-of [] long = absurd (omega (arith, long))
one-of (x ∷ []) long = (x, refl)
one-of (x ∷ y ∷ xs) long = absurd (omega (arith, long))

pub has-whole : (i : Index) → length i.searcher.segments ≡ i.ended + 1 → i.built ≡ vec_len i.documents → HasWhole i
has-whole i one built =
    let rs = i.searcher.segments in
    let long : length (drop i.ended rs) ≡ 1 = omega (arith, one, length-drop i.ended rs) in
    let only = one-of (drop i.ended rs) long in
    let are = subst (λ l. segments_of l ≡ cut i.searcher.schema i.block_len l i.documents.items) only.1 i.parts in
    let count : document_count (only.0 ∷ []) ≡ length i.documents.items =
    ap document_count (sym only.1) ∙ i.built_parts ∙ built ∙ omega (arith, i.documents.ok.0) in
    record { part = only.0; behind = only.1; whole = cut-one i.searcher.schema i.block_len only.0 i.documents.items are count }

-- ---- the last two parts

-- as they are read
pub last-two-read : (rs : List Reader) (a b : Reader) → 2 ≤ length rs → a ≡ get_or rs (length rs - 2) a → b ≡ get_or rs (length rs - 1) b →
    rs ≡ take (length rs - 2) rs ++ a ∷ b ∷ []
last-two-read rs a b two first second =
    let n = length rs in
    let before : n - 1 - 1 ≡ n - 2 = omega arith in
    let front : take (n - 1) rs ≡ take (n - 2) rs ++ a ∷ [] =
    take-last rs (n - 1) a (omega (arith, two)) (omega arith) (first ∙ ap (λ k. get_or rs k a) (sym before)) ∙ ap (λ k. take k rs ++ a ∷ []) before in
    sym (take_all n rs (omega arith)) ∙ take-last rs n b (omega (arith, two)) (omega arith) second
    ∙ ap (λ l. l ++ b ∷ []) front ∙ append_assoc (take (n - 2) rs) (a ∷ []) (b ∷ [])

-- one in the place of both
pub one-for-two : (rs others : List Reader) (a b j : Reader) → rs ≡ others ++ a ∷ b ∷ [] →
    set (remove rs (length rs - 1)) (length rs - 1 - 1) j ≡ others ++ j ∷ []
one-for-two rs others a b j all =
    let n = length rs in
    let long : n ≡ length others + 2 = ap length all ∙ length-append others (a ∷ b ∷ []) in
    let split : rs ≡ (others ++ a ∷ []) ++ b ∷ [] = all ∙ sym (append_assoc others (a ∷ []) (b ∷ [])) in
    let left : remove rs (n - 1) ≡ others ++ a ∷ [] =
    ap (λ l. take (n - 1) rs ++ l) (drop_all (suc (n - 1)) rs (omega (arith, long))) ∙ append-nil (take (n - 1) rs)
    ∙ ap (λ l. take (length l - 1) l) split ∙ front-of (others ++ a ∷ []) b in
    let place : n - 1 - 1 ≡ length others = omega (arith, long) in
    (λ i. set (left i) (place i) j) ∙ set-last others
  where
    set-last : (xs : List Reader) → set (xs ++ a ∷ []) (length xs) j ≡ xs ++ j ∷ []
    set-last [] = refl
    set-last (x ∷ xs) = ap (λ l. x ∷ l) (set-last xs)

module _ (i : Index) (others : List Reader) (a b : Reader) (two : i.ended + 2 ≤ length i.searcher.segments)
    (all : i.searcher.segments ≡ others ++ a ∷ b ∷ []) where
  pub within-others : i.ended ≤ length others
  within-others = omega (arith, two, ap length all, length-append others (a ∷ b ∷ []))

  -- behind the ended segments
  pub parts-behind : drop i.ended i.searcher.segments ≡ drop i.ended others ++ a ∷ b ∷ []
  parts-behind = ap (drop i.ended) all ∙ drop-append-le i.ended others (a ∷ b ∷ []) within-others

  pub count-behind : document_count (drop i.ended others) + (length a.segment.documents + length b.segment.documents) ≡ i.built
  count-behind = omega (
    arith,
    i.built_parts,
    ap document_count parts-behind,
    sum_by-append (λ (r : Reader). length r.segment.documents) (drop i.ended others) (a ∷ b ∷ []),
    sum_by-cons (λ (r : Reader). length r.segment.documents) a (b ∷ []),
    sum_by-cons (λ (r : Reader). length r.segment.documents) b [],
  )

  -- the two have the fields and the blocks of all parts
  pub parts-alike : AreAlike a.segment b.segment
  parts-alike =
      let front = drop i.ended others in
      let IsOf : Reader → Type 0 = λ r. (r.segment.schema ≡ i.searcher.schema) × (r.segment.block_len ≡ i.block_len) in
      let own : All IsOf (front ++ a ∷ b ∷ []) =
      subst (All IsOf) parts-behind (cut-fields i.searcher.schema i.block_len (drop i.ended i.searcher.segments) i.documents.items i.parts) in
      let long = length-append front (a ∷ b ∷ []) in
      let first : IsOf a = subst IsOf (get_or-append-add front (a ∷ b ∷ []) 0 a) (own (length front + 0) a (omega (arith, long))) in
      let second : IsOf b = subst IsOf (get_or-append-add front (a ∷ b ∷ []) 1 b) (own (length front + 1) b (omega (arith, long))) in
      record { schema = first.0 ∙ sym second.0; block_len = first.1 ∙ sym second.1 }

  pub not-too-many : ¬ AreTooMany a.segment b.segment
  not-too-many too = absurd (omega (arith, too.more, count-behind, i.some_built, i.few))
