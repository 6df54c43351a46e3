-- What a stored segment says of a term: its row, where it has one.
use Rattle.std.proofs.Common.{◌≡◌, ℕ, ◌+◌, ◌^◌, ◌<◌, ◌≤◌, Bool, true, false, cond, List, [], ◌∷◌, ◌++◌, length, Option, None, Some, refl, ap, sym, ◌∙◌, append_assoc, Ordering, Less, Equal, Greater, is_some}
use Rattle.std.specs.Prelude.{All, option_and_then, option_map}
use Rattle.std.specs.List.{AllByRecursion}
use Rattle.std.specs.Ordering.{eq_by_cmp, is_gt, ordering_reverse}
use Rattle.std.proofs.lemmas.Bool.{false≢true}
use Rattle.std.proofs.lemmas.List.{length-append}
use Rattle.qm_postings.specs.Rows.{Row}
use Rattle.qm_schema.specs.Term.{TermKey, same_term, term_cmp, term_cmp_total}
use Rattle.qm_store.specs.Dictionary.{row_with}
use Rattle.qm_store.specs.Entries.{Part, here, there}
use Rattle.qm_store.specs.Pieces.{piece_in}
use Rattle.qm_store.specs.RowBytes.{places_part, postings_part, row_at}
use Rattle.qm_store.specs.Stored.{IsStorable, all_apart, apart, block_bytes, block_named, group_bytes, is_short, named, parts_apart, row_of}
use Rattle.qm_store.specs.StoredSegment.{found_in, looked_up_in, part_in, row_bytes_in, row_by, row_in}
use Rattle.qm_store.proofs.EntriesRead.{all_apart_len, block-read, entries_stored, parts_stored}
use Rattle.qm_store.proofs.PiecesRead.{piece-there}

-- ---- the bytes of a row

-- those that are read of it
abbrev wanted : Bool → List ℕ → List ℕ → List ℕ
wanted placed front back = cond placed (front ++ back) front

module _ (key : ℕ) (before front back behind : List ℕ) where
  abbrev file : List ℕ
  file = before ++ (parts_apart front back ++ behind)

  both : (placed : Bool) (whole : List ℕ) (p q : Part) → part_in key whole p ≡ Some front → part_in key whole q ≡ Some back →
      row_bytes_in key whole placed (p, q) ≡ Some (wanted placed front back)
  both true whole p q one two =
      ap (option_and_then (λ f. option_map (λ b. f ++ b) (part_in key whole q))) one ∙ ap (option_map (λ b. front ++ b)) two
  both false whole p q one two = ap (option_and_then (λ f. Some f)) one

  pub parts-found : (placed : Bool) → row_bytes_in key file placed (parts_stored key (length before) front back) ≡ Some (wanted placed front back)
  parts-found placed = by_length (is_short front back)
    where
      by_length : (b : Bool) → row_bytes_in key (before ++ (cond b [] (front ++ back) ++ behind)) placed
          (cond b (here front, here back) (there (named key (length before) front), there (named key (length before + length front) back)))
          ≡ Some (wanted placed front back)
      by_length true = both placed (before ++ behind) (here front) (here back) refl refl
      by_length false =
          let first = ap (λ l. before ++ l) (append_assoc front back behind) in
          let second = first ∙ sym (append_assoc before front (back ++ behind)) in
          both placed (before ++ ((front ++ back) ++ behind)) (there (named key (length before) front)) (there (named key (length before + length front) back))
          (ap (λ l. piece_in key l (named key (length before) front)) first ∙ piece-there key before front (back ++ behind))
          ((λ i. piece_in key (second i) (named key (sym (length-append before front) i) back)) ∙ piece-there key (before ++ front) back behind)

-- ---- a term among rows

-- what is read of it
abbrev pub read_as : Bool → TermKey → Row → Option Row
read_as placed t r = row_at t placed (wanted placed (postings_part r) (places_part r))

abbrev pub found_as : Bool → TermKey → Option Row → Option (Option Row)
found_as placed t None = Some None
found_as placed t (Some r) = option_map (λ row. Some row) (read_as placed t r)

apart-is : (r : Row) → apart r ≡ parts_apart (postings_part r) (places_part r)
unfolding apart
apart-is r = refl

-- a row, by where its parts stand
pub row-found : (key : ℕ) (placed : Bool) (t : TermKey) (r : Row) (before rest : List ℕ) →
    row_in key (before ++ (apart r ++ rest)) placed t (parts_stored key (length before) (postings_part r) (places_part r)) ≡ read_as placed t r
row-found key placed t r before rest =
    let front = postings_part r in
    let back = places_part r in
    ap (λ l. option_and_then (row_at t placed) (row_bytes_in key (before ++ (l ++ rest)) placed (parts_stored key (length before) front back))) (apart-is r)
    ∙ ap (option_and_then (row_at t placed)) (parts-found key before front back rest placed)

-- the rows of a group, by the entries of its block
pub found-in-group : (key : ℕ) (placed : Bool) (t : TermKey) (rs : List Row) (before behind : List ℕ) →
    found_in key (before ++ (all_apart rs ++ behind)) placed t (row_with t (entries_stored key (length before) rs)) ≡ found_as placed t (row_of t rs)
found-in-group key placed t [] before behind = refl
found-in-group key placed t (r ∷ rs) before behind = by_term (eq_by_cmp term_cmp r.term t) (found-in-group key placed t rs (before ++ apart r) behind)
  where
    front : List ℕ
    front = postings_part r

    back : List ℕ
    back = places_part r

    whole : List ℕ
    whole = before ++ ((apart r ++ all_apart rs) ++ behind)

    first : whole ≡ before ++ (apart r ++ (all_apart rs ++ behind))
    first = ap (λ l. before ++ l) (append_assoc (apart r) (all_apart rs) behind)

    here-found : row_in key whole placed t (parts_stored key (length before) front back) ≡ read_as placed t r
    here-found = (λ i. row_in key (first i) placed t (parts_stored key (length before) front back)) ∙ row-found key placed t r before (all_apart rs ++ behind)

    by_term : (b : Bool) → found_in key ((before ++ apart r) ++ (all_apart rs ++ behind)) placed t (row_with t (entries_stored key (length (before ++ apart r)) rs))
        ≡ found_as placed t (row_of t rs) →
        found_in key whole placed t (cond b (Some (parts_stored key (length before) front back)) (row_with t (entries_stored key (length before + length (apart r)) rs)))
        ≡ found_as placed t (cond b (Some r) (row_of t rs))
    by_term true others = ap (option_map (λ row. Some row)) here-found
    by_term false others =
        (λ i. found_in key ((first ∙ sym (append_assoc before (apart r) (all_apart rs ++ behind))) i) placed t (row_with t (entries_stored key (sym (length-append before (apart r)) i) rs)))
        ∙ others

-- ---- a group

pub group-looked : (key : ℕ) (placed : Bool) (t : TermKey) (g : List Row) (before behind : List ℕ) → All IsStorable g →
    length before + all_apart_len g ≤ 2 ^ 60 → length g < 2 ^ 60 →
    looked_up_in key (before ++ (group_bytes key (length before) g ++ behind)) placed t (Some (block_named key (length before) g).piece) ≡ found_as placed t (row_of t g)
group-looked key placed t g before behind are near few =
    let at = length before in
    let block = block_bytes key at g in
    let first : whole ≡ before ++ (all_apart g ++ (block ++ behind)) = ap (λ l. before ++ l) (append_assoc (all_apart g) block behind) in
    let second = first ∙ sym (append_assoc before (all_apart g) (block ++ behind)) in
    ap (option_and_then (row_by key whole placed t))
    ((λ i. piece_in key (second i) (named key (sym (length-append before (all_apart g)) i) block)) ∙ piece-there key (before ++ all_apart g) block behind)
    ∙ ap (option_and_then (λ es. found_in key whole placed t (row_with t es))) (block-read key at g are near few)
    ∙ ap (λ l. found_in key l placed t (row_with t (entries_stored key at g))) first
    ∙ found-in-group key placed t g before (block ++ behind)
  where
    whole : List ℕ
    whole = before ++ (group_bytes key (length before) g ++ behind)

-- ---- rows in order

abbrev term_of : Row → TermKey
term_of r = r.term

-- rows of which none is of a term
pub none-of : (t : TermKey) (rs : List Row) → AllByRecursion (λ r. eq_by_cmp term_cmp r.term t ≡ false) rs → row_of t rs ≡ None
none-of t [] none = refl
none-of t (r ∷ rs) none = ap (λ b. cond b (Some r) (row_of t rs)) none.0 ∙ none-of t rs none.1

some_none : {A : Type 0} {x : A} → Some x ≡ None → ⊥
some_none {A} {x} e = false≢true (sym (ap is_some e))

-- where the front has none of a term, what stands behind counts, and the other way round
pub none-in-front : (t : TermKey) (g rs : List Row) → row_of t g ≡ None → row_of t (g ++ rs) ≡ row_of t rs
none-in-front t [] rs none = refl
none-in-front t (r ∷ g) rs none = by_term (eq_by_cmp term_cmp r.term t) none (none-in-front t g rs)
  where
    by_term : (b : Bool) → cond b (Some r) (row_of t g) ≡ None → (row_of t g ≡ None → row_of t (g ++ rs) ≡ row_of t rs) →
        cond b (Some r) (row_of t (g ++ rs)) ≡ row_of t rs
    by_term true none on = absurd (some_none none)
    by_term false none on = on none

pub none-behind : (t : TermKey) (g rs : List Row) → row_of t rs ≡ None → row_of t (g ++ rs) ≡ row_of t g
none-behind t [] rs none = none
none-behind t (r ∷ g) rs none = ap (λ x. cond (eq_by_cmp term_cmp r.term t) (Some r) x) (none-behind t g rs none)

greater-not : (o : Ordering) → o ≡ Greater → o ≡ Less → ⊥
greater-not Greater e f = cc
greater-not Less e f = cc
greater-not Equal e f = cc

-- a term before the first of some is none of them
pub before-all : (s t u : TermKey) → is_gt (term_cmp s t) ≡ true → term_cmp s u ≡ Less → eq_by_cmp term_cmp u t ≡ false
before-all s t u early behind = by_test (eq_by_cmp term_cmp u t) refl
  where
    by_test : (b : Bool) → eq_by_cmp term_cmp u t ≡ b → b ≡ false
    by_test false e = refl
    by_test true e =
        let same = (same_term u t).0 e in
        absurd (false≢true (sym (ap is_gt (sym (ap (term_cmp s) same) ∙ behind)) ∙ early))

-- nor is one that is behind them
pub behind-all : (s t u : TermKey) → is_gt (term_cmp s t) ≡ false → term_cmp u s ≡ Less → eq_by_cmp term_cmp u t ≡ false
behind-all s t u late before = by_test (eq_by_cmp term_cmp u t) refl
  where
    by_test : (b : Bool) → eq_by_cmp term_cmp u t ≡ b → b ≡ false
    by_test false e = refl
    by_test true e =
        let same = (same_term u t).0 e in
        let after = ap (term_cmp s) (sym same) ∙ term_cmp_total.antisymm s u ∙ ap ordering_reverse before in
        absurd (false≢true (sym late ∙ ap is_gt after))
