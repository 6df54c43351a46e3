-- A stored segment that was written is read again.
use Rattle.std.proofs.Common.{◌≡◌, ℕ, ◌+◌, ◌^◌, ◌<◌, ◌≤◌, Bool, true, false, cond, List, [], ◌∷◌, ◌++◌, length, map, Option, None, Some, unwrap_or, refl, ap, sym, subst, ◌∙◌, append_assoc, arith, Ordering, Less, Equal, Greater, is_some}
use Rattle.std.specs.Prelude.{All, option_map}
use Rattle.std.specs.List.{AllByRecursion, flat_map}
use Rattle.std.specs.List.Sorted.{IsStrictlySortedBy}
use Rattle.std.specs.Ordering.{eq_by_cmp, is_eq, is_gt}
use Rattle.std.proofs.lemmas.Bool.{false≢true}
use Rattle.std.proofs.lemmas.List.{length-append}
use Rattle.std.proofs.lemmas.Option.{same_Some}
use Rattle.qm_postings.specs.Rows.{Row}
use Rattle.qm_schema.specs.Term.{TermKey, term_cmp}
use Rattle.qm_store.specs.Dictionary.{Block, block_for}
use Rattle.qm_store.specs.Stored.{IsStorable, all_apart, apart, block_bytes, block_named, blocks_named, dictionary_bytes, group_bytes, row_of}
use Rattle.qm_store.specs.StoredSegment.{looked_up_in}
use Rattle.qm_store.proofs.EntriesRead.{all_apart_len}
use Rattle.qm_store.proofs.RowsFound.{before-all, behind-all, found_as, group-looked, none-behind, none-in-front, none-of, read_as}

abbrev pub term_of : Row → TermKey
term_of r = r.term

abbrev pub all_rows : List (List Row) → List Row
all_rows gs = flat_map (λ g. g) gs

-- ---- rows in order

not-eq : (o : Ordering) → is_gt o ≡ true → is_eq o ≡ false
not-eq Less e = cc
not-eq Equal e = cc
not-eq Greater e = refl

-- a term before the first row
early-none : (t : TermKey) (r : Row) (rs : List Row) → IsStrictlySortedBy term_cmp (map term_of (r ∷ rs)) → is_gt (term_cmp r.term t) ≡ true →
    row_of t (r ∷ rs) ≡ None
unfolding IsStrictlySortedBy
early-none t r rs sorted early =
    ap (λ b. cond b (Some r) (row_of t rs)) (not-eq (term_cmp r.term t) early) ∙ none-of t rs (others rs sorted.0)
  where
    others : (us : List Row) → AllByRecursion (λ u. term_cmp r.term u ≡ Less) (map term_of us) → AllByRecursion (λ u. eq_by_cmp term_cmp u.term t ≡ false) us
    others [] above = tt
    others (u ∷ us) above = (before-all r.term t u.term early above.0, others us above.1)

-- one that is behind all in front of another row
pub at-seam : (P : TermKey → Type 0) (g : List Row) (s : Row) (rs : List Row) → AllByRecursion P (map term_of (g ++ s ∷ rs)) → P s.term
at-seam P [] s rs all = all.0
at-seam P (u ∷ g) s rs all = at-seam P g s rs all.1

late-none : (t : TermKey) (g : List Row) (s : Row) (rs : List Row) → IsStrictlySortedBy term_cmp (map term_of (g ++ s ∷ rs)) → is_gt (term_cmp s.term t) ≡ false →
    row_of t g ≡ None
unfolding IsStrictlySortedBy
late-none t [] s rs sorted late = refl
late-none t (u ∷ g) s rs sorted late =
    let other = behind-all s.term t u.term late (at-seam (λ v. term_cmp u.term v ≡ Less) g s rs sorted.0) in
    ap (λ b. cond b (Some u) (row_of t g)) other ∙ late-none t g s rs sorted.1 late

-- what stands behind is in order too
pub behind-sorted : (g rs : List Row) → IsStrictlySortedBy term_cmp (map term_of (g ++ rs)) → IsStrictlySortedBy term_cmp (map term_of rs)
unfolding IsStrictlySortedBy
behind-sorted [] rs sorted = sorted
behind-sorted (u ∷ g) rs sorted = behind-sorted g rs sorted.1

-- where nothing is found, no row is of the term
none-found : (placed : Bool) (t : TermKey) (x : Option Row) → Some None ≡ found_as placed t x → x ≡ None
none-found placed t None e = refl
none-found placed t (Some r) e = absurd (other (read_as placed t r) e)
  where
    other : (y : Option Row) → Some None ≡ option_map (λ row. Some row) y → ⊥
    other None e = false≢true (sym (ap is_some e))
    other (Some row) e = false≢true (ap is_some (same_Some None (Some row) e))

-- ---- groups

-- what groups of a stored segment keep to
pub record IsGroup (g : List Row) : Type 0 where
  pub some : 0 < length g
  pub few : length g < 2 ^ 60
  pub rows : All IsStorable g

pub apart-len : (g : List Row) → all_apart_len g ≡ length (all_apart g)
apart-len [] = refl
apart-len (r ∷ rs) = ap (λ n. length (apart r) + n) (apart-len rs) ∙ sym (length-append (apart r) (all_apart rs))

-- the file is the same with a group counted to what stands before
pub regrouped : (key : ℕ) (g : List Row) (gs : List (List Row)) (before behind : List ℕ) →
    before ++ (dictionary_bytes key (length before) (g ∷ gs) ++ behind)
    ≡ (before ++ group_bytes key (length before) g) ++ (dictionary_bytes key (length before + length (group_bytes key (length before) g)) gs ++ behind)
regrouped key g gs before behind =
    let own = group_bytes key (length before) g in
    let others = dictionary_bytes key (length before + length own) gs in
    ap (λ l. before ++ l) (append_assoc own others behind) ∙ sym (append_assoc before own (others ++ behind))

-- the first block that is behind a term ends the search
pub late-first : (key : ℕ) (t : TermKey) (at : ℕ) (gs : List (List Row)) (b : Block) → block_for t (blocks_named key at gs) ≡ Some b → AllByRecursion IsGroup gs →
    (s : Row) × (rs : List Row) × (all_rows gs ≡ s ∷ rs) × (is_gt (term_cmp s.term t) ≡ false)
late-first key t at [] b is are = absurd (false≢true (ap is_some is))
late-first key t at ([] ∷ gs) b is are = absurd (omega (arith, are.0.some))
late-first key t at ((s ∷ g) ∷ gs) b is are = (s, g ++ all_rows gs, refl, by_first (is_gt (term_cmp s.term t)) is)
  where
    by_first : (x : Bool) → cond x None (Some (unwrap_or (block_for t (blocks_named key (at + length (group_bytes key at (s ∷ g))) gs)) (block_named key at (s ∷ g)))) ≡ Some b → x ≡ false
    by_first true e = absurd (false≢true (ap is_some e))
    by_first false e = refl

module _ (key : ℕ) (placed : Bool) (t : TermKey) where
  abbrev Looked : List (List Row) → List ℕ → List ℕ → Type 0
  Looked gs before behind =
      looked_up_in key (before ++ (dictionary_bytes key (length before) gs ++ behind)) placed t (option_map (λ b. b.piece) (block_for t (blocks_named key (length before) gs)))
      ≡ found_as placed t (row_of t (all_rows gs))

  -- the rows of a group, where the term is not behind it
  in-group : (g : List Row) (gs : List (List Row)) (before behind : List ℕ) → IsGroup g →
      length before + length (dictionary_bytes key (length before) (g ∷ gs)) ≤ 2 ^ 60 →
      looked_up_in key (before ++ (dictionary_bytes key (length before) (g ∷ gs) ++ behind)) placed t (Some (block_named key (length before) g).piece)
      ≡ found_as placed t (row_of t g)
  in-group g gs before behind is near =
      let own = group_bytes key (length before) g in
      let others = dictionary_bytes key (length before + length own) gs in
      let long = length-append own others in
      let parts = length-append (all_apart g) (block_bytes key (length before) g) in
      ap (λ l. looked_up_in key (before ++ l) placed t (Some (block_named key (length before) g).piece)) (append_assoc own others behind)
      ∙ group-looked key placed t g before (others ++ behind) is.rows (omega (arith, near, long, parts, apart-len g)) is.few

  pub looked : (gs : List (List Row)) (before behind : List ℕ) → AllByRecursion IsGroup gs → IsStrictlySortedBy term_cmp (map term_of (all_rows gs)) →
      length before + length (dictionary_bytes key (length before) gs) ≤ 2 ^ 60 → Looked gs before behind
  looked [] before behind are sorted near = refl
  looked ([] ∷ gs) before behind are sorted near = absurd (omega (arith, are.0.some))
  looked ((s ∷ g) ∷ gs) before behind are sorted near =
      let own = group_bytes key at (s ∷ g) in
      let long = length-append own (dictionary_bytes key (at + length own) gs) in
      let more = length-append before own in
      let others : looked_up_in key whole placed t (option_map (λ b. b.piece) (block_for t next)) ≡ found_as placed t (row_of t (all_rows gs)) =
      (λ i. looked_up_in key (regrouped key (s ∷ g) gs before behind i) placed t (option_map (λ b. b.piece) (block_for t next)))
      ∙ (λ i. looked_up_in key ((before ++ own) ++ (dictionary_bytes key (sym more i) gs ++ behind)) placed t
      (option_map (λ b. b.piece) (block_for t (blocks_named key (sym more i) gs))))
      ∙ looked gs (before ++ own) behind are.1 (behind-sorted (s ∷ g) (all_rows gs) sorted)
      (subst (λ n. n + length (dictionary_bytes key n gs) ≤ 2 ^ 60) (sym more) (omega (arith, near, long)))
      in
      by_first (is_gt (term_cmp s.term t)) refl (block_for t next) refl others
    where
      at : ℕ
      at = length before

      whole : List ℕ
      whole = before ++ (dictionary_bytes key (length before) ((s ∷ g) ∷ gs) ++ behind)

      next : List Block
      next = blocks_named key (at + length (group_bytes key at (s ∷ g))) gs

      own_block : Block
      own_block = block_named key at (s ∷ g)

      by_first : (x : Bool) → is_gt (term_cmp s.term t) ≡ x → (y : Option Block) → block_for t next ≡ y →
          looked_up_in key whole placed t (option_map (λ b. b.piece) (block_for t next)) ≡ found_as placed t (row_of t (all_rows gs)) →
          looked_up_in key whole placed t (option_map (λ b. b.piece) (cond x None (Some (unwrap_or (block_for t next) own_block))))
          ≡ found_as placed t (row_of t ((s ∷ g) ++ all_rows gs))
      by_first true early y is others = ap (found_as placed t) (sym (early-none t s (g ++ all_rows gs) sorted early))
      by_first false late None is others =
          let none = none-found placed t (row_of t (all_rows gs)) (ap (λ y. looked_up_in key whole placed t (option_map (λ b. b.piece) y)) (sym is) ∙ others) in
          ap (λ y. looked_up_in key whole placed t (Some (unwrap_or y own_block).piece)) is
          ∙ in-group (s ∷ g) gs before behind are.0 near
          ∙ ap (found_as placed t) (sym (none-behind t (s ∷ g) (all_rows gs) none))
      by_first false late (Some b) is others =
          let there = late-first key t (at + length (group_bytes key at (s ∷ g))) gs b is are.1 in
          let sorted_there = subst (λ rs. IsStrictlySortedBy term_cmp (map term_of ((s ∷ g) ++ rs))) there.2 sorted in
          let none = late-none t (s ∷ g) there.0 there.1 sorted_there there.3 in
          ap (λ y. looked_up_in key whole placed t (Some (unwrap_or y own_block).piece)) is
          ∙ ap (λ y. looked_up_in key whole placed t (option_map (λ b. b.piece) y)) (sym is)
          ∙ others
          ∙ ap (found_as placed t) (sym (none-in-front t (s ∷ g) (all_rows gs) none))
