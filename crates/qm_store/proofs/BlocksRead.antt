-- The rows of several terms that a stored segment has, by the blocks that may have them.
use Rattle.std.proofs.Common.{◌≡◌, ℕ, ◌+◌, ◌^◌, ◌<◌, ◌≤◌, Bool, true, false, cond, List, [], ◌∷◌, ◌++◌, length, map, Option, None, Some, unwrap_or, refl, ap, sym, subst, ◌∙◌, append_assoc, arith, Ordering, Less, Equal, Greater}
use Rattle.std.specs.Prelude.{All, filter, option_and_then, option_map, option_to_list}
use Rattle.std.specs.List.{AllByRecursion}
use Rattle.std.specs.List.Sorted.{IsStrictlySortedBy}
use Rattle.std.specs.Ordering.{is_gt}
use Rattle.std.proofs.lemmas.Bool.{false≢true}
use Rattle.std.proofs.lemmas.List.{length-append}
use Rattle.std.proofs.lemmas.List.Elements.{All-head, All-tail, filter-append}
use Rattle.qm_postings.specs.Restriction.{rows_wanted}
use Rattle.qm_postings.specs.Rows.{IsRow, Row}
use Rattle.qm_postings.specs.Segment.{keeps_positions}
use Rattle.qm_schema.specs.Schema.{FieldFacts}
use Rattle.qm_schema.specs.Term.{TermKey, term_cmp, term_cmp_antisymmetric, term_cmp_total}
use Rattle.qm_store.specs.Dictionary.{Block, block_for, blocks_behind, blocks_of}
use Rattle.qm_store.specs.Pieces.{piece_in}
use Rattle.qm_store.specs.Stored.{IsStorable, all_apart, apart, block_bytes, block_named, blocks_named, dictionary_bytes, group_bytes, named}
use Rattle.qm_store.specs.StoredSegment.{row_in, rows_by, rows_of_blocks, rows_of_entries, rows_then}
use Rattle.qm_store.specs.Wanted.{is_chosen, is_meant}
use Rattle.qm_store.specs.declared.wanted.Wanted.{Wanted}
use Rattle.qm_store.proofs.BlocksOf.{greater-later, later-greater, not-before}
use Rattle.qm_store.proofs.EntriesRead.{all_apart_len, block-read, entries_stored, entry_stored}
use Rattle.qm_store.proofs.PiecesRead.{piece-there}
use Rattle.qm_store.proofs.RowsFound.{row-found}
use Rattle.qm_store.proofs.RowsKept.{row-whole}
use Rattle.qm_store.proofs.StoredRead.{IsGroup, all_rows, apart-len, at-seam, behind-sorted, late-first, regrouped, term_of}
use Rattle.qm_store.proofs.WantedOrder.{meant-between, meant-past}

-- ---- the rows of a group

module _ (key : ℕ) (schema : List FieldFacts) (count : ℕ) (chosen : Option Wanted) where
  abbrev chosen_rows : List Row → List Row
  chosen_rows rs = rows_wanted (is_chosen chosen) rs

  -- by the entries of its block
  entries-found : (rs : List Row) (before behind : List ℕ) → All (IsRow schema count) rs → All IsStorable rs →
      rows_of_entries key (before ++ (all_apart rs ++ behind)) schema chosen (entries_stored key (length before) rs) ≡ Some (chosen_rows rs)
  entries-found [] before behind are fit = refl
  entries-found (r ∷ rs) before behind are fit =
      by_term (is_chosen chosen r.term) (entries-found rs (before ++ apart r) behind (All-tail (IsRow schema count) r rs are) (All-tail IsStorable r rs fit))
    where
      whole : List ℕ
      whole = before ++ ((apart r ++ all_apart rs) ++ behind)

      first : whole ≡ before ++ (apart r ++ (all_apart rs ++ behind))
      first = ap (λ l. before ++ l) (append_assoc (apart r) (all_apart rs) behind)

      own : row_in key whole (keeps_positions schema r.term.field) r.term (entry_stored key (length before) r).row ≡ Some r
      own =
          (λ i. row_in key (first i) (keeps_positions schema r.term.field) r.term (entry_stored key (length before) r).row)
          ∙ row-found key (keeps_positions schema r.term.field) r.term r before (all_apart rs ++ behind)
          ∙ row-whole schema count r (All-head (IsRow schema count) r rs are) (All-head IsStorable r rs fit)

      by_term : (b : Bool) →
          rows_of_entries key ((before ++ apart r) ++ (all_apart rs ++ behind)) schema chosen (entries_stored key (length (before ++ apart r)) rs) ≡ Some (chosen_rows rs) →
          rows_then (cond b (option_map (λ row. row ∷ []) (row_in key whole (keeps_positions schema r.term.field) r.term (entry_stored key (length before) r).row)) (Some []))
          (rows_of_entries key whole schema chosen (entries_stored key (length before + length (apart r)) rs))
          ≡ Some (cond b (r ∷ chosen_rows rs) (chosen_rows rs))
      by_term b others =
          let next : rows_of_entries key whole schema chosen (entries_stored key (length before + length (apart r)) rs) ≡ Some (chosen_rows rs) =
          (λ i. rows_of_entries key ((first ∙ sym (append_assoc before (apart r) (all_apart rs ++ behind))) i) schema chosen
          (entries_stored key (sym (length-append before (apart r)) i) rs)) ∙ others
          in
          (λ i. rows_then (cond b (option_map (λ row. row ∷ []) (own i)) (Some [])) (next i)) ∙ taken b
        where
          taken : (b : Bool) → rows_then (cond b (Some (r ∷ [])) (Some [])) (Some (chosen_rows rs)) ≡ Some (cond b (r ∷ chosen_rows rs) (chosen_rows rs))
          taken true = refl
          taken false = refl

  -- by where its block stands
  pub group-found : (g : List Row) (before behind : List ℕ) → All (IsRow schema count) g → All IsStorable g →
      length before + all_apart_len g ≤ 2 ^ 60 → length g < 2 ^ 60 →
      option_and_then (rows_by key (before ++ (group_bytes key (length before) g ++ behind)) schema chosen)
      (piece_in key (before ++ (group_bytes key (length before) g ++ behind)) (block_named key (length before) g).piece) ≡ Some (chosen_rows g)
  group-found g before behind are fit near few =
      let at = length before in
      let block = block_bytes key at g in
      let first : whole ≡ before ++ (all_apart g ++ (block ++ behind)) = ap (λ l. before ++ l) (append_assoc (all_apart g) block behind) in
      let second = first ∙ sym (append_assoc before (all_apart g) (block ++ behind)) in
      ap (option_and_then (rows_by key whole schema chosen))
      ((λ i. piece_in key (second i) (named key (sym (length-append before (all_apart g)) i) block)) ∙ piece-there key (before ++ all_apart g) block behind)
      ∙ ap (option_and_then (rows_of_entries key whole schema chosen)) (block-read key at g fit near few)
      ∙ ap (λ l. rows_of_entries key l schema chosen (entries_stored key at g)) first
      ∙ entries-found g before (block ++ behind) are fit
    where
      whole : List ℕ
      whole = before ++ (group_bytes key (length before) g ++ behind)

-- ---- groups, of which each is read

-- the blocks from a place on are read as the rows of these groups
abbrev pub AreRead : ℕ → List ℕ → List FieldFacts → ℕ → List (List Row) → Type 0
AreRead key file schema at [] = Unit {0}
AreRead key file schema at (g ∷ gs) =
    ((chosen : Option Wanted) → option_and_then (rows_by key file schema chosen) (piece_in key file (block_named key at g).piece) ≡ Some (rows_wanted (is_chosen chosen) g))
    × AreRead key file schema (at + length (group_bytes key at g)) gs

pub groups-read : (key : ℕ) (schema : List FieldFacts) (count : ℕ) (gs : List (List Row)) (before behind : List ℕ) → AllByRecursion IsGroup gs →
    AllByRecursion (All (IsRow schema count)) gs → length before + length (dictionary_bytes key (length before) gs) ≤ 2 ^ 60 →
    AreRead key (before ++ (dictionary_bytes key (length before) gs ++ behind)) schema (length before) gs
groups-read key schema count [] before behind are rows near = tt
groups-read key schema count (g ∷ gs) before behind are rows near =
    let more = length-append before own_bytes in
    let there = groups-read key schema count gs (before ++ own_bytes) behind are.1 rows.1
    (subst (λ n. n + length (dictionary_bytes key n gs) ≤ 2 ^ 60) (sym more) (omega (arith, near, long)))
    in (
      own,
      subst (λ l. AreRead key l schema (at + length own_bytes) gs) (sym (regrouped key g gs before behind))
          (subst (λ n. AreRead key ((before ++ own_bytes) ++ (dictionary_bytes key n gs ++ behind)) schema n gs) more there),
    )
  where
    at : ℕ
    at = length before

    own_bytes : List ℕ
    own_bytes = group_bytes key at g

    others : List ℕ
    others = dictionary_bytes key (at + length own_bytes) gs

    whole : List ℕ
    whole = before ++ ((own_bytes ++ others) ++ behind)

    long : length (own_bytes ++ others) ≡ length own_bytes + length others
    long = length-append own_bytes others

    own : (chosen : Option Wanted) → option_and_then (rows_by key whole schema chosen) (piece_in key whole (block_named key at g).piece) ≡ Some (rows_wanted (is_chosen chosen) g)
    own chosen =
        let parts = length-append (all_apart g) (block_bytes key at g) in
        (λ i. option_and_then (rows_by key (before ++ append_assoc own_bytes others behind i) schema chosen)
        (piece_in key (before ++ append_assoc own_bytes others behind i) (block_named key at g).piece))
        ∙ group-found key schema count chosen g before (others ++ behind) rows.0 are.0.rows (omega (arith, near, long, parts, apart-len g)) are.0.few

-- ---- all of them

pub all-read : (key : ℕ) (file : List ℕ) (schema : List FieldFacts) (at : ℕ) (gs : List (List Row)) → AreRead key file schema at gs →
    rows_of_blocks key file schema None (blocks_named key at gs) ≡ Some (all_rows gs)
all-read key file schema at [] are = refl
all-read key file schema at (g ∷ gs) are =
    (λ i. rows_then (are.0 None i) (all-read key file schema (at + length (group_bytes key at g)) gs are.1 i)) ∙ ap (λ l. Some (l ++ all_rows gs)) (each g)
  where
    each : (rs : List Row) → rows_wanted (is_chosen None) rs ≡ rs
    each [] = refl
    each (r ∷ rs) = ap (λ l. r ∷ l) (each rs)

-- ---- those of a wanted term, or of terms that begin so

-- rows behind a term, of which the first is not meant: none is
none-meant : (w : Wanted) (s : Row) (rs : List Row) → ¬ (term_cmp s.term w.term ≡ Less) → is_meant w s.term ≡ false →
    AllByRecursion (λ u. term_cmp s.term u ≡ Less) (map term_of rs) → rows_wanted (is_meant w) rs ≡ []
none-meant w s [] past other less = refl
none-meant w s (r ∷ rs) past other less = by_test (is_meant w r.term) refl (none-meant w s rs past other less.1)
  where
    by_test : (b : Bool) → is_meant w r.term ≡ b → rows_wanted (is_meant w) rs ≡ [] → cond b (r ∷ rows_wanted (is_meant w) rs) (rows_wanted (is_meant w) rs) ≡ []
    by_test false is others = others
    by_test true is others = absurd (false≢true (sym other ∙ meant-between w s.term r.term past less.0 is))

-- rows before a wanted term: none is meant
none-before : (w : Wanted) (rs : List Row) → AllByRecursion (λ u. term_cmp u w.term ≡ Less) (map term_of rs) → rows_wanted (is_meant w) rs ≡ []
none-before w [] less = refl
none-before w (r ∷ rs) less = by_test (is_meant w r.term) refl (none-before w rs less.1)
  where
    by_test : (b : Bool) → is_meant w r.term ≡ b → rows_wanted (is_meant w) rs ≡ [] → cond b (r ∷ rows_wanted (is_meant w) rs) (rows_wanted (is_meant w) rs) ≡ []
    by_test false is others = others
    by_test true is others = absurd (meant-past w r.term is less.0)

-- a term before one that is not behind another is before that one
at-or-before : (u s t : TermKey) → term_cmp u s ≡ Less → is_gt (term_cmp s t) ≡ false → term_cmp u t ≡ Less
at-or-before u s t less late = by_order (term_cmp s t) refl late
  where
    by_order : (o : Ordering) → term_cmp s t ≡ o → is_gt o ≡ false → term_cmp u t ≡ Less
    by_order Less is late = term_cmp_total.trans u s t less is
    by_order Equal is late = ap (term_cmp u) (sym (term_cmp_antisymmetric s t is)) ∙ less
    by_order Greater is late = absurd (false≢true (sym late))

-- rows in front of one that is not behind a term are before it
each-before : (t : TermKey) (g : List Row) (s : Row) (rs : List Row) → IsStrictlySortedBy term_cmp (map term_of (g ++ s ∷ rs)) → is_gt (term_cmp s.term t) ≡ false →
    AllByRecursion (λ u. term_cmp u t ≡ Less) (map term_of g)
unfolding IsStrictlySortedBy
each-before t [] s rs sorted late = tt
each-before t (u ∷ g) s rs sorted late = (
  at-or-before u.term s.term t (at-seam (λ v. term_cmp u.term v ≡ Less) g s rs sorted.0) late,
  each-before t g s rs sorted.1 late,
)

front-part : (P : TermKey → Type 0) (g rs : List Row) → AllByRecursion P (map term_of (g ++ rs)) → AllByRecursion P (map term_of g)
front-part P [] rs all = tt
front-part P (r ∷ g) rs all = (all.0, front-part P g rs all.1)

behind-part : (P : TermKey → Type 0) (g rs : List Row) → AllByRecursion P (map term_of (g ++ rs)) → AllByRecursion P (map term_of rs)
behind-part P [] rs all = all
behind-part P (r ∷ g) rs all = behind-part P g rs all.1

all-above : (t s : TermKey) (us : List TermKey) → term_cmp t s ≡ Less → AllByRecursion (λ u. term_cmp s u ≡ Less) us → AllByRecursion (λ u. term_cmp t u ≡ Less) us
all-above t s [] less all = tt
all-above t s (u ∷ us) less all = (term_cmp_total.trans t s u less all.0, all-above t s us less all.1)

first-sorted : (s : Row) (rs : List Row) → IsStrictlySortedBy term_cmp (map term_of (s ∷ rs)) → AllByRecursion (λ u. term_cmp s.term u ≡ Less) (map term_of rs)
unfolding IsStrictlySortedBy
first-sorted s rs sorted = sorted.0

module _ (key : ℕ) (file : List ℕ) (schema : List FieldFacts) (w : Wanted) where
  abbrev meant_rows : List Row → List Row
  meant_rows rs = rows_wanted (is_meant w) rs

  abbrev read_of : List Block → Option (List Row)
  read_of bs = rows_of_blocks key file schema (Some w) bs

  abbrev meant_blocks : List Block → List Block
  meant_blocks bs = filter (λ b. is_meant w b.first) bs

  -- where no group of rows has one that is meant, the others count
  passed : (g rs : List Row) → meant_rows g ≡ [] → Some (meant_rows rs) ≡ Some (meant_rows (g ++ rs))
  passed g rs none = ap (λ l. Some (l ++ meant_rows rs)) (sym none) ∙ ap Some (sym (filter-append (λ (r : Row). is_meant w r.term) g rs))

  -- all blocks behind the wanted term
  behind-read : (at : ℕ) (gs : List (List Row)) → AreRead key file schema at gs → AllByRecursion IsGroup gs →
      IsStrictlySortedBy term_cmp (map term_of (all_rows gs)) → AllByRecursion (λ u. term_cmp w.term u ≡ Less) (map term_of (all_rows gs)) →
      read_of (meant_blocks (blocks_behind w.term (blocks_named key at gs))) ≡ Some (meant_rows (all_rows gs))
  behind-read at [] are groups sorted above = refl
  behind-read at ([] ∷ gs) are groups sorted above = absurd (omega (arith, groups.0.some))
  behind-read at ((s ∷ g) ∷ gs) are groups sorted above =
      let others = behind-read (at + length (group_bytes key at (s ∷ g))) gs are.1 groups.1 (behind-sorted (s ∷ g) (all_rows gs) sorted)
      (behind-part (λ u. term_cmp w.term u ≡ Less) (s ∷ g) (all_rows gs) above)
      in
      ap (λ x. read_of (meant_blocks (cond x (own ∷ next) next))) (later-greater w.term s.term above.0) ∙ by_first (is_meant w s.term) refl others
    where
      own : Block
      own = block_named key at (s ∷ g)

      next : List Block
      next = blocks_behind w.term (blocks_named key (at + length (group_bytes key at (s ∷ g))) gs)

      by_first : (x : Bool) → is_meant w s.term ≡ x → read_of (meant_blocks next) ≡ Some (meant_rows (all_rows gs)) →
          read_of (cond x (own ∷ meant_blocks next) (meant_blocks next)) ≡ Some (meant_rows ((s ∷ g) ++ all_rows gs))
      by_first true is others =
          (λ i. rows_then (are.0 (Some w) i) (others i)) ∙ ap Some (sym (filter-append (λ (r : Row). is_meant w r.term) (s ∷ g) (all_rows gs)))
      by_first false is others =
          let less = front-part (λ u. term_cmp s.term u ≡ Less) g (all_rows gs) (first-sorted s (g ++ all_rows gs) sorted) in
          let none = none-meant w s g (not-before w.term s.term above.0) is less in
          others ∙ passed (s ∷ g) (all_rows gs) (ap (λ x. cond x (s ∷ meant_rows g) (meant_rows g)) is ∙ none)

  pub wanted-read : (at : ℕ) (gs : List (List Row)) → AreRead key file schema at gs → AllByRecursion IsGroup gs →
      IsStrictlySortedBy term_cmp (map term_of (all_rows gs)) →
      read_of (blocks_of w (blocks_named key at gs)) ≡ Some (meant_rows (all_rows gs))
  wanted-read at [] are groups sorted = refl
  wanted-read at ([] ∷ gs) are groups sorted = absurd (omega (arith, groups.0.some))
  wanted-read at ((s ∷ g) ∷ gs) are groups sorted =
      let others = wanted-read (at + length (group_bytes key at (s ∷ g))) gs are.1 groups.1 (behind-sorted (s ∷ g) (all_rows gs) sorted) in
      by_first (is_gt (term_cmp s.term w.term)) refl (block_for w.term blocks) refl others
    where
      own : Block
      own = block_named key at (s ∷ g)

      blocks : List Block
      blocks = blocks_named key (at + length (group_bytes key at (s ∷ g))) gs

      next : List Block
      next = blocks_behind w.term blocks

      by_first : (x : Bool) → is_gt (term_cmp s.term w.term) ≡ x → (y : Option Block) → block_for w.term blocks ≡ y →
          read_of (option_to_list (block_for w.term blocks) ++ meant_blocks next) ≡ Some (meant_rows (all_rows gs)) →
          read_of (option_to_list (cond x None (Some (unwrap_or (block_for w.term blocks) own))) ++ meant_blocks (cond x (own ∷ next) next))
          ≡ Some (meant_rows ((s ∷ g) ++ all_rows gs))
      by_first true early y is others =
          let less = greater-later w.term s.term early in
          let above = all-above w.term s.term (map term_of (g ++ all_rows gs)) less (first-sorted s (g ++ all_rows gs) sorted) in
          ap (λ x. read_of (meant_blocks (cond x (own ∷ next) next))) (sym early) ∙ behind-read at ((s ∷ g) ∷ gs) are groups sorted (less, above)
      by_first false late None is others =
          let last = ap (λ y. read_of (option_to_list y ++ meant_blocks next)) (sym is) ∙ others in
          ap (λ y. read_of (unwrap_or y own ∷ meant_blocks next)) is
          ∙ (λ i. rows_then (are.0 (Some w) i) (last i)) ∙ ap Some (sym (filter-append (λ (r : Row). is_meant w r.term) (s ∷ g) (all_rows gs)))
      by_first false late (Some b) is others =
          let there = late-first key w.term (at + length (group_bytes key at (s ∷ g))) gs b is groups.1 in
          let sorted_there = subst (λ rs. IsStrictlySortedBy term_cmp (map term_of ((s ∷ g) ++ rs))) there.2 sorted in
          let none = none-before w (s ∷ g) (each-before w.term (s ∷ g) there.0 there.1 sorted_there there.3) in
          ap (λ y. read_of (unwrap_or y own ∷ meant_blocks next)) is
          ∙ ap (λ y. read_of (option_to_list y ++ meant_blocks next)) (sym is) ∙ others ∙ passed (s ∷ g) (all_rows gs) none
