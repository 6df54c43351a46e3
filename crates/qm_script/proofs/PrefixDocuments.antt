-- A phrase prefix that is expanded to all terms that begin with it says of a document what stands in that document.
use Rattle.std.proofs.Common.{◌≡◌, ℕ, ◌+◌, ◌-◌, ◌≤◌, Bool, true, false, ◌&&◌, ◌||◌, if◌then◌else◌, nat_lt, min, List, [], ◌∷◌, length, map, filter, get_or, zero, suc}
use Rattle.std.proofs.Common.{Option, None, Some, refl, ap, sym, ◌∙◌, arith, inl, inr}
use Rattle.std.specs.FinMap.{get, get-empty}
use Rattle.std.specs.List.{count_by, list_any, sum}
use Rattle.std.specs.Option.{option_map_or}
use Rattle.std.specs.Prelude.{is_some}
use Rattle.std.proofs.lemmas.Bool.{cases_Bool, false≢true}
use Rattle.std.proofs.lemmas.List.{take_all}
use Rattle.std.proofs.lemmas.List.Sums.{sum_by-cons}
use Rattle.std.proofs.lemmas.Map.Lookups.{btree_set_from_contains}
use Rattle.std.proofs.Math.Bool.{or-false}
use Rattle.qm_schema.specs.Schema.{FieldFacts}
use Rattle.qm_schema.specs.Term.{TermKey, term_cmp, term_cmp_antisymmetric, term_cmp_total}
use Rattle.qm_schema.specs.declared.schema.option.IndexRecordOption.TheVariants.{WithFreqsAndPositions}
use Rattle.qm_postings.specs.Positions.{is_in, shifted}
use Rattle.qm_postings.specs.Segment.{Document, Occurrences, Segment, holds, no_document, positions, reads_positions, occurrences}
use Rattle.qm_weight.specs.Tree.{Placed, begins_with, followed, full_places, greatest_offset, held_terms, prefix_matches}
use Rattle.qm_weight.proofs.HeldTerms.{among-filter, among-held, is_held, sorted-filter, sorted-held}
use Rattle.qm_script.specs.Reached.{prefixed}

-- document d, and nothing where there is none
abbrev pub document_at : Segment → ℕ → Document
document_at s d = get_or s.documents d no_document

-- a segment of one document
abbrev pub alone : List FieldFacts → Document → Segment
alone schema document = record { schema = schema; block_len = 0; documents = document ∷ []; deleted = [] }

-- ---- what a test leaves of a list

any-kept : {X : Type 0} (p : X → Bool) (xs : List X) → list_any p (filter p xs) ≡ list_any p xs
any-kept p [] = refl
any-kept p (x ∷ xs) =
    elim (cases_Bool (p x)) [
      | inl passes ↦ (λ i. list_any p (if passes i then x ∷ filter p xs else filter p xs)) ∙ ap (λ b. p x || b) (any-kept p xs)
      | inr fails ↦ (λ i. list_any p (if fails i then x ∷ filter p xs else filter p xs)) ∙ any-kept p xs ∙ sym (ap (λ b. b || list_any p xs) fails)
    ]

-- what fails adds nothing
sum-kept : {X : Type 0} (p : X → Bool) (f : X → ℕ) (xs : List X) → ((x : X) → p x ≡ false → f x ≡ 0) → sum (map f (filter p xs)) ≡ sum (map f xs)
sum-kept p f [] none = refl
sum-kept p f (x ∷ xs) none =
    let rest = sum-kept p f xs none in
    let whole = sum_by-cons (λ (n : ℕ). n) (f x) (map f xs) in
    elim (cases_Bool (p x)) [
      | inl passes ↦
          (λ i. sum (map f (if passes i then x ∷ filter p xs else filter p xs)))
          ∙ sum_by-cons (λ (n : ℕ). n) (f x) (map f (filter p xs)) ∙ ap (λ n. f x + n) rest ∙ sym whole
      | inr fails ↦ (λ i. sum (map f (if fails i then x ∷ filter p xs else filter p xs))) ∙ rest ∙ omega (arith, whole, none x fails)
    ]

length-kept : {X : Type 0} (p : X → Bool) (xs : List X) → length (filter p xs) ≤ length xs
length-kept p [] = omega arith
length-kept p (x ∷ xs) =
    elim (p x) as (λ b. length (if b then x ∷ filter p xs else filter p xs) ≤ length (x ∷ xs)) [
      | true ↦ omega (arith, length-kept p xs)
      | false ↦ omega (arith, length-kept p xs)
    ]

count-none : {X : Type 0} (p : X → Bool) (xs : List X) → ((x : X) → p x ≡ false) → count_by p xs ≡ 0
count-none p [] none = refl
count-none p (x ∷ xs) none =
    sum_by-cons (λ y. if p y then 1 else 0) x xs ∙ (λ i. (if none x i then 1 else 0) + count-none p xs none i)

-- ---- the terms of a document among those of its segment

held-at : (p : Document → Bool) (ds : List Document) (d : ℕ) (e : Document) → p e ≡ false → p (get_or ds d e) ≡ true → list_any p ds ≡ true
held-at p [] d e none passes = absurd (false≢true (sym none ∙ passes))
held-at p (x ∷ ds) zero e none passes = ap (λ b. b || list_any p ds) passes
held-at p (x ∷ ds) (suc d) e none passes =
    let rest = held-at p ds d e none passes in
    elim (cases_Bool (p x)) [
      | inl here ↦ ap (λ b. b || list_any p ds) here
      | inr other ↦ ap (λ b. b || list_any p ds) other ∙ rest
    ]

three : (h b k : Bool) → (h ≡ true → k ≡ true) → (h && (b && k)) ≡ (b && h)
three true true k all = all refl
three true false k all = refl
three false true k all = refl
three false false k all = refl

module _ (s : Segment) (d : ℕ) where
  abbrev one : Segment
  one = alone s.schema (document_at s d)

  held-here : (q : TermKey) → holds s q d ≡ true → is_held s q ≡ true
  held-here q passes =
      held-at (λ document. is_some (get document.terms q)) s.documents d no_document (ap is_some (get-empty term_cmp q)) passes

  -- the document's own are those of the segment that it holds
  here-alone : (prefix : TermKey) → filter (λ q. holds s q d) (prefixed s prefix) ≡ prefixed one prefix
  here-alone prefix =
      btree_set_from_contains term_cmp_total
      (record { keys = filter (λ q. holds s q d) (prefixed s prefix) })
      (record { keys = prefixed one prefix })
      (sorted-filter (λ q. holds s q d) (prefixed s prefix) (sorted-filter (begins_with prefix) (held_terms s) (sorted-held s)))
      (sorted-filter (begins_with prefix) (held_terms one) (sorted-held one))
      (λ q.
      among-filter (λ k. holds s k d) q (prefixed s prefix)
      ∙ ap (λ b. holds s q d && b) (among-filter (begins_with prefix) q (held_terms s) ∙ ap (λ b. begins_with prefix q && b) (among-held s q))
      ∙ three (holds s q d) (begins_with prefix q) (is_held s q) (held-here q)
      ∙ ap (λ b. begins_with prefix q && b) (sym (or-false (holds s q d)) ∙ sym (among-held one q))
      ∙ sym (among-filter (begins_with prefix) q (held_terms one)))
      term_cmp_antisymmetric

  none-kept : (o : Option Occurrences) (b : Bool) → is_some o ≡ false → (if b then option_map_or (λ o. o.positions) o [] else []) ≡ []
  none-kept None true fails = refl
  none-kept None false fails = refl
  none-kept (Some o) b fails = absurd (false≢true (sym fails))

  none-followed : (full : List Placed) (prefix : Placed) (e : TermKey) → holds s e d ≡ false → followed s full prefix d e ≡ 0
  none-followed full prefix e fails =
      let none : positions s WithFreqsAndPositions e d ≡ [] =
      none-kept (occurrences s e d) (reads_positions s.schema WithFreqsAndPositions e.field) fails in
      let far = greatest_offset (prefix ∷ full) - prefix.offset in
      ap (λ ps. count_by (λ x. is_in x (shifted far ps)) (full_places s full prefix d)) none
      ∙ count-none (λ x. is_in x []) (full_places s full prefix d) (λ x. refl)

  -- so it is matched as it would be in a segment of its own
  pub prefix_matches-alone : (full : List Placed) (prefix : Placed) (most : ℕ) → length (prefixed s prefix.term) ≤ most →
      prefix_matches s full prefix most d ≡ prefix_matches one full prefix most 0
  prefix_matches-alone [] prefix most fit =
      let xs = prefixed s prefix.term in
      let ys = prefixed one prefix.term in
      let here = here-alone prefix.term in
      let few : length ys ≤ most = omega (arith, fit, length-kept (λ q. holds s q d) xs, ap length here) in
      ap (list_any (λ e. holds s e d)) (take_all most xs fit)
      ∙ sym (any-kept (λ e. holds s e d) xs)
      ∙ ap (list_any (λ e. holds s e d)) (here ∙ sym (take_all most ys few))
  prefix_matches-alone (t ∷ full) prefix most fit =
      let xs = prefixed s prefix.term in
      let ys = prefixed one prefix.term in
      let here = here-alone prefix.term in
      let few : length ys ≤ most = omega (arith, fit, length-kept (λ q. holds s q d) xs, ap length here) in
      let count = followed s (t ∷ full) prefix d in
      ap (λ ks. nat_lt 0 (min 4294967295 (sum (map count ks)))) (take_all most xs fit)
      ∙ ap (λ n. nat_lt 0 (min 4294967295 n)) (sym (sum-kept (λ e. holds s e d) count xs (none-followed (t ∷ full) prefix)))
      ∙ ap (λ ks. nat_lt 0 (min 4294967295 (sum (map count ks)))) (here ∙ sym (take_all most ys few))
