-- What rows say of a term in a document, and documents that say the same.
use Rattle.std.proofs.Common.{◌≡◌, ◌==◌, ℕ, true, false, cond, List, [], ◌∷◌, drop, take, get_or, map, Option, None, Some, refl, ap, sym, ◌∙◌, inl, inr}
use Rattle.std.specs.FinMap.{find, from_entries, get-from_entries, same_map}
use Rattle.std.specs.Option.{option_or}
use Rattle.std.specs.Ordering.{eq_by_cmp}
use Rattle.std.specs.Prelude.{All, filter}
use Rattle.std.proofs.lemmas.Bool.{cases_Bool}
use Rattle.std.proofs.lemmas.List.Concat.{flat_map-cons}
use Rattle.std.proofs.lemmas.List.Elements.{All-head, All-tail}
use Rattle.qm_schema.specs.Term.{TermKey, term_cmp, term_cmp_antisymmetric, term_cmp_total}
use Rattle.qm_postings.specs.Kept.{Posted, document_from, held, posted_together}
use Rattle.qm_postings.specs.Rows.{Row, all_posted, posted}
use Rattle.qm_postings.specs.Segment.{Occurrences}
use Rattle.qm_postings.proofs.FoundTerms.{found_in, found_in-both}

-- what rows say of a term in document d
abbrev pub found_among : ℕ → TermKey → List Row → Option Occurrences
found_among d t rows = found_in d t (all_posted rows)

pub found-row : (d : ℕ) (t : TermKey) (r : Row) (rows : List Row) →
    found_among d t (r ∷ rows) ≡ option_or (found_in d t (posted r)) (found_among d t rows)
found-row d t r rows = ap (found_in d t) (flat_map-cons posted r rows) ∙ found_in-both d t (posted r) (all_posted rows)

-- ---- one posting more

found-own : (d : ℕ) (t : TermKey) (p : Posted) (ps : List Posted) → (p.document == d) ≡ true →
    found_in d t (p ∷ ps) ≡ cond (eq_by_cmp term_cmp t p.term) (Some (held p).1) (found_in d t ps)
found-own d t p ps own =
    let rest : List Posted = filter (λ p. p.document == d) ps in
    ap (λ b. find term_cmp t (map held (cond b (p ∷ rest) rest))) own

found-other : (d : ℕ) (t : TermKey) (p : Posted) (ps : List Posted) → (p.document == d) ≡ false → found_in d t (p ∷ ps) ≡ found_in d t ps
found-other d t p ps other =
    let rest : List Posted = filter (λ p. p.document == d) ps in
    ap (λ b. find term_cmp t (map held (cond b (p ∷ rest) rest))) other

-- two postings that say the same, of documents that are sought or not alike
pub found-alike : (d e : ℕ) (t : TermKey) (p q : Posted) (ps qs : List Posted) → held p ≡ held q → (p.document == d) ≡ (q.document == e) →
    found_in d t ps ≡ found_in e t qs → found_in d t (p ∷ ps) ≡ found_in e t (q ∷ qs)
found-alike d e t p q ps qs same alike rest = elim (cases_Bool (q.document == e)) [
  | inl own ↦ found-own d t p ps (alike ∙ own)
      ∙ (λ i. cond (eq_by_cmp term_cmp t (same i).0) (Some (same i).1) (rest i)) ∙ sym (found-own e t q qs own)
  | inr other ↦ found-other d t p ps (alike ∙ other) ∙ rest ∙ sym (found-other e t q qs other)
]

pub found-past : (d e : ℕ) (t : TermKey) (q : Posted) (ps qs : List Posted) → (q.document == e) ≡ false →
    found_in d t ps ≡ found_in e t qs → found_in d t ps ≡ found_in e t (q ∷ qs)
found-past d e t q ps qs other rest = rest ∙ sym (found-other e t q qs other)

-- a row says nothing of a document that it doesn't have
pub found-elsewhere : (d : ℕ) (t u : TermKey) (ds fs ps : List ℕ) → All (λ x. (x == d) ≡ false) ds →
    found_in d t (posted_together u ds fs ps) ≡ None
found-elsewhere d t u [] fs ps others = refl
found-elsewhere d t u (x ∷ xs) [] ps others = refl
found-elsewhere d t u (x ∷ xs) (f ∷ fs) ps others =
    found-other d t (record { term = u; document = x; frequency = f; positions = take f ps }) (posted_together u xs fs (drop f ps))
    (All-head (λ y. (y == d) ≡ false) x xs others)
    ∙ found-elsewhere d t u xs fs (drop f ps) (All-tail (λ y. (y == d) ≡ false) x xs others)

-- documents of the same terms and the same length ids are the same
pub same-document : (ps qs : List Posted) (columns others : List (List ℕ)) (d e : ℕ) → ((t : TermKey) → found_in d t ps ≡ found_in e t qs) →
    map (λ c. get_or c d 0) columns ≡ map (λ c. get_or c e 0) others → document_from ps columns d ≡ document_from qs others e
same-document ps qs columns others d e found ids = λ i. record { terms = terms i; lengths = ids i }
  where
    own : List Posted → ℕ → List (TermKey × Occurrences)
    own ps d = map held (filter (λ p. p.document == d) ps)

    terms : from_entries {R = term_cmp} (own ps d) ≡ from_entries {R = term_cmp} (own qs e)
    terms = same_map term_cmp_total term_cmp_antisymmetric (from_entries (own ps d)) (from_entries (own qs e)) (λ q.
        get-from_entries term_cmp_total (own ps d) q ∙ found q ∙ sym (get-from_entries term_cmp_total (own qs e) q))
