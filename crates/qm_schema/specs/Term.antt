-- What a term is, and the order of terms: by field, then by bytes.
--     TermKey      a term, as contracts see it.        term_code      its code, for a model that is made of terms
--     term_cmp      the order, of which FinMap term_cmp V is a map from terms
--     term_cmp_total, term_cmp_antisymmetric      it is a total order, and only one and the same term ties with a term
--     same_term      what the test eq_by_cmp term_cmp, which `==` is, decides.        term_eq_laws      it is an equivalence
--     term_cmp-field, term_cmp-bytes, fields_ascend      a lesser field decides, within one field the bytes do, and fields ascend
--     term_order, term_parts      the laws of the order, for tactics, and what it and the test are by their parts
use Rattle.std.specs.Prelude.{◌≡◌, ℕ, ◌<◌, ◌≤◌, true, ◌&&◌, List, nat_eq}
use Rattle.std.proofs.Common.{refl, sym, ◌∙◌, ap, subst, Decides, arith}
use Rattle.std.specs.Coded.{Coded, code_by, coded×, coded_list, coded_ℕ}
use Rattle.std.specs.declared.cmp.Ordering.{Ordering}
use Rattle.std.specs.declared.cmp.Ordering.TheVariants.{Less, Equal, Greater}
use Rattle.std.specs.Ordering.{nat_cmp, on, then_cmp, ordering_then, eq_by_cmp, MatchOrdering}
use Rattle.std.specs.Cmp.{IsTotalOrder, IsEquivalence, then_total, on_total, nat_cmp_total, nat_cmp_is, ranks, Equal-is, tied_itself, eq_by_cmp_equiv}
use Rattle.std.specs.Cmp.{both_tied, unsigned_ties}
use Rattle.std.specs.Cmp.Lexicographic.{slice_cmp, pointwise, on_texts, texts_ties}
use Rattle.std.specs.FinMap.{IsAntisymmetric, nat_cmp-IsAntisymmetric, slice_cmp-IsAntisymmetric}

-- the number of a term's field, and the bytes of its text
pub record TermKey : Type 0 where
  pub field : ℕ
  pub bytes : List ℕ

-- how a model that is made of terms is stored
abbrev pub term_code : Coded TermKey
term_code =
    code_by (ℕ × List ℕ) (coded× coded_ℕ (coded_list coded_ℕ)) (λ t. (t.field, t.bytes)) (λ p. record { field = p.0; bytes = p.1 }) (λ _. refl)

-- by field, then by bytes, of which a prefix comes before what it begins
unfoldable pub term_cmp : TermKey → TermKey → Ordering
term_cmp = then_cmp (on (λ t. t.field) nat_cmp) (on (λ t. t.bytes) (slice_cmp nat_cmp))

pub term_cmp_total : IsTotalOrder term_cmp
unfolding term_cmp
term_cmp_total = then_total (on_total (λ t. t.field) nat_cmp_total) (on_texts (λ t. t.bytes))

Equal-then : (a b : Ordering) → ordering_then a b ≡ Equal → (a ≡ Equal) × (b ≡ Equal)
Equal-then Less b e = (e, cc)
Equal-then Equal b e = (refl, e)
Equal-then Greater b e = (e, cc)

pub term_cmp_antisymmetric : IsAntisymmetric term_cmp
unfolding term_cmp
term_cmp_antisymmetric s t e =
    let parts = Equal-then (nat_cmp s.field t.field) (slice_cmp nat_cmp s.bytes t.bytes) e in
    let fields = nat_cmp-IsAntisymmetric s.field t.field parts.0 in
    let texts = slice_cmp-IsAntisymmetric nat_cmp-IsAntisymmetric s.bytes t.bytes parts.1 in
    λ i. record { field = fields i; bytes = texts i }

pub term_eq_laws : IsEquivalence (eq_by_cmp term_cmp)
term_eq_laws = eq_by_cmp_equiv term_cmp_total

pub same_term : (s t : TermKey) → Decides (eq_by_cmp term_cmp s t) (s ≡ t)
same_term s t = (
  λ e. term_cmp_antisymmetric s t ((Equal-is (term_cmp s t)).0 e),
  λ p. (Equal-is (term_cmp s t)).1 (subst (λ u. term_cmp s u ≡ Equal) p (tied_itself term_cmp_total s)),
)

-- the test, by its parts
pub term_eq-parts : (s t : TermKey) → (nat_eq s.field t.field && pointwise nat_eq s.bytes t.bytes) ≡ eq_by_cmp term_cmp s t
unfolding term_cmp
term_eq-parts s t = both_tied _ _ (nat_cmp s.field t.field) (slice_cmp nat_cmp s.bytes t.bytes) (unsigned_ties s.field t.field) (texts_ties s.bytes t.bytes)

pub term_eq-bytes : (s t : TermKey) → nat_eq s.field t.field ≡ true → eq_by_cmp term_cmp s t ≡ pointwise nat_eq s.bytes t.bytes
term_eq-bytes s t e = sym (term_eq-parts s t) ∙ ap (λ b. b && pointwise nat_eq s.bytes t.bytes) e

-- the order, by its parts
pub term_cmp-parts : (s t : TermKey) → term_cmp s t ≡ ordering_then (nat_cmp s.field t.field) (slice_cmp nat_cmp s.bytes t.bytes)
unfolding term_cmp
term_cmp-parts s t = refl

pub term_cmp-field : (s t : TermKey) → s.field < t.field → term_cmp s t ≡ Less
term_cmp-field s t h = term_cmp-parts s t ∙ ap (λ r. ordering_then r (slice_cmp nat_cmp s.bytes t.bytes)) (sym (nat_cmp_is s.field t.field Less h))

pub term_cmp-bytes : (s t : TermKey) → s.field ≡ t.field → term_cmp s t ≡ slice_cmp nat_cmp s.bytes t.bytes
term_cmp-bytes s t e = term_cmp-parts s t ∙ ap (λ r. ordering_then r (slice_cmp nat_cmp s.bytes t.bytes)) (sym (nat_cmp_is s.field t.field Equal e))

-- so the terms of one field stand together
pub fields_ascend : (s t : TermKey) → term_cmp s t ≡ Less → s.field ≤ t.field
fields_ascend s t e = from_first (nat_cmp s.field t.field) (ranks s.field t.field) (sym (term_cmp-parts s t) ∙ e)
  where
    from_first : (r : Ordering) → MatchOrdering r (s.field < t.field) (s.field ≡ t.field) (t.field < s.field) →
        ordering_then r (slice_cmp nat_cmp s.bytes t.bytes) ≡ Less → s.field ≤ t.field
    from_first Less h k = omega arith
    from_first Equal h k = omega arith
    from_first Greater h k = cc

-- the laws that a map from terms, or a list of terms in order, asks for
pub ruleset term_order = (term_cmp_total, term_cmp_antisymmetric, same_term)

-- what either is, by its parts
pub ruleset term_parts = (term_eq-parts, term_eq-bytes, term_cmp-parts)
