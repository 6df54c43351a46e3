-- A slot has one term at most, and a number stays its term's as terms come.
use Rattle.std.proofs.Common.{◌≡◌, List, ◌++◌, Some, length, length-append, get_or, slice_get, refl, sym, ap, ◌∙◌, arith}
use Rattle.std.specs.Cmp.Lexicographic.{slice_cmp}
use Rattle.std.specs.Cmp.{nat_cmp_is}
use Rattle.std.specs.Ordering.{nat_cmp}
use Rattle.std.specs.declared.cmp.Ordering.TheVariants.{Equal}
use Rattle.std.proofs.lemmas.List.{get_or_append_left}
use Rattle.std.proofs.lemmas.Option.{get_or_from_slice_get, slice_get_read, slice_get_within}
use Rattle.qm_schema.specs.Term.{TermKey, term_cmp-bytes, term_cmp_antisymmetric}
use Rattle.qm_postings.specs.ShortTerms.{AreNumbersOf, IsNumbered, IsOf}
use Rattle.qm_postings.specs.declared.segment_builder.short_terms.ShortTerm.{ShortTerm}
use Rattle.qm_postings.proofs.TermHeads.{lengths_decide}

-- a slot has one term at most
pub one_of_slot : (s t : TermKey) (slot : ShortTerm) → IsOf s slot → IsOf t slot → s ≡ t
one_of_slot s t slot first second =
    let level : length s.bytes ≡ length t.bytes = first.len ∙ sym second.len in
    let tied : slice_cmp nat_cmp s.bytes t.bytes ≡ Equal =
    sym (lengths_decide s.bytes t.bytes slot.head first.head second.head (omega (arith, first.len, first.short)) (omega (arith, second.len, second.short)))
    ∙ sym (nat_cmp_is (length s.bytes) (length t.bytes) Equal level) in
    term_cmp_antisymmetric s t (term_cmp-bytes s t (first.field ∙ sym second.field) ∙ tied)

-- a term's slot with its number
pub numbered_one : (names : List TermKey) (t : TermKey) (slot : ShortTerm) → IsOf t slot → slice_get names slot.number ≡ Some t → IsNumbered names slot
numbered_one names t slot here found = λ s other. found ∙ ap Some (one_of_slot t s slot here other)

-- as terms come the numbers stay
pub numbers_stay : (names more : List TermKey) (slots : List ShortTerm) → AreNumbersOf names slots → AreNumbersOf (names ++ more) slots
numbers_stay names more slots numbered = λ k d l t here.
    let slot = get_or slots k d in
    let found = numbered k d l t here in
    let inside = slice_get_within names slot.number t found in
    slice_get_read (names ++ more) (length (names ++ more)) slot.number t refl (omega (arith, inside, length-append names more))
    (sym (get_or_append_left names more t slot.number inside ∙ get_or_from_slice_get names slot.number t t found))
