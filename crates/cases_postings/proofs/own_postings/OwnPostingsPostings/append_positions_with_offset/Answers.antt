-- All positions of the document, each plus the offset.
use Rattle.std.proofs.Common.{◌≡◌, ℕ, ◌+◌, ◌<◌, ◌≤◌, List, ◌++◌, All, length, get_or, refl, arith, ap, subst, sym, ◌∙◌}
use Rattle.std.proofs.lemmas.List.{take_all}
use Rattle.qm_docset.specs.Entry.{Entry, head_document, head_positions}
use Rattle.qm_docset.specs.VecDocSet.{remaining_documents}
use Rattle.qm_docset.specs.declared.numbers.TheConstants.{TERMINATED}
use Rattle.qm_postings.specs.Positions.{is_in, shifted}
use Rattle.qm_postings.specs.PositionsFacts.{HasAdded-append}
use Rattle.qm_phrase.specs.PostingUnions.{described}
use Rattle.cases_postings.specs.declared.own_postings.OwnPostings.{OwnPostings}
use Rattle.qm_phrase.proofs.UnitedOver.{head_document-described, head_positions-described}
use Rattle.cases_postings.proofs.own_postings.OwnPostingsPostings.append_positions_with_offset.Goals as goal

abbrev made : OwnPostings → ℕ → Entry
made s d = record { document = d; score = 0; frequency = s.frequency; positions = s.positions.items }

abbrev left : OwnPostings → List Entry
left s = described (made s) (remaining_documents s.documents)

positions : (s : OwnPostings) → head_document (left s) < TERMINATED → head_positions (left s) ≡ s.positions.items
positions s here = head_positions-described (made s) (λ d. refl) (remaining_documents s.documents)
    (omega (arith, here, head_document-described (made s) (λ d. refl) (remaining_documents s.documents)))

pub overflow_add-position : goal.overflow_add-position
overflow_add-position c =
    let self = c.args.self.now in
    let Fits : List ℕ → Type 0 = λ ps. All (λ p. p + c.args.offset ≤ 4294967295) ps in
    let sums : Fits self.positions.items = subst Fits (positions self c.requires.here) c.requires.sums in
    let value = c.deref-position-items.ensures.value in
    let i = c.loop-position.position-index in
    omega (arith, sums i 0 (omega (arith, ap length value)), ap (λ r. get_or r i 0) value)

pub returns-clause-members : goal.returns-clause-members
returns-clause-members c =
    let self = c.args.self.now in
    let i = c.loop-position.position-index in
    let old = c.args.output.now.items in
    let here = head_positions (left self) in
    let all : c.loop-position.output.items ≡ old ++ shifted c.args.offset here = c.loop-position.invariant.items ∙ ap (λ r. old ++ shifted c.args.offset r)
    (take_all i self.positions.items (omega (arith, ap length c.deref-position-items.ensures.value)) ∙ sym (positions self c.requires.here)) in
    λ x. ap (is_in x) all ∙ HasAdded-append (shifted c.args.offset here) old x

pub returns-clause-alone : goal.returns-clause-alone
returns-clause-alone c = λ none.
    let self = c.args.self.now in
    let i = c.loop-position.position-index in
    let old = c.args.output.now.items in
    let here = head_positions (left self) in
    c.loop-position.invariant.items ∙ ap (λ r. old ++ shifted c.args.offset r) (take_all i self.positions.items
    (omega (arith, ap length c.deref-position-items.ensures.value)) ∙ sym (positions self c.requires.here)) ∙ ap (λ r. r ++ shifted c.args.offset here) none
