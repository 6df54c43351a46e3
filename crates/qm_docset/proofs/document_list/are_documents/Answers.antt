-- The two tests are the two facts.
use Rattle.std.proofs.Common.{◌≡◌, ℕ, ◌<◌, IsTrue, Bool, true, false, List, ltb, leb-true, ltb-false, refl, sym, arith, rules, All}
use Rattle.std.specs.List.{IsAllAdjacentAnswer}
use Rattle.std.proofs.lemmas.List.Sorted.{answers_always}
use Rattle.qm_docset.specs.Documents.{AreDocuments}
use Rattle.qm_docset.specs.declared.numbers.TheConstants.{TERMINATED}
use Rattle.qm_docset.proofs.document_list.are_documents.Goals as goal

ascending_is : (docs : List ℕ) (r : Bool) → IsAllAdjacentAnswer (λ x y b. b ≡ ltb x y) docs r →
    All (λ d. d < TERMINATED) docs → (IsTrue r → AreDocuments docs) × (AreDocuments docs → IsTrue r)
ascending_is docs true h below = (λ _. record { ascending = λ k l. leb-true _ _ (sym (h k 0 l)); below_end = below }, λ _. refl)
ascending_is docs false h below = (λ none. cc, λ a. let falls = ltb-false _ _ (sym (h.2 0)) in let rises = a.ascending h.0 h.1 in absurd (omega arith))

pub returns-then-all : goal.returns-then-all
returns-then-all c =
    ascending_is c.args.docs.now c.is_sorted_by.result (c.is_sorted_by.ensures.cases ltb (answers_always _ _ _ (λ f a r q k. search rules))) (search rules)
