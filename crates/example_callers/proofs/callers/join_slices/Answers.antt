-- What was joined, and the slices that are still to come, are all documents, unless memory was refused.
use Rattle.std.proofs.Common.{◌≡◌, ◌++◌, false, append_assoc, append-nil, ap, sym, ◌∙◌, refl, rules}
use Rattle.std.specs.List.{concat}
use Rattle.qm_docset.specs.Entry.{documents}
use Rattle.qm_term.specs.Runs.{slices}
use Rattle.qm_term.specs.RunsFacts.{CallsEach-keeps, MayCallEach-always, concat-slices}
use Rattle.example_callers.proofs.callers.join_slices.Goals as goal

pub for_each_docset_buffered-requires-clause-allowed :
    goal.for_each_docset_buffered-requires-clause-allowed
for_each_docset_buffered-requires-clause-allowed g c = search (rules, MayCallEach-always)

pub returns-else-joined : goal.returns-else-joined
returns-else-joined g c =
    let ds = documents (g.D.DocSet.entries c.args.docset.now) in
    let joined =
    CallsEach-keeps _ (λ first f left. (f.0.now.refused ≡ false → f.0.now.documents.items ++ concat left ≡ ds) × (f.0.ghost_name ≡ first.0.ghost_name)) _
    (λ f h slice left kept made.
    let before : h.0.now.refused ≡ false → f.0.now.refused ≡ false = search rules in
    let documents_now : h.0.now.refused ≡ false → h.0.now.documents.items ≡ f.0.now.documents.items ++ slice = search rules in
    let same : h.0.ghost_name ≡ f.0.ghost_name = search rules in
    (λ ok. ap (λ v. v ++ concat left) (documents_now ok) ∙ append_assoc f.0.now.documents.items slice (concat left) ∙ kept.0 (before ok), same ∙ kept.1))
    (slices ds) _ (λ _. ap (λ v. v ++ concat (slices ds)) c.new.ensures.items ∙ concat-slices ds, refl) c.for_each_docset_buffered.ensures.calls in
    let callback = c.for_each_docset_buffered.new.callback in
    let all : callback.0.now.refused ≡ false → callback.0.now.documents.items ≡ ds = λ ok. sym (append-nil callback.0.now.documents.items) ∙ joined.0 ok in
    search rules
