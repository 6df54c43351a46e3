-- With each call the count has one more, and the documents to come are one fewer; all are no more than the segment has.
use Rattle.std.proofs.Common.{◌≡◌, ◌+◌, ◌∙◌, ℕ, List, ap, sym, length, min, arith, refl, rules}
use Rattle.std.proofs.lemmas.List.{length-map}
use Rattle.qm_docset.specs.Entry.{Entry, documents}
use Rattle.qm_term.specs.RunsFacts.{CallsEach-keeps, MayCallEach-always}
use Rattle.qm_weight.specs.Tree.{matching}
use Rattle.qm_weight.specs.TreeFacts.{length-matching}
use Rattle.example_uses.proofs.own_callback.sum_up.Goals as goal

length-documents : (es : List Entry) (ds : List ℕ) → documents es ≡ ds → length es ≡ length ds
length-documents es ds are = sym (length-map es (λ e. e.document)) ∙ ap length are

pub for_each-requires : goal.for_each-requires
for_each-requires g c = record { allowed = λ es is. search (rules, MayCallEach-always) }

pub returns : goal.returns
returns g c =
    let es = c.in_ok-for_each.ensures.calls.0 in
    let are : length es ≡ length (matching (g.W.Weight.tree c.args.weight.now) c.args.reader.now.segment) =
    length-documents es _ c.in_ok-for_each.ensures.calls.1.documents in
    let few = length-matching (g.W.Weight.tree c.args.weight.now) c.args.reader.now.segment in
    let counted = CallsEach-keeps _ (λ first f xs. (f.0.now.documents + length xs ≡ length es) × (f.0.ghost_name ≡ first.0.ghost_name)) _
    (λ f h x xs kept made.
    let step : h.0.now.documents ≡ min 4294967295 (f.0.now.documents + 1) = search rules in
    let same : h.0.ghost_name ≡ f.0.ghost_name = search rules in (
      omega (arith, step, kept.0, few, are, c.max_doc.ensures.number, c.max_doc.ensures.room),
      same ∙ kept.1,
    ))
    es _ (omega arith, refl) c.in_ok-for_each.ensures.calls.2 in
    search (rules, are)
