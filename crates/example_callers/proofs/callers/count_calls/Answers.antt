-- With each call the count has one more, and the documents to come are one fewer.
use Rattle.std.proofs.Common.{◌≡◌, ◌+◌, length, arith, refl, rules}
use Rattle.qm_docset.specs.EntryFacts.{length-entries}
use Rattle.qm_term.specs.RunsFacts.{CallsEach-keeps, MayCallEach-keeps}
use Rattle.example_callers.proofs.callers.count_calls.Goals as goal

pub for_each_scorer-requires-clause-allowed : goal.for_each_scorer-requires-clause-allowed
for_each_scorer-requires-clause-allowed g c =
    let es = g.S.DocSet.entries c.args.scorer.now in
    let most = length-entries 0 _ _ (omega arith) (g.met.S.DocSet.ascending c.args.scorer.now c.requires.valid) in
    MayCallEach-keeps _ (λ first f xs. f.0.now + length xs ≡ length es) _ (λ f h x xs kept made. grind arith) _ (λ f x xs kept. search rules) es (omega arith)

pub returns : goal.returns
returns g c =
    let es = g.S.DocSet.entries c.args.scorer.now in
    let counted = CallsEach-keeps _ (λ first f xs. (f.0.now + length xs ≡ length es) × (f.0.ghost_name ≡ first.0.ghost_name)) _
    (λ f h x xs kept made. search rules) es _ (omega arith, refl) c.for_each_scorer.ensures.calls in
    search rules
