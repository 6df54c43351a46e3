-- The clauses that were made are the two terms, and no norm counts.
use Rattle.std.proofs.Common.{◌≡◌, ◌<◌, ◌∙◌, false, ap, arith, replicate}
use Rattle.std.proofs.lemmas.List.{get_or-replicate}
use Rattle.std.proofs.lemmas.Result.{IfOk-weaker}
use Rattle.qm_weight.specs.Tree.{boolean, clause, matching, no_clause}
use Rattle.qm_weight.specs.Weights.{combiner_of, term_clauses, terms_tree}
use Rattle.example_callers.proofs.HeldTerms.{matching-pair, term_pair}
use Rattle.example_callers.proofs.weight_callers.holders_of_both.Goals as goal

pub new-weight-requires : goal.new-weight-requires
new-weight-requires c i j d order within =
    let first : i < 256 = omega (arith, order, within) in
    omega (arith, get_or-replicate 256 i 0 d first, get_or-replicate 256 j 0 d within)

pub returns : goal.returns
returns c =
    let combiner = combiner_of c.default.result in
    let norms = replicate 256 0 in
    let first = c.new.ensures in
    let second = c.new-2.ensures in
    let tree : terms_tree c.new-weight.result ≡ term_pair combiner c.args.first c.args.second =
    c.new-weight.ensures ∙ ap (λ xs. boolean false 0 combiner (term_clauses false norms xs)) c.in_ok-clauses.ensures.items
    ∙ (λ i. boolean false 0 combiner (clause (first.occur i) (first.tree false norms i)
    (clause (second.occur i) (second.tree false norms i) no_clause))) in
    let segment = c.args.reader.now.segment in
    IfOk-weaker c.join_matches.result _ _
    (λ v is. is ∙ ap (λ t. matching t segment) tree ∙ matching-pair segment combiner c.args.first c.args.second) c.join_matches.ensures
