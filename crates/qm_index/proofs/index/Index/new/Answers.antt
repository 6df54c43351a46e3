-- A searcher without pairs gives no term a weight of its own.
use Rattle.std.proofs.Common.{ap, sym, ◌∙◌}
use Rattle.std.specs.FinMap.{get-empty, same_map}
use Rattle.qm_postings.specs.Statistics.{Searched, first_weight}
use Rattle.qm_schema.specs.Term.{term_cmp, term_cmp_antisymmetric, term_cmp_total}
use Rattle.qm_index.proofs.index.Index.new.Goals as goal

pub returns-clause-weights : goal.returns-clause-weights
returns-clause-weights c =
    ap (λ (s : Searched). s.weights) c.in_ok-index.ensures.statistics
    ∙ same_map term_cmp_total term_cmp_antisymmetric _ _ (λ q.
    c.in_ok-searcher.ensures.weights q ∙ ap (λ ps. first_weight ps q) c.new-2.ensures.items ∙ sym (get-empty term_cmp q))
