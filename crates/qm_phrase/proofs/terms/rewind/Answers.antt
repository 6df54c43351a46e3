-- One more term has unpassed anew.
use Rattle.std.proofs.Common.{sym, refl, ◌∙◌, arith}
use Rattle.std.proofs.lemmas.List.{map-id}
use Rattle.qm_phrase.specs.Terms.{unpassed}
use Rattle.qm_phrase.proofs.EachRow.{each_done, each_more}
use Rattle.qm_phrase.proofs.TermRows.{no_term}
use Rattle.qm_phrase.proofs.terms.rewind.Goals as goal

pub loop-row-preserved : goal.loop-row-preserved
loop-row-preserved c =
    let rows = c.loop-row.rows in
    let i = c.loop-row.row-index in
    sym (map-id _) ∙ each_more (λ r. r) unpassed rows c.args.rows.now i _ no_term (omega arith) (map-id rows ∙ c.loop-row.invariant) refl

pub returns : goal.returns
returns c = c.loop-row.invariant ∙ each_done unpassed c.args.rows.now c.loop-row.row-index (omega arith)
