use Rattle.std.proofs.Common.{◌-◌, arith, get_or, length, lt-ltb, ltb-true}
use Rattle.qm_postings.proofs.LaidRows.{last-below}
use Rattle.qm_postings.proofs.rows_builder.checks.are_below.Goals as goal

pub returns : goal.returns
returns c =
    let documents = c.args.documents.now in
    let last = get_or documents (length documents - 1) 0 in (
      λ yes. (omega arith, last-below 0 c.args.max_doc documents c.requires (ltb-true last c.args.max_doc yes)),
      λ all. lt-ltb last c.args.max_doc (all.1 (length documents - 1) 0 (omega (arith, all.0))),
    )
