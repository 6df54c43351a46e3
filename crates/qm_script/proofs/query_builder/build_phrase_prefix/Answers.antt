use Rattle.std.proofs.Common.{◌∙◌, ap, sym, Result, Ok}
use Rattle.qm_query.specs.Parts.{PrefixParts}
use Rattle.qm_query.specs.Query as query
use Rattle.qm_query.specs.Query.{Query}
use Rattle.qm_schema.specs.declared.error.QueryError.{QueryError}
use Rattle.qm_script.specs.Spelled.{texts}
use Rattle.qm_script.proofs.Building.{prefix-made}
use Rattle.qm_script.proofs.query_builder.build_phrase_prefix.Goals as goal

pub returns : goal.returns
returns c =
    let q = c.in_ok-query.query in
    prefix-made c.args.max_expansions (texts c.args.words.now) c.in_ok-terms.terms.items
    c.in_ok-terms.ensures.terms q q.terms q.prefix c.in_ok-query.ensures.refused c.in_ok-query.ensures.terms
    ∙ ap (λ (p : PrefixParts). let a : Result Query QueryError = Ok (query.phrase_prefix p) in a) (sym c.set_max_expansions.ensures)
