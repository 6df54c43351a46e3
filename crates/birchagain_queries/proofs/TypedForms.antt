-- What a typed query with clauses stands for in its language.
use Rattle.std.proofs.Common.{◌≡◌, ◌∙◌, Vec, map, subst, sym}
use Rattle.std.specs.Global.{Global}
use Rattle.qm_parser.specs.Query.{Query, boolean, clauses_of}
use Rattle.qm_parser.specs.Views.{clause_of, layer_of, query_of}
use Rattle.qm_parser.specs.declared.parsed_query.ParsedQuery.{ParsedQuery}
use Rattle.qm_parser.specs.declared.parsed_query.ParsedQuery.TheFolds.{fold-roll-ParsedQuery, fold_out-ParsedQuery}
use Rattle.qm_parser.specs.declared.parsed_query.ParsedQuery.TheOpen as open_query
use Rattle.qm_parser.specs.declared.parsed_query.ParsedQuery.TheOpen.{ParsedQuery-F}
use Rattle.qm_parser.specs.declared.parsed_query.ParsedQuery.TheViews.{out-ParsedQuery, roll-ParsedQuery}
use Rattle.qm_parser.specs.declared.parsed_query.Sign.{Sign}

rolled : (q : ParsedQuery) (o : ParsedQuery-F ParsedQuery) → out-ParsedQuery q ≡ o → query_of q ≡ query_of (roll-ParsedQuery o)
rolled q o is = subst (λ o. query_of q ≡ query_of (roll-ParsedQuery o)) is
    (fold_out-ParsedQuery Query layer_of q ∙ sym (fold-roll-ParsedQuery Query layer_of (out-ParsedQuery q)))

pub query_of-boolean : (q : ParsedQuery) (clauses : Vec (Sign × ParsedQuery) Global) →
    out-ParsedQuery q ≡ open_query.Boolean clauses → query_of q ≡ boolean (clauses_of (map clause_of clauses.items))
query_of-boolean q clauses is = rolled q (open_query.Boolean clauses) is ∙ fold-roll-ParsedQuery Query layer_of (open_query.Boolean clauses)
