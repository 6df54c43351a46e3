use Rattle.std.proofs.Common.{Result, subst}
use Rattle.qm_parser.proofs.TextsReadBack.{text-read}
use Rattle.qm_parser.specs.Query.{Query}
use Rattle.qm_parser.specs.Reading.{Gives}
use Rattle.qm_parser.specs.Views.{query_of}
use Rattle.qm_parser.specs.declared.parse_error.Refusal.{Refusal}
use Rattle.qm_parser.proofs.parse.parse_query.Goals as goal

pub returns-clause-spelled : goal.returns-clause-spelled
returns-clause-spelled c = λ q spells.
    let P : Result Query Refusal → Type 0 = λ read. Gives query_of c.parse_text.result read in
    subst P (text-read c.args.text.now q spells) c.parse_text.ensures
