use Rattle.example_callers.proofs.PhraseFields.{taken-of_field}
use Rattle.example_callers.proofs.query_callers.field_and_full_terms.Goals as goal

pub returns-clause-field : goal.returns-clause-field
returns-clause-field c = taken-of_field c.field.result c.args.query.now.terms c.in_ok-terms.terms.items c.in_ok-terms.ensures.terms c.field.ensures.all
