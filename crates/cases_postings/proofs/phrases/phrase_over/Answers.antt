-- Every document has a length id.
use Rattle.std.proofs.Common.{ℕ, arith}
use Rattle.std.proofs.lemmas.List.{length-map}
use Rattle.qm_phrase.specs.PhraseTerms.{terms_given}
use Rattle.cases_postings.proofs.CoveredTerms.{covered-constant}
use Rattle.cases_postings.proofs.phrases.phrase_over.Goals as goal

pub over_terms-requires-clause-two : goal.over_terms-requires-clause-two
over_terms-requires-clause-two g c =
    let offset : ℕ × ℕ → ℕ = λ t. t.0 in
    omega (arith, c.requires.two, length-map (terms_given c.args.terms) offset)

pub over_terms-requires-clause-covered : goal.over_terms-requires-clause-covered
over_terms-requires-clause-covered g c = covered-constant g.P.DocSet g.met.P.DocSet.ascending c.args.terms c.args.num_docs c.args.scoring.length_id
    c.constant-reader.result c.constant-reader.ensures.ids c.requires.valid c.requires.all
