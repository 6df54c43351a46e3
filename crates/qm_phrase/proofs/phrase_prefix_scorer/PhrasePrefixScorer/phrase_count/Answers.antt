-- The document that it stands on counts.
use Rattle.std.proofs.Common.{refl}
use Rattle.qm_docset.specs.Entry.{head_document}
use Rattle.qm_postings.specs.FieldNorms.{norm_ids}
use Rattle.qm_phrase.specs.PhrasePrefixScorer.{phrase_prefix_left}
use Rattle.qm_phrase.specs.PrefixTerms.{lists_of}
use Rattle.qm_phrase.proofs.PrefixEntries.{prefix-stands}
use Rattle.qm_phrase.proofs.phrase_prefix_scorer.PhrasePrefixScorer.phrase_count.Goals as goal

pub returns-clause-some : goal.returns-clause-some
returns-clause-some g c =
    let self = c.args.self.now in
    let stands = prefix-stands self.similarity_weight (norm_ids self.fieldnorm_reader)
    (lists_of g.P.DocSet self.terms) (head_document (phrase_prefix_left g.P.DocSet self)) refl c.requires.here in
    stands.0
