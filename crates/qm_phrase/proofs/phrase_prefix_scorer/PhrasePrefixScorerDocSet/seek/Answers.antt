-- The first document from the target on that counts.
use Rattle.std.proofs.Common.{ap, ◌∙◌, sym, arith}
use Rattle.qm_postings.specs.FieldNorms.{norm_ids}
use Rattle.qm_phrase.specs.PhrasePrefix.{held_count}
use Rattle.qm_phrase.specs.PrefixTerms.{lists_of}
use Rattle.qm_phrase.proofs.PrefixEntries.{found-entries, found-head, gone-same, gone-some}
use Rattle.qm_phrase.proofs.phrase_prefix_scorer.PhrasePrefixScorerDocSet.seek.Goals as goal

pub returns-clause-entries : goal.returns-clause-entries
returns-clause-entries g c =
    let self = c.args.self.now in
    let step = c.seek-doc in
    found-entries self.similarity_weight (norm_ids self.fieldnorm_reader) c.args.target step.result
    (lists_of g.P.DocSet self.terms) (lists_of g.P.DocSet step.new.self) step.ensures.found step.ensures.moved

pub returns-clause-head : goal.returns-clause-head
returns-clause-head g c =
    let self = c.args.self.now in
    let step = c.seek-doc in
    found-head self.similarity_weight (norm_ids self.fieldnorm_reader) c.args.target step.result
    (lists_of g.P.DocSet self.terms) (lists_of g.P.DocSet step.new.self) step.ensures.found step.ensures.moved

pub returns-clause-valid : goal.returns-clause-valid
returns-clause-valid g c =
    let self = c.args.self.now in
    let step = c.seek-doc in
    record {
      terms = step.ensures.valid;
      covered = λ d some.
          c.requires.valid.covered d (gone-some step.result.0 d (lists_of g.P.DocSet self.terms) (lists_of g.P.DocSet step.new.self) step.ensures.moved some);
    }

pub returns-clause-placed : goal.returns-clause-placed
returns-clause-placed g c =
    let self = c.args.self.now in
    let step = c.seek-doc in
    let doc = step.result.0 in
    record {
      document = found-head self.similarity_weight (norm_ids self.fieldnorm_reader) c.args.target step.result
          (lists_of g.P.DocSet self.terms) (lists_of g.P.DocSet step.new.self) step.ensures.found step.ensures.moved;
      prefix = λ below. (step.ensures.found.here below).prefix ∙ ap held_count (sym (step.ensures.moved.counts doc (omega arith)));
      full = λ below. (step.ensures.found.here below).full ∙ ap held_count (sym (step.ensures.moved.full doc (omega arith)));
    }

pub returns-clause-kept : goal.returns-clause-kept
returns-clause-kept g c = λ s k.
    let step = c.seek-doc in
    let old = lists_of g.P.DocSet c.args.self.now.terms in
    let new = lists_of g.P.DocSet step.new.self in
    record {
      counts = λ d some. gone-same step.result.0 d old new step.ensures.moved some
          ∙ k.counts d (gone-some step.result.0 d old new step.ensures.moved some);
    }
