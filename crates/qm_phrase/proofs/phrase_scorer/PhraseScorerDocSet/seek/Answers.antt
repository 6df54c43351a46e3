-- The first document with a start from the target on.
use Rattle.std.proofs.Common.{◌∙◌}
use Rattle.qm_postings.specs.FieldNorms.{norm_ids}
use Rattle.qm_phrase.specs.Phrase.{phrase_points}
use Rattle.qm_phrase.proofs.PhraseLists.{found-count, found-entries, found-head, moved-some, moved-same}
use Rattle.qm_phrase.proofs.phrase_scorer.PhraseScorerDocSet.seek.Goals as goal

pub returns-clause-entries : goal.returns-clause-entries
returns-clause-entries g c =
    let self = c.args.self.now in
    let step = c.seek_start-doc in
    found-entries g.P.DocSet (phrase_points self.similarity_weight (norm_ids self.fieldnorm_reader)) self.slop
    c.most-most.result c.args.target step.result self.terms step.new.self step.ensures.found step.ensures.moved

pub returns-clause-head : goal.returns-clause-head
returns-clause-head g c =
    let self = c.args.self.now in
    let step = c.seek_start-doc in
    found-head g.P.DocSet (phrase_points self.similarity_weight (norm_ids self.fieldnorm_reader)) self.slop
    c.most-most.result c.args.target step.result self.terms step.new.self step.ensures.found step.ensures.moved

pub returns-clause-valid : goal.returns-clause-valid
returns-clause-valid g c =
    let self = c.args.self.now in
    let step = c.seek_start-doc in
    record {
      terms = step.ensures.moved.valid;
      covered = λ d some.
          c.requires.valid.covered d (moved-some g.P.DocSet self.slop step.result.0 self.terms step.new.self step.ensures.moved d some);
    }

pub returns-clause-placed : goal.returns-clause-placed
returns-clause-placed g c =
    let self = c.args.self.now in
    let step = c.seek_start-doc in
    record {
      document = found-head g.P.DocSet (phrase_points self.similarity_weight (norm_ids self.fieldnorm_reader)) self.slop
          c.most-most.result c.args.target step.result self.terms step.new.self step.ensures.found step.ensures.moved;
      counted = rw (← c.most-most.ensures) (found-count g.P.DocSet self.slop c.most-most.result c.args.target step.result self.terms step.new.self
          step.ensures.found step.ensures.moved);
    }

pub returns-clause-kept : goal.returns-clause-kept
returns-clause-kept g c = λ s k.
    let self = c.args.self.now in
    let step = c.seek_start-doc in
    record {
      weighted = k.weighted;
      counts = λ d some. moved-same g.P.DocSet self.slop step.result.0 self.terms step.new.self step.ensures.moved d some
          ∙ k.counts d (moved-some g.P.DocSet self.slop step.result.0 self.terms step.new.self step.ensures.moved d some);
    }
