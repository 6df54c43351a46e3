-- The terms are asked for the target.
use Rattle.std.proofs.Common.{ap, sym, ◌∙◌, arith, refl}
use Rattle.qm_docset.proofs.Gathering.{head_document-from}
use Rattle.qm_docset.specs.Entry.{head_document}
use Rattle.qm_docset.specs.declared.numbers.TheConstants.{TERMINATED}
use Rattle.qm_phrase.specs.PhraseScorer.{phrase_left}
use Rattle.qm_postings.specs.FieldNorms.{norm_ids}
use Rattle.qm_phrase.specs.Phrase.{phrase_points}
use Rattle.qm_phrase.proofs.PhraseLists.{look-bound, look-entries, look-found, moved-some, moved-same}
use Rattle.qm_phrase.proofs.phrase_scorer.PhraseScorerDocSet.seek_danger.Goals as goal

pub returns-then-target-eq-TERMINATED-clause-answer : goal.returns-then-target-eq-TERMINATED-clause-answer
returns-then-target-eq-TERMINATED-clause-answer g c =
    let left = phrase_left g.P.DocSet c.args.self.now in
    record {
      before_all = omega (arith, ap head_document c.seek.ensures.entries, head_document-from TERMINATED left (omega arith));
      past = λ below. absurd (omega arith);
      at_end = λ ended. refl;
    }

pub returns-in-Ok-clause-answer : goal.returns-in-Ok-clause-answer
returns-in-Ok-clause-answer g c =
    let self = c.args.self.now in
    let step = c.look_at in
    let found = look-found g.P.DocSet (phrase_points self.similarity_weight (norm_ids self.fieldnorm_reader)) self.slop c.most-most.result
    c.args.target c.in-Ok.count self.terms step.new.self (omega (arith, c.requires.target)) step.ensures.moved c.in-Ok.ensures.answer in
    record { below_end = omega (arith, c.requires.target); here = sym found.0 }

pub returns-in-Ok-clause-placed : goal.returns-in-Ok-clause-placed
returns-in-Ok-clause-placed g c =
    let self = c.args.self.now in
    let step = c.look_at in
    let found = look-found g.P.DocSet (phrase_points self.similarity_weight (norm_ids self.fieldnorm_reader)) self.slop c.most-most.result
    c.args.target c.in-Ok.count self.terms step.new.self (omega (arith, c.requires.target)) step.ensures.moved c.in-Ok.ensures.answer in
    record {
      document = found.0;
      counted = rw (← c.most-most.ensures) (λ below. found.1);
    }

pub returns-in-Ok-clause-entries : goal.returns-in-Ok-clause-entries
returns-in-Ok-clause-entries g c =
    let self = c.args.self.now in
    let step = c.look_at in
    look-entries g.P.DocSet (phrase_points self.similarity_weight (norm_ids self.fieldnorm_reader)) self.slop c.args.target self.terms step.new.self
    step.ensures.moved

pub returns-in-Ok-clause-valid : goal.returns-in-Ok-clause-valid
returns-in-Ok-clause-valid g c =
    let self = c.args.self.now in
    let step = c.look_at in
    record {
      terms = step.ensures.moved.valid;
      covered = λ d some.
          c.requires.valid.covered d (moved-some g.P.DocSet self.slop c.args.target self.terms step.new.self step.ensures.moved d some);
    }

pub returns-in-Ok-clause-kept : goal.returns-in-Ok-clause-kept
returns-in-Ok-clause-kept g c = λ s k.
    let self = c.args.self.now in
    let step = c.look_at in
    record {
      weighted = k.weighted;
      counts = λ d some. moved-same g.P.DocSet self.slop c.args.target self.terms step.new.self step.ensures.moved d some
          ∙ k.counts d (moved-some g.P.DocSet self.slop c.args.target self.terms step.new.self step.ensures.moved d some);
    }

pub returns-in-Err-clause-answer : goal.returns-in-Err-clause-answer
returns-in-Err-clause-answer g c =
    let self = c.args.self.now in
    let step = c.look_at in
    let look = c.in-Err.ensures.answer in
    record {
      before_all = look-bound g.P.DocSet (phrase_points self.similarity_weight (norm_ids self.fieldnorm_reader)) self.slop c.most-most.result
          c.args.target c.in-Err.bound self.terms step.new.self step.ensures.moved look;
      past = λ below. look.0;
      at_end = λ ended. absurd (omega arith);
    }

pub returns-in-Err-clause-entries : goal.returns-in-Err-clause-entries
returns-in-Err-clause-entries g c =
    let self = c.args.self.now in
    let step = c.look_at in
    look-entries g.P.DocSet (phrase_points self.similarity_weight (norm_ids self.fieldnorm_reader)) self.slop c.args.target self.terms step.new.self
    step.ensures.moved

pub returns-in-Err-clause-valid : goal.returns-in-Err-clause-valid
returns-in-Err-clause-valid g c =
    let self = c.args.self.now in
    let step = c.look_at in
    record {
      terms = step.ensures.moved.valid;
      covered = λ d some.
          c.requires.valid.covered d (moved-some g.P.DocSet self.slop c.args.target self.terms step.new.self step.ensures.moved d some);
    }

pub returns-in-Err-clause-kept : goal.returns-in-Err-clause-kept
returns-in-Err-clause-kept g c = λ s k.
    let self = c.args.self.now in
    let step = c.look_at in
    record {
      weighted = k.weighted;
      counts = λ d some. moved-same g.P.DocSet self.slop c.args.target self.terms step.new.self step.ensures.moved d some
          ∙ k.counts d (moved-some g.P.DocSet self.slop c.args.target self.terms step.new.self step.ensures.moved d some);
    }
