-- The terms are asked for the target.
use Rattle.std.proofs.Common.{ap, sym, ◌∙◌, arith, refl}
use Rattle.qm_docset.proofs.Gathering.{head_document-from}
use Rattle.qm_docset.specs.Entry.{head_document}
use Rattle.qm_docset.specs.declared.numbers.TheConstants.{TERMINATED}
use Rattle.qm_postings.specs.FieldNorms.{norm_ids}
use Rattle.qm_phrase.specs.PhrasePrefix.{held_count}
use Rattle.qm_phrase.specs.PhrasePrefixScorer.{phrase_prefix_left}
use Rattle.qm_phrase.specs.PrefixTerms.{lists_of}
use Rattle.qm_phrase.proofs.PrefixEntries.{gone-same, gone-some, look-bound, look-entries, look-head}
use Rattle.qm_phrase.proofs.phrase_prefix_scorer.PhrasePrefixScorerDocSet.seek_danger.Goals as goal

pub returns-then-target-eq-TERMINATED-clause-answer : goal.returns-then-target-eq-TERMINATED-clause-answer
returns-then-target-eq-TERMINATED-clause-answer g c =
    let left = phrase_prefix_left g.P.DocSet c.args.self.now in
    record {
      before_all = omega (arith, ap head_document c.seek.ensures.entries, head_document-from TERMINATED left (omega arith));
      past = λ below. absurd (omega arith);
      at_end = λ ended. refl;
    }

pub returns-in-Ok-clause-answer : goal.returns-in-Ok-clause-answer
returns-in-Ok-clause-answer g c =
    let self = c.args.self.now in
    let step = c.look_at in
    let here = look-head self.similarity_weight (norm_ids self.fieldnorm_reader) c.args.target c.in-Ok.counts (lists_of g.P.DocSet self.terms)
    (lists_of g.P.DocSet step.new.self) (omega (arith, c.requires.target)) step.ensures.moved c.in-Ok.ensures.answer in
    record { below_end = omega (arith, c.requires.target); here = sym here }

pub returns-in-Ok-clause-entries : goal.returns-in-Ok-clause-entries
returns-in-Ok-clause-entries g c =
    let self = c.args.self.now in
    look-entries self.similarity_weight (norm_ids self.fieldnorm_reader) c.args.target
    (lists_of g.P.DocSet self.terms) (lists_of g.P.DocSet c.look_at.new.self) c.look_at.ensures.moved

pub returns-in-Ok-clause-valid : goal.returns-in-Ok-clause-valid
returns-in-Ok-clause-valid g c =
    let self = c.args.self.now in
    let step = c.look_at in
    record {
      terms = step.ensures.valid;
      covered = λ d some.
          c.requires.valid.covered d (gone-some c.args.target d (lists_of g.P.DocSet self.terms) (lists_of g.P.DocSet step.new.self) step.ensures.moved some);
    }

pub returns-in-Ok-clause-placed : goal.returns-in-Ok-clause-placed
returns-in-Ok-clause-placed g c =
    let self = c.args.self.now in
    let step = c.look_at in
    let answer = c.in-Ok.ensures.answer in
    record {
      document = look-head self.similarity_weight (norm_ids self.fieldnorm_reader) c.args.target c.in-Ok.counts
          (lists_of g.P.DocSet self.terms) (lists_of g.P.DocSet step.new.self) (omega (arith, c.requires.target)) step.ensures.moved answer;
      prefix = λ below. answer.prefix ∙ ap held_count (sym (step.ensures.moved.counts c.args.target (omega arith)));
      full = λ below. answer.full ∙ ap held_count (sym (step.ensures.moved.full c.args.target (omega arith)));
    }

pub returns-in-Err-clause-answer : goal.returns-in-Err-clause-answer
returns-in-Err-clause-answer g c =
    let self = c.args.self.now in
    let step = c.look_at in
    let look = c.in-Err.ensures.answer in
    record {
      before_all = look-bound self.similarity_weight (norm_ids self.fieldnorm_reader) c.args.target c.in-Err.bound
          (lists_of g.P.DocSet self.terms) (lists_of g.P.DocSet step.new.self) step.ensures.moved look;
      past = λ below. look.0;
      at_end = λ ended. absurd (omega arith);
    }

pub returns-in-Err-clause-entries : goal.returns-in-Err-clause-entries
returns-in-Err-clause-entries g c =
    let self = c.args.self.now in
    look-entries self.similarity_weight (norm_ids self.fieldnorm_reader) c.args.target
    (lists_of g.P.DocSet self.terms) (lists_of g.P.DocSet c.look_at.new.self) c.look_at.ensures.moved

pub returns-in-Err-clause-valid : goal.returns-in-Err-clause-valid
returns-in-Err-clause-valid g c =
    let self = c.args.self.now in
    let step = c.look_at in
    record {
      terms = step.ensures.valid;
      covered = λ d some.
          c.requires.valid.covered d (gone-some c.args.target d (lists_of g.P.DocSet self.terms) (lists_of g.P.DocSet step.new.self) step.ensures.moved some);
    }

pub returns-in-Ok-clause-kept : goal.returns-in-Ok-clause-kept
returns-in-Ok-clause-kept g c = λ s k.
    let step = c.look_at in
    let old = lists_of g.P.DocSet c.args.self.now.terms in
    let new = lists_of g.P.DocSet step.new.self in
    record {
      counts = λ d some. gone-same c.args.target d old new step.ensures.moved some
          ∙ k.counts d (gone-some c.args.target d old new step.ensures.moved some);
    }

pub returns-in-Err-clause-kept : goal.returns-in-Err-clause-kept
returns-in-Err-clause-kept g c = λ s k.
    let step = c.look_at in
    let old = lists_of g.P.DocSet c.args.self.now.terms in
    let new = lists_of g.P.DocSet step.new.self in
    record {
      counts = λ d some. gone-same c.args.target d old new step.ensures.moved some
          ∙ k.counts d (gone-some c.args.target d old new step.ensures.moved some);
    }
