-- The first document with a start, or the end.
use Rattle.qm_phrase.proofs.TermMoves.{AreMovedTo-end, AreMovedTo-here, IsFirstStart-end, IsFirstStart-here, IsPassed-bound}
use Rattle.std.proofs.Common.{arith, refl}
use Rattle.qm_phrase.proofs.terms.TermPlaces.seek_start.Goals as goal

pub loop-doc-init : goal.loop-doc-init
loop-doc-init g c = record {
  reached = omega arith;
  within = c.requires.target;
  valid = c.requires.valid;
  terms = refl;
  left = refl;
  bare = λ d low high. absurd (omega (arith, low, high));
}

pub returns-in-Ok-clause-found : goal.returns-in-Ok-clause-found
returns-in-Ok-clause-found g c = IsFirstStart-here g.P.DocSet c.args.slop c.args.most c.args.target c.loop-doc.doc c.in-Ok.count c.args.self.now
    c.loop-doc.self c.loop-doc.invariant c.in-Ok.ensures.answer

pub returns-in-Ok-clause-moved : goal.returns-in-Ok-clause-moved
returns-in-Ok-clause-moved g c = AreMovedTo-here g.P.DocSet c.args.slop c.args.target c.loop-doc.doc c.args.self.now c.loop-doc.self c.look_at.new.self
    c.loop-doc.invariant c.look_at.ensures.moved

pub loop-doc-preserved : goal.loop-doc-preserved
loop-doc-preserved g c = IsPassed-bound g.P.DocSet c.args.slop c.args.most c.args.target c.loop-doc.doc c.in-Err.bound c.args.self.now c.loop-doc.self
    c.look_at.new.self c.loop-doc.invariant c.look_at.ensures.moved c.in-Err.ensures.answer

pub returns-clause-moved : goal.returns-clause-moved
returns-clause-moved g c = AreMovedTo-end g.P.DocSet c.args.slop c.args.target c.loop-doc.doc c.args.self.now c.loop-doc.self c.go_to_end.new.self
    c.loop-doc.invariant c.loop-doc-test.false (c.go_to_end.ensures.moved c.args.slop)

pub returns-clause-found : goal.returns-clause-found
returns-clause-found g c = IsFirstStart-end g.P.DocSet c.args.slop c.args.most c.args.target c.loop-doc.doc c.args.self.now c.loop-doc.self
    c.loop-doc.invariant c.loop-doc-test.false
