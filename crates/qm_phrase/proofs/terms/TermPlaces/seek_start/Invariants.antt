use Rattle.std.proofs.Common.{◌-◌}
use Rattle.qm_docset.specs.declared.numbers.TheConstants.{TERMINATED}
use Rattle.qm_phrase.proofs.TermMoves.{IsPassed}
use Rattle.qm_phrase.proofs.terms.TermPlaces.seek_start.Given as goal

abbrev pub invariant-loop-doc : goal.invariant-loop-doc
invariant-loop-doc g l = IsPassed g.P.DocSet l.slop l.target l.doc l.fn.self l.self

abbrev pub decreases-loop-doc : goal.decreases-loop-doc
decreases-loop-doc g l = TERMINATED - l.doc
