use Rattle.std.proofs.Common.{◌-◌}
use Rattle.qm_docset.specs.declared.numbers.TheConstants.{TERMINATED}
use Rattle.qm_phrase.specs.PrefixTerms.{lists_of}
use Rattle.qm_phrase.proofs.PrefixMoves.{IsSearching}
use Rattle.qm_phrase.proofs.prefix_terms.PrefixTerms.seek.Given as goal

abbrev pub invariant-loop-doc : goal.invariant-loop-doc
invariant-loop-doc g l = IsSearching g.P.DocSet l.target l.doc (lists_of g.P.DocSet l.fn.self) l.self

abbrev pub decreases-loop-doc : goal.decreases-loop-doc
decreases-loop-doc g l = TERMINATED - l.doc
