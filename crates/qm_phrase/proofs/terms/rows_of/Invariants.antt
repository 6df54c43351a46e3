use Rattle.std.proofs.Common.{◌≡◌, map, take}
use Rattle.qm_phrase.specs.TermRows.{terms_of}
use Rattle.qm_phrase.proofs.HandedIn.{placed}
use Rattle.qm_phrase.proofs.terms.rows_of.Given as goal

abbrev pub invariant-loop-offset : goal.invariant-loop-offset
invariant-loop-offset l = terms_of l.rows.items ≡ map (placed l.greatest) (take l.offset-index l.terms)
