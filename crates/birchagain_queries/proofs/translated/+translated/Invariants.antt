-- What the clauses before this one say is there.
use Rattle.std.proofs.Common.{◌≡◌, map, take}
use Rattle.qm_script.specs.Spelled.{spelled_clause}
use Rattle.birchagain_queries.proofs.Clauses.{said_clause}
use Rattle.birchagain_queries.proofs.translated.+translated.Given as goal

abbrev pub decreases-translated : goal.decreases-translated
decreases-translated l = goal.size-translated l

abbrev pub invariant-loop-sign : goal.invariant-loop-sign
invariant-loop-sign l = map spelled_clause l.clauses.items ≡ map said_clause (take l.sign-index l.sign-items)
