-- The weight and the scorer that keep the norms themselves.
use Rattle.std.specs.Prelude.{ℕ, List}
use Rattle.qm_term.specs.contracts.norms.ArrayU32256Norms.TheImpl.{ghosts}
use Rattle.qm_term.specs.declared.bm25.Bm25Weight.{Bm25Weight}
use Rattle.qm_term.specs.declared.term_scorer.TermScorer.{TermScorer}

abbrev pub OwnWeight : Type 0
OwnWeight = Bm25Weight (List ℕ) ghosts

abbrev pub OwnScorer : Type 0
OwnScorer = TermScorer (List ℕ) ghosts
