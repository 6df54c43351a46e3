-- What the leaves of a weight weigh are scores, since each keeps its weight as one.
use Rattle.std.specs.Prelude.{ℕ, Bool, true, false, List, [], ◌∷◌, Option, None, Some}
use Rattle.qm_term.specs.OwnNorms.{OwnWeight}
use Rattle.qm_weight.specs.Tree.{ClauseLeavesFit, LeavesFit, WeighsScore}
use Rattle.qm_weight.specs.Weights.{clause_tree, clauses_of, term_clauses, tree_of, weighing_if, weighing_of}
use Rattle.qm_weight.specs.declared.any_weight.AnyWeight.{AnyWeight, All, Boolean', Boost', Const', Empty, Phrase, PhrasePrefix, Prefix, Term, Terms}
use Rattle.qm_weight.specs.declared.any_weight.AnyWeight.{Row_of-BooleanWeight-weights-3, end_of-BooleanWeight-weights-3, more_of-BooleanWeight-weights-3}
use Rattle.qm_weight.specs.declared.terms_weight.TermClause.{TermClause}

if-fits : (scoring : Bool) (w : OwnWeight) → WeighsScore (weighing_if scoring w)
if-fits true w = w.weight_fits
if-fits false w = tt

of-fits : (w : Option OwnWeight) → WeighsScore (weighing_of w)
of-fits None = tt
of-fits (Some w) = w.weight_fits

clause-fits : (scoring : Bool) (norms : List ℕ) (c : TermClause) → LeavesFit (clause_tree scoring norms c)
clause-fits true norms c = c.fits
clause-fits false norms c = tt

term-clauses-fit : (scoring : Bool) (norms : List ℕ) (cs : List TermClause) → ClauseLeavesFit (term_clauses scoring norms cs)
term-clauses-fit scoring norms [] = tt
term-clauses-fit scoring norms (c ∷ cs) = (clause-fits scoring norms c, term-clauses-fit scoring norms cs)

mutual
  pub leaves-fit : (w : AnyWeight) → LeavesFit (tree_of w)
  leaves-fit (All w) = tt
  leaves-fit (Empty w) = tt
  leaves-fit (Term w) = if-fits w.scoring_enabled w.similarity_weight
  leaves-fit (Terms w) = term-clauses-fit w.rule.scoring_enabled w.norms w.clauses.items
  leaves-fit (Phrase w) = of-fits w.similarity_weight
  leaves-fit (PhrasePrefix w) = of-fits w.similarity_weight
  leaves-fit (Prefix w) = tt
  leaves-fit (Boost' p inside k) = leaves-fit inside
  leaves-fit (Const' p inside s) = leaves-fit inside
  leaves-fit (Boolean' shape row rule) = clauses-fit row

  clauses-fit : {n : _} (row : Row_of-BooleanWeight-weights-3 n) → ClauseLeavesFit (clauses_of row)
  clauses-fit end_of-BooleanWeight-weights-3 = tt
  clauses-fit (more_of-BooleanWeight-weights-3 occur p inside others) = (leaves-fit inside, clauses-fit others)
