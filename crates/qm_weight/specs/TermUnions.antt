-- Clauses that are terms, and the cursors of these terms.
use Rattle.std.specs.Prelude.{◌≡◌, ℕ, ◌≤◌, Bool, All, List, [], ◌∷◌, Option, None, Some, if◌then◌else◌, map}
use Rattle.qm_docset.specs.Entry.{greatest_score}
use Rattle.qm_docset.specs.Gather.{gather}
use Rattle.qm_docset.specs.Lists.{ArePlaced, bounds, lists}
use Rattle.qm_docset.specs.declared.docset.DocSet.{Ghosts}
use Rattle.qm_combine.specs.Union.{total_top}
use Rattle.qm_postings.specs.Segment.{Segment}
use Rattle.qm_schema.specs.declared.occur.Occur.{Occur}
use Rattle.qm_schema.specs.declared.occur.Occur.TheVariants.{Should}
use Rattle.qm_scorer.specs.AnyCombiner.{any_combined}
use Rattle.qm_scorer.specs.declared.any_combiner.AnyCombiner.{AnyCombiner}
use Rattle.qm_term.specs.Bm25.{Weighing}
use Rattle.qm_weight.specs.LeafScorers.{IsLeafOf}
use Rattle.qm_weight.specs.Scorers.{IsListOf}
use Rattle.qm_weight.specs.Tree.{Clauses, Fits, Tree}
use Rattle.qm_weight.specs.Weights.{clause_occur, clause_tree, term_clauses}
use Rattle.qm_weight.specs.declared.terms_weight.TermClause.{TermClause}
use Rattle.qm_weight.specs.declared.terms_weight.TermsWeight.{TermsWeight}
use Rattle.qm_weight.specs.declared.terms_weight.clause_in.ClauseIn.{ClauseIn}

-- ---- the clauses of a weight of terms

abbrev pub clauses_in : TermsWeight → Clauses
clauses_in w = term_clauses w.rule.scoring_enabled w.norms w.clauses.items

-- a clause by the norms of its weight
abbrev pub clause_tree_in : TermsWeight → TermClause → Tree
clause_tree_in w c = clause_tree w.rule.scoring_enabled w.norms c

-- all clauses, in order
abbrev pub trees_in : TermsWeight → List Tree
trees_in w = map (clause_tree_in w) w.clauses.items

abbrev pub tree_in : ClauseIn → Tree
tree_in c = clause_tree_in c.weight.now c.clause.now

abbrev pub occur_in : ClauseIn → Occur
occur_in c = clause_occur c.clause.now

abbrev pub is_scored_in : ClauseIn → Bool
is_scored_in c = c.weight.now.rule.scoring_enabled

-- what its term weighs at a boost, which is 0 where scoring is off
abbrev pub clause_weighing : ClauseIn → ℕ → Weighing
clause_weighing c b = record { weight = c.clause.now.weight; norms = c.weight.now.norms; boost = if is_scored_in c then b else 0 }

-- all terms occur so
abbrev pub AreAll : Occur → List TermClause → Type 0
AreAll occur clauses = All (λ c. clause_occur c ≡ occur) clauses

-- all terms should match, and one of them is enough
pub record IsTermUnion (weight : TermsWeight) : Type 0 where
  pub least : weight.rule.minimum_number_should_match ≤ 1
  pub should : AreAll Should weight.clauses.items

-- scores are combined as this combiner combines them
abbrev pub CombinesAs : AnyCombiner → (List ℕ → ℕ) → Type 0
CombinesAs combiner combined = (scores : List ℕ) → combined scores ≡ any_combined combiner scores

-- ---- the cursors

-- those of several trees, in order
abbrev pub AreFound : {S : Type 0} → Ghosts S → ℕ → Segment → List Tree → List (Option S) → Type 0
AreFound D b segment [] [] = Unit {0}
AreFound D b segment [] (s ∷ found) = ⊥
AreFound D b segment (tree ∷ trees) [] = ⊥
AreFound D b segment (tree ∷ trees) (s ∷ found) = IsLeafOf D tree b segment s × AreFound D b segment trees found

-- those that are there
abbrev pub there : {S : Type 0} → List (Option S) → List S
there [] = []
there (None ∷ found) = there found
there (Some s ∷ found) = s ∷ there found

-- the cursors of those trees that are there, in order
abbrev pub AreTreeCursors : {S : Type 0} → Ghosts S → List Tree → ℕ → Segment → List S → Type 0
AreTreeCursors {S} D trees b segment cursors = (found : List (Option S)) × AreFound D b segment trees found × (cursors ≡ there found)

-- placed cursors: what at least so many of them have, each document with what is made of its scores, is the list of the
-- tree, and their bounds together are a score where the tree fits
pub record ListTogether {S : Type 0} (D : Ghosts S) (least : ℕ) (combined : List ℕ → ℕ)
    (tree : Tree) (b : ℕ) (segment : Segment) (cursors : List S) : Type 0 where
  pub placed : ArePlaced D cursors
  pub list : IsListOf tree b segment (gather least combined (lists D cursors))
  pub within : Fits tree b → total_top (bounds D cursors) ≤ greatest_score
