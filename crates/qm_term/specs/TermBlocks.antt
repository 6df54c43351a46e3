-- The blocks of a term's scorer, and the list that a pruned run sees in it.
use Rattle.std.specs.Prelude.{◌≡◌, ℕ, ℤ, ◌+◌, ◌≤◌, ◌≤ℤ◌, All, List, pos}
use Rattle.qm_docset.specs.Entry.{head_document}
use Rattle.qm_postings.specs.Blocks.{looked_at}
use Rattle.qm_postings.specs.SegmentPostings.{looked_block, postings_blocks, postings_left}
use Rattle.qm_term.specs.Bm25.{bm25_bound}
use Rattle.qm_term.specs.Bm25Weight.{weighing}
use Rattle.qm_term.specs.RunCounts.{blocks_passed, calls_of, count_above}
use Rattle.qm_term.specs.Members.{Block, Member, bound_at, end_at}
use Rattle.qm_term.specs.Runs.{Plain}
use Rattle.qm_term.specs.TermScorer.{scored_by, scored_blocks, scored_left}
use Rattle.qm_term.specs.declared.norms.Norms.{Ghosts as NormGhosts}
use Rattle.qm_term.specs.declared.term_scorer.TermScorer.{TermScorer}

-- the block that it looks at
unfoldable pub scored_looked : {N : Type 0} {G : NormGhosts N} → TermScorer N G → Block
scored_looked s = scored_by s.similarity_weight s.fieldnorm_reader (looked_block s.postings)

-- what a pruned run sees in a scorer
unfoldable pub member_of : {N : Type 0} {G : NormGhosts N} → TermScorer N G → Member
member_of s = record { entries = scored_left s; blocks = scored_blocks s; top = bm25_bound (weighing s.similarity_weight) }

-- the block that it looks at with a target
abbrev pub scored_looked_at : {N : Type 0} {G : NormGhosts N} → ℕ → TermScorer N G → Block
scored_looked_at target s =
    scored_by s.similarity_weight s.fieldnorm_reader (looked_at target (head_document (postings_left s.postings)) (postings_blocks s.postings))

-- it looks at the block of its document
abbrev pub LooksHere : {N : Type 0} {G : NormGhosts N} → TermScorer N G → Type 0
LooksHere s = scored_looked s ≡ scored_looked_at 0 s

-- A block is bounded: no document that is left in the block looked at scores above this. A block is told by
-- its end, since no two end alike.
abbrev pub BoundsLooked : {N : Type 0} {G : NormGhosts N} → TermScorer N G → ℤ → Type 0
BoundsLooked s bound = All (λ e. end_at e.document (scored_blocks s) ≡ (scored_looked s).last → pos e.score ≤ℤ bound) (scored_left s)

-- The run over what a scorer has left, from a threshold on, takes the callback from f to g. It scores so many
-- documents: exactly those whose block is bounded above the threshold that is current there, and so at least
-- one for each call. Its turns are these and the blocks that it passes.
pub record PrunesTerm {F N : Type 0} {G : NormGhosts N} (call : F → ℕ → ℤ → ℤ → F → Type 0)
    (th : ℤ) (f : F) (s : TermScorer N G) (ticks turns : ℕ) (g : F) : Type 0 where
  pub thresholds : List ℤ
  pub last : ℤ
  pub calls : Plain call th f (scored_left s) thresholds last g
  pub at_least : calls_of thresholds (scored_left s) ≤ ticks
  pub at_most : ticks ≤ count_above (λ h. bound_at h.document (scored_blocks s)) thresholds (scored_left s)
  pub scored : ticks ≡ count_above (λ h. bound_at h.document (scored_blocks s)) thresholds (scored_left s)
  pub counted : turns ≡ ticks + blocks_passed (scored_blocks s) thresholds (scored_left s)
