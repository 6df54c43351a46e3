-- The scorers of terms in a pruned run, and their bounds.
use Rattle.std.specs.Prelude.{◌≡◌, ℕ, ◌≤◌, nat_le, All, List, [], ◌∷◌, filter, length, map, sum}
use Rattle.std.proofs.Common.{arith, refl, subst, sym}
use Rattle.std.proofs.lemmas.List.{length-map}
use Rattle.std.proofs.lemmas.List.Sums.{sum_by-cons}
use Rattle.qm_docset.specs.Entry.{Limits, greatest_score}
use Rattle.qm_docset.specs.Gather.{documents_below, gather, gathered, scored, scores_at}
use Rattle.qm_docset.specs.Lists.{bounds, lists}
use Rattle.qm_docset.specs.declared.docset.DocSet.{Ghosts}
use Rattle.qm_docset.specs.declared.numbers.TheConstants.{TERMINATED}
use Rattle.qm_combine.specs.HeldSum.{held_sum}
use Rattle.qm_combine.specs.Union.{total_top}
use Rattle.qm_postings.specs.Segment.{Segment}
use Rattle.qm_term.specs.Conjunction.{common_left}
use Rattle.qm_term.specs.Pivot.{total_top as total_member_top}
use Rattle.qm_term.specs.TermBlocks.{member_of}
use Rattle.qm_term.specs.TermScorer.{IsTermScorer, ScoresAs, scored_left, scored_limits}
use Rattle.qm_term.specs.TermScorerFacts.{AreEntries-scored}
use Rattle.qm_term.specs.declared.norms.Norms.{Ghosts as NormGhosts}
use Rattle.qm_term.specs.declared.term_scorer.TermScorer.{TermScorer}
use Rattle.qm_term.proofs.WandBounds.{total-cons, total-nil}
use Rattle.qm_term.proofs.WandMembers.{top-member}
use Rattle.qm_weight.specs.Scorers.{IsListOf}
use Rattle.qm_weight.specs.TermUnions.{ListTogether}
use Rattle.qm_weight.specs.Tree.{Tree}
use Rattle.qm_weight.proofs.Booleans.{held}

-- the ghost members of a term's scorer
abbrev pub of_terms : {N : Type 0} {G : NormGhosts N} → Ghosts (TermScorer N G)
of_terms = record { entries = scored_left; limits = scored_limits; keeps = ScoresAs; placed = λ _. Unit {0}; valid = IsTermScorer }

-- the bounds of terms as members of a run are those of their scorers
pub tops-members : {N : Type 0} {G : NormGhosts N} (ss : List (TermScorer N G)) → total_member_top (map member_of ss) ≡ total_top (map scored_limits ss)
tops-members [] = total-nil (λ m. m.top)
tops-members (s ∷ ss) =
    omega (
      arith,
      total-cons (λ m. m.top) (member_of s) (map member_of ss),
      top-member s,
      tops-members ss,
      sum_by-cons (λ (l : Limits). l.top) (scored_limits s) (map scored_limits ss),
    )

-- where their bounds together are a score, so is the sum of the scores of each document that all have
common-summed : {N : Type 0} {G : NormGhosts N} (ss : List (TermScorer N G)) → All IsTermScorer ss → total_top (bounds of_terms ss) ≤ greatest_score →
    common_left ss ≡ gather (length ss) sum (lists of_terms ss)
unfolding gather gathered
common-summed ss valid fits =
    let ess = lists of_terms ss in
    let same : (d : ℕ) → held_sum (scores_at d ess) ≡ sum (scores_at d ess) =
    λ d. held of_terms (λ s h. AreEntries-scored s h) ss d (scores_at d ess) valid fits refl in
    let many = length-map ss scored_left in
    λ i. map (λ d. scored d (same d i)) (filter (λ d. nat_le (many i) (length (scores_at d ess))) (documents_below TERMINATED))

-- so where they list together what a tree does, what all have is the list of the tree
pub common-listed : {N : Type 0} {G : NormGhosts N} (tree : Tree) (b : ℕ) (segment : Segment) (ss : List (TermScorer N G)) →
    ListTogether of_terms (length ss) sum tree b segment ss → total_top (bounds of_terms ss) ≤ greatest_score → IsListOf tree b segment (common_left ss)
common-listed tree b segment ss h fits = subst (IsListOf tree b segment) (sym (common-summed ss h.placed.valid fits)) h.list
