-- Runs over the lists of scorers are runs over what they have left.
use Rattle.std.proofs.Common.{◌≡◌, ℕ, ℤ, ◌+◌, ◌≤◌, List, length, map, ap, sym, subst, arith}
use Rattle.qm_docset.specs.Entry.{Entry}
use Rattle.qm_docset.specs.EntryFacts.{length-entries}
use Rattle.qm_docset.specs.declared.numbers.TheConstants.{TERMINATED}
use Rattle.qm_term.specs.RunCounts.{calls_of, count_above}
use Rattle.qm_term.specs.Members.{bound_at, united, lists_of}
use Rattle.qm_term.specs.Pivot.{Pruned, bound_of}
use Rattle.qm_term.specs.TermBlocks.{PrunesTerm, member_of}
use Rattle.qm_term.specs.SingleRun.{PrunesList}
use Rattle.qm_term.specs.TermScorer.{IsTermScorer, scored_blocks, scored_left, scored_limits}
use Rattle.qm_term.specs.TermScorerFacts.{AreEntries-scored}
use Rattle.qm_term.specs.declared.norms.Norms.{Ghosts as NormGhosts}
use Rattle.qm_term.specs.declared.term_scorer.TermScorer.{TermScorer}
use Rattle.qm_term.specs.WandRun.{PrunesTerms, terms_left}
use Rattle.qm_term.proofs.BlocksLeft.{some_left}
use Rattle.qm_term.proofs.BlocksPassed.{passed_blocks}
use Rattle.qm_term.proofs.WandMembers.{IsMember-scorer}
use Rattle.qm_term.proofs.WandPlain.{count_more}
use Rattle.qm_term.proofs.WandSingle.{each_after}
use Rattle.qm_term.specs.Runs.{MayPrune, Plain}
use Rattle.qm_docset.specs.Gather.{gather}
use Rattle.qm_docset.specs.ListFacts.{map-map}

module _ {F : Type 0} (call : F → ℕ → ℤ → ℤ → F → Type 0) {N : Type 0} {G : NormGhosts N} (s : TermScorer N G) (h : IsTermScorer s) where
  -- a run over the list of a scorer is one over what it has left
  pub PrunesTerm-list : (th last : ℤ) (f g : F) (k turns : ℕ) → PrunesList call th f (member_of s) k turns last g → PrunesTerm call th f s k turns g
  unfolding member_of
  PrunesTerm-list th last f g k turns r =
      let is = IsMember-scorer s h in
      let bound : Entry → ℕ = λ e. bound_at e.document (scored_blocks s) in
      let scores : calls_of r.thresholds (scored_left s) ≤ count_above bound r.thresholds (scored_left s) =
      count_more (λ e. e.score) bound r.thresholds (scored_left s)
      (each_after (λ e. e.score ≤ bound e) 0 is.limits (scored_blocks s) (scored_left s) is.entries is.bounded (λ e _ bounded. bounded)) in
      record {
        thresholds = r.thresholds;
        last = last;
        calls = r.calls;
        at_least = omega (arith, scores, r.scored);
        at_most = omega (arith, r.scored);
        scored = r.scored;
        counted = r.counted;
      }

  -- it passes no more blocks than there are
  pub few_turns : (th : ℤ) (f g : F) (k turns : ℕ) → PrunesTerm call th f s k turns g → turns ≤ k + length (scored_blocks s)
  few_turns th f g k turns r =
      omega (
        arith,
        r.counted,
        passed_blocks (scored_blocks s) r.thresholds (scored_limits s) (scored_left s) (AreEntries-scored s h) (λ some. some_left s h some),
      )

  pub MayPrune-term : (allowed : F → ℕ → ℤ → Type 0) (th : ℤ) (f : F) →
      MayPrune call allowed th f (scored_left s) → MayPrune call allowed th f (member_of s).entries
  unfolding member_of
  MayPrune-term allowed th f p = p

pub few_entries : {N : Type 0} {G : NormGhosts N} (s : TermScorer N G) → IsTermScorer s → length (member_of s).entries ≤ TERMINATED
unfolding member_of
few_entries s h = omega (arith, length-entries 0 (scored_limits s) (scored_left s) (omega arith) (AreEntries-scored s h))

-- ---- several scorers

lists_scorers : {N : Type 0} {G : NormGhosts N} (ss : List (TermScorer N G)) → lists_of (map member_of ss) ≡ map scored_left ss
unfolding member_of
lists_scorers ss = map-map (λ m. m.entries) member_of ss

module _ {F N : Type 0} {G : NormGhosts N} (call : F → ℕ → ℤ → ℤ → F → Type 0) (combined : List ℕ → ℕ) (ss : List (TermScorer N G)) where
  -- U of their lists is what they have left together
  united_scorers : united combined (map member_of ss) ≡ terms_left combined ss
  united_scorers = ap (gather 1 combined) (lists_scorers ss)

  -- a run over their lists is one over what they have left together
  pub PrunesTerms-pruned : (th last : ℤ) (f g : F) (k : ℕ) → Pruned call combined th f (map member_of ss) k last g → PrunesTerms call combined th f ss k g
  PrunesTerms-pruned th last f g k p = record {
    thresholds = p.0;
    last = last;
    calls = subst (λ (es : List Entry). Plain call th f es p.0 last g) united_scorers p.1;
    at_least = omega (arith, p.2, ap (calls_of p.0) united_scorers);
    at_most = omega (arith, p.3, ap (count_above (bound_of (map member_of ss)) p.0) united_scorers);
  }

  pub MayPrune-terms : (allowed : F → ℕ → ℤ → Type 0) (th : ℤ) (f : F) →
      MayPrune call allowed th f (terms_left combined ss) → MayPrune call allowed th f (united combined (map member_of ss))
  MayPrune-terms allowed th f p = subst (λ (es : List Entry). MayPrune call allowed th f es) (sym united_scorers) p
