-- The scorer that leads is taken out, and the order is of no consequence.
use Rattle.std.proofs.Common.{◌≡◌, ℕ, ◌<◌, List, ◌∷◌, length, get_or, map, IsPermutation, ap, arith, subst, sym, of_z, to_z, w64}
use Rattle.std.specs.List.{swap_remove}
use Rattle.std.specs.Prelude.{All}
use Rattle.std.proofs.lemmas.Int.{to_z-of_z}
use Rattle.std.proofs.lemmas.List.Elements.{All-tail}
use Rattle.std.proofs.lemmas.List.Sorted.{All-permutation, IsPermutation-cons, IsPermutation-map, IsPermutation-refl, IsPermutation-swap_remove, IsPermutation-trans}
use Rattle.qm_combine.proofs.Leading.{held_sum-permutation}
use Rattle.qm_combine.specs.HeldSum.{held_sum}
use Rattle.qm_docset.proofs.CommonEntries.{common_entries-permutation}
use Rattle.qm_docset.specs.Entry.{Entry}
use Rattle.qm_term.specs.Conjunction.{PrunesBy, common_left}
use Rattle.qm_term.specs.Runs.{InRange, MayPrune}
use Rattle.qm_term.specs.TermScorer.{IsTermScorer, scored_left}
use Rattle.qm_term.specs.declared.norms.Norms.{Ghosts as NormGhosts}
use Rattle.qm_term.specs.declared.term_scorer.TermScorer.{TermScorer}
use Rattle.qm_term.proofs.wand.conjunction.block_wand_all.Goals as goal

-- the scorers are those that are left behind the one taken out
module _ {N : Type 0} {G : NormGhosts N} (ss rest others : List (TermScorer N G)) (i : ℕ) (s : TermScorer N G) (inside : i < length ss)
    (is : s ≡ get_or ss i s) (taken : rest ≡ swap_remove ss i s) (ordered : IsPermutation rest others) where
  moved : IsPermutation ss (s ∷ others)
  moved = IsPermutation-trans ss (s ∷ rest) (s ∷ others)
      (subst (λ (r : List (TermScorer N G)). IsPermutation ss (s ∷ r)) (sym taken) (IsPermutation-swap_remove ss i s inside is))
      (IsPermutation-cons s rest others ordered)

  still_valid : All IsTermScorer ss → All IsTermScorer (s ∷ others)
  still_valid h = All-permutation IsTermScorer ss (s ∷ others) moved h

  same_common : common_left (s ∷ others) ≡ common_left ss
  same_common = sym (common_entries-permutation held_sum (map scored_left ss) (map scored_left (s ∷ others)) held_sum-permutation
      (IsPermutation-map scored_left ss (s ∷ others) moved))

pub rarest-place-requires-clause-valid : goal.rarest-place-requires-clause-valid
rarest-place-requires-clause-valid g c = subst (All IsTermScorer) (sym c.deref.ensures.value) c.requires.valid

pub rarest-place-requires-clause-some : goal.rarest-place-requires-clause-some
rarest-place-requires-clause-some g c = omega (arith, ap length c.deref.ensures.value, c.requires.some, c.args.scorers.ok.0)

pub swap_remove-leader-requires : goal.swap_remove-leader-requires
swap_remove-leader-requires g c = omega (arith, c.rarest-place.ensures, ap length c.deref.ensures.value, c.args.scorers.ok.0)

pub bring_rarest_first-requires : goal.bring_rarest_first-requires
bring_rarest_first-requires g c =
    let ss = c.args.scorers.items in
    let inside : c.rarest-place.result < length ss = omega (arith, c.rarest-place.ensures, ap length c.deref.ensures.value) in
    let all = still_valid ss c.swap_remove-leader.new.self.items c.swap_remove-leader.new.self.items c.rarest-place.result c.swap_remove-leader.result inside
    c.swap_remove-leader.ensures.value c.swap_remove-leader.ensures.items (IsPermutation-refl c.swap_remove-leader.new.self.items) c.requires.valid in
    record {
      valid = subst (All IsTermScorer) (sym c.as_mut_slice-others.ensures.value)
          (All-tail IsTermScorer c.swap_remove-leader.result c.swap_remove-leader.new.self.items all);
    }

pub run_all-requires-clause-valid : goal.run_all-requires-clause-valid
run_all-requires-clause-valid g c =
    let ss = c.args.scorers.items in
    let inside : c.rarest-place.result < length ss = omega (arith, c.rarest-place.ensures, ap length c.deref.ensures.value) in
    let others = c.bring_rarest_first.new.scorers in
    let ordered = subst (λ l. IsPermutation l others) c.as_mut_slice-others.ensures.value c.bring_rarest_first.ensures in
    still_valid ss c.swap_remove-leader.new.self.items others c.rarest-place.result c.swap_remove-leader.result inside
    c.swap_remove-leader.ensures.value c.swap_remove-leader.ensures.items ordered c.requires.valid

pub run_all-requires-clause-callable : goal.run_all-requires-clause-callable
run_all-requires-clause-callable g c =
    let ss = c.args.scorers.items in
    let th = c.args.threshold in
    let is : to_z w64 (of_z w64 th) ≡ th = to_z-of_z w64 th c.ranges.threshold in
    let inside : c.rarest-place.result < length ss = omega (arith, c.rarest-place.ensures, ap length c.deref.ensures.value) in
    let others = c.bring_rarest_first.new.scorers in
    let ordered = subst (λ l. IsPermutation l others) c.as_mut_slice-others.ensures.value c.bring_rarest_first.ensures in
    let same = same_common ss c.swap_remove-leader.new.self.items others c.rarest-place.result c.swap_remove-leader.result inside
    c.swap_remove-leader.ensures.value c.swap_remove-leader.ensures.items ordered in
    rw is (subst (λ (l : List Entry). MayPrune (InRange (goal.F-step g)) (goal.F-pre g) th c.args.callback.now l) (sym same) c.requires.callable)

pub returns : goal.returns
returns g c =
    let ss = c.args.scorers.items in
    let th = c.args.threshold in
    let is : to_z w64 (of_z w64 th) ≡ th = to_z-of_z w64 th c.ranges.threshold in
    let inside : c.rarest-place.result < length ss = omega (arith, c.rarest-place.ensures, ap length c.deref.ensures.value) in
    let others = c.bring_rarest_first.new.scorers in
    let ordered = subst (λ l. IsPermutation l others) c.as_mut_slice-others.ensures.value c.bring_rarest_first.ensures in
    let same = same_common ss c.swap_remove-leader.new.self.items others c.rarest-place.result c.swap_remove-leader.result inside
    c.swap_remove-leader.ensures.value c.swap_remove-leader.ensures.items ordered in
    let run = rw is at c.run_all.ensures.run in
    record {
      run = subst (λ (l : List Entry). PrunesBy (goal.F-step g) l th c.args.callback.now c.run_all.result c.run_all.new.callback) same run;
    }
