-- A row as it is made.
use Rattle.std.proofs.Common.{◌≡◌, ◌∙◌, ℕ, ◌*◌, ◌<◌, ◌≤◌, List, [], ◌∷◌, length, get_or, map, ap, arith, refl, subst, sym}
use Rattle.std.specs.Prelude.{All}
use Rattle.std.proofs.lemmas.List.{ext_get_or, get_or-map, length-map}
use Rattle.std.proofs.lemmas.List.Elements.{All-head, All-tail}
use Rattle.qm_term.specs.Heads.{AreRecords, IsRecord, first_record, listed, lists, no_member}
use Rattle.qm_term.specs.Members.{Member, total}
use Rattle.qm_term.specs.Pivot.{postings}
use Rattle.qm_term.specs.TermBlocks.{member_of}
use Rattle.qm_term.specs.TermScorer.{IsTermScorer}
use Rattle.qm_term.specs.declared.norms.Norms.{Ghosts as NormGhosts}
use Rattle.qm_term.specs.declared.term_scorer.TermScorer.{TermScorer}
use Rattle.qm_term.specs.declared.wand.heads.Head.{Head}
use Rattle.qm_term.proofs.PrunedRuns.{few_entries}
use Rattle.qm_term.proofs.RowRecords.{zeros}
use Rattle.qm_term.proofs.WandSteps.{postings-cons}

module _ (ms : List Member) (hs : List Head) (long : length hs ≡ length ms)
    (made : (j : ℕ) (d : Head) → j < length ms → get_or hs j d ≡ first_record (get_or ms j no_member) j) where
  at : (j : ℕ) (d : Head) → j < length ms → listed ms (get_or hs j d) ≡ get_or ms j no_member
  at j d l = ap (listed ms) (made j d l)

  first_is : (j : ℕ) → j < length ms → IsRecord ms (first_record (get_or ms j no_member) j)
  first_is j l = record { inside = l; doc = refl; top = refl; end = λ d from to. absurd (omega arith); bound = λ d from to. absurd (omega arith) }

  pub made_records : AreRecords ms hs
  made_records = record {
    each = λ j d l. subst (IsRecord ms) (sym (made j d (omega (arith, l, long)))) (first_is j (omega (arith, l, long)));
    apart = λ i j d less l e.
        let a : (get_or hs i d).scorer ≡ i = ap (λ (h : Head). h.scorer) (made i d (omega (arith, l, less, long))) in
        let b : (get_or hs j d).scorer ≡ j = ap (λ (h : Head). h.scorer) (made j d (omega (arith, l, long))) in
        omega (arith, a, b, e, less);
  }

  pub made_lists : lists ms hs ≡ ms
  made_lists =
      ext_get_or no_member (lists ms hs) ms (length-map hs (listed ms) ∙ long)
      (λ j l.
      let inside : j < length hs = omega (arith, l, length-map hs (listed ms)) in
      get_or-map (listed ms) hs j zeros no_member inside ∙ at j zeros (omega (arith, inside, long)))

-- ---- so many postings at most

postings-nil : postings [] ≡ 0
unfolding postings total
postings-nil = refl

pub few_postings : {N : Type 0} {G : NormGhosts N} (ss : List (TermScorer N G)) → All IsTermScorer ss → postings (map member_of ss) ≤ length ss * 2147483647
few_postings [] h = omega (arith, postings-nil)
few_postings (s ∷ ss) h =
    omega (arith, postings-cons (member_of s) (map member_of ss), few_entries s (All-head IsTermScorer s ss h), few_postings ss (All-tail IsTermScorer s ss h))
