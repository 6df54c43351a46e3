-- No more documents are counted than there are postings.
use Rattle.std.proofs.Common.{ℕ, ℤ, suc, ◌+◌, ◌≤◌, ◌≡◌, List, [], ◌∷◌, length, length-append, ap, arith, refl, inl, inr, zero}
use Rattle.std.specs.List.{range_with_len}
use Rattle.std.proofs.lemmas.Bool.{cases_lt, cases_order}
use Rattle.std.proofs.lemmas.List.{length-map}
use Rattle.qm_combine.specs.Windowed.{scores_of as scores_in}
use Rattle.qm_term.specs.RunCounts.{count_above}
use Rattle.qm_term.specs.Members.{Member, scores_of, total, united, lists_of}
use Rattle.qm_term.specs.Pivot.{postings}
use Rattle.qm_term.proofs.WandPlain.{at_most_one}
use Rattle.qm_docset.specs.EntryFacts.{from-zero, from-keep, from-nil, from-skip}
use Rattle.qm_docset.specs.Gather.{documents_below, gathered, entries_of, gather}
use Rattle.qm_docset.specs.GatherFacts.{gathered-keep, gathered-nil, gathered-skip, entries_of-here, entries_of-nil, entries_of-other, scores_at-cons}
use Rattle.qm_docset.specs.GatherFacts.{scores_at-nil}
use Rattle.qm_docset.specs.Entry.{Entry, from}
use Rattle.qm_docset.specs.declared.numbers.TheConstants.{TERMINATED}
use Rattle.qm_term.proofs.WandBounds.{total-cons, total-nil}

pub count_le : (f : Entry → ℕ) (ths : List ℤ) (l : List Entry) → count_above f ths l ≤ length l
unfolding count_above
count_le f [] l = omega arith
count_le f (t ∷ ths) [] = omega arith
count_le f (t ∷ ths) (e ∷ l) = omega (arith, at_most_one t (f e), count_le f ths l)

-- behind a document a list has less by what it says of it
one_less : (a : ℕ) (es : List Entry) → length (entries_of a es) + length (from (a + 1) es) ≤ length (from a es)
one_less a [] = omega (arith, ap length (entries_of-nil a), ap length (from-nil (a + 1)))
one_less a (e ∷ es) =
    let rest = one_less a es in
    elim (cases_order e.document a) [
      | inl here ↦ omega (
        arith,
        rest,
        ap length (entries_of-here a e es here),
        ap length (from-skip (a + 1) e es (omega arith)),
        ap length (from-keep a e es (omega arith)),
      )
      | inr apart ↦
          let other = ap length (entries_of-other a e es (elim apart [ inl less ↦ omega arith | inr more ↦ omega arith ])) in
          elim apart [
            | inl less ↦ omega (arith, rest, other, ap length (from-skip (a + 1) e es (omega arith)), ap length (from-skip a e es less))
            | inr more ↦ omega (arith, rest, other, ap length (from-keep (a + 1) e es (omega arith)), ap length (from-keep a e es (omega arith)))
          ]
    ]

-- how many entries the lists have from a document on
abbrev left : ℕ → List Member → ℕ
left a ms = total (λ m. length (from a m.entries)) ms

fewer : (a : ℕ) (ms : List Member) → length (scores_of a ms) + left (a + 1) ms ≤ left a ms
fewer a [] = omega (arith, ap length (scores_at-nil a), total-nil (λ m. length (from (a + 1) m.entries)))
fewer a (m ∷ ms) =
    omega (
      arith,
      ap length (scores_at-cons a m.entries (lists_of ms)),
      length-append (scores_in a m.entries) (scores_of a ms),
      length-map (entries_of a m.entries) (λ e. e.score),
      total-cons (λ x. length (from (a + 1) x.entries)) m ms,
      total-cons (λ x. length (from a x.entries)) m ms,
      one_less a m.entries,
      fewer a ms,
    )

module _ (combined : List ℕ → ℕ) (ms : List Member) where
  length-gathered : (a n : ℕ) → length (gathered 1 combined (range_with_len a n) (lists_of ms)) ≤ left a ms
  length-gathered a zero = omega (arith, ap length (gathered-nil 1 combined (lists_of ms)))
  length-gathered a (suc n) =
      let ds = range_with_len (a + 1) n in
      let rest = length-gathered (a + 1) n in
      elim (cases_lt (length (scores_of a ms)) 1) [
        | inl few ↦ omega (arith, ap length (gathered-skip 1 combined a ds (lists_of ms) few), rest, fewer a ms)
        | inr enough ↦ omega (arith, ap length (gathered-keep 1 combined a ds (lists_of ms) enough), rest, fewer a ms)
      ]

  -- U has no more documents than the lists together
  pub length-united : length (united combined ms) ≤ left 0 ms
  unfolding gather documents_below
  length-united = length-gathered 0 TERMINATED

pub left_all : (ms : List Member) → left 0 ms ≡ postings ms
unfolding postings total
left_all [] = refl
left_all (m ∷ ms) = omega (arith, ap length (from-zero m.entries), left_all ms)
