-- Records in no order: how far their blocks at a document reach, and what taking one list in leaves.
use Rattle.std.proofs.Common.{◌≡◌, ◌∙◌, ℕ, zero, suc, ◌+◌, ◌<◌, ◌≤◌, List, [], ◌∷◌, ap, arith, drop, get_or, inl, inr, length, map, min, refl, set}
use Rattle.std.proofs.lemmas.Bool.{cases_lt, le-leb, lt-leb}
use Rattle.qm_docset.specs.declared.numbers.TheConstants.{TERMINATED}
use Rattle.qm_term.specs.Heads.{AreRecords, listed, no_member}
use Rattle.qm_term.specs.Members.{AreMembers, Member, end_at}
use Rattle.qm_term.specs.Pivot.{cut, head, skip, skip_by, total_top}
use Rattle.qm_term.specs.Stretches.{AreFrom, IsLookedAt}
use Rattle.qm_term.specs.declared.norms.Norms.{Ghosts as NormGhosts}
use Rattle.qm_term.specs.declared.wand.heads.Head.{Head}
use Rattle.qm_term.proofs.WandBounds.{skip-cons, skip_le_end, total-cons}
use Rattle.qm_term.proofs.WandRows.{rest_at}
use Rattle.std.proofs.Common.{leb, true, false}
use Rattle.std.proofs.lemmas.List.{get_or-map, length-map}
use Rattle.qm_term.specs.Cells.{cuts}
use Rattle.qm_term.specs.HeadRow.{AreHeads, row_lists}
use Rattle.qm_term.specs.RunScorers.{wand_member}
use Rattle.qm_term.specs.declared.wand.front.TermScorerWithMaxScore.{TermScorerWithMaxScore}
use Rattle.qm_term.proofs.RowRecords.{doc_at, row_members, zeros}
use Rattle.qm_term.proofs.StretchCuts.{cuts_all}
use Rattle.qm_docset.proofs.Gathering.{head_document-from}

-- how far a record's block at p, or its document, allows to pass
pub end_by : (ms : List Member) (hs : List Head) (p k : ℕ) (d : Head) → AreRecords ms hs → k < length hs → IsLookedAt p (get_or hs k d) → (r : ℕ) →
    ((get_or hs k d).doc ≤ p → r ≡ min ((get_or hs k d).block_end + 1) 4294967295) → (p < (get_or hs k d).doc → r ≡ (get_or hs k d).doc) →
    min TERMINATED r ≡ min TERMINATED (skip_by p (listed ms (get_or hs k d)))
end_by ms hs p k d records l known r here past =
    let h = get_or hs k d in
    let m = listed ms h in
    let is = records.each k d l in
    elim (cases_lt p h.doc) [
      | inl after ↦
          let t : leb (head m) p ≡ false = lt-leb (head m) p (omega (arith, is.doc, after)) in
          let by : skip_by p m ≡ head m = rw t (omega arith) in
          omega (arith, past after, by, is.doc)
      | inr before ↦
          let t : leb (head m) p ≡ true = le-leb (head m) p (omega (arith, is.doc, before)) in
          let k' = known before in
          let end : end_at p m.blocks ≡ h.block_end = is.end p k'.0 k'.1 in
          let by : skip_by p m ≡ suc h.block_end = rw t (ap suc end) in
          omega (arith, here before, by)
    ]

pub end_next : (ms : List Member) (hs : List Head) (p k : ℕ) (d : Head) → k < length hs → (least r new all : ℕ) → new ≡ min least r →
    min TERMINATED r ≡ min TERMINATED (skip_by p (listed ms (get_or hs k d))) → least ≤ TERMINATED →
    min least (skip p (map (listed ms) (drop k hs))) ≡ all → min new (skip p (map (listed ms) (drop (k + 1) hs))) ≡ all
end_next ms hs p k d l least r new all e by low i =
    omega (
      arith,
      ap (skip p) (rest_at (listed ms) hs k d l),
      skip-cons p (listed ms (get_or hs k d)) (map (listed ms) (drop (k + 1) hs)),
      skip_le_end p (map (listed ms) (drop (k + 1) hs)),
      e,
      by,
      low,
      i,
    )

-- ---- lists by their places

pub set_set : {X : Type 0} (xs : List X) (k : ℕ) (v w : X) → set (set xs k v) k w ≡ set xs k w
set_set [] k v w = refl
set_set (x ∷ xs) zero v w = refl
set_set (x ∷ xs) (suc k) v w = ap (λ ys. x ∷ ys) (set_set xs k v w)

pub members_from : (k : ℕ) (ms : List Member) → AreMembers ms → AreMembers (drop k ms)
members_from zero ms h = h
members_from (suc k) [] h = h
members_from (suc k) (m ∷ ms) h = members_from k ms h.1

-- the greatest scores of a list and of those behind it
pub tops_from : (ms : List Member) (k : ℕ) (d : Member) → k < length ms → (get_or ms k d).top + total_top (drop (k + 1) ms) ≤ total_top ms
tops_from [] k d l = absurd (omega arith)
tops_from (m ∷ ms) zero d l = omega (arith, total-cons (λ (x : Member). x.top) m ms)
tops_from (m ∷ ms) (suc k) d l =
    let one : suc k + 1 ≡ suc (k + 1) = omega arith in
    omega (
      arith,
      ap (λ (n : ℕ). total_top (drop n (m ∷ ms))) one,
      total-cons (λ (x : Member). x.top) m ms,
      tops_from ms k d (omega arith),
    )

-- lists none of whose records stands before a document are as they were, cut to it
pub cuts_from : {N : Type 0} {G : NormGhosts N} (ss : List (TermScorerWithMaxScore N G)) (hs : List Head) (t : ℕ) → AreHeads ss hs → AreFrom t hs → cuts t (row_lists ss hs) ≡ row_lists ss hs
cuts_from ss hs t r from =
    cuts_all t (row_lists ss hs) (row_members ss hs r) (λ k l.
    let inside : k < length hs = omega (arith, l, length-map hs (listed (map wand_member ss))) in
    omega (arith, from k zeros inside, doc_at (map wand_member ss) hs r.records k zeros inside))

-- and the records of lists that are cut to a document stand there or past it
pub from_cuts : {N : Type 0} {G : NormGhosts N} (ss ts : List (TermScorerWithMaxScore N G)) (hs gs : List Head) (t : ℕ) → AreHeads ss hs → AreHeads ts gs →
    row_lists ts gs ≡ cuts t (row_lists ss hs) → t ≤ TERMINATED → AreFrom t gs
from_cuts ss ts hs gs t r q is below = λ k d l.
    let ls = row_lists ss hs in
    let long : length gs ≡ length hs = omega (
      arith,
      ap length is,
      length-map gs (listed (map wand_member ts)),
      length-map ls (cut t),
      length-map hs (listed (map wand_member ss)),
    ) in
    let inside : k < length ls = omega (arith, l, long, length-map hs (listed (map wand_member ss))) in
    let at : get_or (row_lists ts gs) k no_member ≡ cut t (get_or ls k no_member) =
    ap (λ (xs : List Member). get_or xs k no_member) is ∙ get_or-map (cut t) ls k no_member no_member inside in
    omega (
      arith,
      doc_at (map wand_member ts) gs q.records k d l,
      ap head at,
      head_document-from t (get_or ls k no_member).entries below,
    )
