-- The pivot at a threshold, its blocks, and how far they reach. All of it is about lists.
use Rattle.std.specs.Prelude.{ℕ, ℤ, ◌<◌, ◌≤◌, ◌<ℤ◌, ◌≤ℤ◌, ◌≡◌, ◌==◌, ◌&&◌, List, [], ◌∷◌, ◌++◌, nat_le, nat_lt, cond}
use Rattle.std.specs.Prelude.{Bool, true, false, suc, pos, min, max, length, drop, map, ◌⊎◌}
use Rattle.std.specs.List.Sorted.{IsPermutation}
use Rattle.qm_docset.specs.declared.numbers.TheConstants.{TERMINATED}
use Rattle.qm_term.specs.Members.{Block, Member, end_at, bound_at, total, scores_of, united, lists_of}
use Rattle.qm_term.specs.Runs.{Plain, Turn}
use Rattle.qm_term.specs.RunCounts.{calls_of, count_above}
use Rattle.qm_docset.specs.Entry.{Entry, from, head_document, head_score}
use Rattle.qm_docset.specs.Gather.{IsBare}
use Rattle.qm_docset.specs.Exclusion.{has_document}

-- the first document of a list
abbrev pub head : Member → ℕ
head m = head_document m.entries

-- the bound of the block that has d in this list, or 0
abbrev pub bound_in : ℕ → Member → ℕ
bound_in d m = cond (has_document m.entries d) (bound_at d m.blocks) 0

-- the sum of the bounds of the blocks that have d
abbrev pub blockbound : ℕ → List Member → ℕ
blockbound d ms = total (bound_in d) ms

-- some list has d
abbrev pub Held : ℕ → List Member → Type 0
Held d [] = ⊥
Held d (m ∷ ms) = (has_document m.entries d ≡ true) ⊎ Held d ms

-- d is some list's head
abbrev pub IsHead : ℕ → List Member → Type 0
IsHead d [] = ⊥
IsHead d (m ∷ ms) = (head m ≡ d) ⊎ IsHead d ms

-- the greatest score of a list whose head is at or before a document, and else 0
abbrev pub top_by : ℕ → Member → ℕ
top_by d m = cond (nat_le (head m) d) m.top 0

-- the sum of the tops of the lists with head at or before d
abbrev pub reach : ℕ → List Member → ℕ
reach d ms = total (top_by d) ms

-- p is the least head such that the lists with head at or before it reach past the threshold
pub record IsPivot (th : ℤ) (ms : List Member) (p : ℕ) : Type 0 where
  pub below_end : p < TERMINATED
  pub is_head : IsHead p ms
  pub reaches : th <ℤ pos (reach p ms)
  pub least : (q : ℕ) → q < p → IsHead q ms → pos (reach q ms) ≤ℤ th

-- there is no pivot
abbrev pub NoPivot : ℤ → List Member → Type 0
NoPivot th ms = (q : ℕ) → q < TERMINATED → IsHead q ms → pos (reach q ms) ≤ℤ th

-- the sum of the bounds of the pivot's blocks
abbrev pub pivot_bound : ℕ → Member → ℕ
pivot_bound p m = cond (nat_le (head m) p) (bound_at p m.blocks) 0

-- the sum of these over several lists
abbrev pub pivot_bounds : ℕ → List Member → ℕ
pivot_bounds p ms = total (pivot_bound p) ms

-- the least of one past the ends of the pivot's blocks, the heads past p, and TERMINATED
abbrev pub skip_by : ℕ → Member → ℕ
skip_by p m = cond (nat_le (head m) p) (suc (end_at p m.blocks)) (head m)

unfoldable pub skip : ℕ → List Member → ℕ
skip p [] = TERMINATED
skip p (m ∷ ms) = min (skip_by p m) (skip p ms)

-- a list cut to what is at or past t
abbrev pub cut : ℕ → Member → Member
cut t m = record { entries = from t m.entries; blocks = m.blocks; top = m.top }

-- some of the lists are cut to t
abbrev pub AreCut : ℕ → List Member → List Member → Type 0
AreCut t [] [] = Unit {0}
AreCut t [] (n ∷ ns) = ⊥
AreCut t (m ∷ ms) [] = ⊥
AreCut t (m ∷ ms) (n ∷ ns) = ((n ≡ m) ⊎ (n ≡ cut t m)) × AreCut t ms ns

-- how many postings remain
unfoldable pub postings : List Member → ℕ
postings ms = total (λ m. length m.entries) ms

-- a list without its first entry
abbrev pub next : Member → Member
next m = record { entries = drop 1 m.entries; blocks = m.blocks; top = m.top }

-- the sum of all greatest scores
abbrev pub total_top : List Member → ℕ
total_top ms = total (λ m. m.top) ms

-- a list that is at or before p, cut to p, and cut past p
abbrev pub to : ℕ → Member → Member
to p m = cond (nat_lt (head m) p) (cut p m) m

-- a list that is at or before p, cut past p
abbrev pub past : ℕ → Member → Member
past p m = cond (nat_le (head m) p) (next m) m

-- the score that a list has for p where its head is at or before p, and these scores of several lists
abbrev pub front : ℕ → Member → List ℕ
front p m = cond (nat_le (head m) p) (head_score m.entries ∷ []) []

unfoldable pub front_scores : ℕ → List Member → List ℕ
front_scores p [] = []
front_scores p (m ∷ ms) = front p m ++ front_scores p ms

-- whether each list with head at or before p has p
abbrev pub on : ℕ → Member → Bool
on p m = cond (nat_lt (head m) p) (head (cut p m) == p) true

unfoldable pub all_on : ℕ → List Member → Bool
all_on p [] = true
all_on p (m ∷ ms) = on p m && all_on p ms

-- the two lists of lists have the same documents, with the same scores and bounds, from t on, and nothing before t is above
-- the threshold in either
pub record Passes (th : ℤ) (t : ℕ) (ms ns : List Member) : Type 0 where
  pub scores : (d : ℕ) → t ≤ d → scores_of d ns ≡ scores_of d ms
  pub bounds : (d : ℕ) → t ≤ d → blockbound d ns ≡ blockbound d ms
  pub low : (d : ℕ) → d < t → Held d ms → pos (blockbound d ms) ≤ℤ th
  pub lower : (d : ℕ) → d < t → Held d ns → pos (blockbound d ns) ≤ℤ th

-- a step that scores p: nothing before p is above the threshold, p's blocks are, and what is left lies past p
pub record Scores (th : ℤ) (p : ℕ) (ms ns : List Member) : Type 0 where
  pub held : Held p ms
  pub worth : th <ℤ pos (blockbound p ms)
  pub low : (d : ℕ) → d < p → Held d ms → pos (blockbound d ms) ≤ℤ th
  pub rest : IsBare 1 (suc p) (lists_of ns)
  pub scores : (d : ℕ) → suc p ≤ d → scores_of d ns ≡ scores_of d ms
  pub bounds : (d : ℕ) → suc p ≤ d → blockbound d ns ≡ blockbound d ms

-- one list with head at or before p is cut to t
abbrev pub CutOne : ℕ → ℕ → List Member → List Member → Type 0
CutOne p t [] ns = ⊥
CutOne p t (m ∷ ms) [] = ⊥
CutOne p t (m ∷ ms) (n ∷ ns) = ((n ≡ cut t m) × (head m ≤ p) × (ns ≡ ms)) ⊎ ((n ≡ m) × CutOne p t ms ns)

-- one list is cut as far as the pivot's blocks reach, and then they are put in order
abbrev pub SkipsOne : ℕ → List Member → List Member → Type 0
SkipsOne p ms ns = (xs : List Member) × CutOne p (skip p ms) ms xs × IsPermutation xs ns

-- some lists before the pivot are cut to it, none of which has it then, and all are put in order
abbrev pub AlignsSome : ℕ → List Member → List Member → Type 0
AlignsSome p ms ns = (xs : List Member) × AreCut p ms xs × (postings xs < postings ms) × IsPermutation xs ns

-- what a turn at the pivot p does to the lists, the threshold and the callback, and whether it ticks
module _ {F : Type 0} (call : F → ℕ → ℤ → ℤ → F → Type 0) (combined : List ℕ → ℕ)
    (th : ℤ) (f : F) (ms : List Member) (th' : ℤ) (g : F) (ns : List Member) (ticked : Bool) (p : ℕ) where
  -- neither the threshold nor the callback changed, and nothing was scored
  abbrev pub Quiet : Type 0
  Quiet = (th' ≡ th) × (g ≡ f) × (ticked ≡ false)

  -- the pivot's blocks are not above the threshold: one list is cut
  pub record Skips : Type 0 where
    pub bounds : pos (pivot_bounds p ms) ≤ℤ th
    pub quiet : Quiet
    pub lists : CutOne p (skip p ms) ms ns
    pub passes : Passes th (skip p ms) ms ns

  -- they are, and some of the lists before the pivot are cut to it
  pub record Aligns : Type 0 where
    pub bounds : th <ℤ pos (pivot_bounds p ms)
    pub quiet : Quiet
    pub lists : AreCut p ms ns
    pub passes : Passes th p ms ns

  -- all have it: it is scored, and they are cut past it
  pub record Ticks : Type 0 where
    pub bounds : th <ℤ pos (pivot_bounds p ms)
    pub lists : ns ≡ map (past p) (map (to p) ms)
    pub all_are_on : all_on p ms ≡ true
    pub tick : ticked ≡ true
    pub turn : Turn call th f p (pos (combined (scores_of p ms))) th' g
    pub scores : Scores th p ms ns

  -- a turn at the pivot: a skip, a step to the pivot, or a tick
  abbrev pub IsTurn : Type 0
  IsTurn = Skips ⊎ (Aligns ⊎ Ticks)

-- a turn that finds no pivot leaves the lists, the threshold and the callback as they were
pub record LeavesAll {F : Type 0} (th : ℤ) (f : F) (ms : List Member) (th' : ℤ) (g : F) (ns : List Member) : Type 0 where
  pub none : NoPivot th ms
  pub lists : ns ≡ ms
  pub threshold : th' ≡ th
  pub callback : g ≡ f

-- a turn at a pivot: what it makes of the lists, which are then put in order, has fewer postings
pub record TakesTurn {F : Type 0} (call : F → ℕ → ℤ → ℤ → F → Type 0) (combined : List ℕ → ℕ)
    (th : ℤ) (f : F) (ms : List Member) (th' : ℤ) (g : F) (ns : List Member) (ticked : Bool) : Type 0 where
  pub pivot : ℕ
  pub lists : List Member
  pub found : IsPivot th ms pivot
  pub fewer : postings ns < postings ms
  pub order : IsPermutation lists ns
  pub turn : IsTurn call combined th f ms th' g lists ticked pivot

-- a number that is read of each document of U
abbrev pub bound_of : List Member → Entry → ℕ
bound_of ms e = blockbound e.document ms

module _ {F : Type 0} (call : F → ℕ → ℤ → ℤ → F → Type 0) (combined : List ℕ → ℕ) where
  -- a run over U from here on, with k ticks: at least its calls, and at most the documents whose blocks are
  -- above the threshold there
  abbrev pub Pruned : ℤ → F → List Member → ℕ → ℤ → F → Type 0
  Pruned th f ms k last h =
      (ths : List ℤ) × Plain call th f (united combined ms) ths last h
      × (calls_of ths (united combined ms) ≤ k) × (k ≤ count_above (bound_of ms) ths (united combined ms))

-- the block looked at with this target: from the current document's block on, the first that ends at or past
-- the target; none past the end
abbrev pub block_at : ℕ → List Block → Block
block_at d bs = record { last = end_at d bs; bound = bound_at d bs }

-- no block: it ends at the end, and bounds by 0
abbrev pub no_block : Block
no_block = record { last = TERMINATED; bound = 0 }

-- the block that a list looks at with a target; none past the end
abbrev pub looked_at : ℕ → Member → Block
looked_at t m = cond (nat_lt (head m) TERMINATED) (block_at (max t (head m)) m.blocks) no_block
