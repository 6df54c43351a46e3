-- The run over one list: what a turn of it does, and what it counts.
use Rattle.std.specs.Prelude.{◌≡◌, ℕ, ℤ, ◌+◌, ◌<◌, ◌≤◌, ◌<ℤ◌, ◌≤ℤ◌, ◌++◌, suc, pos, All, List, drop, length, replicate, take, ◌⊎◌}
use Rattle.qm_docset.specs.declared.numbers.TheConstants.{TERMINATED}
use Rattle.qm_term.specs.RunCounts.{NoneAbove, blocks_passed, count_above}
use Rattle.qm_term.specs.Members.{Member, bound_at, end_at}
use Rattle.qm_term.specs.Pivot.{cut, head, next}
use Rattle.qm_term.specs.Runs.{Turn, Plain}
use Rattle.qm_docset.specs.Entry.{below, from, head_document, head_score}

-- no block from the current document's on up to a document has a bound above the threshold
abbrev pub IsQuietTo : ℤ → ℕ → Member → Type 0
IsQuietTo th end m = (d : ℕ) → head m ≤ d → d ≤ end → pos (bound_at d m.blocks) ≤ℤ th

-- So many blocks end before a target, at a threshold that is above none of them: a run at this threshold as
-- far as the target, and with others from there on, passes these and what it passes from there on.
abbrev pub PassesBlocks : ℤ → ℕ → ℕ → Member → Type 0
PassesBlocks th target n m = (ths : List ℤ) →
    blocks_passed m.blocks (replicate (length (below target m.entries)) th ++ ths) m.entries ≡ n + blocks_passed m.blocks ths (from target m.entries)

-- Each block has a document: where one ends before the end, from the current document's on, there is a
-- document behind it, which is no further than the next block.
abbrev pub FillsBlocks : Member → Type 0
FillsBlocks m = (end : ℕ) → head m ≤ end → end < TERMINATED → end_at end m.blocks ≡ end →
    (head_document (from (suc end) m.entries) < TERMINATED) × (head_document (from (suc end) m.entries) ≤ end_at (suc end) m.blocks)

-- a list without its first so many documents
abbrev pub behind : ℕ → Member → Member
behind count m = record { entries = drop count m.entries; blocks = m.blocks; top = m.top }

-- The first so many documents of a list stand before an end and do not score above the threshold; n is what is left.
pub record PassesLow (th : ℤ) (end count : ℕ) (m n : Member) : Type 0 where
  pub most : count ≤ length m.entries
  pub list : n ≡ behind count m
  pub before : All (λ e. e.document < end) (take count m.entries)
  pub low : NoneAbove th (take count m.entries)

-- a turn over one list, with so many documents scored, counted as so many: blocks are passed, or its first documents
-- are scored
module _ {F : Type 0} (call : F → ℕ → ℤ → ℤ → F → Type 0) (th : ℤ) (f : F) (m : Member)
    (th' : ℤ) (g : F) (n : Member) (ticks turns : ℕ) where
  -- a turn that passes so many blocks, none of which has a bound above the threshold
  pub record PassesQuiet : Type 0 where
    pub quiet : (th' ≡ th) × (g ≡ f) × (ticks ≡ 0)
    pub target : ℕ
    pub list : n ≡ cut target m
    pub low : (d : ℕ) → head m ≤ d → d < target → pos (bound_at d m.blocks) ≤ℤ th
    pub blocks : PassesBlocks th target turns m

  -- a turn that scores the first document, whose block's bound is above the threshold
  pub record ScoresFirst : Type 0 where
    pub one : (ticks ≡ 1) × (turns ≡ 1)
    pub above : th <ℤ pos (bound_at (head m) m.blocks)
    pub list : n ≡ next m
    pub turn : Turn call th f (head m) (pos (head_score m.entries)) th' g

  -- a turn that scores the first so many documents: their blocks' bounds are above the threshold, and none of them is
  pub record ScoresLow : Type 0 where
    pub same : (th' ≡ th) × (g ≡ f) × (ticks ≡ turns)
    pub end : ℕ
    pub passed : PassesLow th end turns m n
    pub above : (d : ℕ) → head m ≤ d → d < end → th <ℤ pos (bound_at d m.blocks)

  -- a turn: one of these three
  abbrev pub IsSingle : Type 0
  IsSingle = PassesQuiet ⊎ ScoresFirst ⊎ ScoresLow

-- The run over one list, from a threshold on, takes the callback from f to g: it scores exactly the documents
-- whose block is bounded above the threshold that is current there, and its turns are these and the blocks
-- that it passes.
pub record PrunesList {F : Type 0} (call : F → ℕ → ℤ → ℤ → F → Type 0)
    (th : ℤ) (f : F) (m : Member) (ticks turns : ℕ) (last : ℤ) (g : F) : Type 0 where
  pub thresholds : List ℤ
  pub calls : Plain call th f m.entries thresholds last g
  pub scored : ticks ≡ count_above (λ e. bound_at e.document m.blocks) thresholds m.entries
  pub counted : turns ≡ ticks + blocks_passed m.blocks thresholds m.entries
