-- The dictionary: blocks of entries, and what tells of the blocks.
use Rattle.std.specs.Prelude.{ℕ, Bool, true, ◌&&◌, if◌then◌else◌, List, [], ◌∷◌, ◌++◌, Option, None, Some, filter, option_map, option_to_list, unwrap_or}
use Rattle.std.proofs.Common.{zero, suc}
use Rattle.std.specs.Ordering.{eq_by_cmp, is_gt, is_lt}
use Rattle.qm_schema.specs.Term.{TermKey, term_cmp}
use Rattle.qm_store.specs.Entries.{Entry, Part, entry_at}
use Rattle.qm_store.specs.Numbers.{number_at}
use Rattle.qm_store.specs.Pieces.{piece_at}
use Rattle.qm_store.specs.RowBytes.{followed_by}
use Rattle.qm_store.specs.TermBytes.{term_at}
use Rattle.qm_store.specs.Wanted.{is_meant}
use Rattle.qm_store.specs.declared.dictionary_index.BlockStart.{BlockStart}
use Rattle.qm_store.specs.declared.piece.Piece.{Piece}
use Rattle.qm_store.specs.declared.wanted.Wanted.{Wanted}

-- ---- a block: how many entries it has, and these

-- so many entries, where some bytes are these and no more
abbrev pub entries_at : ℕ → List ℕ → Option (List Entry)
entries_at zero [] = Some []
entries_at zero (b ∷ bs) = None
entries_at (suc count) bs = followed_by (entry_at bs) (λ e rest. option_map (λ es. e ∷ es) (entries_at count rest))

-- the entries of a block
abbrev pub block_at : List ℕ → Option (List Entry)
block_at bs = followed_by (number_at 8 bs) entries_at

-- where the row of a term stands, by the first entry of it
abbrev pub row_with : TermKey → List Entry → Option (Part × Part)
row_with term [] = None
row_with term (e ∷ es) = if eq_by_cmp term_cmp e.term term then Some e.row else row_with term es

-- ---- what tells of the blocks: how many there are, and of each the term that it begins with, and where it stands

pub record Block : Type 0 where
  pub first : TermKey
  pub piece : Piece

-- the block that some bytes begin with the name of, and the bytes behind it
abbrev pub block_start_at : List ℕ → Option (Block × List ℕ)
block_start_at bs =
    followed_by (term_at bs) (λ t rest. followed_by (piece_at rest) (λ p rest. Some (record { first = t; piece = p }, rest)))

-- whether a term comes behind another one, if there is one
abbrev pub is_behind : Option TermKey → TermKey → Bool
is_behind None t = true
is_behind (Some s) t = is_lt (term_cmp s t)

-- whether each of some blocks begins behind the one before it, and the first one behind a term, if there is one
abbrev pub ascend : Option TermKey → List Block → Bool
ascend before [] = true
ascend before (b ∷ bs) = is_behind before b.first && ascend (Some b.first) bs

-- so many blocks, where some bytes name these and no more, and each begins behind the one before it
abbrev pub starts_at : ℕ → Option TermKey → List ℕ → Option (List Block)
starts_at zero before [] = Some []
starts_at zero before (b ∷ bs) = None
starts_at (suc count) before bs =
    followed_by (block_start_at bs) (λ start rest.
    if is_behind before start.first then option_map (λ starts. start ∷ starts) (starts_at count (Some start.first) rest) else None)

-- the blocks that an index names
abbrev pub index_at : List ℕ → Option (List Block)
index_at bs = followed_by (number_at 8 bs) (λ count rest. starts_at count None rest)

-- the last of some blocks
abbrev pub last_of : List Block → Option Block
last_of [] = None
last_of (b ∷ bs) = Some (unwrap_or (last_of bs) b)

-- the last block that begins with a term or before it
abbrev pub block_for : TermKey → List Block → Option Block
block_for term [] = None
block_for term (b ∷ bs) = if is_gt (term_cmp b.first term) then None else Some (unwrap_or (block_for term bs) b)

-- the blocks that begin behind a term
abbrev pub blocks_behind : TermKey → List Block → List Block
blocks_behind term blocks = filter (λ b. is_gt (term_cmp b.first term)) blocks

-- the blocks that may have a term that is meant: the last that begins with the wanted one or before it, and of those
-- behind it all that begin with a term that is meant
abbrev pub blocks_of : Wanted → List Block → List Block
blocks_of w blocks = option_to_list (block_for w.term blocks) ++ filter (λ b. is_meant w b.first) (blocks_behind w.term blocks)

-- ---- as the program has them

abbrev pub start_of : BlockStart → Block
start_of s = record { first = record { field = s.field; bytes = s.text.items }; piece = s.piece }
