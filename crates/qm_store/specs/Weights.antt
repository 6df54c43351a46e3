-- What terms weigh, as bytes: how many are told of, and of each the term and its weight; the terms ascend.
use Rattle.std.specs.Prelude.{ℕ, ◌<◌, ◌^◌, Bool, if◌then◌else◌, List, [], ◌++◌, Option, None, Some}
use Rattle.std.specs.Int.{w64, to_le_bytes}
use Rattle.std.specs.List.{list_all}
use Rattle.std.specs.Ordering.{is_lt}
use Rattle.qm_schema.specs.Term.{TermKey, term_cmp}
use Rattle.qm_store.specs.Items.{counted, items_at}
use Rattle.qm_store.specs.Numbers.{number_at}
use Rattle.qm_store.specs.RowBytes.{followed_by}
use Rattle.qm_store.specs.TermBytes.{IsSomeTerm, term_at, term_bytes}
use Rattle.qm_store.specs.Words.{word_at}

-- a term that a program can have, and a weight of eight bytes
pub record IsWeight (w : TermKey × ℕ) : Type 0 where
  pub term : IsSomeTerm w.0
  pub fits : w.1 < 2 ^ 64

abbrev pub weight_bytes : TermKey × ℕ → List ℕ
weight_bytes w = term_bytes w.0 ++ to_le_bytes w64 w.1

-- whether a term stands behind all that were told of
abbrev pub is_last : List (TermKey × ℕ) → TermKey → Bool
is_last front t = list_all (λ w. is_lt (term_cmp w.0 t)) front

-- the term that some bytes begin with, with its weight, and the bytes behind both
unfoldable pub pair_at : List ℕ → Option ((TermKey × ℕ) × List ℕ)
pair_at bs = followed_by (term_at bs) (λ t rest. followed_by (word_at rest) (λ n rest. Some ((t, n), rest)))

-- the same, where the term stands behind all others
abbrev pub last_by : List (TermKey × ℕ) → TermKey × ℕ → List ℕ → Option ((TermKey × ℕ) × List ℕ)
last_by front w rest = if is_last front w.0 then Some (w, rest) else None

abbrev pub weight_at : List (TermKey × ℕ) → List ℕ → Option ((TermKey × ℕ) × List ℕ)
weight_at front bs = followed_by (pair_at bs) (last_by front)

unfoldable pub weights_bytes : List (TermKey × ℕ) → List ℕ
weights_bytes weights = counted weight_bytes weights

unfoldable pub weights_at : List ℕ → Option (List (TermKey × ℕ) × List ℕ)
weights_at bs = followed_by (number_at 8 bs) (λ count rest. items_at weight_at count [] rest)
