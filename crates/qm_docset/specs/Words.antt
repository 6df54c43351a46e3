-- A set of numbers in words of 64: the number x stands in the word x / 64, as x % 64.
use Rattle.std.specs.Prelude.{ℕ, ◌/◌, ◌%◌, Bool, List, slice_index_or}
use Rattle.qm_docset.specs.declared.tiny_set.TinySet.{TinySet}
use Rattle.qm_docset.specs.TinySet.{tiny_has}

-- whether the words have a number; past the last word there is none
unfoldable pub words_have : List TinySet → ℕ → Bool
words_have words x = tiny_has (slice_index_or words (x / 64) (record { bits = 0 })) (x % 64)
