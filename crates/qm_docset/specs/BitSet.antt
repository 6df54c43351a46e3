-- What a BitSet holds.
use Rattle.std.specs.Prelude.{ℕ, ◌+◌, ◌*◌, Bool, List, ◌++◌, map}
use Rattle.qm_docset.specs.declared.bitset.BitSet.{BitSet}
use Rattle.qm_docset.specs.declared.tiny_set.TinySet.{TinySet}
use Rattle.qm_docset.specs.Members.{members_between}
use Rattle.qm_docset.specs.TinySet.{tiny_members}
use Rattle.qm_docset.specs.Words.{words_have}

-- the number that all members are below
abbrev pub set_max_value : BitSet → ℕ
set_max_value s = s.max_value

-- whether a number is in the set
unfoldable pub set_has : BitSet → ℕ → Bool
set_has s x = words_have s.words.items x

-- the members at or past `low`, ascending
unfoldable pub set_members_from : BitSet → ℕ → List ℕ
set_members_from s low = members_between (set_has s) low (set_max_value s)

-- the members, ascending
abbrev pub set_members : BitSet → List ℕ
set_members s = set_members_from s 0

-- the members of a word, which are less 64 * bucket, and those of all buckets after it
unfoldable pub members_left : BitSet → ℕ → TinySet → List ℕ
members_left s bucket word = map (λ x. 64 * bucket + x) (tiny_members word) ++ set_members_from s (64 * (bucket + 1))
