-- What a TinySet holds.
use Rattle.std.specs.Prelude.{ℕ, Bool, ◌==◌, ◌&&◌, nat_lt, List}
use Rattle.std.specs.Int.{bit_at}
use Rattle.qm_docset.specs.declared.tiny_set.TinySet.{TinySet}
use Rattle.qm_docset.specs.Members.{members_between}

-- whether a number is in the set; none from 64 on is
unfoldable pub tiny_has : TinySet → ℕ → Bool
tiny_has s x = nat_lt x 64 && (bit_at s.bits x == 1)

-- the members, ascending
unfoldable pub tiny_members : TinySet → List ℕ
tiny_members s = members_between (tiny_has s) 0 64
