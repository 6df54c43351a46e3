-- Paths in order.
use Rattle.std.specs.Prelude.{List}
use Rattle.std.specs.List.Sorted.{IsStrictlySortedBy}
use Rattle.std.specs.Cmp.Lexicographic.{slice_cmp}
use Rattle.std.specs.Ordering.{nat_cmp}
use Rattle.qm_folder.specs.Names.{Name}

-- names ascend by their bytes, and none stands twice
abbrev pub Ascend : List Name → Type 0
Ascend names = IsStrictlySortedBy (slice_cmp nat_cmp) names
