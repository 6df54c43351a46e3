-- The statuses by which C learns why two answers can't be merged.
use Rattle.std.specs.Prelude.{ℕ}
use Rattle.birchagain_partitions.specs.declared.merge_refusal.MergeRefusal.{MergeRefusal}
use Rattle.birchagain_partitions.specs.declared.merge_refusal.MergeRefusal.TheVariants.{NotRanked, NumberTooHigh}

abbrev pub status_of : MergeRefusal → ℕ
status_of NotRanked = 73
status_of NumberTooHigh = 74
