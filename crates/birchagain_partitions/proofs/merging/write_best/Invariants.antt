-- What is written, and behind it the best of what is left, are the best of both.
use Rattle.std.proofs.Common.{◌≡◌, ◌≤◌, ◌+◌, ◌++◌, ◌-◌, drop, length, take}
use Rattle.birchagain_partitions.specs.Merging.{items}
use Rattle.birchagain_partitions.proofs.MergeSteps.{left}
use Rattle.birchagain_partitions.proofs.merging.write_best.Given as goal

abbrev pub invariant-loop-count : goal.invariant-loop-count
invariant-loop-count l = record {
  first : l.i ≤ length l.first;
  second : l.j ≤ length l.second;
  count : l.i + l.j ≡ l.count;
  room : l.count ≤ l.room;
  length : length l.out ≡ length l.initial.out;
  behind : drop l.count l.out ≡ drop l.count l.initial.out;
  best : items (take l.count l.out) ++ left l.offset (drop l.i l.first) (drop l.j l.second) ≡ left l.offset l.first l.second;
}

abbrev pub decreases-loop-count : goal.decreases-loop-count
decreases-loop-count l = l.room - l.count
