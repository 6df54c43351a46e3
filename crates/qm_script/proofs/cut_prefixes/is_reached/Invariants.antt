use Rattle.std.proofs.Common.{◌≡◌, ◌+◌, length, take}
use Rattle.std.specs.List.{sum_by}
use Rattle.qm_script.specs.Reached.{prefixed}
use Rattle.birchagain.specs.Body.{body_term}
use Rattle.qm_script.proofs.cut_prefixes.is_reached.Given as goal

-- the segments before have as many as were taken off
abbrev pub invariant-loop-segment : goal.invariant-loop-segment
invariant-loop-segment l = record {
  taken : sum_by (λ r. length (prefixed r.segment (body_term l.prefix))) (take l.segment-index l.segments) + l.left ≡ l.most;
}
