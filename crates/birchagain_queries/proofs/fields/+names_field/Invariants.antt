-- No clause that was looked at names a field.
use Rattle.std.proofs.Common.{◌≡◌, drop, map}
use Rattle.qm_parser.specs.Query.{clauses_of}
use Rattle.qm_parser.specs.Views.{clause_of}
use Rattle.birchagain_queries.specs.Translation.{have_field}
use Rattle.birchagain_queries.proofs.fields.+names_field.Given as goal

abbrev pub decreases-names_field : goal.decreases-names_field
decreases-names_field l = goal.size-names_field l

abbrev pub invariant-loop-inner : goal.invariant-loop-inner
invariant-loop-inner l =
    have_field (clauses_of (drop l.inner-index (map clause_of l.inner-items))) ≡ have_field (clauses_of (map clause_of l.inner-items))
