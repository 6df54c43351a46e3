-- Which prefixes are expanded to all terms that begin with them, in the parts of a segment and so in the segment.
use Rattle.std.specs.Prelude.{◌≡◌, ◌≤◌, ℕ, true, nat_le, List, filter, length}
use Rattle.std.specs.List.{sum_by}
use Rattle.qm_postings.specs.Segment.{Segment}
use Rattle.qm_schema.specs.Term.{TermKey}
use Rattle.qm_weight.specs.Tree.{begins_with, held_terms}
use Rattle.qm_script.specs.PrefixFree.{PrefixTest}

-- the terms of a segment that begin with a prefix, in order
abbrev pub prefixed : Segment → TermKey → List TermKey
prefixed segment prefix = filter (begins_with prefix) (held_terms segment)

-- a prefix begins at most so many terms of some segments together
abbrev pub is_reached : List Segment → PrefixTest
is_reached segments prefix most = nat_le (sum_by (λ s. length (prefixed s prefix)) segments) most

-- where it passes the test, a prefix begins at most as many terms of a segment as it is expanded to
abbrev pub Reaches : PrefixTest → Segment → Type 0
Reaches test segment = (prefix : TermKey) (most : ℕ) → test prefix most ≡ true → length (prefixed segment prefix) ≤ most
