-- What a scorer of a tree lists over a segment, as items of a listing.
use Rattle.std.proofs.Common.{◌≡◌, ℕ, ℤ, ◌+◌, false, List, Option, None, map, ap, ◌∙◌}
use Rattle.qm_postings.specs.Segment.{Segment}
use Rattle.qm_weight.specs.Tree.{Tree, matching}
use Rattle.qm_script.specs.AllSegments.{listed}
use Rattle.qm_script.specs.Text.{numbered}
use Rattle.qm_script.proofs.Ranges.{map-map}

abbrev pub plain_item : ℕ → ℕ × Option ℤ
plain_item d = (d, None)

pub documents-listed : (tree : Tree) (first : ℕ) (s : Segment) (found : List ℕ) →
    found ≡ matching tree s → numbered first (map plain_item found) ≡ listed false tree first s
documents-listed tree first s found is = ap (λ ds. numbered first (map plain_item ds)) is
    ∙ map-map (λ (i : ℕ × Option ℤ). (first + i.0, i.1)) plain_item (matching tree s)
