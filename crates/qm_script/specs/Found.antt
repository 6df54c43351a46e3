-- What a query finds in several segments, by what it is asked under.
use Rattle.std.specs.Prelude.{◌≡◌, ℕ, ℤ, List, ◌++◌, OnOk, Option, Result, String, drop, filter, nat_le, string_bytes, take}
use Rattle.std.specs.Fmt.{decimal}
use Rattle.std.specs.Global.{Global}
use Rattle.qm_postings.specs.Segment.{Segment}
use Rattle.qm_postings.specs.Statistics.{Searched}
use Rattle.qm_query.specs.EnableScoring.{is_enabled}
use Rattle.qm_query.specs.Query.{Query}
use Rattle.qm_query.specs.declared.enable_scoring.EnableScoring.{EnableScoring}
use Rattle.qm_script.specs.AllSegments.{all_listed}
use Rattle.qm_script.specs.BestListed.{alive_numbers, best_listed}
use Rattle.qm_script.specs.Counts.{alive_in_all}
use Rattle.qm_script.specs.Parts.{document_count}
use Rattle.qm_script.specs.Pruned.{all_pruned, parts_pruned}
use Rattle.qm_script.specs.Under.{tree_of}

-- what a query finds in them by what it is asked under: each match, with its score where scores are wanted
abbrev pub found_matches : EnableScoring Searched → Query → List Segment → List (ℕ × Option ℤ)
found_matches enable query segments = all_listed (is_enabled enable) (tree_of enable query) segments

-- each for which a pruned run calls, with its score, where each segment begins at this threshold
abbrev pub found_above : ℤ → EnableScoring Searched → Query → List Segment → List (ℕ × Option ℤ)
found_above threshold enable query segments = all_pruned threshold (tree_of enable query) segments

-- the same, where the segments behind the first ones are the parts of one
abbrev pub found_above_in_parts : ℤ → EnableScoring Searched → Query → ℕ → List Segment → List (ℕ × Option ℤ)
found_above_in_parts threshold enable query ended segments =
    let tree = tree_of enable query in
    found_above threshold enable query (take ended segments) ++ parts_pruned threshold tree (document_count (take ended segments)) (drop ended segments)

-- the best of those that weren't deleted, at most so many, each with its score
abbrev pub found_best : ℕ → EnableScoring Searched → Query → List Segment → List (ℕ × Option ℤ)
found_best count enable query segments = best_listed count (tree_of enable query) segments

-- how many match that weren't deleted
abbrev pub found_alive : EnableScoring Searched → Query → List Segment → ℕ
found_alive enable query segments = alive_in_all (tree_of enable query) segments

-- the numbers of these, ascending, from a number on
abbrev pub found_from : ℕ → EnableScoring Searched → Query → List Segment → List ℕ
found_from first enable query segments = filter (nat_le first) (alive_numbers (tree_of enable query) segments)

-- Where the call succeeds, the text has a number in decimal digits behind what it was.
abbrev pub AddsNumber : {T E : Type 0} → Result T E → ℕ → String Global → String Global → Type 0
AddsNumber result n before after = OnOk result (string_bytes after ≡ string_bytes before ++ decimal n)
