-- The segments of a script of which the terms alone are kept that a query asks for.
use Rattle.std.specs.Prelude.{◌≡◌, ℕ, true, List, All, Bool, length, map}
use Rattle.std.specs.List.{fold}
use Rattle.qm_index.specs.Indexed.{AreMerged, AreSearched, all_segments}
use Rattle.qm_merge.specs.Merging.{joined}
use Rattle.qm_postings.specs.Reading.{Reader}
use Rattle.qm_postings.specs.Restriction.{restricted}
use Rattle.qm_postings.specs.Segment.{Segment}
use Rattle.qm_schema.specs.Term.{TermKey}
use Rattle.qm_script.specs.AskedTerms.{asked_terms}
use Rattle.qm_script.specs.Script.{Query}
use Rattle.qm_script.specs.ScriptSegments.{Script}

-- a segment, and the documents of others behind its own
abbrev pub all_joined : Segment → List Segment → Segment
all_joined s others = fold joined s others

-- a script of which the wanted terms alone are kept
abbrev pub narrowed : (TermKey → Bool) → Script → Script
narrowed wanted s = record { ended = map (restricted wanted) s.ended; current = restricted wanted s.current }

-- The readers of a script's segments, the open one in one part at most, of which wanted terms alone are kept: so are all
-- that a query asks for in these segments.
pub record AreNarrowed (q : Query) (s : Script) (readers : List Reader) : Type 0 where
  pub wanted : TermKey → Bool
  pub asked : All (λ t. wanted t ≡ true) (asked_terms (all_segments s) q)
  pub merged : AreMerged (narrowed wanted s) readers

-- of whatever script the readers before are that had so many segments ended, these are the narrowed ones
abbrev pub Narrows : Query → ℕ → List Reader → List Reader → Type 0
Narrows q ended readers made = (s : Script) → AreSearched s readers → ended ≡ length s.ended → AreNarrowed q s made
