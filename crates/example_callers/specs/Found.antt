-- What callers find, and what they do.
use Rattle.std.specs.Prelude.{◌≡◌, ℕ, ℤ, ◌⊎◌, ◌&&◌, ◌++◌, All, Bool, IsTrue, List, Ok, Option, drop, filter, length, nat_le, option_and_then, slice_get}
use Rattle.std.specs.List.{list_any, range_with_len}
use Rattle.std.specs.Ordering.{eq_by_cmp}
use Rattle.birchagain_partitions.specs.BestOverIndexes.{HasSegmentsOf, listed}
use Rattle.qm_docset.specs.Entry.{Entry, head_document}
use Rattle.qm_docset.specs.Gather.{documents_below, scores_at}
use Rattle.qm_docset.specs.declared.numbers.TheConstants.{TERMINATED}
use Rattle.qm_index.specs.Indexed.{Deletes, Indexed, indexed, with_document_of}
use Rattle.qm_index.specs.declared.index.Index.{Index}
use Rattle.qm_postings.specs.Blocks.{Block, looked_at, term_blocks}
use Rattle.qm_postings.specs.Document.{Draft}
use Rattle.qm_postings.specs.Segment.{Segment, holds, postings_of}
use Rattle.qm_postings.specs.Statistics.{Searched}
use Rattle.qm_postings.specs.contracts.searcher.SearcherBm25StatisticsProvider.TheImpl.{ghosts}
use Rattle.qm_postings.specs.declared.address.DocAddress.{DocAddress}
use Rattle.qm_postings.specs.declared.statistics.Bm25StatisticsProvider.{Ghosts}
use Rattle.qm_query.specs.Query.{Query}
use Rattle.qm_query.specs.QueryTree.{query_tree}
use Rattle.qm_query.specs.Searches.{IsCountOf, count_in, with_scores}
use Rattle.qm_query.specs.TopDocs.{StandsBefore, score_first}
use Rattle.qm_schema.specs.Term.{TermKey, term_cmp}
use Rattle.qm_schema.specs.declared.schema.option.IndexRecordOption.TheVariants.{WithFreqs}
use Rattle.qm_script.specs.Asked.{asked}
use Rattle.qm_script.specs.Script as language
use Rattle.qm_script.specs.Searching.{AreBestIn}
use Rattle.qm_script.specs.declared.searching.Hit.{Hit}
use Rattle.qm_store.specs.declared.document_place.DocumentPlace.{DocumentPlace}
use Rattle.qm_weight.specs.Best.{best}
use Rattle.qm_weight.specs.BoostFacts.{RoundsNothing}
use Rattle.qm_weight.specs.Callers.{multiplied, pairs}
use Rattle.qm_weight.specs.Tree.{Tree, is_scoring, list}

-- the best of the documents that a tree matches in a segment, and none where it matches none
abbrev pub IsBestOf : Tree → Segment → Option (ℕ × ℤ) → Type 0
IsBestOf tree segment found = found ≡ slice_get (best 1 (pairs (list tree 1 segment))) 0

-- where that document stands, by the places of all
abbrev pub place_of_best : Tree → Segment → List DocumentPlace → Option DocumentPlace
place_of_best tree segment places = option_and_then (λ found. slice_get places found.0) (slice_get (best 1 (pairs (list tree 1 segment))) 0)

-- where no score of a tree is rounded or open, a boost multiplies what is found
abbrev pub IsMultiplied : Tree → ℕ → List (ℕ × ℤ) → List (ℕ × ℤ) → Type 0
IsMultiplied tree k found boosted = RoundsNothing tree → IsTrue (is_scoring tree) → boosted ≡ multiplied k found

-- the block of a term's postings that is looked at with a target
abbrev pub block_looked_at : Segment → TermKey → ℕ → Block
block_looked_at segment term target =
    looked_at target (head_document (postings_of segment WithFreqs term)) (term_blocks segment WithFreqs term)

-- the document of a number, where there is one, is deleted, and then one is added
abbrev pub Replaces : ℕ → Draft → Indexed → Indexed → Bool → Type 0
Replaces number draft before after existed = (s : Indexed) × Deletes number before existed s × (after ≡ with_document_of s draft)

-- the documents that hold two terms
abbrev pub holders_of_both : Segment → TermKey → TermKey → List ℕ
holders_of_both segment first second = filter (λ d. holds segment first d && holds segment second d) (range_with_len 0 (length segment.documents))

-- the documents that at least so many of several lists have
abbrev pub documents_in_enough : ℕ → List (List Entry) → List ℕ
documents_in_enough minimum ess = filter (λ d. nat_le minimum (length (scores_at d ess))) (documents_below TERMINATED)

-- every other one of all that is found stands behind it
abbrev pub StandsFirst : List (DocAddress × ℤ) → ℤ × DocAddress → Type 0
StandsFirst all first = All (λ d. (score_first d ≡ first) ⊎ StandsBefore first (score_first d)) all

-- how many documents a query finds in all segments of a searcher that were not deleted
abbrev pub found_count : Ghosts Searched → Searched → Query → ℕ
found_count S searcher query = count_in (query_tree S (with_scores searcher) query) searcher.segments

-- whether a term is one of these
abbrev pub is_wanted : List TermKey → TermKey → Bool
is_wanted terms t = list_any (λ u. eq_by_cmp term_cmp u t) terms

-- The front of an array has the best hits of an index, as many as there is room for, and the rest is what it was.
pub record HasBestIn (q : language.Query) (s : Indexed) (words : Searched) (before after : List Hit) (count : ℕ) : Type 0 where
  pub hits : List Hit
  pub best : AreBestIn q s words (length before) (listed hits)
  pub counted : length hits ≡ count
  pub front : after ≡ hits ++ drop count before

-- of an index that has the segments of two this holds
abbrev pub HoldsOfBoth : Index → Index → (Indexed → Type 0) → Type 0
HoldsOfBoth first second P = (both : Indexed) → HasSegmentsOf (indexed first) (indexed second) both → P both

-- So many documents of all segments of a searcher match a query that is spelled so, and were not deleted.
pub record IsCountOfSpelled (q : language.Query) (searcher : Searched) (count : ℕ) : Type 0 where
  pub query : Query
  pub built : asked q ≡ Ok query
  pub counted : IsCountOf ghosts searcher query count
