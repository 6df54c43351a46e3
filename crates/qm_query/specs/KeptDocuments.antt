-- What is kept of the documents that a search has gone through.
use Rattle.std.specs.Prelude.{◌≡◌, ℕ, ℤ, false, if◌then◌else◌, IsTrue, List, ◌++◌, map, take}
use Rattle.std.specs.BinaryHeap.{heap_items}
use Rattle.qm_postings.specs.Segment.{Segment, is_alive}
use Rattle.qm_postings.specs.declared.address.DocAddress.{DocAddress}
use Rattle.qm_term.specs.declared.wand.ticks.WandCount.{WandCount}
use Rattle.qm_weight.specs.Tree.{Tree, is_scoring}
use Rattle.qm_weight.specs.TreeRuns.{PrunesTreeBy}
use Rattle.qm_query.specs.KeptDocument.{IsThreshold, kept_of, ranked, worst_last}
use Rattle.qm_query.specs.Ranking.{ranked_with}
use Rattle.qm_query.specs.TopDocs.{AreByAddress, alive_matches}
use Rattle.qm_query.specs.declared.top_docs.kept_document.KeptDocument.{KeptDocument}
use Rattle.qm_query.specs.declared.top_docs.kept_documents.KeptDocuments.{KeptDocuments}

-- those that are kept, from the best to the worst
abbrev pub ranked_kept : KeptDocuments → List KeptDocument
ranked_kept kept = ranked (heap_items kept.documents)

-- a document of the segment of that number is taken in, unless it was deleted
abbrev pub Collects : ℕ → Segment → ℕ → ℤ → KeptDocuments → KeptDocuments → Type 0
Collects ord segment d s old new =
    ranked_kept new ≡ (if is_alive segment d then ranked_with worst_last old.limit
    (record { score = s; address = record { segment_ord = ord; doc_id = d } }) (ranked_kept old) else ranked_kept old)

-- What a call for a document of the segment of that number makes of those that are kept: it is taken in, unless it was
-- deleted, and the answer is the threshold after it. Nothing is known of them once memory was refused.
pub record CollectsAt (ord : ℕ) (segment : Segment) (old : KeptDocuments) (d : ℕ) (s answer : ℤ) (new : KeptDocuments) : Type 0 where
  pub limit : new.limit ≡ old.limit
  pub before : new.refused ≡ false → old.refused ≡ false
  pub threshold : IsThreshold new.limit (heap_items new.documents) answer
  pub collected : new.refused ≡ false → Collects ord segment d s old new

-- The documents of the segment of that number are gone through by a run of such calls, which begins with the threshold
-- of those that were kept before: so no call is made that could not change them. So many documents were scored.
pub record CollectsAll (ord : ℕ) (tree : Tree) (segment : Segment) (old : KeptDocuments) (scored : ℕ) (new : KeptDocuments) : Type 0 where
  pub threshold : ℤ
  pub is_kept : IsThreshold old.limit (heap_items old.documents) threshold
  pub count : WandCount
  pub run : PrunesTreeBy (CollectsAt ord segment) tree 1 segment threshold old count new
  pub counted : count.ticks ≡ scored

-- the best of some documents are kept, unless memory was refused
abbrev pub AreBest : KeptDocuments → List (DocAddress × ℤ) → Type 0
AreBest kept documents = kept.refused ≡ false → ranked_kept kept ≡ take kept.limit (ranked (map kept_of documents))

-- Where the best of documents before those of the segment of that number were kept, the segment's are taken in.
pub record AreKeptToo (ord : ℕ) (tree : Tree) (segment : Segment) (old new : KeptDocuments) : Type 0 where
  pub limit : new.limit ≡ old.limit
  pub best : IsTrue (is_scoring tree) → (before : List (DocAddress × ℤ)) → AreByAddress (before ++ alive_matches ord tree segment) →
      AreBest old before → AreBest new (before ++ alive_matches ord tree segment)
