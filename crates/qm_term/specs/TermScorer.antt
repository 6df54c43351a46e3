-- The scorer over the postings of a term.
use Rattle.std.specs.Prelude.{◌≡◌, ℕ, ◌<◌, ◌≤◌, ◌⊎◌, Bool, true, List, All, cond, length, map, slice_index_or}
use Rattle.qm_combine.specs.Rescored.{rescored, limited}
use Rattle.qm_docset.specs.Entry.{Entry, Limits}
use Rattle.qm_docset.specs.Lists.{Lists}
use Rattle.qm_docset.specs.declared.docset.DocSet.{Ghosts}
use Rattle.qm_postings.specs.Blocks.{Block as PostingsBlock, block_at}
use Rattle.qm_postings.specs.FieldNorms.{is_made_constant, norm_ids}
use Rattle.qm_postings.specs.SegmentPostings.{IsPostings, ReadsAs, postings_blocks, postings_left, postings_limits, reads}
use Rattle.qm_postings.specs.declared.fieldnorm.FieldNormReader.{FieldNormReader}
use Rattle.qm_postings.specs.declared.freq_reading_option.FreqReadingOption.{FreqReadingOption}
use Rattle.qm_postings.specs.declared.segment_postings.SegmentPostings.{SegmentPostings}
use Rattle.qm_term.specs.Bm25.{Weighing, bm25, bm25_bound}
use Rattle.qm_term.specs.Bm25Weight.{weighing}
use Rattle.qm_term.specs.Members.{Block}
use Rattle.qm_term.specs.declared.norms.Norms.{Ghosts as NormGhosts}
use Rattle.qm_term.specs.declared.bm25.Bm25Weight.{Bm25Weight}
use Rattle.qm_term.specs.declared.term_scorer.TermScorer.{TermScorer}

-- postings, each with the score that its frequency has at its document's length id
abbrev pub scored_postings : Weighing → List ℕ → List Entry → List Entry
scored_postings weighing ids es = rescored (λ e. bm25 weighing (slice_index_or ids e.document 0) e.frequency) es

-- a cursor that lists what postings have left, each scored by its frequency and its length id
abbrev pub ListsScored : {S : Type 0} → Ghosts S → Weighing → List ℕ → SegmentPostings → S → Type 0
ListsScored D weighing ids postings s =
    Lists D s (scored_postings weighing ids (postings_left postings)) (limited (bm25_bound weighing) (postings_limits postings))

-- each of the documents has a length id
abbrev pub AreCovered : List ℕ → List Entry → Type 0
AreCovered ids es = All (λ e. e.document < length ids) es

-- the documents that a scorer has left, with their scores
abbrev pub scored_left : {N : Type 0} {G : NormGhosts N} → TermScorer N G → List Entry
scored_left s = scored_postings (weighing s.similarity_weight) (norm_ids s.fieldnorm_reader) (postings_left s.postings)

-- what each of its scores is a product of, beside a share of its weight
abbrev pub boost_of : {N : Type 0} {G : NormGhosts N} → TermScorer N G → ℕ
boost_of s = (weighing s.similarity_weight).boost

-- its limits
abbrev pub scored_limits : {N : Type 0} {G : NormGhosts N} → TermScorer N G → Limits
scored_limits s = limited (bm25_bound (weighing s.similarity_weight)) (postings_limits s.postings)

-- the length id of each document
abbrev pub scored_ids : {N : Type 0} {G : NormGhosts N} → TermScorer N G → List ℕ
scored_ids s = norm_ids s.fieldnorm_reader

-- what its postings read of the frequencies
abbrev pub scored_reads : {N : Type 0} {G : NormGhosts N} → TermScorer N G → FreqReadingOption
scored_reads s = reads s.postings

-- what bounds the scores of a block of postings: what its greatest frequency scores at its least length
-- id, or at the one id of all documents
abbrev pub scored_block : Weighing → Bool → List ℕ → PostingsBlock → Block
scored_block weighing constant ids b = record { last = b.last; bound = bm25 weighing (cond constant (slice_index_or ids 0 0) b.least_id) b.most }

-- the length id that bounds those of a block: the one id of all documents, or the block's least
abbrev pub least_id : FieldNormReader → PostingsBlock → ℕ
least_id reader b = cond (is_made_constant reader) (slice_index_or (norm_ids reader) 0 0) b.least_id

-- the same by what a scorer is made of
abbrev pub scored_by : {N : Type 0} {G : NormGhosts N} → Bm25Weight N G → FieldNormReader → PostingsBlock → Block
scored_by weight reader = scored_block (weighing weight) (is_made_constant reader) (norm_ids reader)

-- all blocks of the scorer's term, in order
unfoldable pub scored_blocks : {N : Type 0} {G : NormGhosts N} → TermScorer N G → List Block
scored_blocks s = map (scored_by s.similarity_weight s.fieldnorm_reader) (postings_blocks s.postings)

-- a scorer has the length ids of another and its boost, reads frequencies as it does, and bounds the same blocks alike
pub record ScoresAs {N : Type 0} {G : NormGhosts N} (s t : TermScorer N G) : Type 0 where
  pub ids : scored_ids t ≡ scored_ids s
  pub postings : ReadsAs s.postings t.postings
  pub blocks : scored_blocks t ≡ scored_blocks s
  pub boost : boost_of t ≡ boost_of s

-- no document has a length id below the least of its block
abbrev pub AreInBlocks : List ℕ → List PostingsBlock → List Entry → Type 0
AreInBlocks ids blocks es = All (λ e. (block_at e.document blocks).least_id ≤ slice_index_or ids e.document 0) es

-- a reader that gives one length id to all, or no document one below the least of its block
abbrev pub IsBoundedBy : FieldNormReader → List PostingsBlock → List Entry → Type 0
IsBoundedBy reader blocks es = (is_made_constant reader ≡ true) ⊎ AreInBlocks (norm_ids reader) blocks es

-- a scorer over postings whose documents all have a length id, which the blocks' least ids bound
pub record IsTermScorer {N : Type 0} {G : NormGhosts N} (s : TermScorer N G) : Type 0 where
  pub postings : IsPostings s.postings
  pub covered : AreCovered (norm_ids s.fieldnorm_reader) (postings_left s.postings)
  pub bounded : IsBoundedBy s.fieldnorm_reader (postings_blocks s.postings) (postings_left s.postings)
