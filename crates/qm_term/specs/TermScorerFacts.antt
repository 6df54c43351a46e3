-- The list of a term scorer: scores are within its limits, and each document keeps its length id.
use Rattle.std.specs.Prelude.{◌≡◌, ℕ, ◌<◌, ◌≤◌, List, [], ◌∷◌, length, drop, nat_le, slice_index_or}
use Rattle.std.proofs.Common.{◌∙◌, ap, arith, map, refl, sym, subst, inl, inr}
use Rattle.std.proofs.lemmas.List.Elements.{All-drop, All-filter}
use Rattle.std.proofs.lemmas.Option.{get_or_from_slice_get}
use Rattle.qm_combine.specs.RescoredFacts.{AreEntries-rescored, head_document-rescored, rescoring}
use Rattle.qm_docset.specs.Entry.{Entry, AreEntries, from, head_document}
use Rattle.qm_docset.specs.declared.numbers.TheConstants.{TERMINATED}
use Rattle.qm_postings.specs.FieldNorms.{is_made_constant, norm_ids}
use Rattle.qm_postings.specs.SegmentPostings.{ReadsAs, postings_left, postings_limits}
use Rattle.qm_postings.specs.SegmentPostingsFacts.{AreEntries-postings}
use Rattle.qm_term.specs.Bm25.{bm25_bound}
use Rattle.qm_term.specs.Bm25Facts.{bm25-le}
use Rattle.qm_term.specs.Bm25Weight.{weighing}
use Rattle.qm_postings.specs.Blocks.{Block, block_at}
use Rattle.qm_postings.specs.declared.fieldnorm.FieldNormReader.{FieldNormReader}
use Rattle.qm_postings.specs.declared.segment_postings.SegmentPostings.{SegmentPostings}
use Rattle.qm_term.specs.TermScorer.{AreCovered, IsBoundedBy, IsTermScorer, ScoresAs, scored_block, scored_blocks, scored_left, scored_limits}
use Rattle.qm_term.specs.declared.norms.Norms.{Ghosts as NormGhosts}
use Rattle.qm_term.specs.declared.term_scorer.TermScorer.{TermScorer}

pub AreEntries-scored : {N : Type 0} {G : NormGhosts N} (s : TermScorer N G) → IsTermScorer s → AreEntries 0 (scored_limits s) (scored_left s)
AreEntries-scored s h =
    AreEntries-rescored _ (bm25_bound (weighing s.similarity_weight)) 0 (postings_limits s.postings) (postings_left s.postings) (λ e within. bm25-le
    (weighing s.similarity_weight) (slice_index_or (norm_ids s.fieldnorm_reader) e.document 0) e.frequency) (AreEntries-postings s.postings h.postings)

pub AreCovered-drop : (ids : List ℕ) (n : ℕ) (es : List Entry) → AreCovered ids es → AreCovered ids (drop n es)
AreCovered-drop ids n es h = All-drop (λ e. e.document < length ids) n es h

pub AreCovered-from : (ids : List ℕ) (t : ℕ) (es : List Entry) → AreCovered ids es → AreCovered ids (from t es)
unfolding from
AreCovered-from ids t es h = All-filter (λ e. nat_le t e.document) (λ e. e.document < length ids) es h

pub AreCovered-nil : (ids : List ℕ) → AreCovered ids []
AreCovered-nil ids = λ k d l. absurd (omega arith)

-- what bounds the length ids of some documents bounds those of fewer
pub IsBoundedBy-drop : (reader : FieldNormReader) (blocks : List Block) (n : ℕ) (es : List Entry) →
    IsBoundedBy reader blocks es → IsBoundedBy reader blocks (drop n es)
IsBoundedBy-drop reader blocks n es h = elim h [
  | inl one ↦ inl one
  | inr each ↦ inr (All-drop (λ e. (block_at e.document blocks).least_id ≤ slice_index_or (norm_ids reader) e.document 0) n es each)
]

pub IsBoundedBy-from : (reader : FieldNormReader) (blocks : List Block) (t : ℕ) (es : List Entry) →
    IsBoundedBy reader blocks es → IsBoundedBy reader blocks (from t es)
unfolding from
IsBoundedBy-from reader blocks t es h = elim h [
  | inl one ↦ inl one
  | inr each ↦
      inr (All-filter (λ e. nat_le t e.document) (λ e. (block_at e.document blocks).least_id ≤ slice_index_or (norm_ids reader) e.document 0) es each)
]

pub IsBoundedBy-nil : (reader : FieldNormReader) (blocks : List Block) → IsBoundedBy reader blocks []
IsBoundedBy-nil reader blocks = inr (λ k d l. absurd (omega arith))

-- the same after a call that leaves the blocks as they are
pub bounded_after : (reader : FieldNormReader) (old new : List Block) (es left : List Entry) →
    new ≡ old → left ≡ es → IsBoundedBy reader old es → IsBoundedBy reader new left
bounded_after reader old new es left blocks same h = subst (λ b. IsBoundedBy reader b left) (sym blocks) (subst (IsBoundedBy reader old) (sym same) h)

-- what keeps what it keeps of itself keeps it of others
pub ReadsAs-self : (p : SegmentPostings) → ReadsAs p p
ReadsAs-self p = record { reading = refl; all = refl; blocks = refl }

pub ScoresAs-self : {N : Type 0} {G : NormGhosts N} (s : TermScorer N G) → ScoresAs s s
ScoresAs-self s = record { ids = refl; postings = ReadsAs-self s.postings; blocks = refl; boost = refl }

-- a scorer whose postings alone change, and keep what they keep, keeps what it keeps
pub keeps_scoring : {N : Type 0} {G : NormGhosts N} (s old new : TermScorer N G) → new.fieldnorm_reader ≡ old.fieldnorm_reader → new.similarity_weight ≡ old.similarity_weight →
    ((p : SegmentPostings) → ReadsAs p old.postings → ReadsAs p new.postings) → ScoresAs s old → ScoresAs s new
unfolding scored_blocks
keeps_scoring s old new reader weight kept h =
    let same = kept old.postings (ReadsAs-self old.postings) in
    record {
      ids = ap norm_ids reader ∙ h.ids;
      postings = kept s.postings h.postings;
      blocks = (λ i. map (scored_block (weighing (weight i)) (is_made_constant (reader i)) (norm_ids (reader i))) (same.blocks i)) ∙ h.blocks;
      boost = (λ i. (weighing (weight i)).boost) ∙ h.boost;
    }

-- the document that a scorer stands on has a length id
pub covered-head : (ids : List ℕ) (es : List Entry) → AreCovered ids es → head_document es < TERMINATED → head_document es < length ids
covered-head ids [] h here = absurd (omega arith)
covered-head ids (e ∷ es) h here = h 0 e (omega arith)

pub scored-document : {N : Type 0} {G : NormGhosts N} (s : TermScorer N G) → head_document (scored_left s) ≡ head_document (postings_left s.postings)
scored-document s = head_document-rescored _ (postings_left s.postings)

pub ruleset scoring = (rescoring, AreCovered-drop, AreCovered-from, AreCovered-nil, covered-head, get_or_from_slice_get)
