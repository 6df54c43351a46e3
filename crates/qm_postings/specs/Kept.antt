-- How a segment is kept: terms in their order, each a list of blocks of postings, and for each field a
-- column of length ids. The postings of all terms stand end to end, term by term, in an array of
-- documents, one of frequencies and one of positions; a term has a range of each. Its blocks stand in a
-- row of their own: what is known of each `block_len` of its postings, the last ones being fewer or full.
use Rattle.std.specs.Prelude.{◌≡◌, ℕ, true, ◌+◌, ◌-◌, ◌*◌, ◌<◌, ◌≤◌, ◌==◌, nat_lt, List, [], ◌∷◌, ◌++◌, All, length, filter, map, max, min, fold, take, drop, cond}
use Rattle.std.specs.Prelude.{if◌then◌else◌, slice_index, slice_index_or, sum}
use Rattle.std.specs.Int.{div_ceil}
use Rattle.std.specs.List.{IsDistinct, flat_map, range_with_len}
use Rattle.std.specs.List.Sorted.{IsStrictlySortedBy}
use Rattle.std.proofs.Common.{refl}
use Rattle.std.specs.Coded.{Coded, code_by, coded×, coded_ℕ}
use Rattle.std.specs.FinMap.{from_entries}
use Rattle.std.specs.Ordering.{eq_by_cmp}
use Rattle.qm_docset.specs.Documents.{AreDocuments}
use Rattle.qm_docset.specs.declared.numbers.TheConstants.{TERMINATED}
use Rattle.qm_schema.specs.Schema.{FieldFacts}
use Rattle.qm_schema.specs.Term.{TermKey, term_cmp, term_code}
use Rattle.qm_postings.specs.Positions.{ArePositions}
use Rattle.qm_postings.specs.Segment.{Document, Occurrences, Segment, is_indexed, keeps_lengths, keeps_positions}
use Rattle.qm_postings.specs.Stored.{stored_entries}
use Rattle.qm_postings.specs.declared.freq_reading_option.FreqReadingOption.{FreqReadingOption}
use Rattle.qm_postings.specs.declared.term_arrays.BlockInfo.{BlockInfo}

-- ---- what is kept of documents

-- one posting: a term, a document that holds it, how often, and its positions, where they are kept
pub record Posted : Type 0 where
  pub term : TermKey
  pub document : ℕ
  pub frequency : ℕ
  pub positions : List ℕ

-- what it says of its term
abbrev pub held : Posted → TermKey × Occurrences
held p = (p.term, record { frequency = p.frequency; positions = p.positions })

-- document d, from all postings and the columns of the fields' length ids
abbrev pub document_from : List Posted → List (List ℕ) → ℕ → Document
document_from ps columns d = record {
  terms = from_entries (map held (filter (λ p. p.document == d) ps));
  lengths = map (λ column. slice_index_or column d 0) columns;
}

-- the documents that they stand for
abbrev pub documents_from : List Posted → List (List ℕ) → ℕ → List Document
documents_from ps columns count = map (λ d. document_from ps columns d) (range_with_len 0 count)

-- a segment of so many documents, none of them deleted
abbrev pub segment_from : List FieldFacts → ℕ → List Posted → List (List ℕ) → ℕ → Segment
segment_from schema block_len ps columns count = record { schema = schema; block_len = block_len; documents = documents_from ps columns count; deleted = [] }

-- the terms of a document's postings
abbrev pub terms_in : List Posted → ℕ → List TermKey
terms_in ps d = map (λ p. p.term) (filter (λ p. p.document == d) ps)

-- all postings are of documents below a number, and no document has a term twice
pub record ArePosted (count : ℕ) (ps : List Posted) : Type 0 where
  pub below : All (λ p. p.document < count) ps
  pub once : (d : ℕ) → IsDistinct (eq_by_cmp term_cmp) (terms_in ps d)

-- a field that keeps lengths has one for each document, another field has none
pub record AreColumns (schema : List FieldFacts) (count : ℕ) (columns : List (List ℕ)) : Type 0 where
  pub each : length columns ≡ length schema
  pub whole : (f : ℕ) → f < length schema → length (slice_index_or columns f []) ≡ (if keeps_lengths schema f then count else 0)

-- ---- the arrays

-- a term of an index, the range of its postings in the arrays of all postings, the greatest of its
-- frequencies, and the range of its positions in the array of all positions
pub record PostingsRange : Type 0 where
  pub term : TermKey
  pub start : ℕ
  pub count : ℕ
  pub most : ℕ
  pub positions_start : ℕ
  pub positions_count : ℕ

abbrev pub range_code : Coded PostingsRange
range_code =
    code_by (TermKey × (ℕ × (ℕ × (ℕ × (ℕ × ℕ))))) (coded× term_code (coded× coded_ℕ (coded× coded_ℕ (coded× coded_ℕ (coded× coded_ℕ coded_ℕ)))))
    (λ r. (r.term, (r.start, (r.count, (r.most, (r.positions_start, r.positions_count))))))
    (λ p. record { term = p.0; start = p.1.0; count = p.1.1.0; most = p.1.1.1.0; positions_start = p.1.1.1.1.0; positions_count = p.1.1.1.1.1 }) (λ _. refl)

-- that range of an array
abbrev pub in_range : PostingsRange → List ℕ → List ℕ
in_range range xs = take range.count (drop range.start xs)

-- the positions of a term, end to end
abbrev pub positions_in : PostingsRange → List ℕ → List ℕ
positions_in range ps = take range.positions_count (drop range.positions_start ps)

-- the greatest of some numbers, and 0 where there are none
abbrev pub greatest : List ℕ → ℕ
greatest xs = fold max 0 xs

-- the postings of a term: each has as many of its positions as its frequency says, while there are any
abbrev pub posted_together : TermKey → List ℕ → List ℕ → List ℕ → List Posted
posted_together term [] fs ps = []
posted_together term (d ∷ ds) [] ps = []
posted_together term (d ∷ ds) (f ∷ fs) ps = record { term = term; document = d; frequency = f; positions = take f ps } ∷ posted_together term ds fs (drop f ps)

-- all postings, term by term
unfoldable pub posted_of : List PostingsRange → List ℕ → List ℕ → List ℕ → List Posted
posted_of [] ds fs ps = []
posted_of (range ∷ ranges) ds fs ps = posted_together range.term (in_range range ds) (in_range range fs) (positions_in range ps) ++ posted_of ranges ds fs ps

-- ---- the blocks of terms

-- how many blocks a list of so many has
abbrev pub block_count : ℕ → ℕ → ℕ
block_count block_len n = div_ceil n block_len

-- the part of a list that is the block of a number
unfoldable pub piece : {A : Type 0} → ℕ → ℕ → List A → List A
piece block_len b xs = take block_len (drop (b * block_len) xs)

-- the last document of the block of a number, and TERMINATED for the last block
unfoldable pub end_of : ℕ → List ℕ → ℕ → ℕ
end_of block_len ds b = cond (nat_lt ((b + 1) * block_len) (length ds)) (slice_index ds ((b + 1) * block_len - 1)) TERMINATED

-- the least of some length ids
unfoldable pub least : List ℕ → ℕ
least ids = fold min 255 ids

-- the least length id of some documents, by the ids of all, of which a field without lengths has none
unfoldable pub least_id : List ℕ → List ℕ → ℕ
least_id ids ds = least (map (λ d. slice_index_or ids d 1) ds)

-- what is known of the block of a number: where it ends, the bounds of its postings, and how many
-- positions those before it have, where these are kept
abbrev pub block_info : ℕ → List ℕ → List ℕ → List ℕ → ℕ → BlockInfo
block_info block_len ids ds fs b = record {
  last_doc = end_of block_len ds b;
  max_term_freq = greatest (piece block_len b fs);
  least_fieldnorm_id = least_id ids (piece block_len b ds);
  positions_start = sum (take (b * block_len) fs);
}

-- what is known of the blocks of some postings, in order
unfoldable pub all_infos : ℕ → List ℕ → List ℕ → List ℕ → List BlockInfo
all_infos block_len ids ds fs = map (block_info block_len ids ds fs) (range_with_len 0 (block_count block_len (length ds)))

-- what is known of the blocks of a term that has this range
abbrev pub range_infos : ℕ → List (List ℕ) → List ℕ → List ℕ → PostingsRange → List BlockInfo
range_infos block_len columns ds fs range = all_infos block_len (slice_index_or columns range.term.field []) (in_range range ds) (in_range range fs)

-- ---- what holds of them

-- The arrays of an index: terms ascend, the range of each lies in both arrays and holds a posting, its
-- documents ascend and are below a number, and the greatest of its frequencies is known.
pub record IsIndex (count : ℕ) (ranges : List PostingsRange) (ds fs : List ℕ) : Type 0 where
  pub terms : IsStrictlySortedBy term_cmp (map (λ r. r.term) ranges)
  pub paired : length fs ≡ length ds
  pub within : All (λ r. r.start + r.count ≤ length ds) ranges
  pub used : All (λ r. 0 < r.count) ranges
  pub most : All (λ r. r.most ≡ greatest (in_range r fs)) ranges
  pub documents : All (λ r. AreDocuments (in_range r ds)) ranges
  pub below : All (λ r. All (λ d. d < count) (in_range r ds)) ranges

-- A posting is of an indexed field and says that its document holds the term; it has as many positions as its
-- frequency says where its field keeps them, and else none.
pub record IsCounted (schema : List FieldFacts) (p : Posted) : Type 0 where
  pub indexed : is_indexed schema p.term.field ≡ true
  pub held : 0 < p.frequency
  pub count : length p.positions ≡ (if keeps_positions schema p.term.field then p.frequency else 0)
  pub ascending : ArePositions p.positions

-- Each term is of an indexed field, and its documents hold it. It has a range of the positions, as many as its
-- frequencies say where its field keeps them and else none, and those of each posting ascend.
pub record HavePositions (schema : List FieldFacts) (ranges : List PostingsRange) (ds fs ps : List ℕ) : Type 0 where
  pub indexed : All (λ r. is_indexed schema r.term.field ≡ true) ranges
  pub held : All (λ r. All (λ f. 0 < f) (in_range r fs)) ranges
  pub within : All (λ r. r.positions_start + r.positions_count ≤ length ps) ranges
  pub counted : All (λ r. r.positions_count ≡ (if keeps_positions schema r.term.field then sum (in_range r fs) else 0)) ranges
  pub ascending : (reading : FreqReadingOption) →
      All (λ r. All (λ e. ArePositions e.positions) (stored_entries reading (in_range r ds) (in_range r fs) (positions_in r ps))) ranges

-- The blocks of all terms, term by term, and where those of each term begin.
pub record HaveBlocks (block_len : ℕ) (ranges : List PostingsRange) (ds fs : List ℕ)
    (columns : List (List ℕ)) (starts : List ℕ) (infos : List BlockInfo) : Type 0 where
  pub all : infos ≡ flat_map (range_infos block_len columns ds fs) ranges
  pub places : starts ≡ map (λ i. length (flat_map (range_infos block_len columns ds fs) (take i ranges))) (range_with_len 0 (length ranges))

-- A segment as it is kept: so many documents, the ranges of its terms, the arrays of all postings, a
-- column of length ids for each field, and the blocks of all terms.
pub record IsKept (schema : List FieldFacts) (block_len count : ℕ) (ranges : List PostingsRange)
    (ds fs ps : List ℕ) (columns : List (List ℕ)) (starts : List ℕ) (infos : List BlockInfo) : Type 0 where
  pub few : count ≤ TERMINATED
  pub index : IsIndex count ranges ds fs
  pub lengths : AreColumns schema count columns
  pub positions : HavePositions schema ranges ds fs ps
  pub cut : 0 < block_len
  pub short : block_len ≤ 128
  pub blocks : HaveBlocks block_len ranges ds fs columns starts infos
