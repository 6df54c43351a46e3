-- The blocks of a term, as its arrays say and as its segment means them.
use Rattle.std.proofs.Common.{◌≡◌, ℕ, zero, suc, ◌+◌, ◌*◌, ◌<◌, ◌≤◌, true, false, cond, List, [], ◌∷◌, length, map, get_or, take, drop, max, sym, ap, refl}
use Rattle.std.proofs.Common.{subst, ◌∙◌, arith, inl, inr, length-drop, Some, None}
use Rattle.std.specs.Prelude.{All}
use Rattle.std.specs.Int.{div_ceil}
use Rattle.std.specs.List.{flat_map, fold, range_with_len, slice_get}
use Rattle.std.specs.Option.{option_map_or}
use Rattle.std.proofs.lemmas.Bool.{cases_Bool, cases_lt, false≢true}
use Rattle.std.proofs.lemmas.List.{drop-map, get_or-map, length-map, length-take, take-map}
use Rattle.std.proofs.lemmas.List.Elements.{All-drop, All-head, All-tail, All-take, All-weaker}
use Rattle.std.proofs.lemmas.List.FromFn.{get_or-map-range_with_len, get_or-range_with_len, length-map-range_with_len, length-range_with_len}
use Rattle.std.specs.Prelude.{Option}
use Rattle.std.proofs.lemmas.List.Folds.{length-flat_map-take}
use Rattle.std.proofs.lemmas.Option.{slice_get_within}
use Rattle.qm_docset.specs.Entry.{Entry, documents}
use Rattle.qm_schema.specs.Schema.{FieldFacts}
use Rattle.qm_schema.specs.Term.{TermKey}
use Rattle.qm_schema.specs.declared.schema.option.IndexRecordOption.{IndexRecordOption}
use Rattle.qm_postings.specs.Blocks.{Block, HaveLeastIds, block_at, block_read, term_block, term_blocks}
use Rattle.qm_postings.specs.Kept.{HaveBlocks, all_infos, block_info, block_count, end_of, least, least_id, piece, range_infos, AreColumns, IsIndex, Posted}
use Rattle.qm_postings.specs.Kept.{PostingsRange, greatest, in_range, positions_in, posted_of, segment_from}
use Rattle.qm_postings.specs.FieldIndex.{reading}
use Rattle.qm_postings.specs.Segment.{Segment, frequency, holders, keeps_lengths, length_id, no_document, positions, reads_positions, without}
use Rattle.qm_postings.specs.Stored.{frequency_read, stored_entries}
use Rattle.qm_postings.specs.declared.freq_reading_option.FreqReadingOption.{FreqReadingOption}
use Rattle.qm_postings.specs.declared.freq_reading_option.FreqReadingOption.TheVariants.{NoFreq, SkipFreq, ReadFreq}
use Rattle.qm_postings.specs.declared.term_arrays.BlockInfo.{BlockInfo}
use Rattle.qm_postings.proofs.BlockLemmas.{block_start}
use Rattle.qm_postings.proofs.BoundLemmas.{flat-piece}
use Rattle.qm_postings.proofs.HeldTerms.{holders-range, in_range-length}
use Rattle.qm_postings.proofs.LengthsKept.{count_of_documents, length_ids-column}
use Rattle.qm_postings.proofs.SameEntries.{map-map}
use Rattle.qm_postings.proofs.TermPlaces.{postings_of-place}

-- two functions that agree on the elements of a list make the same of it
agree : {X Y : Type 0} (f g : X → Y) (xs : List X) → All (λ x. f x ≡ g x) xs → map f xs ≡ map g xs
agree f g [] h = refl
agree f g (x ∷ xs) h = λ i. All-head (λ x. f x ≡ g x) x xs h i ∷ agree f g xs (All-tail (λ x. f x ≡ g x) x xs h) i

piece-map : (f : ℕ → ℕ) (bl b : ℕ) (xs : List ℕ) → piece bl b (map f xs) ≡ map f (piece bl b xs)
unfolding piece
piece-map f bl b xs = ap (take bl) (drop-map f (b * bl) xs) ∙ take-map f bl (drop (b * bl) xs)

All-piece : (P : ℕ → Type 0) (bl b : ℕ) (xs : List ℕ) → All P xs → All P (piece bl b xs)
unfolding piece
All-piece P bl b xs h = All-take P bl (drop (b * bl) xs) (All-drop P (b * bl) xs h)

piece-some : (bl b : ℕ) (xs : List ℕ) → 0 < bl → b * bl < length xs → 0 < length (piece bl b xs)
unfolding piece
piece-some bl b xs some l = omega (arith, length-take bl (drop (b * bl) xs), length-drop (b * bl) xs)

-- ---- frequencies as they are read

ones : (reading : FreqReadingOption) (m : ℕ) (xs : List ℕ) → ((f : ℕ) → frequency_read reading f ≡ 1) → m ≡ 1 → fold max m (map (frequency_read reading) xs) ≡ 1
ones reading m [] one is = is
ones reading m (x ∷ xs) one is = ones reading (max m (frequency_read reading x)) xs one (omega (arith, is, one x))

-- the greatest of frequencies as they are read is the greatest as it is read
greatest-read : (reading : FreqReadingOption) (xs : List ℕ) → 0 < length xs → greatest (map (frequency_read reading) xs) ≡ frequency_read reading (greatest xs)
greatest-read reading [] some = absurd (omega arith)
greatest-read ReadFreq (x ∷ xs) some = ap greatest (all_read (x ∷ xs))
  where
    all_read : (xs : List ℕ) → map (frequency_read ReadFreq) xs ≡ xs
    all_read [] = refl
    all_read (x ∷ xs) = ap (λ ys. x ∷ ys) (all_read xs)
greatest-read NoFreq (x ∷ xs) some = ones NoFreq (max 0 1) xs (λ f. refl) (omega arith)
greatest-read SkipFreq (x ∷ xs) some = ones SkipFreq (max 0 1) xs (λ f. refl) (omega arith)

pub frequencies-stored : (reading : FreqReadingOption) (ds fs ps : List ℕ) → length fs ≡ length ds →
    map (λ (e : Entry). e.frequency) (stored_entries reading ds fs ps) ≡ map (frequency_read reading) fs
unfolding stored_entries
frequencies-stored reading [] [] ps paired = refl
frequencies-stored reading [] (f ∷ fs) ps paired = absurd (omega arith)
frequencies-stored reading (d ∷ ds) [] ps paired = absurd (omega arith)
frequencies-stored reading (d ∷ ds) (f ∷ fs) ps paired = ap (λ xs. frequency_read reading f ∷ xs) (frequencies-stored reading ds fs (drop f ps) (omega arith))

-- ---- length ids

keeps_within : (schema : List FieldFacts) (field : ℕ) → keeps_lengths schema field ≡ true → field < length schema
keeps_within schema field keeps = go (slice_get schema field) refl keeps
  where
    go : (o : Option FieldFacts) → slice_get schema field ≡ o → option_map_or (λ facts. facts.lengths) o false ≡ true → field < length schema
    go None is keeps = absurd (false≢true keeps)
    go (Some facts) is keeps = slice_get_within schema field facts is

-- a field's column has its length ids, and one that keeps none has none
id_of_column : (schema : List FieldFacts) (block_len : ℕ) (posted : List Posted) (columns : List (List ℕ)) (count field d : ℕ) →
    AreColumns schema count columns → d < count → length_id (segment_from schema block_len posted columns count) field d ≡ get_or (get_or columns field []) d 1
id_of_column schema block_len posted columns count field d h below =
    let segment = segment_from schema block_len posted columns count in
    let n = length segment.documents in
    elim (cases_Bool (keeps_lengths schema field)) [
      | inl keeps ↦
          sym (ap (λ xs. get_or xs d 1) (length_ids-column schema block_len posted columns count field h (keeps_within schema field keeps) keeps)
          ∙ get_or-map-range_with_len (length_id segment field) 0 n d d 1
          (omega (arith, count_of_documents schema block_len posted columns count)) (omega arith))
      | inr none ↦
          let empty : length (get_or columns field []) ≤ d = elim (cases_lt field (length schema)) [
            | inl inside ↦ omega (arith, h.whole field inside ∙ ap (λ b. cond b count 0) none)
            | inr past ↦ omega (arith, ap length (get_or-past columns field (omega (arith, h.each))))
          ] in
          ap (λ b. cond b (get_or (get_or segment.documents d no_document).lengths field 0) 1) none ∙ sym (get_or-beyond (get_or columns field []) d empty)
    ]
  where
    get_or-past : (xs : List (List ℕ)) (i : ℕ) → length xs ≤ i → get_or xs i [] ≡ []
    get_or-past [] i l = refl
    get_or-past (x ∷ xs) zero l = absurd (omega arith)
    get_or-past (x ∷ xs) (suc i) l = get_or-past xs i (omega arith)

    get_or-beyond : (xs : List ℕ) (i : ℕ) → length xs ≤ i → get_or xs i 1 ≡ 1
    get_or-beyond [] i l = refl
    get_or-beyond (x ∷ xs) zero l = absurd (omega arith)
    get_or-beyond (x ∷ xs) (suc i) l = get_or-beyond xs i (omega arith)

-- ---- the blocks of the term of a range

module _ (schema : List FieldFacts) (bl : ℕ) (columns : List (List ℕ)) (count : ℕ) (rs : List PostingsRange)
    (ds fs ps : List ℕ) (i : ℕ) (r : PostingsRange) (t : TermKey) (option : IndexRecordOption) (h : IsIndex count rs ds fs)
    (kept : AreColumns schema count columns) (some : 0 < bl) (l : i < length rs) (here : r ≡ get_or rs i r) (own : r.term ≡ t) where
  abbrev segment : Segment
  segment = segment_from schema bl (posted_of rs ds fs ps) columns count

  abbrev xs : List ℕ
  xs = in_range r ds

  abbrev gs : List ℕ
  gs = in_range r fs

  held : holders segment t ≡ xs
  held =
      ap (holders segment) (sym own ∙ ap (λ (y : PostingsRange). y.term) here)
      ∙ holders-range schema bl columns count rs ds fs ps i r h l ∙ ap (λ (y : PostingsRange). in_range y ds) (sym here)

  inside : r.start + r.count ≤ length ds
  inside = subst (λ (y : PostingsRange). y.start + y.count ≤ length ds) (sym here) (h.within i r l)

  pub long : length xs ≡ r.count
  long = in_range-length r ds inside

  pub paired : length gs ≡ length xs
  paired = in_range-length r fs (omega (arith, inside, h.paired)) ∙ sym long

  below : All (λ d. d < count) xs
  below = subst (λ (y : PostingsRange). All (λ d. d < count) (in_range y ds)) (sym here) (h.below i r l)

  frequencies : map (frequency segment option t) xs ≡ map (frequency_read (reading schema option t.field)) gs
  frequencies =
      ap (map (frequency segment option t)) (sym held)
      ∙ sym (map-map (λ (e : Entry). e.frequency)
      (λ d. record { document = d; score = 0; frequency = frequency segment option t d; positions = positions segment option t d }) (holders segment t))
      ∙ ap (map (λ (e : Entry). e.frequency)) (postings_of-place schema bl columns count rs ds fs ps i r t option h l here own)
      ∙ frequencies-stored (reading schema option t.field) xs gs (cond (reads_positions schema option t.field) (positions_in r ps) []) paired

  same_block : (b : ℕ) → b < block_count bl (length xs) →
      term_block segment option t b ≡ block_read (reading schema option t.field) (block_info bl (get_or columns t.field []) xs gs b)
  unfolding least_id
  same_block b within =
      let start = block_start b (length xs) bl some within in
      let ids : least (map (length_id segment t.field) (piece bl b (holders segment t)))
      ≡ least (map (λ d. get_or (get_or columns t.field []) d 1) (piece bl b xs)) =
      ap (λ ys. least (map (length_id segment t.field) (piece bl b ys))) held
      ∙ ap least (agree (length_id segment t.field) (λ d. get_or (get_or columns t.field []) d 1) (piece bl b xs)
      (All-weaker (λ d. d < count) (λ d. length_id segment t.field d ≡ get_or (get_or columns t.field []) d 1) (λ d under.
      id_of_column schema bl (posted_of rs ds fs ps) columns count t.field d kept under) (piece bl b xs) (All-piece (λ d. d < count) bl b xs below))) in
      let most : greatest (map (frequency segment option t) (piece bl b (holders segment t)))
      ≡ frequency_read (reading schema option t.field) (greatest (piece bl b gs)) =
      ap (λ ys. greatest (map (frequency segment option t) (piece bl b ys))) held
      ∙ ap greatest (sym (piece-map (frequency segment option t) bl b xs) ∙ ap (piece bl b) frequencies
      ∙ piece-map (frequency_read (reading schema option t.field)) bl b gs)
      ∙ greatest-read (reading schema option t.field) (piece bl b gs) (piece-some bl b gs some (omega (arith, start, paired))) in
      λ j. record { last = end_of bl (held j) b; least_id = ids j; most = most j }

  pub term_blocks-place : term_blocks segment option t ≡ map (block_read (reading schema option t.field)) (range_infos bl columns ds fs r)
  unfolding term_blocks all_infos
  term_blocks-place =
      let n = block_count bl (length xs) in
      let f = block_read (reading schema option t.field) in
      ap (λ ys. map (term_block segment option t) (range_with_len 0 (block_count bl (length ys)))) held
      ∙ agree (term_block segment option t) (λ b. f (block_info bl (get_or columns t.field []) xs gs b)) (range_with_len 0 n)
      (λ k d within. let under : k < n = omega (arith, length-range_with_len 0 n) in
      subst (λ m. term_block segment option t m ≡ f (block_info bl (get_or columns t.field []) xs gs m))
      (sym (get_or-range_with_len 0 n k d under ∙ omega arith)) (same_block k under))
      ∙ sym (map-map f (block_info bl (get_or columns t.field []) xs gs) (range_with_len 0 n))
      ∙ ap (λ field. map f (all_infos bl (get_or columns field []) xs gs)) (sym (ap (λ (u : TermKey). u.field) own))

-- the blocks of a range are those behind its start
pub infos_at : (bl : ℕ) (columns : List (List ℕ)) (rs : List PostingsRange) (ds fs starts : List ℕ) (infos : List BlockInfo) (i : ℕ) (r : PostingsRange) →
    HaveBlocks bl rs ds fs columns starts infos → i < length rs → r ≡ get_or rs i r → length (in_range r ds) ≡ r.count
    → take (div_ceil r.count bl) (drop (get_or starts i 0) infos) ≡ range_infos bl columns ds fs r
unfolding all_infos
infos_at bl columns rs ds fs starts infos i r h l here long =
    let own = range_infos bl columns ds fs in
    let start : get_or starts i 0 ≡ length (flat_map own (take i rs)) = ap (λ xs. get_or xs i 0) h.places
    ∙ get_or-map-range_with_len (λ i. length (flat_map own (take i rs))) 0 (length rs) i i 0 l (omega arith) in
    let count : div_ceil r.count bl ≡ length (own (get_or rs i r)) =
    ap (λ n. div_ceil n bl) (sym long) ∙ sym (length-map-range_with_len (block_info bl (get_or columns r.term.field []) (in_range r ds) (in_range r fs)) 0
    (block_count bl (length (in_range r ds)))) ∙ ap (λ y. length (own y)) here in
    (λ j. take (count j) (drop (start j) (h.all j))) ∙ flat-piece own rs i r l ∙ ap own (sym here)

pub infos_inside : (bl : ℕ) (columns : List (List ℕ)) (rs : List PostingsRange) (ds fs starts : List ℕ) (infos : List BlockInfo) (i : ℕ) (r : PostingsRange) →
    HaveBlocks bl rs ds fs columns starts infos → i < length rs → r ≡ get_or rs i r → length (in_range r ds) ≡ r.count
    → get_or starts i 0 + div_ceil r.count bl ≤ length infos
unfolding all_infos
infos_inside bl columns rs ds fs starts infos i r h l here long =
    let own = range_infos bl columns ds fs in
    let start : get_or starts i 0 ≡ length (flat_map own (take i rs)) = ap (λ xs. get_or xs i 0) h.places
    ∙ get_or-map-range_with_len (λ i. length (flat_map own (take i rs))) 0 (length rs) i i 0 l (omega arith) in
    let count : div_ceil r.count bl ≡ length (own (get_or rs i r)) =
    ap (λ n. div_ceil n bl) (sym long) ∙ sym (length-map-range_with_len (block_info bl (get_or columns r.term.field []) (in_range r ds) (in_range r fs)) 0
    (block_count bl (length (in_range r ds)))) ∙ ap (λ y. length (own y)) here in
    omega (arith, start, count, length-flat_map-take own rs i r l, ap length h.all)

pub starts_each : (bl : ℕ) (columns : List (List ℕ)) (rs : List PostingsRange) (ds fs starts : List ℕ) (infos : List BlockInfo) →
    HaveBlocks bl rs ds fs columns starts infos → length starts ≡ length rs
starts_each bl columns rs ds fs starts infos h = ap length h.places
    ∙ length-map-range_with_len (λ i. length (flat_map (range_infos bl columns ds fs) (take i rs))) 0 (length rs)

-- deletions leave blocks as they are
pub term_blocks-without : (numbers : List ℕ) (seg : Segment) (option : IndexRecordOption) (t : TermKey) →
    term_blocks (without numbers seg) option t ≡ term_blocks seg option t
unfolding term_blocks
term_blocks-without numbers seg option t = refl

-- what bounds the ids of a column bounds those of the segment's documents
pub least_ids-column : (numbers : List ℕ) (schema : List FieldFacts) (bl : ℕ) (posted : List Posted) (columns : List (List ℕ))
    (count field : ℕ) (blocks : List Block) (es : List Entry) → AreColumns schema count columns → All (λ d. d < count) (documents es)
    → All (λ e. (block_at e.document blocks).least_id ≤ get_or (get_or columns field []) e.document 1) es →
    HaveLeastIds (without numbers (segment_from schema bl posted columns count)) field blocks es
least_ids-column numbers schema bl posted columns count field blocks es kept below h = λ k d l.
    let under : (get_or es k d).document < count = let at = below k 0 (omega (arith, length-map es (λ e. e.document))) in
    omega (arith, at, get_or-map (λ (e : Entry). e.document) es k d 0 l) in
    omega (arith, h k d l, id_of_column schema bl posted columns count field (get_or es k d).document kept under)
