-- Rows that are laid end to end, and the arrays that they make.
use Rattle.std.proofs.Common.{◌≡◌, ℕ, ◌+◌, ◌-◌, ◌<◌, ◌≤◌, Bool, true, false, cond, List, [], ◌∷◌, ◌++◌, None, length, map, take, drop, get_or, suc, sum, sym, refl, ap, subst, ◌∙◌, arith}
use Rattle.std.specs.Prelude.{All}
use Rattle.std.specs.List.{flat_map}
use Rattle.std.specs.List.Sorted.{IsStrictlySortedBy}
use Rattle.std.proofs.Math.Seq.{drop-append_seam, take-append_seam}
use Rattle.std.proofs.lemmas.List.{append-nil, append_assoc, length-append, length-drop, length-take}
use Rattle.std.proofs.lemmas.List.Concat.{flat_map-cons}
use Rattle.std.proofs.lemmas.List.Elements.{All-nil, All-cons, All-head, All-tail, All-weaker}
use Rattle.std.proofs.lemmas.List.Sums.{sum_by-cons}
use Rattle.std.proofs.lemmas.Grind.{flat_map-append}
use Rattle.qm_docset.specs.Documents.{AreDocuments}
use Rattle.qm_docset.specs.Entry.{Entry}
use Rattle.qm_schema.specs.Schema.{FieldFacts}
use Rattle.qm_schema.specs.Term.{TermKey, term_cmp}
use Rattle.qm_postings.specs.Kept.{HavePositions, IsIndex, PostingsRange, greatest, in_range, positions_in, posted_of, segment_from}
use Rattle.qm_postings.specs.Laying.{AreLaidEndToEnd, IsRowBehind, all_documents, all_frequencies, all_positions, range_of, ranges_from}
use Rattle.qm_postings.specs.Positions.{ArePositions}
use Rattle.qm_postings.specs.Reading.{reader_of_arrays, reader_of_rows}
use Rattle.qm_postings.specs.Rows.{ArePlaces, AreRows, IsRow, Row, all_posted, posted, row_in, rows_in}
use Rattle.qm_postings.specs.Segment.{AscendFrom, is_indexed, keeps_positions, without}
use Rattle.qm_postings.specs.Stored.{stored_entries}
use Rattle.qm_postings.proofs.ArrayEntries.{All-no_positions, stored-cons, stored-nil}
use Rattle.qm_postings.specs.declared.freq_reading_option.FreqReadingOption.{FreqReadingOption}
use Rattle.qm_postings.proofs.DeletedDocuments.{none-left_out}
use Rattle.qm_postings.proofs.NumberedPostings.{ascend-documents}

-- ---- one row more

ranges-push : (start at : ℕ) (rows : List Row) (r : Row) → ranges_from start at (rows ++ r ∷ []) ≡
    ranges_from start at rows ++ range_of (start + length (all_documents rows)) (at + length (all_positions rows)) r ∷ []
ranges-push start at [] r =
    let here : start ≡ start + 0 = omega arith in
    let place : at ≡ at + 0 = omega arith in
    λ i. range_of (here i) (place i) r ∷ []
ranges-push start at (x ∷ rows) r =
    let ds = ap length (flat_map-cons (λ (r : Row). r.documents) x rows) ∙ length-append x.documents (all_documents rows) in
    let ps = ap length (flat_map-cons (λ (r : Row). r.positions) x rows) ∙ length-append x.positions (all_positions rows) in
    let here : start + length x.documents + length (all_documents rows) ≡ start + length (all_documents (x ∷ rows)) = omega (arith, ds) in
    let place : at + length x.positions + length (all_positions rows) ≡ at + length (all_positions (x ∷ rows)) = omega (arith, ps) in
    ap (λ l. range_of start at x ∷ l) (ranges-push (start + length x.documents) (at + length x.positions) rows r)
    ∙ (λ i. range_of start at x ∷ (ranges_from (start + length x.documents) (at + length x.positions) rows ++ range_of (here i) (place i) r ∷ []))

all-push : (f : Row → List ℕ) (rows : List Row) (r : Row) → flat_map f (rows ++ r ∷ []) ≡ flat_map f rows ++ f r
all-push f rows r = flat_map-append f rows (r ∷ []) ∙ ap (λ l. flat_map f rows ++ l) (flat_map-cons f r [] ∙ append-nil (f r))

pub laid-more : (rows : List Row) (r : Row) (ranges after : List PostingsRange) (ds fs ps ds_after fs_after ps_after : List ℕ) →
    AreLaidEndToEnd rows ranges ds fs ps → IsRowBehind r ranges ds fs ps after ds_after fs_after ps_after →
    AreLaidEndToEnd (rows ++ r ∷ []) after ds_after fs_after ps_after
laid-more rows r ranges after ds fs ps ds_after fs_after ps_after laid behind = record {
  ranges_are = behind.range ∙ (λ i. laid.ranges_are i ++ range_of (length (laid.documents_are i)) (length (laid.positions_are i)) r ∷ [])
      ∙ (let zero_d : length (all_documents rows) ≡ 0 + length (all_documents rows) = omega arith in
      let zero_p : length (all_positions rows) ≡ 0 + length (all_positions rows) = omega arith in
      λ i. ranges_from 0 0 rows ++ range_of (zero_d i) (zero_p i) r ∷ [])
      ∙ sym (ranges-push 0 0 rows r);
  documents_are = behind.documents ∙ ap (λ l. l ++ r.documents) laid.documents_are ∙ sym (all-push (λ (r : Row). r.documents) rows r);
  frequencies_are = behind.frequencies ∙ ap (λ l. l ++ r.frequencies) laid.frequencies_are ∙ sym (all-push (λ (r : Row). r.frequencies) rows r);
  positions_are = behind.positions ∙ ap (λ l. l ++ r.positions) laid.positions_are ∙ sym (all-push (λ (r : Row). r.positions) rows r);
}

-- ---- the positions of a row

pub places-sum : (fs ps : List ℕ) → ArePlaces fs ps → length ps ≡ sum fs
places-sum [] ps are = ap length are
places-sum (f ∷ fs) ps are =
    omega (arith, sum_by-cons (λ x. x) f fs, places-sum fs (drop f ps) are.2, length-drop f ps, are.0, length-take f ps)

places-stored : (reading : FreqReadingOption) (ds fs ps : List ℕ) → length fs ≡ length ds → ArePlaces fs ps →
    All (λ e. ArePositions e.positions) (stored_entries reading ds fs ps)
places-stored reading [] fs ps paired are = subst (All (λ (e : Entry). ArePositions e.positions)) (sym (stored-nil reading fs ps)) (All-nil _)
places-stored reading (d ∷ ds) [] ps paired are = absurd (omega (arith, paired))
places-stored reading (d ∷ ds) (f ∷ fs) ps paired are =
    subst (All (λ (e : Entry). ArePositions e.positions)) (sym (stored-cons reading d f ds fs ps))
    (All-cons (λ (e : Entry). ArePositions e.positions) _ _ are.1 (places-stored reading ds fs (drop f ps) (omega (arith, paired)) are.2))

pub stored-places : (reading : FreqReadingOption) (ds fs ps : List ℕ) → length fs ≡ length ds → length ps ≡ sum fs →
    All (λ e. ArePositions e.positions) (stored_entries reading ds fs ps) → ArePlaces fs ps
stored-places reading ds [] [] paired whole each = refl
stored-places reading ds [] (p ∷ ps) paired whole each = absurd (omega (arith, whole))
stored-places reading [] (f ∷ fs) ps paired whole each = absurd (omega (arith, paired))
stored-places reading (d ∷ ds) (f ∷ fs) ps paired whole each =
    let split = subst (All (λ (e : Entry). ArePositions e.positions)) (stored-cons reading d f ds fs ps) each in
    let all : length ps ≡ f + sum fs = whole ∙ sum_by-cons (λ x. x) f fs in (
      omega (arith, length-take f ps, all),
      All-head (λ (e : Entry). ArePositions e.positions) _ _ split,
      stored-places reading ds fs (drop f ps) (omega (arith, paired)) (omega (arith, length-drop f ps, all))
          (All-tail (λ (e : Entry). ArePositions e.positions) _ _ split),
    )

-- ---- a row in the arrays

-- the range of a row shows it, and lies within the arrays
pub record StandsIn (ds fs ps : List ℕ) (row : Row) (r : PostingsRange) : Type 0 where
  pub row_is : row_in ds fs ps r ≡ row
  pub count : r.count ≡ length row.documents
  pub most : r.most ≡ greatest row.frequencies
  pub positions_count : r.positions_count ≡ length row.positions
  pub within : r.start + r.count ≤ length ds
  pub positions_within : r.positions_start + r.positions_count ≤ length ps

piece : (before own after : List ℕ) → take (length own) (drop (length before) (before ++ (own ++ after))) ≡ own
piece before own after = ap (take (length own)) (drop-append_seam before (own ++ after)) ∙ take-append_seam own after

piece-ends : (before own after : List ℕ) → length before + length own ≤ length (before ++ (own ++ after))
piece-ends before own after = omega (arith, length-append before (own ++ after), length-append own after)

module _ (Own : Row → Type 0) (pairs : (r : Row) → Own r → length r.frequencies ≡ length r.documents) (ds fs ps : List ℕ) where
  -- the first of the rows that are left, behind those before it
  stands : (r : Row) (rows : List Row) (ds_before fs_before ps_before : List ℕ) → length fs_before ≡ length ds_before →
      length r.frequencies ≡ length r.documents → ds ≡ ds_before ++ all_documents (r ∷ rows) → fs ≡ fs_before ++ all_frequencies (r ∷ rows) →
      ps ≡ ps_before ++ all_positions (r ∷ rows) → StandsIn ds fs ps r (range_of (length ds_before) (length ps_before) r)
  stands r rows ds_before fs_before ps_before level paired is_ds is_fs is_ps =
      let split_ds = is_ds ∙ ap (λ l. ds_before ++ l) (flat_map-cons (λ (r : Row). r.documents) r rows) in
      let split_fs = is_fs ∙ ap (λ l. fs_before ++ l) (flat_map-cons (λ (r : Row). r.frequencies) r rows) in
      let split_ps = is_ps ∙ ap (λ l. ps_before ++ l) (flat_map-cons (λ (r : Row). r.positions) r rows) in
      let own_ds : take (length r.documents) (drop (length ds_before) ds) ≡ r.documents =
      ap (λ l. take (length r.documents) (drop (length ds_before) l)) split_ds ∙ piece ds_before r.documents (all_documents rows) in
      let own_fs : take (length r.documents) (drop (length ds_before) fs) ≡ r.frequencies =
      (λ i. take (sym paired i) (drop (sym level i) (split_fs i))) ∙ piece fs_before r.frequencies (all_frequencies rows) in
      let own_ps : take (length r.positions) (drop (length ps_before) ps) ≡ r.positions =
      ap (λ l. take (length r.positions) (drop (length ps_before) l)) split_ps ∙ piece ps_before r.positions (all_positions rows) in
      record {
        row_is = λ i. record { term = r.term; documents = own_ds i; frequencies = own_fs i; positions = own_ps i };
        count = refl;
        most = refl;
        positions_count = refl;
        within = omega (arith, ap length split_ds, piece-ends ds_before r.documents (all_documents rows));
        positions_within = omega (arith, ap length split_ps, piece-ends ps_before r.positions (all_positions rows));
      }

  -- what holds of a range that shows a row holds of all
  module _ (P : PostingsRange → Type 0) (step : (row : Row) (r : PostingsRange) → Own row → StandsIn ds fs ps row r → P r) where
    each-range : (rows : List Row) (ds_before fs_before ps_before : List ℕ) → length fs_before ≡ length ds_before →
        ds ≡ ds_before ++ all_documents rows → fs ≡ fs_before ++ all_frequencies rows → ps ≡ ps_before ++ all_positions rows →
        All Own rows → All P (ranges_from (length ds_before) (length ps_before) rows)
    each-range [] ds_before fs_before ps_before level is_ds is_fs is_ps each = All-nil P
    each-range (r ∷ rows) ds_before fs_before ps_before level is_ds is_fs is_ps each =
        let own = All-head Own r rows each in
        let Rest : ℕ → ℕ → Type 0 = λ a b. All P (ranges_from a b rows) in
        let next = λ (f : Row → List ℕ) (before : List ℕ).
        ap (λ l. before ++ l) (flat_map-cons f r rows) ∙ sym (append_assoc before (f r) (flat_map f rows)) in
        let rest = each-range rows (ds_before ++ r.documents) (fs_before ++ r.frequencies) (ps_before ++ r.positions)
        (omega (arith, level, pairs r own, length-append fs_before r.frequencies, length-append ds_before r.documents))
        (is_ds ∙ next (λ r. r.documents) ds_before) (is_fs ∙ next (λ r. r.frequencies) fs_before) (is_ps ∙ next (λ r. r.positions) ps_before)
        (All-tail Own r rows each) in
        All-cons P (range_of (length ds_before) (length ps_before) r) _
        (step r _ own (stands r rows ds_before fs_before ps_before level (pairs r own) is_ds is_fs is_ps))
        (subst (λ a. Rest a (length ps_before + length r.positions)) (length-append ds_before r.documents)
        (subst (Rest (length (ds_before ++ r.documents))) (length-append ps_before r.positions) rest))

  rows-from : (rows : List Row) (ds_before fs_before ps_before : List ℕ) → length fs_before ≡ length ds_before →
      ds ≡ ds_before ++ all_documents rows → fs ≡ fs_before ++ all_frequencies rows → ps ≡ ps_before ++ all_positions rows →
      All Own rows → rows_in (ranges_from (length ds_before) (length ps_before) rows) ds fs ps ≡ rows
  rows-from [] ds_before fs_before ps_before level is_ds is_fs is_ps each = refl
  rows-from (r ∷ rows) ds_before fs_before ps_before level is_ds is_fs is_ps each =
      let own = All-head Own r rows each in
      let next = λ (f : Row → List ℕ) (before : List ℕ).
      ap (λ l. before ++ l) (flat_map-cons f r rows) ∙ sym (append_assoc before (f r) (flat_map f rows)) in
      let rest = rows-from rows (ds_before ++ r.documents) (fs_before ++ r.frequencies) (ps_before ++ r.positions)
      (omega (arith, level, pairs r own, length-append fs_before r.frequencies, length-append ds_before r.documents))
      (is_ds ∙ next (λ r. r.documents) ds_before) (is_fs ∙ next (λ r. r.frequencies) fs_before) (is_ps ∙ next (λ r. r.positions) ps_before)
      (All-tail Own r rows each) in
      let here = (stands r rows ds_before fs_before ps_before level (pairs r own) is_ds is_fs is_ps).row_is in
      (λ i. here i ∷ rows_in
      (ranges_from (sym (length-append ds_before r.documents) i) (sym (length-append ps_before r.positions) i) rows) ds fs ps)
      ∙ ap (λ l. r ∷ l) rest

-- ---- all postings, row by row
pub posted-rows : (ranges : List PostingsRange) (ds fs ps : List ℕ) → posted_of ranges ds fs ps ≡ flat_map posted (rows_in ranges ds fs ps)
unfolding posted_of
posted-rows [] ds fs ps = refl
posted-rows (r ∷ ranges) ds fs ps =
    ap (λ l. posted (row_in ds fs ps r) ++ l) (posted-rows ranges ds fs ps)
    ∙ sym (flat_map-cons posted (row_in ds fs ps r) (rows_in ranges ds fs ps))

terms-from : (start at : ℕ) (rows : List Row) → map (λ r. r.term) (ranges_from start at rows) ≡ map (λ r. r.term) rows
terms-from start at [] = refl
terms-from start at (r ∷ rows) = ap (λ l. r.term ∷ l) (terms-from (start + length r.documents) (at + length r.positions) rows)

all-paired : (rows : List Row) → All (λ r. length r.frequencies ≡ length r.documents) rows → length (all_frequencies rows) ≡ length (all_documents rows)
all-paired [] each = refl
all-paired (r ∷ rows) each =
    omega (
      arith,
      All-head (λ (r : Row). length r.frequencies ≡ length r.documents) r rows each,
      all-paired rows (All-tail (λ (r : Row). length r.frequencies ≡ length r.documents) r rows each),
      ap length (flat_map-cons (λ (r : Row). r.frequencies) r rows) ∙ length-append r.frequencies (all_frequencies rows),
      ap length (flat_map-cons (λ (r : Row). r.documents) r rows) ∙ length-append r.documents (all_documents rows),
    )

-- ---- documents that ascend are below a number where the last of them is
pub last-below : (low n : ℕ) (xs : List ℕ) → AscendFrom low xs → get_or xs (length xs - 1) 0 < n → All (λ d. d < n) xs
last-below low n [] ascend last = All-nil _
last-below low n (x ∷ []) ascend last = All-cons (λ d. d < n) x [] last (All-nil _)
last-below low n (x ∷ y ∷ xs) ascend last =
    let behind : length (x ∷ y ∷ xs) - 1 ≡ suc (length (y ∷ xs) - 1) = omega arith in
    let rest = last-below (x + 1) n (y ∷ xs) ascend.2 (subst (λ k. get_or (x ∷ y ∷ xs) k 0 < n) behind last) in
    let next = All-head (λ d. d < n) y xs rest in
    All-cons (λ d. d < n) x (y ∷ xs) (omega (arith, next, ascend.2.0)) rest

-- ---- rows in arrays that have them end to end
module _ (Own : Row → Type 0) (pairs : (r : Row) → Own r → length r.frequencies ≡ length r.documents) (rows : List Row) (ranges : List PostingsRange)
    (ds fs ps : List ℕ) (own : All Own rows) (laid : AreLaidEndToEnd rows ranges ds fs ps) where
  pub all-ranges : (P : PostingsRange → Type 0) → ((row : Row) (r : PostingsRange) → Own row → StandsIn ds fs ps row r → P r) → All P ranges
  all-ranges P step =
      subst (All P) (sym laid.ranges_are)
      (each-range Own pairs ds fs ps P step rows [] [] [] refl laid.documents_are laid.frequencies_are laid.positions_are own)

  pub rows-shown : rows_in ranges ds fs ps ≡ rows
  rows-shown =
      ap (λ rs. rows_in rs ds fs ps) laid.ranges_are
      ∙ rows-from Own pairs ds fs ps rows [] [] [] refl laid.documents_are laid.frequencies_are laid.positions_are own

-- ---- rows that may be those of a segment
module _ (schema : List FieldFacts) (count : ℕ) (rows : List Row) (ranges : List PostingsRange) (ds fs ps : List ℕ)
    (few : count ≤ 2147483647) (are : AreRows schema count rows) (laid : AreLaidEndToEnd rows ranges ds fs ps) where
  each : (P : PostingsRange → Type 0) → ((row : Row) (r : PostingsRange) → IsRow schema count row → StandsIn ds fs ps row r → P r) → All P ranges
  each = all-ranges (IsRow schema count) (λ r own. own.paired) rows ranges ds fs ps are.each laid

  rows-laid : rows_in ranges ds fs ps ≡ rows
  rows-laid = rows-shown (IsRow schema count) (λ r own. own.paired) rows ranges ds fs ps are.each laid

  pub terms-laid : map (λ r. r.term) ranges ≡ map (λ r. r.term) rows
  terms-laid = ap (map (λ r. r.term)) laid.ranges_are ∙ terms-from 0 0 rows

  -- what is read of a range is what the row has
  documents-of : (row : Row) (r : PostingsRange) → StandsIn ds fs ps row r → row.documents ≡ in_range r ds
  documents-of row r stands = ap (λ (x : Row). x.documents) (sym stands.row_is)

  frequencies-of : (row : Row) (r : PostingsRange) → StandsIn ds fs ps row r → row.frequencies ≡ in_range r fs
  frequencies-of row r stands = ap (λ (x : Row). x.frequencies) (sym stands.row_is)

  positions-of : (row : Row) (r : PostingsRange) → StandsIn ds fs ps row r → row.positions ≡ positions_in r ps
  positions-of row r stands = ap (λ (x : Row). x.positions) (sym stands.row_is)

  term-of : (row : Row) (r : PostingsRange) → StandsIn ds fs ps row r → row.term ≡ r.term
  term-of row r stands = ap (λ (x : Row). x.term) (sym stands.row_is)

  pub index-laid : IsIndex count ranges ds fs
  index-laid = record {
    terms = subst (IsStrictlySortedBy term_cmp) (sym terms-laid) are.terms;
    paired = ap length laid.frequencies_are
        ∙ all-paired rows (All-weaker (IsRow schema count) (λ (r : Row). length r.frequencies ≡ length r.documents) (λ r own. own.paired) rows are.each)
        ∙ sym (ap length laid.documents_are);
    within = each (λ r. r.start + r.count ≤ length ds) (λ row r own stands. stands.within);
    used = each (λ r. 0 < r.count) (λ row r own stands. omega (arith, own.some, stands.count));
    most = each (λ r. r.most ≡ greatest (in_range r fs)) (λ row r own stands. stands.most ∙ ap greatest (frequencies-of row r stands));
    documents = each (λ r. AreDocuments (in_range r ds))
        (λ row r own stands. subst AreDocuments (documents-of row r stands) (ascend-documents 0 count row.documents few own.ascending own.below));
    below = each (λ r. All (λ d. d < count) (in_range r ds)) (λ row r own stands. subst (All (λ d. d < count)) (documents-of row r stands) own.below);
  }

  -- as many positions as the field keeps
  kept-count : (keeps : Bool) (row : Row) → (keeps ≡ true → ArePlaces row.frequencies row.positions) → (keeps ≡ false → row.positions ≡ []) →
      length row.positions ≡ cond keeps (sum row.frequencies) 0
  kept-count true row places none = places-sum row.frequencies row.positions (places refl)
  kept-count false row places none = ap length (none refl)

  kept-ascend : (reading : FreqReadingOption) (keeps : Bool) (row : Row) → length row.frequencies ≡ length row.documents →
      (keeps ≡ true → ArePlaces row.frequencies row.positions) → (keeps ≡ false → row.positions ≡ []) →
      All (λ e. ArePositions e.positions) (stored_entries reading row.documents row.frequencies row.positions)
  kept-ascend reading true row paired places none = places-stored reading row.documents row.frequencies row.positions paired (places refl)
  kept-ascend reading false row paired places none =
      subst (λ qs. All (λ e. ArePositions e.positions) (stored_entries reading row.documents row.frequencies qs)) (sym (none refl))
      (All-no_positions (λ e. ArePositions e.positions) _ _ _ (λ e none. subst ArePositions (sym none) tt))

  pub positions-laid : HavePositions schema ranges ds fs ps
  positions-laid = record {
    indexed = each (λ r. is_indexed schema r.term.field ≡ true)
        (λ row r own stands. ap (λ (t : TermKey). is_indexed schema t.field) (sym (term-of row r stands)) ∙ own.indexed);
    held = each (λ r. All (λ f. 0 < f) (in_range r fs)) (λ row r own stands. subst (All (λ f. 0 < f)) (frequencies-of row r stands) own.held);
    within = each (λ r. r.positions_start + r.positions_count ≤ length ps) (λ row r own stands. stands.positions_within);
    counted = each (λ r. r.positions_count ≡ cond (keeps_positions schema r.term.field) (sum (in_range r fs)) 0) (λ row r own stands.
        stands.positions_count ∙ kept-count (keeps_positions schema row.term.field) row own.places own.no_places
        ∙ (λ i. cond (keeps_positions schema (term-of row r stands i).field) (sum (frequencies-of row r stands i)) 0));
    ascending = λ reading. each (λ r. All (λ e. ArePositions e.positions) (stored_entries reading (in_range r ds) (in_range r fs) (positions_in r ps)))
        (λ row r own stands.
        let Ascend : Row → Type 0 = λ x. All (λ e. ArePositions e.positions) (stored_entries reading x.documents x.frequencies x.positions) in
        subst Ascend (sym stands.row_is)
        (kept-ascend reading (keeps_positions schema row.term.field) row own.paired own.places own.no_places));
  }

  -- and they make its reader, of which no document is deleted
  pub reader-laid : (block_len : ℕ) (columns : List (List ℕ)) →
      reader_of_arrays schema block_len ranges ds fs ps columns None count ≡ reader_of_rows schema block_len rows columns count
  reader-laid block_len columns =
      let posted_are = posted-rows ranges ds fs ps ∙ ap all_posted rows-laid in
      λ i. record {
        segment = without (none-left_out count i) (segment_from schema block_len (posted_are i) columns count);
        terms = terms-laid i;
        rows = rows-laid i;
      }
