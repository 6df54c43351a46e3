-- Rows that are put together in arrays: what is pushed behind them leaves them as they are.
use Rattle.std.proofs.Common.{◌≡◌, ℕ, ◌+◌, ◌-◌, ◌≤◌, List, [], ◌∷◌, ◌++◌, length, take, drop, sym, refl, ap, subst, ◌∙◌, arith}
use Rattle.std.specs.Prelude.{All}
use Rattle.std.proofs.lemmas.List.{append-nil, drop-append-le, drop-take, drop_all, length-append, length-drop, length-take, length-take-le, take-append-drop, take-append-le, take-take, take_all}
use Rattle.std.proofs.lemmas.List.Elements.{All-append, All-cons, All-head, All-nil, All-tail, All-weaker}
use Rattle.qm_schema.specs.Term.{TermKey}
use Rattle.qm_postings.specs.Kept.{PostingsRange, greatest}
use Rattle.qm_postings.specs.Laying.{AreLaidEndToEnd, HaveMore, HaveSameItems, all_documents, all_positions, range_of, rows_of}
use Rattle.qm_postings.specs.Rows.{Row, rows_in}
use Rattle.qm_postings.specs.RowsSoFar.{AreSoFar, IsLaid, RowsSoFar, begun, pushed_row, shown_so_far, with_position, with_posting}
use Rattle.qm_postings.specs.declared.index_arrays.IndexArrays.{IndexArrays}
use Rattle.qm_postings.proofs.LaidRows.{all-ranges, laid-more, rows-shown}

-- a part of an array that ends before a place is one of what lies before that place
part-before : (start count end : ℕ) (xs : List ℕ) → start + count ≤ end → take count (drop start (take end xs)) ≡ take count (drop start xs)
part-before start count end xs within =
    let whole : end ≡ start + (end - start) = omega (arith, within) in
    ap (λ n. take count (drop start (take n xs))) whole ∙ ap (take count) (drop-take start (end - start) xs)
    ∙ take-take count (end - start) (drop start xs) (omega (arith, within))

-- the rows of ranges that end before a place are those of what lies before that place
rows-before : (ranges : List PostingsRange) (ds fs ps : List ℕ) (start at : ℕ) → All (λ r. r.start + r.count ≤ start) ranges →
    All (λ r. r.positions_start + r.positions_count ≤ at) ranges → rows_in ranges (take start ds) (take start fs) (take at ps) ≡ rows_in ranges ds fs ps
rows-before [] ds fs ps start at within placed = refl
rows-before (r ∷ ranges) ds fs ps start at within placed =
    let Within : PostingsRange → Type 0 = λ r. r.start + r.count ≤ start in
    let Placed : PostingsRange → Type 0 = λ r. r.positions_start + r.positions_count ≤ at in
    let own_ds = part-before r.start r.count start ds (All-head Within r ranges within) in
    let own_fs = part-before r.start r.count start fs (All-head Within r ranges within) in
    let own_ps = part-before r.positions_start r.positions_count at ps (All-head Placed r ranges placed) in
    let rest = rows-before ranges ds fs ps start at (All-tail Within r ranges within) (All-tail Placed r ranges placed) in
    λ i. record { term = r.term; documents = own_ds i; frequencies = own_fs i; positions = own_ps i } ∷ rest i

module _ (rows : List Row) (ranges : List PostingsRange) (ds fs ps : List ℕ) (start at : ℕ) (are : AreSoFar rows ranges ds fs ps start at) where
  ranges-end : All (λ r. r.start + r.count ≤ start) ranges
  ranges-end =
      all-ranges IsLaid (λ r own. own.paired) rows ranges (take start ds) (take start fs) (take at ps) are.each are.laid
      (λ r. r.start + r.count ≤ start) (λ row r own stands. omega (arith, stands.within, length-take start ds))

  positions-end : All (λ r. r.positions_start + r.positions_count ≤ at) ranges
  positions-end =
      all-ranges IsLaid (λ r own. own.paired) rows ranges (take start ds) (take start fs) (take at ps) are.each are.laid
      (λ r. r.positions_start + r.positions_count ≤ at) (λ row r own stands. omega (arith, stands.positions_within, length-take at ps))

  -- the ranges show the rows
  pub so-far-shown : rows_in ranges ds fs ps ≡ rows
  so-far-shown =
      sym (rows-before ranges ds fs ps start at ranges-end positions-end)
      ∙ rows-shown IsLaid (λ r own. own.paired) rows ranges (take start ds) (take start fs) (take at ps) are.each are.laid

  -- what is pushed
  so-far-more : (xs ys zs : List ℕ) → AreSoFar rows ranges (ds ++ xs) (fs ++ ys) (ps ++ zs) start at
  so-far-more xs ys zs =
      let same_ds = take-append-le start ds xs are.within in
      let same_fs = take-append-le start fs ys are.frequencies_within in
      let same_ps = take-append-le at ps zs are.positions_within in
      record {
        laid = record {
          ranges_are = are.laid.ranges_are;
          documents_are = same_ds ∙ are.laid.documents_are;
          frequencies_are = same_fs ∙ are.laid.frequencies_are;
          positions_are = same_ps ∙ are.laid.positions_are;
        };
        each = are.each;
        within = omega (arith, are.within, length-append ds xs);
        frequencies_within = omega (arith, are.frequencies_within, length-append fs ys);
        positions_within = omega (arith, are.positions_within, length-append ps zs);
      }

  -- what is left where that is gone
  so-far-cut : AreSoFar rows ranges (take start ds) (take start fs) (take at ps) start at
  so-far-cut =
      let omega-refl : (n : ℕ) → n ≤ n = λ n. omega arith in
      record {
        laid = record {
          ranges_are = are.laid.ranges_are;
          documents_are = take-take start start ds (omega-refl start) ∙ are.laid.documents_are;
          frequencies_are = take-take start start fs (omega-refl start) ∙ are.laid.frequencies_are;
          positions_are = take-take at at ps (omega-refl at) ∙ are.laid.positions_are;
        };
        each = are.each;
        within = omega (arith, length-take-le start ds are.within);
        frequencies_within = omega (arith, length-take-le start fs are.frequencies_within);
        positions_within = omega (arith, length-take-le at ps are.positions_within);
      }

  -- a row that ends
  so-far-ended : (row : Row) → IsLaid row → row.documents ≡ drop start ds → row.frequencies ≡ drop start fs → row.positions ≡ drop at ps →
      AreSoFar (rows ++ row ∷ []) (ranges ++ range_of start at row ∷ []) ds fs ps (length ds) (length ps)
  so-far-ended row own is_ds is_fs is_ps =
      let here : start ≡ length (take start ds) = sym (length-take-le start ds are.within) in
      let there : at ≡ length (take at ps) = sym (length-take-le at ps are.positions_within) in
      let whole_ds : take (length ds) ds ≡ ds = take_all (length ds) ds (omega arith) in
      let level : length fs ≡ length ds = omega (
        arith,
        own.paired,
        ap length is_ds ∙ length-drop start ds,
        ap length is_fs ∙ length-drop start fs,
        are.within,
        are.frequencies_within,
      ) in
      let whole_fs : take (length ds) fs ≡ fs = take_all (length ds) fs (omega (arith, level)) in
      let whole_ps : take (length ps) ps ≡ ps = take_all (length ps) ps (omega arith) in
      let more = laid-more rows row ranges (ranges ++ range_of start at row ∷ []) (take start ds) (take start fs) (take at ps) ds fs ps are.laid
      (record {
        range = λ i. ranges ++ range_of (here i) (there i) row ∷ [];
        documents = sym (take-append-drop start ds) ∙ ap (λ l. take start ds ++ l) (sym is_ds);
        frequencies = sym (take-append-drop start fs) ∙ ap (λ l. take start fs ++ l) (sym is_fs);
        positions = sym (take-append-drop at ps) ∙ ap (λ l. take at ps ++ l) (sym is_ps);
      }) in
      record {
        laid = record {
          ranges_are = more.ranges_are;
          documents_are = whole_ds ∙ more.documents_are;
          frequencies_are = whole_fs ∙ more.frequencies_are;
          positions_are = whole_ps ∙ more.positions_are;
        };
        each = All-append IsLaid rows (row ∷ []) are.each (All-cons IsLaid row [] own (All-nil IsLaid));
        within = omega arith;
        frequencies_within = omega (arith, level);
        positions_within = omega arith;
      }

-- ---- what a builder's arrays show

settled : (rows : List Row) (ranges : List PostingsRange) (ds fs ps : List ℕ) (start at : ℕ) → AreSoFar rows ranges ds fs ps start at →
    AreSoFar (rows_in ranges ds fs ps) ranges ds fs ps start at
settled rows ranges ds fs ps start at are = subst (λ rs. AreSoFar rs ranges ds fs ps start at) (sym (so-far-shown rows ranges ds fs ps start at are)) are

module _ (ranges : List PostingsRange) (ds fs ps : List ℕ) (start at : ℕ) (are : AreSoFar (rows_in ranges ds fs ps) ranges ds fs ps start at) where
  module _ (ds_new fs_new ps_new xs ys zs : List ℕ) (is_ds : ds_new ≡ ds ++ xs) (is_fs : fs_new ≡ fs ++ ys) (is_ps : ps_new ≡ ps ++ zs) where
    more : AreSoFar (rows_in ranges ds fs ps) ranges ds_new fs_new ps_new start at
    more =
        let grown = so-far-more (rows_in ranges ds fs ps) ranges ds fs ps start at are xs ys zs in
        subst (λ l. AreSoFar (rows_in ranges ds fs ps) ranges l fs_new ps_new start at) (sym is_ds)
        (subst (λ l. AreSoFar (rows_in ranges ds fs ps) ranges (ds ++ xs) l ps_new start at) (sym is_fs)
        (subst (λ l. AreSoFar (rows_in ranges ds fs ps) ranges (ds ++ xs) (fs ++ ys) l start at) (sym is_ps) grown))

    pub invariant-more : AreSoFar (rows_in ranges ds_new fs_new ps_new) ranges ds_new fs_new ps_new start at
    invariant-more = settled (rows_in ranges ds fs ps) ranges ds_new fs_new ps_new start at more

    pub shown-more : shown_so_far ranges ds_new fs_new ps_new start at ≡ record {
      rows = rows_in ranges ds fs ps;
      documents = drop start ds ++ xs;
      frequencies = drop start fs ++ ys;
      positions = drop at ps ++ zs;
    }
    shown-more =
        let same = so-far-shown (rows_in ranges ds fs ps) ranges ds_new fs_new ps_new start at more in
        let own_ds = ap (drop start) is_ds ∙ drop-append-le start ds xs are.within in
        let own_fs = ap (drop start) is_fs ∙ drop-append-le start fs ys are.frequencies_within in
        let own_ps = ap (drop at) is_ps ∙ drop-append-le at ps zs are.positions_within in
        λ i. record { rows = same i; documents = own_ds i; frequencies = own_fs i; positions = own_ps i }

  module _ (ds_new fs_new ps_new : List ℕ) (is_ds : ds_new ≡ take start ds) (is_fs : fs_new ≡ take start fs) (is_ps : ps_new ≡ take at ps) where
    cut : AreSoFar (rows_in ranges ds fs ps) ranges ds_new fs_new ps_new start at
    cut =
        let left = so-far-cut (rows_in ranges ds fs ps) ranges ds fs ps start at are in
        subst (λ l. AreSoFar (rows_in ranges ds fs ps) ranges l fs_new ps_new start at) (sym is_ds)
        (subst (λ l. AreSoFar (rows_in ranges ds fs ps) ranges (take start ds) l ps_new start at) (sym is_fs)
        (subst (λ l. AreSoFar (rows_in ranges ds fs ps) ranges (take start ds) (take start fs) l start at) (sym is_ps) left))

    pub invariant-cut : AreSoFar (rows_in ranges ds_new fs_new ps_new) ranges ds_new fs_new ps_new start at
    invariant-cut = settled (rows_in ranges ds fs ps) ranges ds_new fs_new ps_new start at cut

    past : (n : ℕ) (xs : List ℕ) → drop n (take n xs) ≡ []
    past n xs = drop_all n (take n xs) (omega (arith, length-take n xs))

    pub shown-cut : shown_so_far ranges ds_new fs_new ps_new start at ≡ begun (rows_in ranges ds fs ps)
    shown-cut =
        let same = so-far-shown (rows_in ranges ds fs ps) ranges ds_new fs_new ps_new start at cut in
        let no_ds = ap (drop start) is_ds ∙ past start ds in
        let no_fs = ap (drop start) is_fs ∙ past start fs in
        let no_ps = ap (drop at) is_ps ∙ past at ps in
        λ i. record { rows = same i; documents = no_ds i; frequencies = no_fs i; positions = no_ps i }

  module _ (row : Row) (own : IsLaid row) (is_ds : row.documents ≡ drop start ds) (is_fs : row.frequencies ≡ drop start fs)
      (is_ps : row.positions ≡ drop at ps) (ranges_new : List PostingsRange) (is_ranges : ranges_new ≡ ranges ++ range_of start at row ∷ [])
      (start_new at_new : ℕ) (start_is : start_new ≡ length ds) (at_is : at_new ≡ length ps) where
    ended : AreSoFar (rows_in ranges ds fs ps ++ row ∷ []) ranges_new ds fs ps start_new at_new
    ended =
        subst (λ rs. AreSoFar (rows_in ranges ds fs ps ++ row ∷ []) rs ds fs ps start_new at_new) (sym is_ranges)
        (subst (λ n. AreSoFar (rows_in ranges ds fs ps ++ row ∷ []) (ranges ++ range_of start at row ∷ []) ds fs ps n at_new) (sym start_is)
        (subst (λ n. AreSoFar (rows_in ranges ds fs ps ++ row ∷ []) (ranges ++ range_of start at row ∷ []) ds fs ps (length ds) n) (sym at_is)
        (so-far-ended (rows_in ranges ds fs ps) ranges ds fs ps start at are row own is_ds is_fs is_ps)))

    pub invariant-ended : AreSoFar (rows_in ranges_new ds fs ps) ranges_new ds fs ps start_new at_new
    invariant-ended = settled (rows_in ranges ds fs ps ++ row ∷ []) ranges_new ds fs ps start_new at_new ended

    pub shown-ended : shown_so_far ranges_new ds fs ps start_new at_new ≡ begun (rows_in ranges ds fs ps ++ row ∷ [])
    shown-ended =
        let same = so-far-shown (rows_in ranges ds fs ps ++ row ∷ []) ranges_new ds fs ps start_new at_new ended in
        let no_ds = drop_all start_new ds (omega (arith, start_is)) in
        let no_fs = drop_all start_new fs (omega (
          arith,
          start_is,
          own.paired,
          ap length is_ds ∙ length-drop start ds,
          ap length is_fs ∙ length-drop start fs,
          are.within,
          are.frequencies_within,
        )) in
        let no_ps = drop_all at_new ps (omega (arith, at_is)) in
        λ i. record { rows = same i; documents = no_ds i; frequencies = no_fs i; positions = no_ps i }

  -- where there are no rows, what was pushed begins with the arrays
  module _ (no_rows : rows_in ranges ds fs ps ≡ []) where
    pub start-is-0 : start ≡ 0
    start-is-0 = omega (arith, length-take-le start ds are.within, ap length (are.laid.documents_are ∙ ap all_documents no_rows))

    pub positions-start-is-0 : at ≡ 0
    positions-start-is-0 = omega (arith, length-take-le at ps are.positions_within, ap length (are.laid.positions_are ∙ ap all_positions no_rows))

-- ---- the ranges of the rows that were ended

module _ (ranges : List PostingsRange) (ds fs ps : List ℕ) (start at : ℕ) (are : AreSoFar (rows_in ranges ds fs ps) ranges ds fs ps start at) where
  pub all-documents-end : All (λ r. r.start + r.count ≤ length ds) ranges
  all-documents-end =
      All-weaker (λ (r : PostingsRange). r.start + r.count ≤ start) (λ (r : PostingsRange). r.start + r.count ≤ length ds)
      (λ r ends. omega (arith, ends, are.within)) ranges (ranges-end (rows_in ranges ds fs ps) ranges ds fs ps start at are)

  pub all-frequencies-end : All (λ r. r.start + r.count ≤ length fs) ranges
  all-frequencies-end =
      All-weaker (λ (r : PostingsRange). r.start + r.count ≤ start) (λ (r : PostingsRange). r.start + r.count ≤ length fs)
      (λ r ends. omega (arith, ends, are.frequencies_within)) ranges (ranges-end (rows_in ranges ds fs ps) ranges ds fs ps start at are)

  pub all-positions-end : All (λ r. r.positions_start + r.positions_count ≤ length ps) ranges
  all-positions-end =
      All-weaker (λ (r : PostingsRange). r.positions_start + r.positions_count ≤ at) (λ (r : PostingsRange). r.positions_start + r.positions_count ≤ length ps)
      (λ r ends. omega (arith, ends, are.positions_within)) ranges (positions-end (rows_in ranges ds fs ps) ranges ds fs ps start at are)

-- ---- where nothing was pushed since

module _ (ranges : List PostingsRange) (ds fs ps : List ℕ) (start at : ℕ) (are : AreSoFar (rows_in ranges ds fs ps) ranges ds fs ps start at)
    (no_ds : drop start ds ≡ []) (no_fs : drop start fs ≡ []) (no_ps : drop at ps ≡ []) where
  whole : (n : ℕ) (xs : List ℕ) → drop n xs ≡ [] → take n xs ≡ xs
  whole n xs none = take_all n xs (omega (arith, length-drop n xs, ap length none))

  -- the arrays are those of the rows
  pub all-laid : AreLaidEndToEnd (rows_in ranges ds fs ps) ranges ds fs ps
  all-laid = record {
    ranges_are = are.laid.ranges_are;
    documents_are = sym (whole start ds no_ds) ∙ are.laid.documents_are;
    frequencies_are = sym (whole start fs no_fs) ∙ are.laid.frequencies_are;
    positions_are = sym (whole at ps no_ps) ∙ are.laid.positions_are;
  }

-- ---- where no row was ended

module _ (ranges : List PostingsRange) (ds fs ps : List ℕ) (no_ranges : ranges ≡ []) where
  pub invariant-nothing : AreSoFar (rows_in ranges ds fs ps) ranges ds fs ps 0 0
  invariant-nothing =
      subst (λ rs. AreSoFar (rows_in rs ds fs ps) rs ds fs ps 0 0) (sym no_ranges) record {
        laid = record { ranges_are = refl; documents_are = refl; frequencies_are = refl; positions_are = refl };
        each = All-nil IsLaid;
        within = omega arith;
        frequencies_within = omega arith;
        positions_within = omega arith;
      }

  pub shown-nothing : ds ≡ [] → fs ≡ [] → ps ≡ [] → shown_so_far ranges ds fs ps 0 0 ≡ begun []
  shown-nothing no_ds no_fs no_ps =
      λ i. record { rows = rows_in (no_ranges i) ds fs ps; documents = no_ds i; frequencies = no_fs i; positions = no_ps i }

-- ---- what is pushed into arrays

abbrev pub shown_of : IndexArrays → ℕ → ℕ → RowsSoFar
shown_of a start at = shown_so_far a.terms.items a.documents.items a.frequencies a.positions.items start at

abbrev pub Hold : IndexArrays → ℕ → ℕ → Type 0
Hold a start at = AreSoFar (rows_of a) a.terms.items a.documents.items a.frequencies a.positions.items start at

module _ (a b : IndexArrays) (start at : ℕ) (are : Hold a start at) where
  -- room alone
  pub invariant-same : HaveSameItems a b → Hold b start at
  invariant-same same =
      subst (λ l. AreSoFar (rows_in l b.documents.items b.frequencies b.positions.items) l b.documents.items b.frequencies b.positions.items start at) (sym same.terms)
      (subst (λ l. AreSoFar (rows_in a.terms.items l b.frequencies b.positions.items) a.terms.items l b.frequencies b.positions.items start at) (sym same.documents)
      (subst (λ l. AreSoFar (rows_in a.terms.items a.documents.items l b.positions.items) a.terms.items a.documents.items l b.positions.items start at) (sym same.frequencies)
      (subst (λ l. AreSoFar (rows_in a.terms.items a.documents.items a.frequencies l) a.terms.items a.documents.items a.frequencies l start at) (sym same.positions) are)))

  pub shown-same : HaveSameItems a b → shown_of b start at ≡ shown_of a start at
  shown-same same = λ i. shown_so_far (same.terms i) (same.documents i) (same.frequencies i) (same.positions i) start at

  -- postings and positions
  module _ (xs ys zs : List ℕ) (have : HaveMore xs ys zs a b) where
    pub invariant-pushed : Hold b start at
    invariant-pushed =
        subst (λ l. AreSoFar (rows_in l b.documents.items b.frequencies b.positions.items) l b.documents.items b.frequencies b.positions.items start at) (sym have.terms)
        (invariant-more a.terms.items a.documents.items a.frequencies a.positions.items start at are b.documents.items b.frequencies b.positions.items xs ys zs
        have.documents have.frequencies have.positions)

    pub shown-pushed : shown_of b start at ≡ record {
      rows = rows_of a;
      documents = drop start a.documents.items ++ xs;
      frequencies = drop start a.frequencies ++ ys;
      positions = drop at a.positions.items ++ zs;
    }
    shown-pushed =
        (λ i. shown_so_far (have.terms i) b.documents.items b.frequencies b.positions.items start at)
        ∙ shown-more a.terms.items a.documents.items a.frequencies a.positions.items start at are b.documents.items b.frequencies b.positions.items xs ys zs
        have.documents have.frequencies have.positions

  pub shown-posting : (d f : ℕ) → HaveMore (d ∷ []) (f ∷ []) [] a b → shown_of b start at ≡ with_posting (shown_of a start at) d f
  shown-posting d f have =
      shown-pushed (d ∷ []) (f ∷ []) [] have ∙ (λ i. record {
        rows = rows_of a;
        documents = drop start a.documents.items ++ d ∷ [];
        frequencies = drop start a.frequencies ++ f ∷ [];
        positions = append-nil (drop at a.positions.items) i;
      })

-- a position alone
module _ (a : IndexArrays) (ps : List ℕ) (start at p : ℕ) (are : Hold a start at) (is_ps : ps ≡ a.positions.items ++ p ∷ []) where
  pub invariant-position : AreSoFar (rows_in a.terms.items a.documents.items a.frequencies ps) a.terms.items a.documents.items a.frequencies ps start at
  invariant-position =
      invariant-more a.terms.items a.documents.items a.frequencies a.positions.items start at are a.documents.items a.frequencies ps [] [] (p ∷ [])
      (sym (append-nil a.documents.items)) (sym (append-nil a.frequencies)) is_ps

  pub shown-position : shown_so_far a.terms.items a.documents.items a.frequencies ps start at ≡ with_position (shown_of a start at) p
  shown-position =
      shown-more a.terms.items a.documents.items a.frequencies a.positions.items start at are a.documents.items a.frequencies ps [] [] (p ∷ [])
      (sym (append-nil a.documents.items)) (sym (append-nil a.frequencies)) is_ps ∙ (λ i. record {
        rows = rows_of a;
        documents = append-nil (drop start a.documents.items) i;
        frequencies = append-nil (drop start a.frequencies) i;
        positions = drop at a.positions.items ++ p ∷ [];
      })

-- ---- a row that ends in arrays

module _ (a : IndexArrays) (ranges_new : List PostingsRange) (start at : ℕ) (are : Hold a start at) (term : TermKey)
    (count most positions_count start_new at_new : ℕ) (laid : IsLaid (pushed_row term (shown_of a start at)))
    (is_ranges : ranges_new ≡ a.terms.items ++ record {
      term = term;
      start = start;
      count = count;
      most = most;
      positions_start = at;
      positions_count = positions_count;
    } ∷ [])
    (count_is : count ≡ length a.documents.items - start) (most_is : most ≡ greatest (take count (drop start a.frequencies)))
    (positions_are : positions_count ≡ length a.positions.items - at)
    (start_is : start_new ≡ length a.documents.items) (at_is : at_new ≡ length a.positions.items) where
  abbrev row : Row
  row = pushed_row term (shown_of a start at)

  same-range : ranges_new ≡ a.terms.items ++ range_of start at row ∷ []
  same-range =
      let own_count : count ≡ length (drop start a.documents.items) = count_is ∙ sym (length-drop start a.documents.items) in
      let all = take_all count (drop start a.frequencies) (omega (arith, own_count, laid.paired)) in
      let own_most : most ≡ greatest (drop start a.frequencies) = most_is ∙ ap greatest all in
      let own_positions : positions_count ≡ length (drop at a.positions.items) = positions_are ∙ sym (length-drop at a.positions.items) in
      is_ranges ∙ (λ i. a.terms.items ++ record {
        term = term;
        start = start;
        count = own_count i;
        most = own_most i;
        positions_start = at;
        positions_count = own_positions i;
      } ∷ [])

  pub invariant-row : AreSoFar (rows_in ranges_new a.documents.items a.frequencies a.positions.items)
      ranges_new a.documents.items a.frequencies a.positions.items start_new at_new
  invariant-row =
      invariant-ended a.terms.items a.documents.items a.frequencies a.positions.items start at are row laid refl refl refl ranges_new same-range
      start_new at_new start_is at_is

  pub shown-row : shown_so_far ranges_new a.documents.items a.frequencies a.positions.items start_new at_new ≡ begun (rows_of a ++ row ∷ [])
  shown-row =
      shown-ended a.terms.items a.documents.items a.frequencies a.positions.items start at are row laid refl refl refl ranges_new same-range
      start_new at_new start_is at_is
