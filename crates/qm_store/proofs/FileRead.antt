-- What a file says of a term that a segment was written into: its row there.
use Rattle.std.proofs.Common.{◌≡◌, ℕ, zero, suc, ◌+◌, ◌-◌, ◌*◌, ◌^◌, ◌<◌, ◌≤◌, Bool, true, false, cond, List, [], ◌∷◌, ◌++◌, drop, length, take, map, Option, None, Some, Ok, Err, refl, ap, sym, subst, ◌∙◌, append_assoc, append-nil, arith}
use Rattle.std.specs.Prelude.{All, ok_or, option_and_then, option_map}
use Rattle.std.specs.List.{AllByRecursion, flat_map}
use Rattle.std.specs.List.Sorted.{IsStrictlySortedBy}
use Rattle.std.specs.Ordering.{eq_by_cmp}
use Rattle.std.proofs.lemmas.Bool.{le-leb, le-ltb}
use Rattle.std.proofs.lemmas.Grind.{div_ceil_times}
use Rattle.std.proofs.lemmas.List.{length-append, length-drop, length-take, take-append-drop}
use Rattle.std.proofs.lemmas.List.Elements.{All-head, All-tail, All-take, All-drop}
use Rattle.qm_postings.specs.Reading.{Reader}
use Rattle.qm_postings.specs.Rows.{IsRow, Row, columns_of}
use Rattle.qm_postings.specs.Segment.{keeps_positions}
use Rattle.qm_schema.specs.Schema.{FieldFacts}
use Rattle.qm_schema.specs.Term.{TermKey, same_term, term_cmp}
use Rattle.qm_store.specs.Numbers.{spelled}
use Rattle.qm_store.specs.Stored.{IsStored, IsStorable, all_apart, block_bytes, blocks_named, dictionary_bytes, ending_bytes, entries_bytes, group_bytes, group_count, groups, head_bytes, index_bytes, kept_row, last_bytes, named, row_of, rows_bytes, stored, stored_blocks, with_places}
use Rattle.qm_store.specs.Dictionary.{index_at}
use Rattle.qm_store.specs.Ends.{ending_at, ending_in, headed, last_piece_at}
use Rattle.qm_store.specs.Pieces.{part_at, piece_in}
use Rattle.qm_store.specs.StoredSegment.{Opened, behind_head, lengths_in, looked_up, opened, opened_in, opened_segment, parts_in, rows_of, rows_of_blocks, with_columns}
use Rattle.qm_store.specs.declared.ending.Ending.{Ending}
use Rattle.qm_store.specs.declared.piece.Piece.{Piece}
use Rattle.qm_store.specs.declared.store_error.StoreError.TheVariants.{Damaged, OtherFile}
use Rattle.qm_store.proofs.DigestFits.{digest-fits}
use Rattle.qm_store.proofs.FileOpened.{columns-read, ending-read, index-read, last-read}
use Rattle.qm_store.proofs.PiecesRead.{part-there, piece-there}
use Rattle.qm_store.proofs.RowsFound.{found_as, read_as}
use Rattle.qm_store.proofs.RowsKept.{row-kept}
use Rattle.qm_store.proofs.RowsRead.{some-byte}
use Rattle.qm_store.proofs.StoredRead.{IsGroup, all_rows, looked, term_of}
use Rattle.qm_store.proofs.BlocksRead.{AreRead, all-read, groups-read, wanted-read}
use Rattle.qm_store.proofs.WantedRows.{each-read, rows-apart}
use Rattle.qm_store.specs.Wanted.{AreApart, is_meant, is_wanted}
use Rattle.qm_store.specs.declared.wanted.Wanted.{Wanted}
use Rattle.qm_postings.specs.Restriction.{rows_wanted}

-- ---- groups

none-there : (rows : List Row) → length rows ≤ 0 → rows ≡ []
none-there [] few = refl
none-there (r ∷ rs) few = absurd (omega (arith, few))

-- the groups are all rows
whole-groups : (n : ℕ) (rows : List Row) → length rows ≤ n * 128 → all_rows (groups n rows) ≡ rows
whole-groups zero rows few = sym (none-there rows (omega (arith, few)))
whole-groups (suc n) rows few =
    ap (λ l. take 128 rows ++ l) (whole-groups n (drop 128 rows) (omega (arith, length-drop 128 rows, few))) ∙ take-append-drop 128 rows

are-groups : (n : ℕ) (rows : List Row) → n * 128 < length rows + 128 → All IsStorable rows → AllByRecursion IsGroup (groups n rows)
are-groups zero rows some are = tt
are-groups (suc n) rows some are =
    let size = length-take 128 rows in (
      record { some = omega (arith, size, some); few = omega (arith, size); rows = All-take IsStorable 128 rows are },
      are-groups n (drop 128 rows) (omega (arith, length-drop 128 rows, some)) (All-drop IsStorable 128 rows are),
    )

are-rows : (P : Row → Type 0) (n : ℕ) (rows : List Row) → All P rows → AllByRecursion (All P) (groups n rows)
are-rows P zero rows are = tt
are-rows P (suc n) rows are = (All-take P 128 rows are, are-rows P n (drop 128 rows) (All-drop P 128 rows are))

-- as many blocks as there are bytes, at most
few-blocks : (key at : ℕ) (gs : List (List Row)) → length (blocks_named key at gs) ≤ length (dictionary_bytes key at gs)
few-blocks key at [] = omega arith
few-blocks key at (g ∷ gs) =
    let own = group_bytes key at g in
    omega (
      arith,
      few-blocks key (at + length own) gs,
      length-append own (dictionary_bytes key (at + length own) gs),
      length-append (all_apart g) (block_bytes key at g),
      length-append (spelled (length g)) (entries_bytes key at g),
      some-byte 8 (length g),
    )

-- ---- a term among rows

rows-kept : (schema : List FieldFacts) (count : ℕ) (placed : Bool) (t : TermKey) (rows : List Row) → All (IsRow schema count) rows → All IsStorable rows →
    (placed ≡ true → keeps_positions schema t.field ≡ true) → found_as placed t (row_of t rows) ≡ Some (kept_row placed t rows)
rows-kept schema count placed t [] are fit keeps = refl
rows-kept schema count placed t (r ∷ rs) are fit keeps =
    by_term (eq_by_cmp term_cmp r.term t) refl (rows-kept schema count placed t rs (All-tail (IsRow schema count) r rs are) (All-tail IsStorable r rs fit) keeps)
  where
    is : IsRow schema count r
    is = All-head (IsRow schema count) r rs are

    by_term : (b : Bool) → eq_by_cmp term_cmp r.term t ≡ b → found_as placed t (row_of t rs) ≡ Some (kept_row placed t rs) →
        found_as placed t (cond b (Some r) (row_of t rs)) ≡ Some (option_map (with_places placed) (cond b (Some r) (row_of t rs)))
    by_term false e others = others
    by_term true e others =
        let same = (same_term r.term t).0 e in
        let own = λ (p : placed ≡ true). ap (λ (u : TermKey). keeps_positions schema u.field) same ∙ keeps p in
        ap (option_map (λ row. Some row)) (ap (λ u. read_as placed u r) (sym same) ∙ row-kept schema count placed r is (All-head IsStorable r rs fit) own)

-- ---- a file

-- its rows in front, and all that stands behind
regrouped : (h d i l e z : List ℕ) → ((((h ++ d) ++ i) ++ l) ++ e) ++ z ≡ h ++ (d ++ (i ++ (l ++ (e ++ z))))
regrouped h d i l e z =
    append_assoc (((h ++ d) ++ i) ++ l) e z ∙ append_assoc ((h ++ d) ++ i) l (e ++ z) ∙ append_assoc (h ++ d) i (l ++ (e ++ z))
    ∙ append_assoc h d (i ++ (l ++ (e ++ z)))

module _ (key : ℕ) (r : Reader) (are : IsStored key r) where
  abbrev dictionary : List ℕ
  dictionary = dictionary_bytes key 16 (groups (group_count r.rows) r.rows)

  abbrev index : List ℕ
  index = index_bytes (stored_blocks key r.rows)

  abbrev lengths : List ℕ
  lengths = flat_map (λ c. c) (columns_of r.segment)

  abbrev ending : List ℕ
  ending = ending_bytes key r.segment (named key (length (rows_bytes key r.rows)) index) (named key (length (rows_bytes key r.rows ++ index)) lengths)

  abbrev last : List ℕ
  last = last_bytes (named key (length ((rows_bytes key r.rows ++ index) ++ lengths)) ending)

  size : length (stored key r) ≡ 16 + (length dictionary + (length index + (length lengths + (length ending + 24))))
  size =
      let few : length last ≡ 24 = refl in
      ap length (regrouped head_bytes dictionary index lengths ending last)
      ∙ length-append head_bytes (dictionary ++ (index ++ (lengths ++ (ending ++ last))))
      ∙ ap (λ n. 16 + n) (length-append dictionary (index ++ (lengths ++ (ending ++ last)))
      ∙ ap (λ n. length dictionary + n) (length-append index (lengths ++ (ending ++ last))
      ∙ ap (λ n. length index + n) (length-append lengths (ending ++ last)
      ∙ ap (λ n. length lengths + n) (length-append ending last ∙ ap (λ n. length ending + n) few))))

  rows-found : (placed : Bool) (t : TermKey) → looked_up key (stored key r) placed t (stored_blocks key r.rows) ≡ found_as placed t (row_of t r.rows)
  rows-found placed t =
      let bounds = div_ceil_times (length r.rows) 128 (omega arith) in
      let whole = whole-groups (group_count r.rows) r.rows (omega (arith, bounds.0)) in
      ap (λ l. looked_up key l placed t (stored_blocks key r.rows)) (regrouped head_bytes dictionary index lengths ending last)
      ∙ looked key placed t (groups (group_count r.rows) r.rows) head_bytes (index ++ (lengths ++ (ending ++ last)))
      (are-groups (group_count r.rows) r.rows (omega (arith, bounds.1)) are.each)
      (subst (λ rs. IsStrictlySortedBy term_cmp (map term_of rs)) (sym whole) are.of.made.are_rows.terms)
      (omega (arith, are.whole, size))
      ∙ ap (λ rs. found_as placed t (row_of t rs)) whole

  -- so a file that was written says of a term what the segment does
  pub term-kept : (placed : Bool) (t : TermKey) → (placed ≡ true → keeps_positions r.segment.schema t.field ≡ true) →
      looked_up key (stored key r) placed t (stored_blocks key r.rows) ≡ Some (kept_row placed t r.rows)
  term-kept placed t keeps =
      rows-found placed t
      ∙ rows-kept r.segment.schema (length r.segment.documents) placed t r.rows are.of.made.are_rows.each are.each keeps

  -- ---- the rows of several terms

  abbrev tail : List ℕ
  tail = index ++ (lengths ++ (ending ++ last))

  all-groups : AllByRecursion IsGroup (groups (group_count r.rows) r.rows)
  all-groups = are-groups (group_count r.rows) r.rows (omega (arith, (div_ceil_times (length r.rows) 128 (omega arith)).1)) are.each

  whole-rows : all_rows (groups (group_count r.rows) r.rows) ≡ r.rows
  whole-rows = whole-groups (group_count r.rows) r.rows (omega (arith, (div_ceil_times (length r.rows) 128 (omega arith)).0))

  groups-sorted : IsStrictlySortedBy term_cmp (map term_of (all_rows (groups (group_count r.rows) r.rows)))
  groups-sorted = subst (λ rs. IsStrictlySortedBy term_cmp (map term_of rs)) (sym whole-rows) are.of.made.are_rows.terms

  all-read-there : AreRead key (stored key r) r.segment.schema 16 (groups (group_count r.rows) r.rows)
  all-read-there =
      subst (λ l. AreRead key l r.segment.schema 16 (groups (group_count r.rows) r.rows)) (sym (regrouped head_bytes dictionary index lengths ending last))
      (groups-read key r.segment.schema (length r.segment.documents) (groups (group_count r.rows) r.rows) head_bytes tail all-groups
      (are-rows (IsRow r.segment.schema (length r.segment.documents)) (group_count r.rows) r.rows are.of.made.are_rows.each) (omega (arith, are.whole, size)))

  -- a file that was written has all rows of the segment
  pub whole-kept : rows_of_blocks key (stored key r) r.segment.schema None (stored_blocks key r.rows) ≡ Some r.rows
  whole-kept =
      all-read key (stored key r) r.segment.schema 16 (groups (group_count r.rows) r.rows) all-read-there ∙ ap Some whole-rows

  -- and of what is wanted those that are
  pub wanted-kept : (ws : List Wanted) → AreApart ws →
      rows_of key (stored key r) r.segment.schema (stored_blocks key r.rows) ws ≡ Some (rows_wanted (is_wanted ws) r.rows)
  wanted-kept ws apart =
      each-read key (stored key r) r.segment.schema (stored_blocks key r.rows) r.rows
      (λ w. wanted-read key (stored key r) r.segment.schema w 16 (groups (group_count r.rows) r.rows) all-read-there all-groups groups-sorted
      ∙ ap (λ rs. Some (rows_wanted (is_meant w) rs)) whole-rows) ws
      ∙ ap Some (rows-apart r.rows ws are.of.made.are_rows.terms apart)

  -- ---- it opens

  abbrev front : List ℕ
  front = rows_bytes key r.rows

  abbrev body : List ℕ
  body = (front ++ index) ++ lengths

  abbrev index_piece : Piece
  index_piece = named key (length front) index

  abbrev lengths_piece : Piece
  lengths_piece = named key (length (front ++ index)) lengths

  abbrev told : Ending
  told = record { block_len = r.segment.block_len; documents = length r.segment.documents; index = index_piece; lengths = lengths_piece }

  front-size : length front ≡ 16 + length dictionary
  front-size = length-append head_bytes dictionary

  body-size : length body ≡ 16 + (length dictionary + (length index + length lengths))
  body-size = omega (arith, front-size, length-append front index, length-append (front ++ index) lengths)

  -- the last bytes name the ending
  ending-named : option_and_then (piece_in key (stored key r)) (option_and_then last_piece_at (part_at (length (stored key r) - 24) 24 (stored key r))) ≡ Some ending
  ending-named =
      let whole = body ++ ending in
      let few : length last ≡ 24 = refl in
      let joined = length-append whole last in
      let at : length (stored key r) - 24 ≡ length whole = omega (arith, joined, few) in
      ap (λ n. option_and_then (piece_in key (stored key r)) (option_and_then last_piece_at (part_at n 24 (stored key r)))) at
      ∙ ap (λ l. option_and_then (piece_in key (stored key r)) (option_and_then last_piece_at (part_at (length whole) 24 (whole ++ l)))) (sym (append-nil last))
      ∙ ap (λ x. option_and_then (piece_in key (stored key r)) (option_and_then last_piece_at x)) (part-there whole last [])
      ∙ ap (option_and_then (piece_in key (stored key r)))
      (last-read (named key (length body) ending) (omega (arith, are.whole, size, body-size)) (omega (arith, are.whole, size)) (digest-fits key (length body) ending))
      ∙ ap (λ l. piece_in key l (named key (length body) ending)) (append_assoc body ending last)
      ∙ piece-there key body ending last

  module _ (fits : key < 2 ^ 64) where
    ending-found : ending_in key (stored key r) ≡ Some told
    ending-found =
        ap (λ b. cond b (option_and_then (ending_at key) (option_and_then (piece_in key (stored key r)) (option_and_then last_piece_at (part_at (length (stored key r) - 24) 24 (stored key r))))) None)
        (le-leb 24 (length (stored key r)) (omega (arith, size)))
        ∙ ap (option_and_then (ending_at key)) ending-named
        ∙ ending-read key r.segment.block_len (length r.segment.documents) index_piece lengths_piece fits (omega (arith, are.of.made.short)) (omega (arith, are.of.made.few))
        (omega (arith, are.whole, size, front-size)) (omega (arith, are.whole, size)) (digest-fits key (length front) index)
        (omega (arith, are.whole, size, front-size, length-append front index)) (omega (arith, are.whole, size)) (digest-fits key (length (front ++ index)) lengths)

    index-found : option_and_then index_at (piece_in key (stored key r) index_piece) ≡ Some (stored_blocks key r.rows)
    index-found =
        let behind = append_assoc (front ++ index) lengths (ending ++ last) ∙ append_assoc front index (lengths ++ (ending ++ last)) in
        let file = append_assoc body ending last ∙ behind in
        let bounds = div_ceil_times (length r.rows) 128 (omega arith) in
        let whole = whole-groups (group_count r.rows) r.rows (omega (arith, bounds.0)) in
        ap (λ l. option_and_then index_at (piece_in key l index_piece)) file
        ∙ ap (option_and_then index_at) (piece-there key front index (lengths ++ (ending ++ last)))
        ∙ index-read key 16 (groups (group_count r.rows) r.rows) (are-groups (group_count r.rows) r.rows (omega (arith, bounds.1)) are.each)
        (subst (λ rs. IsStrictlySortedBy term_cmp (map term_of rs)) (sym whole) are.of.made.are_rows.terms)
        (omega (arith, are.whole, size)) (omega (arith, are.whole, size, few-blocks key 16 (groups (group_count r.rows) r.rows)))

    lengths-found : piece_in key (stored key r) lengths_piece ≡ Some lengths
    lengths-found =
        let file = append_assoc body ending last ∙ append_assoc (front ++ index) lengths (ending ++ last) in
        ap (λ l. piece_in key l lengths_piece) file ∙ piece-there key (front ++ index) lengths (ending ++ last)

    pub segment-opens : opened r.segment.schema key (stored key r) ≡ Ok (opened_segment key r)
    segment-opens =
        ap (λ h. behind_head h (opened_in r.segment.schema key (stored key r))) begun
        ∙ ap (λ (x : Option Opened). ok_or x Damaged) (
        ap (option_and_then (parts_in r.segment.schema key (stored key r))) ending-found
        ∙ ap (option_and_then (lengths_in r.segment.schema key (stored key r) told)) index-found
        ∙ ap (option_and_then (with_columns r.segment.schema told (stored_blocks key r.rows))) lengths-found
        ∙ ap (option_map (λ columns. record { block_len = r.segment.block_len; documents = length r.segment.documents; blocks = stored_blocks key r.rows; columns = columns }))
        (columns-read r.segment.schema (length r.segment.documents) (columns_of r.segment) are.of.made.lengths))
      where
        begun : headed (stored key r) ≡ Ok (stored key r)
        begun = ap (λ b. cond b (Err OtherFile) (Ok (stored key r))) (le-ltb (length (stored key r)) 16 (omega (arith, size)))
