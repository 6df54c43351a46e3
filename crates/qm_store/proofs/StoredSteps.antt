-- What the writing of a stored segment is in the midst of.
use Rattle.std.proofs.Common.{◌≡◌, ℕ, zero, suc, ◌+◌, ◌-◌, ◌*◌, ◌<◌, ◌≤◌, List, [], ◌∷◌, ◌++◌, drop, get_or, length, take, refl, ap, sym, ◌∙◌, append_assoc, arith, min, inl, inr, Result, Ok, Err, subst}
use Rattle.std.proofs.lemmas.List.{drop-drop, drop_more, length-append, length-drop, length-take, take_min}
use Rattle.std.specs.Prelude.{IfErr, IsErrAnd}
use Rattle.std.specs.List.{AllWithin, HoldsAt, flat_map}
use Rattle.std.proofs.lemmas.Bool.{cases_lt}
use Rattle.std.proofs.lemmas.Grind.{div_ceil_times}
use Rattle.qm_postings.specs.Rows.{Row, no_row}
use Rattle.qm_store.specs.Pieces.{IsMakeRefusal}
use Rattle.qm_store.specs.declared.store_error.StoreError.{StoreError}
use Rattle.qm_store.specs.declared.store_error.StoreError.TheVariants.{Damaged, Failed, Memory, OtherFile, OtherVersion}
use Rattle.qm_store.specs.Stored.{all_apart, apart, block_named, blocks_named, dictionary_bytes, entries_bytes, entry_bytes, first_row, group_bytes, group_count, groups, start_bytes}

-- the rows from one place up to another
abbrev pub between : List Row → ℕ → ℕ → List Row
between rows place end = take (end - place) (drop place rows)

pub first-between : (rows : List Row) (place end : ℕ) → place < end → end ≤ length rows →
    between rows place end ≡ get_or rows place no_row ∷ between rows (place + 1) end
first-between rows place end some within =
    let e : end - place ≡ suc (end - (place + 1)) = omega arith in
    (λ i. take (e i) (drop_more rows place no_row (omega arith) i))

pub none-between : (rows : List Row) (place end : ℕ) → end ≤ place → between rows place end ≡ []
none-between rows place end past =
    let e : end - place ≡ zero = omega (arith, past) in
    ap (λ n. take n (drop place rows)) e

-- a refusal of so many bytes is one of more
pub refused-more : (e : StoreError) (n m : ℕ) → n ≤ m → IsMakeRefusal n e → IsMakeRefusal m e
refused-more Memory n m le refused = tt
refused-more Failed n m le refused = omega (arith, le, refused)
refused-more OtherFile n m le refused = refused
refused-more OtherVersion n m le refused = refused
refused-more Damaged n m le refused = refused

-- an error that is handed on
pub handed-on : {T : Type 0} (r : Result T StoreError) (e : StoreError) (Q : StoreError → Type 0) → IsErrAnd r (λ y. y ≡ e) → Q e → IfErr r Q
handed-on (Ok x) e Q is q = tt
handed-on (Err y) e Q is q = subst Q (sym is) q

-- ---- entries

-- one more row was written
pub apart-more : (out : List ℕ) (rows : List Row) (place end : ℕ) → place < end → end ≤ length rows →
    (out ++ apart (get_or rows place no_row)) ++ all_apart (between rows (place + 1) end) ≡ out ++ all_apart (between rows place end)
apart-more out rows place end some within =
    append_assoc out (apart (get_or rows place no_row)) (all_apart (between rows (place + 1) end))
    ∙ ap (λ rs. out ++ all_apart rs) (sym (first-between rows place end some within))

pub entry-more : (key : ℕ) (out block : List ℕ) (rows : List Row) (place end : ℕ) → place < end → end ≤ length rows →
    (block ++ entry_bytes key (length out) (get_or rows place no_row))
    ++ entries_bytes key (length (out ++ apart (get_or rows place no_row))) (between rows (place + 1) end)
    ≡ block ++ entries_bytes key (length out) (between rows place end)
entry-more key out block rows place end some within =
    let r = get_or rows place no_row in
    let rest = between rows (place + 1) end in
    append_assoc block (entry_bytes key (length out) r) (entries_bytes key (length (out ++ apart r)) rest)
    ∙ ap (λ n. block ++ (entry_bytes key (length out) r ++ entries_bytes key n rest)) (length-append out (apart r))
    ∙ ap (λ rs. block ++ entries_bytes key (length out) rs) (sym (first-between rows place end some within))

pub length-between : (rows : List Row) (start end : ℕ) → end ≤ length rows → length (between rows start end) ≡ end - start
length-between rows start end within = length-take (end - start) (drop start rows) ∙ omega (arith, length-drop start rows, within)

-- ---- a block

pub first_of_group : (rows : List Row) (start end : ℕ) → start < end → end ≤ length rows → first_row (between rows start end) ≡ get_or rows start no_row
first_of_group rows start end some within = ap first_row (first-between rows start end some within)

-- ---- groups

-- the groups from one of a number on
abbrev pub groups_left : List Row → ℕ → List (List Row)
groups_left rows i = groups (group_count rows - i) (drop (i * 128) rows)

pub starts-within : (rows : List Row) (i : ℕ) → i < group_count rows → i * 128 < length rows
starts-within rows i some = let bounds = div_ceil_times (length rows) 128 (omega arith) in omega (arith, bounds.1, some)

-- a group is the rows from its start up to its end
pub group-between : (rows : List Row) (start : ℕ) → start < length rows → between rows start (min (start + 128) (length rows)) ≡ take 128 (drop start rows)
group-between rows start inside =
    let e : min (start + 128) (length rows) - start ≡ min 128 (length (drop start rows)) = omega (arith, length-drop start rows) in
    ap (λ n. take n (drop start rows)) e ∙ take_min 128 (drop start rows)

pub next-group : (rows : List Row) (i : ℕ) → i < group_count rows →
    groups_left rows i ≡ between rows (i * 128) (min (i * 128 + 128) (length rows)) ∷ groups_left rows (i + 1)
next-group rows i some =
    let e : group_count rows - i ≡ suc (group_count rows - (i + 1)) = omega (arith, some) in
    let on : i * 128 + 128 ≡ (i + 1) * 128 = omega arith in
    ap (λ n. groups n (drop (i * 128) rows)) e
    ∙ (λ k. sym (group-between rows (i * 128) (starts-within rows i some)) k
    ∷ groups (group_count rows - (i + 1)) ((drop-drop 128 (i * 128) rows ∙ ap (λ n. drop n rows) on) k))

pub none-left : (rows : List Row) (i : ℕ) → group_count rows ≤ i → groups_left rows i ≡ []
none-left rows i past = let e : group_count rows - i ≡ zero = omega (arith, past) in ap (λ n. groups n (drop (i * 128) rows)) e

module _ (key : ℕ) (out : List ℕ) (rows : List Row) (i : ℕ) (some : i < group_count rows) where
  abbrev group : List Row
  group = between rows (i * 128) (min (i * 128 + 128) (length rows))

  abbrev own : List ℕ
  own = group_bytes key (length out) group

  -- one more group was written
  pub group-more : (out ++ own) ++ dictionary_bytes key (length (out ++ own)) (groups_left rows (i + 1))
      ≡ out ++ dictionary_bytes key (length out) (groups_left rows i)
  group-more =
      append_assoc out own (dictionary_bytes key (length (out ++ own)) (groups_left rows (i + 1)))
      ∙ ap (λ n. out ++ (own ++ dictionary_bytes key n (groups_left rows (i + 1)))) (length-append out own)
      ∙ ap (λ gs. out ++ dictionary_bytes key (length out) gs) (sym (next-group rows i some))

  -- and the index tells of it
  pub start-more : (index : List ℕ) →
      (index ++ start_bytes (block_named key (length out) group)) ++ flat_map start_bytes (blocks_named key (length (out ++ own)) (groups_left rows (i + 1)))
      ≡ index ++ flat_map start_bytes (blocks_named key (length out) (groups_left rows i))
  start-more index =
      append_assoc index (start_bytes (block_named key (length out) group)) (flat_map start_bytes (blocks_named key (length (out ++ own)) (groups_left rows (i + 1))))
      ∙ ap (λ n. index ++ (start_bytes (block_named key (length out) group) ++ flat_map start_bytes (blocks_named key n (groups_left rows (i + 1))))) (length-append out own)
      ∙ ap (λ gs. index ++ flat_map start_bytes (blocks_named key (length out) gs)) (sym (next-group rows i some))

-- as many blocks as groups
pub length-blocks : (key at n : ℕ) (rows : List Row) → length (blocks_named key at (groups n rows)) ≡ n
length-blocks key at zero rows = refl
length-blocks key at (suc n) rows = ap suc (length-blocks key (at + length (group_bytes key at (take 128 rows))) n (drop 128 rows))

-- ---- what could be written

-- the row at a place, whatever stands for one that is not there
pub at-place : (P : Row → Type 0) (rows : List Row) (k : ℕ) (e : Row) → k < length rows → P (get_or rows k e) → HoldsAt P rows k
at-place P [] k e inside here = absurd (omega (arith, inside))
at-place P (r ∷ rs) zero e inside here = λ d. here
at-place P (r ∷ rs) (suc k) e inside here = at-place P rs k e (omega (arith, inside)) here

-- those before a place, and those from there on
pub joined : (P : Row → Type 0) (rows : List Row) (low middle high : ℕ) → AllWithin P rows low middle → AllWithin P rows middle high → AllWithin P rows low high
joined P rows low middle high front back k d up down = elim (cases_lt k middle) [
  | inl before ↦ front k d up before
  | inr past ↦ back k d past down
]
