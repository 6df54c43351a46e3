-- What a reading of blocks, of entries, or of columns is in the midst of.
use Rattle.std.proofs.Common.{◌≡◌, ℕ, zero, suc, ◌-◌, ◌<◌, ◌≤◌, Bool, true, false, cond, List, [], ◌∷◌, ◌++◌, drop, length, map, take, Option, None, Some, option_map, refl, ap, sym, ◌∙◌, append_assoc, arith, get_or, is_some}
use Rattle.std.specs.Prelude.{nat_le}
use Rattle.std.specs.Ordering.{eq_by_cmp}
use Rattle.std.proofs.lemmas.Bool.{false≢true, le-leb, lt-leb}
use Rattle.std.proofs.Math.Seq.{drop-cons}
use Rattle.qm_postings.specs.Segment.{keeps_lengths}
use Rattle.qm_schema.specs.Schema.{FieldFacts}
use Rattle.qm_schema.specs.Term.{TermKey, term_cmp}
use Rattle.qm_store.specs.Columns.{columns_at}
use Rattle.qm_store.specs.Dictionary.{Block, block_start_at, entries_at, is_behind, last_of, row_with, start_of, starts_at}
use Rattle.qm_store.specs.Entries.{Entry, Part, entry_at}
use Rattle.qm_store.specs.RowBytes.{followed_by}
use Rattle.qm_store.specs.declared.dictionary_index.BlockStart.{BlockStart}

-- some things in front of those that are read behind them, one of which was read
more : {A : Type 0} (xs : List A) (x : A) (r : Option (List A)) → option_map (λ back. (xs ++ x ∷ []) ++ back) r ≡ option_map (λ back. xs ++ back) (option_map (λ ys. x ∷ ys) r)
more xs x None = refl
more xs x (Some ys) = ap Some (append_assoc xs (x ∷ []) ys)

-- ---- blocks

-- the term that the last of some blocks begins with
abbrev pub last_first : List BlockStart → Option TermKey
last_first ss = option_map (λ b. b.first) (last_of (map start_of ss))

abbrev next_start : ℕ → Option TermKey → Block → List ℕ → Option (List Block)
next_start n before b rest = cond (is_behind before b.first) (option_map (λ starts. b ∷ starts) (starts_at n (Some b.first) rest)) None

one-start : (n : ℕ) (before : Option TermKey) (bs : List ℕ) → 0 < n → starts_at n before bs ≡ followed_by (block_start_at bs) (next_start (n - 1) before)
one-start zero before bs some = absurd (omega (arith, some))
one-start (suc n) before bs some =
    let e : n ≡ suc n - 1 = omega arith in
    ap (λ k. followed_by (block_start_at bs) (next_start k before)) e

module _ (xs : List Block) (n : ℕ) (before : Option TermKey) (bs : List ℕ) (all : Option (List Block))
    (told : option_map (λ back. xs ++ back) (starts_at n before bs) ≡ all) (some : 0 < n) where
  begun : option_map (λ back. xs ++ back) (followed_by (block_start_at bs) (next_start (n - 1) before)) ≡ all
  begun = sym (ap (option_map (λ back. xs ++ back)) (one-start n before bs some)) ∙ told

  -- what is left begins with no block
  pub index-stops : block_start_at bs ≡ None → None ≡ all
  index-stops none = sym (ap (λ (r : Option (Block × List ℕ)). option_map (λ back. xs ++ back) (followed_by r (next_start (n - 1) before))) none) ∙ begun

  module _ (b : Block) (rest : List ℕ) (read : block_start_at bs ≡ Some (b, rest)) where
    here : option_map (λ back. xs ++ back) (next_start (n - 1) before b rest) ≡ all
    here = sym (ap (λ (r : Option (Block × List ℕ)). option_map (λ back. xs ++ back) (followed_by r (next_start (n - 1) before))) read) ∙ begun

    abbrev others : Option (List Block)
    others = starts_at (n - 1) (Some b.first) rest

    -- it begins with one that is not behind the others
    pub index-turns : is_behind before b.first ≡ false → None ≡ all
    index-turns early = sym (ap (λ (t : Bool). option_map (λ back. xs ++ back) (cond t (option_map (λ starts. b ∷ starts) others) None)) early) ∙ here

    -- it begins with one that is
    pub index-goes-on : is_behind before b.first ≡ true → option_map (λ back. (xs ++ b ∷ []) ++ back) others ≡ all
    index-goes-on late =
        more xs b others
        ∙ sym (ap (λ (t : Bool). option_map (λ back. xs ++ back) (cond t (option_map (λ starts. b ∷ starts) others) None)) late) ∙ here

-- ---- entries

-- what was found, or else what is found among entries
abbrev pub or_else_among : TermKey → Option (Part × Part) → List Entry → Option (Part × Part)
or_else_among t None es = row_with t es
or_else_among t (Some p) es = Some p

-- what is found once an entry more was looked at
abbrev pub found_by : TermKey → Option (Part × Part) → TermKey → Part × Part → Option (Part × Part)
found_by t None u p = cond (eq_by_cmp term_cmp u t) (Some p) None
found_by t (Some q) u p = Some q

-- the first one is kept, and another one is taken where none was found before
pub first-kept : {X : Type 0} (view : X → Part × Part) (t : TermKey) (old : Option X) (u : TermKey) (p : Part × Part) → is_some old ≡ true →
    option_map view old ≡ found_by t (option_map view old) u p
first-kept view t None u p some = absurd (false≢true some)
first-kept view t (Some x) u p some = refl

pub other-passed : {X : Type 0} (view : X → Part × Part) (t : TermKey) (old : Option X) (u : TermKey) (p : Part × Part) → is_some old ≡ false →
    eq_by_cmp term_cmp u t ≡ false → option_map view old ≡ found_by t (option_map view old) u p
other-passed view t None u p none other = sym (ap (λ b. cond b (Some p) None) other)
other-passed view t (Some x) u p none other = absurd (false≢true (sym none))

pub first-taken : {X : Type 0} (view : X → Part × Part) (t : TermKey) (old : Option X) (u : TermKey) (x : X) → is_some old ≡ false →
    eq_by_cmp term_cmp u t ≡ true → Some (view x) ≡ found_by t (option_map view old) u (view x)
first-taken view t None u x none same = sym (ap (λ b. cond b (Some (view x)) None) same)
first-taken view t (Some y) u x none same = absurd (false≢true (sym none))

looked-at : (t : TermKey) (found : Option (Part × Part)) (u : TermKey) (p : Part × Part) (r : Option (List Entry)) →
    option_map (or_else_among t (found_by t found u p)) r ≡ option_map (or_else_among t found) (option_map (λ es. record { term = u; row = p } ∷ es) r)
looked-at t found u p None = refl
looked-at t (Some q) u p (Some es) = refl
looked-at t None u p (Some es) = by_test (eq_by_cmp term_cmp u t)
  where
    by_test : (b : Bool) → Some (or_else_among t (cond b (Some p) None) es) ≡ Some (cond b (Some p) (row_with t es))
    by_test true = refl
    by_test false = refl

abbrev then_entries : ℕ → Entry → List ℕ → Option (List Entry)
then_entries n e rest = option_map (λ es. e ∷ es) (entries_at n rest)

-- an entry was read
pub entry-passes : (t : TermKey) (found : Option (Part × Part)) (n : ℕ) (bs : List ℕ) (e : Entry) (rest : List ℕ) → 0 < n → entry_at bs ≡ Some (e, rest) →
    option_map (or_else_among t (found_by t found e.term e.row)) (entries_at (n - 1) rest) ≡ option_map (or_else_among t found) (entries_at n bs)
entry-passes t found zero bs e rest some is = absurd (omega (arith, some))
entry-passes t found (suc n) bs e rest some is =
    let less : suc n - 1 ≡ n = omega arith in
    ap (λ k. option_map (or_else_among t (found_by t found e.term e.row)) (entries_at k rest)) less
    ∙ looked-at t found e.term e.row (entries_at n rest)
    ∙ ap (λ (r : Option (Entry × List ℕ)). option_map (or_else_among t found) (followed_by r (then_entries n))) (sym is)

-- ---- columns

abbrev column : FieldFacts → ℕ → ℕ
column f count = cond f.lengths count 0

one-column : (fs gs : List FieldFacts) (f : FieldFacts) (count : ℕ) (bs : List ℕ) → fs ≡ f ∷ gs →
    columns_at fs count bs ≡ cond (nat_le (column f count) (length bs)) (option_map (λ columns. take (column f count) bs ∷ columns) (columns_at gs count (drop (column f count) bs))) None
one-column fs gs f count bs e = ap (λ hs. columns_at hs count bs) e

module _ (xs : List (List ℕ)) (fs gs : List FieldFacts) (f : FieldFacts) (count : ℕ) (bs : List ℕ) (all : Option (List (List ℕ)))
    (told : option_map (λ back. xs ++ back) (columns_at fs count bs) ≡ all) (first : fs ≡ f ∷ gs) (n : ℕ) (keeps : n ≡ column f count) where
  begun_columns : option_map (λ back. xs ++ back) (cond (nat_le n (length bs)) (option_map (λ columns. take n bs ∷ columns) (columns_at gs count (drop n bs))) None) ≡ all
  begun_columns =
      (λ i. option_map (λ back. xs ++ back) (cond (nat_le (keeps i) (length bs)) (option_map (λ columns. take (keeps i) bs ∷ columns) (columns_at gs count (drop (keeps i) bs))) None))
      ∙ sym (ap (option_map (λ back. xs ++ back)) (one-column fs gs f count bs first)) ∙ told

  -- the next column is not there
  pub column-lacks : length bs < n → None ≡ all
  column-lacks short =
      sym (ap (λ (b : Bool). option_map (λ back. xs ++ back) (cond b (option_map (λ columns. take n bs ∷ columns) (columns_at gs count (drop n bs))) None)) (lt-leb n (length bs) short))
      ∙ begun_columns

  -- it is
  pub column-passes : n ≤ length bs → option_map (λ back. (xs ++ take n bs ∷ []) ++ back) (columns_at gs count (drop n bs)) ≡ all
  column-passes there =
      more xs (take n bs) (columns_at gs count (drop n bs))
      ∙ sym (ap (λ (b : Bool). option_map (λ back. xs ++ back) (cond b (option_map (λ columns. take n bs ∷ columns) (columns_at gs count (drop n bs))) None)) (le-leb n (length bs) there))
      ∙ begun_columns

-- a field, where none is
abbrev pub no_field : FieldFacts
no_field = record { name = []; indexed = None; lengths = false }

-- the columns that are left begin with that of the next field
pub next-column : (schema : List FieldFacts) (id : ℕ) (d : FieldFacts) → id < length schema →
    (drop id schema ≡ get_or schema id d ∷ drop (suc id) schema)
    × ((count : ℕ) → cond (keeps_lengths schema id) count 0 ≡ column (get_or schema id d) count)
next-column schema id d inside = (drop-cons schema id d inside, λ count. kept schema id count inside)
  where
    kept : (fs : List FieldFacts) (k : ℕ) (count : ℕ) → k < length fs → cond (keeps_lengths fs k) count 0 ≡ column (get_or fs k d) count
    kept [] k count l = absurd (omega (arith, l))
    kept (f ∷ fs) zero count l = refl
    kept (f ∷ fs) (suc k) count l = kept fs k count (omega (arith, l))
