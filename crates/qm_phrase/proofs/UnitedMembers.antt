-- What several postings say together of a document, member by member.
use Rattle.std.proofs.Common.{◌≡◌, ℕ, zero, suc, ◌+◌, ◌-◌, ◌<◌, ◌≤◌, ◌||◌, Bool, true, false, List, [], ◌∷◌, ◌++◌, All, filter, length, map, nat_eq, take}
use Rattle.std.proofs.Common.{get_or, refl, ap, sym, ◌∙◌, arith, inl, inr, append_assoc}
use Rattle.std.specs.List.{list_any, range_with_len, sum_by}
use Rattle.std.proofs.lemmas.Bool.{cases_Bool, cases_eq, cases_lt, eq-eqb, eqb-true, ne_eqb}
use Rattle.std.proofs.lemmas.Cmp.{nat_eq_equiv}
use Rattle.std.proofs.lemmas.List.{append-nil, get_or-map, length-map}
use Rattle.std.proofs.lemmas.List.Elements.{All-append, All-contains, All-contains_itself, All-filter, All-head, All-map, All-nil, All-tail}
use Rattle.std.proofs.lemmas.List.Folds.{list_any-append, list_any_none}
use Rattle.std.proofs.lemmas.List.Sums.{sum_by-append, sum_by-cons, sum_by_more, sum_by_more_le}
use Rattle.std.proofs.lemmas.Map.Views.{Contains-from_any, list_any-from_Contains}
use Rattle.std.proofs.Math.Bool.{or-true, or-false}
use Rattle.qm_combine.proofs.EachMember.{take-map_more}
use Rattle.qm_docset.specs.Entry.{Entry, Limits, AreEntries, head_document, head_frequency, head_positions}
use Rattle.qm_docset.specs.Gather.{entries_of}
use Rattle.qm_docset.specs.GatherFacts.{entries_of-ahead, entries_of-first}
use Rattle.qm_docset.specs.declared.numbers.TheConstants.{TERMINATED}
use Rattle.qm_postings.specs.Positions.{ArePositions, is_in, shifted}
use Rattle.qm_postings.specs.PositionsFacts.{AscendFrom-below}
use Rattle.qm_phrase.specs.PostingUnions.{entries_at, has_position, positions_below, united_positions}
use Rattle.qm_phrase.specs.PostingUnionFacts.{entries_at-cons, entries_at-nil}

-- ---- one more member

entries_at-push : (d : ℕ) (ess : List (List Entry)) (es : List Entry) → entries_at d (ess ++ es ∷ []) ≡ entries_at d ess ++ entries_of d es
entries_at-push d [] es = entries_at-cons d es [] ∙ ap (λ r. entries_of d es ++ r) (entries_at-nil d)
    ∙ append-nil (entries_of d es) ∙ ap (λ r. r ++ entries_of d es) (sym (entries_at-nil d))
entries_at-push d (x ∷ ess) es = entries_at-cons d x (ess ++ es ∷ []) ∙ ap (λ r. entries_of d x ++ r) (entries_at-push d ess es)
    ∙ sym (append_assoc (entries_of d x) (entries_at d ess) (entries_of d es)) ∙ ap (λ r. r ++ entries_of d es) (sym (entries_at-cons d x ess))

-- what a cursor says of the document that it stands on
abbrev pub first_of : List Entry → List Entry
first_of [] = []
first_of (e ∷ es) = e ∷ []

entries_of-stand : (d : ℕ) (limits : Limits) (es : List Entry) → AreEntries 0 limits es → head_document es ≡ d → d < TERMINATED → entries_of d es ≡ first_of es
entries_of-stand d limits [] a here below = absurd (omega arith)
entries_of-stand d limits (e ∷ es) a here below = ap (λ n. entries_of n (e ∷ es)) (sym here) ∙ entries_of-first 0 limits e es a

frequency-first : (es : List Entry) → sum_by (λ e. e.frequency) (first_of es) ≡ head_frequency es
frequency-first [] = refl
frequency-first (e ∷ es) = omega (arith, sum_by-cons (λ (x : Entry). x.frequency) e [])

pub positions-first : (x offset : ℕ) (es : List Entry) →
    list_any (λ e. is_in x (shifted offset e.positions)) (first_of es) ≡ is_in x (shifted offset (head_positions es))
positions-first x offset [] = refl
positions-first x offset (e ∷ es) = or-false (is_in x (shifted offset e.positions))

module _ {X : Type 0} (list : X → List Entry) where
  -- the entries of the first members, and of one more that stands on the document, or past it
  pub entries_at-more : (limits : Limits) (xs : List X) (i d : ℕ) (x : X) → AreEntries 0 limits (list x) → x ≡ get_or xs i x → i < length xs →
      head_document (list x) ≡ d → d < TERMINATED → entries_at d (take (i + 1) (map list xs)) ≡ entries_at d (take i (map list xs)) ++ first_of (list x)
  entries_at-more limits xs i d x a is h here below =
      ap (entries_at d) (take-map_more list xs i x is h) ∙ entries_at-push d (take i (map list xs)) (list x)
      ∙ ap (λ r. entries_at d (take i (map list xs)) ++ r) (entries_of-stand d limits (list x) a here below)

  pub entries_at-more_ahead : (limits : Limits) (xs : List X) (i d : ℕ) (x : X) → AreEntries 0 limits (list x) → x ≡ get_or xs i x →
      i < length xs → d < head_document (list x) → entries_at d (take (i + 1) (map list xs)) ≡ entries_at d (take i (map list xs))
  entries_at-more_ahead limits xs i d x a is h past =
      ap (entries_at d) (take-map_more list xs i x is h) ∙ entries_at-push d (take i (map list xs)) (list x)
      ∙ ap (λ r. entries_at d (take i (map list xs)) ++ r) (entries_of-ahead d 0 limits (list x) a past) ∙ append-nil (entries_at d (take i (map list xs)))

  -- and their frequencies
  pub frequency-more : (limits : Limits) (xs : List X) (i d : ℕ) (x : X) → AreEntries 0 limits (list x) → x ≡ get_or xs i x →
      i < length xs → head_document (list x) ≡ d → d < TERMINATED → sum_by (λ e. e.frequency) (entries_at d (take (i + 1) (map list xs)))
      ≡ sum_by (λ e. e.frequency) (entries_at d (take i (map list xs))) + head_frequency (list x)
  frequency-more limits xs i d x a is h here below =
      let before = entries_at d (take i (map list xs)) in
      omega (
        arith,
        ap (sum_by (λ (e : Entry). e.frequency)) (entries_at-more limits xs i d x a is h here below),
        sum_by-append (λ (e : Entry). e.frequency) before (first_of (list x)),
        frequency-first (list x),
      )

-- ---- shifted positions of several entries

-- whether one of the entries has a number among its shifted positions
abbrev pub has_shifted : ℕ → List Entry → ℕ → Bool
has_shifted offset es x = list_any (λ e. is_in x (shifted offset e.positions)) es

is_in-shifted : (y offset : ℕ) (ps : List ℕ) → is_in (y + offset) (shifted offset ps) ≡ is_in y ps
is_in-shifted y offset [] = refl
is_in-shifted y offset (p ∷ ps) =
    elim (cases_eq y p) [
      | inl same ↦ rw (eq-eqb y p same, eq-eqb (y + offset) (p + offset) (omega arith)) refl
      | inr other ↦ rw (ne_eqb y p other, ne_eqb (y + offset) (p + offset) (omega arith)) (is_in-shifted y offset ps)
    ]

is_in-unshifted : (x offset : ℕ) (ps : List ℕ) → x < offset → is_in x (shifted offset ps) ≡ false
is_in-unshifted x offset [] h = refl
is_in-unshifted x offset (p ∷ ps) h = rw (ne_eqb x (p + offset) (omega arith)) (is_in-unshifted x offset ps h)

is_in-out : (p : ℕ → Bool) (y a n : ℕ) → y < a → is_in y (filter p (range_with_len a n)) ≡ false
is_in-out p y a zero h = refl
is_in-out p y a (suc n) h =
    let rest = is_in-out p y (a + 1) n (omega arith) in
    elim (cases_Bool (p a)) [ inl passes ↦ rw (passes, ne_eqb y a (omega arith)) rest | inr fails ↦ rw fails rest ]

is_in-filter : (p : ℕ → Bool) (y a n : ℕ) → a ≤ y → y < a + n → is_in y (filter p (range_with_len a n)) ≡ p y
is_in-filter p y a zero low high = absurd (omega arith)
is_in-filter p y a (suc n) low high =
    elim (cases_eq y a) [
      | inl here ↦ elim (cases_Bool (p a)) [
        | inl passes ↦ rw (passes, eq-eqb y a here) (sym (ap p here ∙ passes))
        | inr fails ↦ rw fails (is_in-out p y (a + 1) n (omega arith) ∙ sym (ap p here ∙ fails))
      ]
      | inr other ↦
          let rest = is_in-filter p y (a + 1) n (omega arith) (omega arith) in
          elim (cases_Bool (p a)) [ inl passes ↦ rw (passes, ne_eqb y a other) rest | inr fails ↦ rw fails rest ]
    ]

is_in-filter_past : (p : ℕ → Bool) (y a n : ℕ) → a + n ≤ y → is_in y (filter p (range_with_len a n)) ≡ false
is_in-filter_past p y a zero high = refl
is_in-filter_past p y a (suc n) high =
    let rest = is_in-filter_past p y (a + 1) n (omega arith) in
    elim (cases_Bool (p a)) [ inl passes ↦ rw (passes, ne_eqb y a (omega arith)) rest | inr fails ↦ rw fails rest ]

is_in-filter_below : (p : ℕ → Bool) (y n : ℕ) → y < n → is_in y (filter p (positions_below n)) ≡ p y
unfolding positions_below
is_in-filter_below p y n h = is_in-filter p y 0 n (omega arith) (omega arith)

is_in-filter_above : (p : ℕ → Bool) (y n : ℕ) → n ≤ y → is_in y (filter p (positions_below n)) ≡ false
unfolding positions_below
is_in-filter_above p y n h = is_in-filter_past p y 0 n (omega arith)

is_in-too_great : (y : ℕ) (ps : List ℕ) → All (λ p. p < 4294967295) ps → 4294967295 ≤ y → is_in y ps ≡ false
is_in-too_great y [] all h = refl
is_in-too_great y (p ∷ ps) all h =
    let here = All-head (λ x. x < 4294967295) p ps all in
    rw (ne_eqb y p (omega arith)) (is_in-too_great y ps (All-tail (λ x. x < 4294967295) p ps all) h)

has_position-too_great : (y : ℕ) (es : List Entry) → All (λ e. ArePositions e.positions) es → 4294967295 ≤ y → has_position es y ≡ false
has_position-too_great y es all h = list_any_none (λ e. is_in y e.positions) es (λ k d below. is_in-too_great y _ (AscendFrom-below 0 _ (all k d below)) h)

-- what is united has the positions of all entries
pub is_in-united : (y : ℕ) (es : List Entry) → All (λ e. ArePositions e.positions) es → is_in y (united_positions es) ≡ has_position es y
unfolding united_positions
is_in-united y es all =
    elim (cases_lt y 4294967295) [
      | inl below ↦ is_in-filter_below (λ p. has_position es p) y 4294967295 below
      | inr above ↦ is_in-filter_above (λ p. has_position es p) y 4294967295 above ∙ sym (has_position-too_great y es all above)
    ]

-- also where they are shifted
pub is_in-united_shifted : (x offset : ℕ) (es : List Entry) → All (λ e. ArePositions e.positions) es →
    is_in x (shifted offset (united_positions es)) ≡ has_shifted offset es x
is_in-united_shifted x offset es all =
    elim (cases_lt x offset) [
      | inl below ↦ is_in-unshifted x offset (united_positions es) below
          ∙ sym (list_any_none (λ e. is_in x (shifted offset e.positions)) es (λ k d h. is_in-unshifted x offset _ below))
      | inr above ↦
          let y = x - offset in
          let is : y + offset ≡ x = omega arith in
          ap (λ n. is_in n (shifted offset (united_positions es))) (sym is)
          ∙ is_in-shifted y offset (united_positions es)
          ∙ is_in-united y es all
          ∙ sym (λ i. list_any (λ e. is_in-shifted y offset e.positions i) es)
          ∙ ap (λ n. has_shifted offset es n) is
    ]

-- ---- all members

-- what holds of each entry of the lists holds of those of a document
All-entries_of : (P : Entry → Type 0) (d : ℕ) (es : List Entry) → All P es → All P (entries_of d es)
unfolding entries_of
All-entries_of P d es all = All-filter (λ e. nat_eq e.document d) P es all

All-entries_at : (P : Entry → Type 0) (d : ℕ) (ess : List (List Entry)) → All (λ es. All P es) ess → All P (entries_at d ess)
All-entries_at P d [] all = rw (entries_at-nil d) (All-nil P)
All-entries_at P d (es ∷ ess) all =
    let here : All P (entries_of d es) = All-entries_of P d es (All-head (λ xs. All P xs) es ess all) in
    let rest = All-entries_at P d ess (All-tail (λ xs. All P xs) es ess all) in
    rw (entries_at-cons d es ess) (All-append P (entries_of d es) (entries_at d ess) here rest)

has_position-member : (p d : ℕ) (ess : List (List Entry)) (i : ℕ) (e : List Entry) → i < length ess →
    has_position (entries_of d (get_or ess i e)) p ≡ true → has_position (entries_at d ess) p ≡ true
has_position-member p d [] i e h here = absurd (omega arith)
has_position-member p d (es ∷ ess) zero e h here =
    ap (λ r. has_position r p) (entries_at-cons d es ess) ∙ list_any-append (λ x. is_in p x.positions) (entries_of d es) (entries_at d ess) ∙ rw here refl
has_position-member p d (es ∷ ess) (suc i) e h here =
    ap (λ r. has_position r p) (entries_at-cons d es ess) ∙ list_any-append (λ x. is_in p x.positions) (entries_of d es) (entries_at d ess)
    ∙ rw (has_position-member p d ess i e (omega arith) here) (or-true (has_position (entries_of d es) p))

position-first : (p : ℕ) (es : List Entry) → has_position (first_of es) p ≡ is_in p (head_positions es)
position-first p [] = refl
position-first p (e ∷ es) = or-false (is_in p e.positions)

module _ {X : Type 0} (list : X → List Entry) (bound : X → Limits) where
  abbrev pub AreOrdered : List X → Type 0
  AreOrdered xs = All (λ x. All (λ e. ArePositions e.positions) (list x)) xs

  pub ordered-entries_at : (d : ℕ) (xs : List X) → AreOrdered xs → All (λ e. ArePositions e.positions) (entries_at d (map list xs))
  ordered-entries_at d xs all =
      All-entries_at (λ e. ArePositions e.positions) d (map list xs) (All-map (λ es. All (λ e. ArePositions e.positions) es) list xs all)

  -- what holds of all positions holds of those of a member that stands on the document
  pub All-head_positions : (P : ℕ → Type 0) (d : ℕ) (xs : List X) (i : ℕ) (x : X) → AreOrdered xs → AreEntries 0 (bound x) (list x) → x ≡ get_or xs i x →
      i < length xs → head_document (list x) ≡ d → d < TERMINATED → All P (united_positions (entries_at d (map list xs))) → All P (head_positions (list x))
  All-head_positions P d xs i x ordered a is h here below all = λ k e within.
      let ps = head_positions (list x) in
      let p = get_or ps k e in
      let mine : is_in p ps ≡ true = list_any-from_Contains nat_eq_equiv p ps (All-contains_itself ps k e within) in
      let there : get_or (map list xs) i [] ≡ list x = get_or-map list xs i x [] h ∙ ap list (sym is) in
      let first : has_position (entries_of d (get_or (map list xs) i [])) p ≡ true = ap (λ r. has_position (entries_of d r) p) there
      ∙ ap (λ r. has_position r p) (entries_of-stand d (bound x) (list x) a here below) ∙ position-first p (list x) ∙ mine in
      let long = length-map xs list in
      let among : is_in p (united_positions (entries_at d (map list xs))) ≡ true = is_in-united p (entries_at d (map list xs)) (ordered-entries_at d xs ordered)
      ∙ has_position-member p d (map list xs) i [] (omega arith) first in
      All-contains P (united_positions (entries_at d (map list xs))) p all (Contains-from_any eqb-true p (united_positions (entries_at d (map list xs))) among)

  -- one more member is counted among shifted positions
  pub has_shifted-more : (x offset d : ℕ) (xs : List X) (i : ℕ) (m : X) → AreEntries 0 (bound m) (list m) → m ≡ get_or xs i m →
      i < length xs → head_document (list m) ≡ d → d < TERMINATED → has_shifted offset (entries_at d (take (i + 1) (map list xs))) x
      ≡ (has_shifted offset (entries_at d (take i (map list xs))) x || is_in x (shifted offset (head_positions (list m))))
  has_shifted-more x offset d xs i m a is h here below =
      ap (λ r. has_shifted offset r x) (entries_at-more list (bound m) xs i d m a is h here below)
      ∙ list_any-append (λ e. is_in x (shifted offset e.positions)) (entries_at d (take i (map list xs))) (first_of (list m))
      ∙ ap (λ b. has_shifted offset (entries_at d (take i (map list xs))) x || b) (positions-first x offset (list m))

  -- the room of the first members, and of one more
  pub room-more : (xs : List X) (i : ℕ) (x : X) → x ≡ get_or xs i x → i < length xs →
      sum_by (λ limits. limits.room) (take (i + 1) (map bound xs)) ≡ sum_by (λ limits. limits.room) (take i (map bound xs)) + (bound x).room
  room-more xs i x is h =
      let more = sum_by_more (λ (limits : Limits). limits.room) (map bound xs) i (bound x) (omega (arith, length-map xs bound)) in
      let here : get_or (map bound xs) i (bound x) ≡ bound x = get_or-map bound xs i x (bound x) h ∙ ap bound (sym is) in
      omega (arith, more, ap (λ (limits : Limits). limits.room) here)

  pub room-within : (xs : List X) (i : ℕ) (x : X) → x ≡ get_or xs i x → i < length xs →
      sum_by (λ limits. limits.room) (take i (map bound xs)) + (bound x).room ≤ sum_by (λ limits. limits.room) (map bound xs)
  room-within xs i x is h =
      let more = sum_by_more_le (λ (limits : Limits). limits.room) (map bound xs) i (bound x) (omega (arith, length-map xs bound)) in
      let here : get_or (map bound xs) i (bound x) ≡ bound x = get_or-map bound xs i x (bound x) h ∙ ap bound (sym is) in
      omega (arith, more, ap (λ (limits : Limits). limits.room) here)
