-- The words and the states of a window, by their places.
use Rattle.std.proofs.Common.{◌≡◌, ◌≢◌, ℕ, zero, suc, ◌∷◌, ◌+◌, ◌-◌, ◌*◌, ◌/◌, ◌%◌, ◌<◌, ◌≤◌, ◌==◌, ◌||◌, ◌&&◌, Bool, true, false, not, cond, nat_le, nat_lt}
use Rattle.std.proofs.Common.{List, [], length, slice_get, Some, None, get_or, set, eq-eqb, ne_eqb, lt-ltb, refl, ap, sym, ◌∙◌, inl, inr, arith, true≢false}
use Rattle.std.proofs.Common.{vec_len}
use Rattle.std.proofs.lemmas.Bool.{cases_Bool, cases_lt, cases_eq, le-leb, lt-leb, leb-true, and_right}
use Rattle.std.proofs.lemmas.List.{get_or-set_same, get_or-set_other, get_or_read}
use Rattle.qm_docset.specs.declared.tiny_set.TinySet.{TinySet}
use Rattle.qm_docset.specs.TinySet.{tiny_has, tiny_members}
use Rattle.qm_docset.specs.Members.{members_between}
use Rattle.qm_docset.specs.Words.{words_have}
use Rattle.qm_combine.specs.WindowStates.{place_state}
use Rattle.qm_combine.specs.Window.{window_combiner, window_has, window_state}
use Rattle.qm_combine.specs.declared.union.window.Window.{Window}
use Rattle.qm_docset.proofs.MembersLemmas.{HasNone, IsFirst, and_true, members_between-none}
use Rattle.qm_docset.proofs.MemberEntries.{first-from_Some, none-from_None, Some-from_first}
use Rattle.qm_docset.proofs.BitSetLemmas.{words_have-at, words_have-past}

module _ (start : ℕ) (words : List TinySet) where
  -- whether the words have a document
  abbrev pub has_at : ℕ → Bool
  has_at d = nat_le start d && words_have words (d - start)

  pub has_at-before : (d : ℕ) → d < start → has_at d ≡ false
  has_at-before d before = rw (lt-leb start d before)

  pub has_at-from : (d : ℕ) → start ≤ d → has_at d ≡ words_have words (d - start)
  has_at-from d past = rw (le-leb start d past)

  pub has_at-past : (d : ℕ) → length words ≤ (d - start) / 64 → has_at d ≡ false
  has_at-past d past = and_right (nat_le start d) (words_have words (d - start)) (words_have-past words (d - start) past)

module _ {C : Type 0} (start : ℕ) (words : List TinySet) (states : List C) (combiner : C) where
  -- the state of a document
  abbrev pub state_at : ℕ → C
  state_at d = cond (has_at start words d) (get_or states (d - start) combiner) combiner

and_parts : (a b : Bool) → (a && b) ≡ true → (a ≡ true) × (b ≡ true)
and_parts true b e = (refl, e)
and_parts false b e = absurd (true≢false (sym e))

-- another word than the one that is set
pub words_have-other : (words : List TinySet) (i : ℕ) (word : TinySet) (x : ℕ) → x / 64 ≢ i → words_have (set words i word) x ≡ words_have words x
unfolding words_have
words_have-other words i word x other = rw (get_or-set_other words i (x / 64) word (record { bits = 0 }) other)

not-true : (b : Bool) → not b ≡ true → b ≡ false
not-true true e = sym e
not-true false e = refl

not-false : (b : Bool) → not b ≡ false → b ≡ true
not-false true e = refl
not-false false e = sym e

-- an element that is there, whatever stands for one that is not
pub get_or-there : {X : Type 0} (xs : List X) (i : ℕ) (a b : X) → i < length xs → get_or xs i a ≡ get_or xs i b
get_or-there [] i a b h = absurd (omega arith)
get_or-there (x ∷ xs) zero a b h = refl
get_or-there (x ∷ xs) (suc i) a b h = get_or-there xs i a b (omega arith)

-- one that is not there
pub get_or-past : {X : Type 0} (xs : List X) (i : ℕ) (a : X) → length xs ≤ i → get_or xs i a ≡ a
get_or-past [] i a h = refl
get_or-past (x ∷ xs) zero a h = absurd (omega arith)
get_or-past (x ∷ xs) (suc i) a h = get_or-past xs i a (omega arith)

-- whether a place was there already, by its word
pub words_have-was : (words : List TinySet) (place : ℕ) (was : TinySet) → place / 64 < length words → was ≡ get_or words (place / 64) was
    → tiny_has was (place % 64) ≡ words_have words place
words_have-was words place was inside read =
    let is : 64 * (place / 64) + place % 64 ≡ place = omega arith in
    let old = get_or_read words (place / 64) was inside read (record { bits = 0 }) in
    ap (λ (w : TinySet). tiny_has w (place % 64)) old ∙ sym (ap (words_have words) (sym is) ∙ words_have-at words (place / 64) (place % 64) (omega arith))

-- One place is added to the words, and its state to the states.
module _ (words more : List TinySet) (place : ℕ) (added : (x : ℕ) → words_have more x ≡ (x == place || words_have words x)) where
  module _ {C : Type 0} (states : List C) (cleared state : C) (room : place < length states) where
    pub place_state-put : place_state more (set states place state) cleared place ≡ state
    place_state-put =
        let here : words_have more place ≡ true = added place ∙ rw (eq-eqb place place refl) in
        rw (here, get_or-set_same states place state cleared room)

    pub place_state-other : (x : ℕ) → x ≢ place → place_state more (set states place state) cleared x ≡ place_state words states cleared x
    place_state-other x other =
        let same : words_have more x ≡ words_have words x = added x ∙ rw (ne_eqb x place other) in
        rw (same, get_or-set_other states place x state cleared other)

-- the state that a place had: cleared where it is new
module _ {C : Type 0} (words : List TinySet) (place : ℕ) (states : List C) (cleared : C) (is_new : Bool) (tested : is_new ≡ not (words_have words place)) where
  pub place_state-new : is_new ≡ true → place_state words states cleared place ≡ cleared
  place_state-new new =
      let none : words_have words place ≡ false = not-true (words_have words place) (sym tested ∙ new) in
      rw none

  pub place_state-old : is_new ≡ false → (state : C) → state ≡ get_or states place state → place < length states
      → place_state words states cleared place ≡ state
  place_state-old old state is room =
      let there : words_have words place ≡ true = not-false (words_have words place) (sym tested ∙ old) in
      let known = get_or_read states place state room is cleared in
      rw there (sym known)

-- states that read alike are alike
pub place_state-same : {C : Type 0} (words : List TinySet) (states others : List C) (cleared : C)
    → ((x : ℕ) → get_or states x cleared ≡ get_or others x cleared)
    → (x : ℕ) → place_state words states cleared x ≡ place_state words others cleared x
place_state-same words states others cleared same x = ap (λ s. cond (words_have words x) s cleared) (same x)

-- by documents
module _ {C : Type 0} (start : ℕ) (words : List TinySet) (states : List C) (combiner : C) where
  pub state_at-from : (d : ℕ) → start ≤ d → state_at start words states combiner d ≡ place_state words states combiner (d - start)
  state_at-from d past = rw (has_at-from start words d past) refl

  pub state_at-before : (d : ℕ) → d < start → state_at start words states combiner d ≡ combiner
  state_at-before d before = rw (has_at-before start words d before) refl

  pub state_at-past : (d : ℕ) → length words ≤ (d - start) / 64 → state_at start words states combiner d ≡ combiner
  state_at-past d past = rw (has_at-past start words d past) refl

-- ---- the first document

-- where the words before a bucket have nothing from `low` on, its word from there tells
module _ (words : List TinySet) (bucket low : ℕ) (word : TinySet) (none : HasNone (words_have words) low (64 * bucket))
    (is : (x : ℕ) → x < 64 → tiny_has word x ≡ (nat_le low (64 * bucket + x) && words_have words (64 * bucket + x))) where
  pub first_in : (bound lowest : ℕ) → 64 * (bucket + 1) ≤ bound → Some lowest ≡ slice_get (tiny_members word) 0
      → (lowest < 64) × IsFirst (words_have words) low bound (64 * bucket + lowest)
  unfolding tiny_members
  first_in bound lowest fits read =
      let f = first-from_Some (tiny_has word) 0 64 lowest read in
      let both = and_parts (nat_le low (64 * bucket + lowest)) (words_have words (64 * bucket + lowest)) (sym (is lowest f.below) ∙ f.member) in
      let first : IsFirst (words_have words) low bound (64 * bucket + lowest) = record {
        above = leb-true low (64 * bucket + lowest) both.0;
        below = omega (arith, f.below);
        member = both.1;
        none_before = λ y above before. elim (cases_lt y (64 * bucket)) [
          | inl earlier ↦ none y above earlier
          | inr inside ↦
              let place : 64 * bucket + (y - 64 * bucket) ≡ y = omega arith in
              let small : y - 64 * bucket < 64 = omega (arith, f.below) in
              let gone = sym (is (y - 64 * bucket) small) ∙ f.none_before (y - 64 * bucket) (omega arith) (omega arith) in
              let reached : nat_le low (64 * bucket + (y - 64 * bucket)) ≡ true = le-leb low (64 * bucket + (y - 64 * bucket)) (omega arith) in
              rw place at (rw reached at gone)
        ];
      } in
      (f.below, first)

  pub none_in : None ≡ slice_get (tiny_members word) 0 → HasNone (words_have words) low (64 * (bucket + 1))
  unfolding tiny_members
  none_in read = λ y above before. elim (cases_lt y (64 * bucket)) [
    | inl earlier ↦ none y above earlier
    | inr inside ↦
        let place : 64 * bucket + (y - 64 * bucket) ≡ y = omega arith in
        let small : y - 64 * bucket < 64 = omega arith in
        let gone = sym (is (y - 64 * bucket) small) ∙ none-from_None (tiny_has word) 0 64 read (y - 64 * bucket) (omega arith) small in
        let reached : nat_le low (64 * bucket + (y - 64 * bucket)) ≡ true = le-leb low (64 * bucket + (y - 64 * bucket)) (omega arith) in
        rw place at (rw reached at gone)
  ]

-- the word of a bucket from a place in it on, and of a later bucket
pub masked : (words : List TinySet) (from x : ℕ) (was : TinySet) → from / 64 < length words → was ≡ get_or words (from / 64) was → x < 64
    → (tiny_has was x && (nat_le (from % 64) x && nat_lt x 64)) ≡ (nat_le from (64 * (from / 64) + x) && words_have words (64 * (from / 64) + x))
masked words from x was inside read small =
    let known = get_or_read words (from / 64) was inside read (record { bits = 0 }) in
    let here : words_have words (64 * (from / 64) + x) ≡ tiny_has was x = words_have-at words (from / 64) x small
    ∙ ap (λ (w : TinySet). tiny_has w x) (sym known) in
    elim (cases_lt x (from % 64)) [
      | inl before ↦ rw (lt-leb (from % 64) x before, lt-leb from (64 * (from / 64) + x) (omega arith)) (and_right (tiny_has was x) false refl)
      | inr past ↦ rw (le-leb (from % 64) x past, le-leb from (64 * (from / 64) + x) (omega arith), lt-ltb x 64 small, here) (and_true (tiny_has was x))
    ]

pub unmasked : (words : List TinySet) (low i x : ℕ) (was : TinySet) → i < length words → was ≡ get_or words i was → low ≤ 64 * i → x < 64
    → tiny_has was x ≡ (nat_le low (64 * i + x) && words_have words (64 * i + x))
unmasked words low i x was inside read past small =
    let known = get_or_read words i was inside read (record { bits = 0 }) in
    let here : words_have words (64 * i + x) ≡ tiny_has was x = words_have-at words i x small ∙ ap (λ (w : TinySet). tiny_has w x) (sym known) in
    rw (le-leb low (64 * i + x) (omega arith), here) refl

-- the word of a bucket, with a mask from a place in it on
pub intersected : (words : List TinySet) (from : ℕ) (was mask word : TinySet) → from / 64 < length words → was ≡ get_or words (from / 64) was
    → ((x : ℕ) → tiny_has word x ≡ (tiny_has was x && tiny_has mask x)) → ((x : ℕ) → tiny_has mask x ≡ (nat_le (from % 64) x && nat_lt x 64))
    → (x : ℕ) → x < 64 → tiny_has word x ≡ (nat_le from (64 * (from / 64) + x) && words_have words (64 * (from / 64) + x))
intersected words from was mask word inside read both is x small = both x ∙ ap (λ b. tiny_has was x && b) (is x) ∙ masked words from x was inside read small

-- nothing lies before the bucket of a place, from that place on
pub none_before : (words : List TinySet) (from : ℕ) → HasNone (words_have words) from (64 * (from / 64))
none_before words from = λ y above before. absurd (omega arith)

-- by documents
module _ (start : ℕ) (words : List TinySet) (doc low : ℕ) (place_of : low ≡ doc - start) where
  pub first_at : (bound p : ℕ) → IsFirst (words_have words) low bound p
      → slice_get (members_between (has_at start words) doc (start + bound)) 0 ≡ Some (start + p)
  first_at bound p first =
      Some-from_first (has_at start words) doc (start + bound) (start + p) (record {
        above = omega (arith, first.above);
        below = omega (arith, first.below);
        member = has_at-from start words (start + p) (omega arith) ∙ (let place : start + p - start ≡ p = omega arith in rw place first.member);
        none_before = λ y above before. elim (cases_lt y start) [
          | inl earlier ↦ has_at-before start words y earlier
          | inr past ↦ has_at-from start words y past ∙ first.none_before (y - start) (omega arith) (omega arith)
        ];
      })

  pub none_at : (bound : ℕ) → HasNone (words_have words) low bound → slice_get (members_between (has_at start words) doc (start + bound)) 0 ≡ None
  none_at bound none =
      let empty = members_between-none (has_at start words) doc (start + bound) (λ y above before. elim (cases_lt y start) [
        | inl earlier ↦ has_at-before start words y earlier
        | inr past ↦ has_at-from start words y past ∙ none (y - start) (omega arith) (omega arith)
      ]) in
      ap (λ (xs : List ℕ). slice_get xs 0) empty

-- ---- words are cut

-- A word is cut at a place within it, after all before it were emptied.
pub words_have-cut : (old : ℕ → Bool) (words : List TinySet) (i low : ℕ) (was word : TinySet) → i < length words → was ≡ get_or words i was
    → ((x : ℕ) → words_have words x ≡ (nat_le (64 * i) x && old x)) → 64 * i ≤ low → low ≤ 64 * (i + 1)
    → ((x : ℕ) → x < 64 → tiny_has word x ≡ (nat_le low (64 * i + x) && tiny_has was x))
    → (x : ℕ) → words_have (set words i word) x ≡ (nat_le low x && old x)
words_have-cut old words i low was word inside read cut above below is x =
    let known = get_or_read words i was inside read (record { bits = 0 }) in
    elim (cases_eq (x / 64) i) [
      | inl here ↦
          let place : 64 * i + x % 64 ≡ x = omega arith in
          let now = words_have-at (set words i word) i (x % 64) (omega arith) in
          let then_ = words_have-at words i (x % 64) (omega arith) in
          let set_word : get_or (set words i word) i (record { bits = 0 }) ≡ word = get_or-set_same words i word (record { bits = 0 }) inside in
          let reached : nat_le (64 * i) x ≡ true = le-leb (64 * i) x (omega arith) in
          let a : words_have (set words i word) x ≡ tiny_has word (x % 64) = rw place at now ∙ ap (λ (w : TinySet). tiny_has w (x % 64)) set_word in
          let b : tiny_has was (x % 64) ≡ old x = ap (λ (w : TinySet). tiny_has w (x % 64)) known ∙ sym (rw place at then_) ∙ cut x ∙ rw reached in
          a ∙ is (x % 64) (omega arith) ∙ rw (place, b)
      | inr other ↦
          let same : words_have (set words i word) x ≡ words_have words x = words_have-other words i word x other in
          same ∙ cut x ∙ elim (cases_lt x (64 * i)) [
            | inl before ↦ rw (lt-leb (64 * i) x before, lt-leb low x (omega arith))
            | inr past ↦ rw (le-leb (64 * i) x past, le-leb low x (omega arith))
          ]
    ]

-- the mask of a place's bucket cuts its word there
pub cut_word : (from x : ℕ) (was mask word : TinySet) → ((y : ℕ) → tiny_has word y ≡ (tiny_has was y && tiny_has mask y))
    → ((y : ℕ) → tiny_has mask y ≡ (nat_le (from % 64) y && nat_lt y 64)) → x < 64 → tiny_has word x ≡ (nat_le from (64 * (from / 64) + x) && tiny_has was x)
cut_word from x was mask word both is small =
    both x ∙ ap (λ b. tiny_has was x && b) (is x) ∙ elim (cases_lt x (from % 64)) [
      | inl before ↦ rw (lt-leb (from % 64) x before, lt-leb from (64 * (from / 64) + x) (omega arith)) (and_right (tiny_has was x) false refl)
      | inr past ↦ rw (le-leb (from % 64) x past, le-leb from (64 * (from / 64) + x) (omega arith), lt-ltb x 64 small) (and_true (tiny_has was x))
    ]

-- the documents of words that are cut
pub has_at-cut : (start doc : ℕ) (words others : List TinySet) → ((x : ℕ) → words_have others x ≡ (nat_le (doc - start) x && words_have words x))
    → (d : ℕ) → has_at start others d ≡ (nat_le doc d && has_at start words d)
has_at-cut start doc words others cut d =
    elim (cases_lt d start) [
      | inl before ↦ has_at-before start others d before ∙ sym (and_right (nat_le doc d) (has_at start words d) (has_at-before start words d before))
      | inr past ↦
          let same : nat_le (doc - start) (d - start) ≡ nat_le doc d = elim (cases_lt d doc) [
            | inl below ↦ lt-leb (doc - start) (d - start) (omega arith) ∙ sym (lt-leb doc d below)
            | inr above ↦ le-leb (doc - start) (d - start) (omega arith) ∙ sym (le-leb doc d above)
          ] in
          has_at-from start others d past ∙ cut (d - start) ∙ rw (same, has_at-from start words d past)
    ]

-- past all words nothing is left
pub words_have-cut_all : (words : List TinySet) (k x : ℕ) → length words ≤ 64 → 4096 ≤ k
    → (nat_le 4096 x && words_have words x) ≡ (nat_le k x && words_have words x)
words_have-cut_all words k x short past = elim (cases_lt x 4096) [
  | inl inside ↦ rw (lt-leb 4096 x inside, lt-leb k x (omega arith))
  | inr outside ↦ rw (words_have-past words x (omega arith)) (and_right (nat_le 4096 x) false refl ∙ sym (and_right (nat_le k x) false refl))
]

-- the state of a document that stays
pub state_at-same : {C : Type 0} (start start' : ℕ) (words words' : List TinySet) (states states' : List C) (combiner combiner' : C) (d : ℕ)
    → start' ≡ start → states' ≡ states → combiner' ≡ combiner → has_at start' words' d ≡ has_at start words d
    → state_at start' words' states' combiner' d ≡ state_at start words states combiner d
state_at-same start start' words words' states states' combiner combiner' d s t c h = rw (h, s, t, c) refl

-- a place that is added, by its document
pub has_at-put : (start doc : ℕ) (words more : List TinySet) → start ≤ doc → ((x : ℕ) → words_have more x ≡ (x == doc - start || words_have words x))
    → (d : ℕ) → has_at start more d ≡ (d == doc || has_at start words d)
has_at-put start doc words more low is d =
    elim (cases_lt d start) [
      | inl before ↦ has_at-before start more d before ∙ sym (rw (ne_eqb d doc (omega arith), has_at-before start words d before) refl)
      | inr past ↦
          let same : (d - start == doc - start) ≡ (d == doc) = elim (cases_eq d doc) [
            | inl e ↦ rw (eq-eqb d doc e, eq-eqb (d - start) (doc - start) (omega arith)) refl
            | inr other ↦ rw (ne_eqb d doc other, ne_eqb (d - start) (doc - start) (omega arith)) refl
          ] in
          has_at-from start more d past ∙ is (d - start) ∙ rw (same, has_at-from start words d past) refl
    ]

-- where no state was made, all count as cleared
pub window_state-none : {C : Type 0} (w : Window C) → vec_len w.states ≡ 0 → (d : ℕ) → window_state w d ≡ window_combiner w
unfolding window_state
window_state-none w none d =
    let read : get_or w.states.items (d - w.start) w.combiner ≡ w.combiner =
    get_or-past w.states.items (d - w.start) w.combiner (omega (arith, none, w.states.ok.0)) in
    elim (cases_Bool (window_has w d)) [
      | inl here ↦ rw here read
      | inr gone ↦ rw gone refl
    ]
