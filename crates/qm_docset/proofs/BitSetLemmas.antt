-- The words of a BitSet and its members.
use Rattle.std.proofs.Common.{◌≡◌, ℕ, ◌+◌, ◌-◌, ◌*◌, ◌/◌, ◌%◌, ◌<◌, ◌≤◌, Bool, true, false, not, ◌&&◌, ◌||◌, ltb, nat_lt, ◌==◌, List, [], length, get_or, set}
use Rattle.std.proofs.Common.{map}
use Rattle.std.proofs.Common.{replicate, slice_get, option_map, Some, None, IsTrue, refl, sym, ap, ◌∙◌, inl, inr, arith, eq-eqb, ne_eqb, lt-ltb, le-ltb, le-leb}
use Rattle.std.proofs.Common.{nat_le, eqb-true}
use Rattle.std.proofs.lemmas.Bool.{cases_eq, cases_lt, lt-leb, and_parts, and_right, or_cases, false_from_ne_true}
use Rattle.std.proofs.lemmas.List.{length-append, length-map, get_or-set_same, get_or-set_other, get_or_past, get_or-replicate, get_or_read, length-replicate}
use Rattle.qm_docset.specs.declared.tiny_set.TinySet.{TinySet}
use Rattle.qm_docset.specs.Members.{members_between}
use Rattle.qm_docset.specs.TinySet.{tiny_has, tiny_members}
use Rattle.qm_docset.specs.Words.{words_have}
use Rattle.qm_docset.proofs.MembersLemmas.{and_true, members_between-none, members_between-split, members_between-skip, members_between-same}
use Rattle.qm_docset.proofs.MembersLemmas.{members_between-shift, members_between-first_of, cases_first, IsFirst, HasNone, HasNone-from_members}
use Rattle.qm_docset.proofs.TinySetLemmas.{tiny_has-zero, tiny_has-past}

-- ---- one word

pub words_have-at : (words : List TinySet) (bucket x : ℕ) → x < 64 → words_have words (64 * bucket + x) ≡ tiny_has (get_or words bucket (record { bits = 0 })) x
unfolding words_have
words_have-at words bucket x small =
    let word : (64 * bucket + x) / 64 ≡ bucket = omega arith in
    let place : (64 * bucket + x) % 64 ≡ x = omega arith in
    rw (word, place)

-- a word by its numbers
pub tiny_has-word : (words : List TinySet) (bucket x : ℕ) →
    tiny_has (get_or words bucket (record { bits = 0 })) x ≡ (nat_lt x 64 && words_have words (64 * bucket + x))
tiny_has-word words bucket x =
    elim (cases_lt x 64) [
      | inl small ↦ rw (lt-ltb x 64 small, words_have-at words bucket x small)
      | inr past ↦ rw (le-ltb x 64 past, tiny_has-past (get_or words bucket (record { bits = 0 })) x past)
    ]

pub words_have-past : (words : List TinySet) (x : ℕ) → length words ≤ x / 64 → words_have words x ≡ false
unfolding words_have
words_have-past words x past = rw (get_or_past words (x / 64) (record { bits = 0 }) past) (tiny_has-zero (x % 64))

pub words_past : (words : List TinySet) (bucket x : ℕ) → length words ≤ bucket → (nat_lt x 64 && words_have words (64 * bucket + x)) ≡ false
words_past words bucket x past = and_right (ltb x 64) (words_have words (64 * bucket + x)) (words_have-past words (64 * bucket + x) (omega arith))

pub words_have-replicate : (n : ℕ) (word : TinySet) → ((x : ℕ) → tiny_has word x ≡ false) → (x : ℕ) → words_have (replicate n word) x ≡ false
unfolding words_have
words_have-replicate n word none x =
    elim (cases_lt (x / 64) n) [
      | inl within ↦ rw (get_or-replicate n (x / 64) word (record { bits = 0 }) within) (none (x % 64))
      | inr past ↦ words_have-past (replicate n word) x (rw length-replicate past)
    ]

-- a number is added to its word
pub words_have-set : (words : List TinySet) (word : TinySet) (el : ℕ) → el / 64 < length words
    → ((x : ℕ) → tiny_has word x ≡ (x == el % 64 || tiny_has (get_or words (el / 64) (record { bits = 0 })) x))
    → (x : ℕ) → words_have (set words (el / 64) word) x ≡ (x == el || words_have words x)
unfolding words_have
words_have-set words word el within added x =
    elim (cases_eq (x / 64) (el / 64)) [
      | inl same ↦
          let here = added (x % 64) in
          let is : (x % 64 == el % 64) ≡ (x == el) = elim (cases_eq x el) [
            | inl e ↦ rw (eq-eqb x el e, eq-eqb (x % 64) (el % 64) (ap (λ y. y % 64) e))
            | inr other ↦ rw (ne_eqb x el other, ne_eqb (x % 64) (el % 64) (λ e. other (omega arith)))
          ] in
          rw (same, get_or-set_same words (el / 64) word (record { bits = 0 }) within, here, is)
      | inr other ↦ rw (get_or-set_other words (el / 64) (x / 64) word (record { bits = 0 }) other, ne_eqb x el (λ e. other (ap (λ y. y / 64) e)))
    ]

module _ (words : List TinySet) (el : ℕ) (was word : TinySet) (inside : el / 64 < length words) (read : was ≡ get_or words (el / 64) was)
    (added : (x : ℕ) → tiny_has word x ≡ (x == el % 64 || tiny_has was x)) where
  pub words_have-insert : (x : ℕ) → words_have (set words (el / 64) word) x ≡ (x == el || words_have words x)
  words_have-insert =
      let old = get_or_read words (el / 64) was inside read (record { bits = 0 }) in
      words_have-set words word el inside (λ x. added x ∙ ap (λ (w : TinySet). x == el % 64 || tiny_has w x) old)

  pub insert_within : (bound : ℕ) → el < bound → ((x : ℕ) → IsTrue (words_have words x) → x < bound)
      → (x : ℕ) → IsTrue (words_have (set words (el / 64) word) x) → x < bound
  insert_within bound below within x member =
      elim (or_cases (x == el) (words_have words x) (sym (words_have-insert x) ∙ member)) [
        | inl same ↦ let here = eqb-true x el same in omega arith
        | inr old ↦ within x old
      ]

-- a number is taken out of its word
module _ (words : List TinySet) (el : ℕ) (was word : TinySet) (inside : el / 64 < length words) (read : was ≡ get_or words (el / 64) was)
    (less : (x : ℕ) → tiny_has word x ≡ (tiny_has was x && not (x == el % 64))) where
  pub words_have-remove : (x : ℕ) → words_have (set words (el / 64) word) x ≡ (words_have words x && not (x == el))
  unfolding words_have
  words_have-remove x =
      let no_word : TinySet = record { bits = 0 } in
      let old = get_or_read words (el / 64) was inside read no_word in
      elim (cases_eq (x / 64) (el / 64)) [
        | inl same ↦
            let is : (x % 64 == el % 64) ≡ (x == el) = elim (cases_eq x el) [
              | inl e ↦ rw (eq-eqb x el e, eq-eqb (x % 64) (el % 64) (ap (λ y. y % 64) e))
              | inr other ↦ rw (ne_eqb x el other, ne_eqb (x % 64) (el % 64) (λ e. other (omega arith)))
            ] in
            rw (same, get_or-set_same words (el / 64) word no_word inside, less (x % 64), is) (ap (λ (w : TinySet). tiny_has w (x % 64) && not (x == el)) old)
        | inr other ↦ rw (get_or-set_other words (el / 64) (x / 64) word no_word other, ne_eqb x el (λ e. other (ap (λ y. y / 64) e)))
            (sym (and_true (words_have words x)))
      ]

  pub remove_within : (bound : ℕ) → ((x : ℕ) → IsTrue (words_have words x) → x < bound)
      → (x : ℕ) → IsTrue (words_have (set words (el / 64) word) x) → x < bound
  remove_within bound within x member = within x (and_parts (words_have words x) (not (x == el)) (sym (words_have-remove x) ∙ member)).0

-- ---- the members of a word and of all

-- a whole word
pub word_members_whole : (has : ℕ → Bool) (word : TinySet) (bucket : ℕ) → ((x : ℕ) → tiny_has word x ≡ (nat_lt x 64 && has (64 * bucket + x)))
    → members_between has (64 * bucket) (64 * (bucket + 1)) ≡ map (λ x. 64 * bucket + x) (tiny_members word)
unfolding tiny_members
word_members_whole has word bucket is =
    let low : 64 * bucket + 0 ≡ 64 * bucket = omega arith in
    let high : 64 * (bucket + 1) ≡ 64 * bucket + 64 = omega arith in
    let shifted = members_between-shift has (64 * bucket) 0 64 in
    let same = members_between-same (λ x. has (64 * bucket + x)) (tiny_has word) 0 64 (λ x above below. sym (is x ∙ rw (lt-ltb x 64 below))) in
    rw high (rw low at shifted ∙ ap (map (λ x. 64 * bucket + x)) same)

-- one more word of a set is counted
pub length-word_more : (has : ℕ → Bool) (word : TinySet) (low bucket : ℕ) →
    low ≤ 64 * bucket → ((x : ℕ) → tiny_has word x ≡ (nat_lt x 64 && has (64 * bucket + x)))
    → length (members_between has low (64 * bucket)) + length (tiny_members word) ≡ length (members_between has low (64 * (bucket + 1)))
length-word_more has word low bucket above is =
    let all = members_between-split has low (64 * bucket) (64 * (bucket + 1)) above (omega arith) in
    let parts = ap length all ∙ length-append (members_between has low (64 * bucket)) (members_between has (64 * bucket) (64 * (bucket + 1))) in
    let whole = ap length (word_members_whole has word bucket is) ∙ length-map (tiny_members word) (λ x. 64 * bucket + x) in
    omega arith

-- no member stands at or past the bound
pub lacks_past : (words : List TinySet) (bound : ℕ) → ((x : ℕ) → IsTrue (words_have words x) → x < bound) → (x : ℕ) → bound ≤ x → words_have words x ≡ false
lacks_past words bound within x past = false_from_ne_true (words_have words x) (λ member. absurd (let less = within x member in omega arith))

-- a word with a member after words with none
pub first_in_word : (words : List TinySet) (bucket low bound : ℕ) → low ≤ 64 * bucket → HasNone (words_have words) low (64 * bucket)
    → ((x : ℕ) → IsTrue (words_have words x) → x < bound) → ((tiny_members (get_or words bucket (record { bits = 0 })) ≡ []) → ⊥)
    → option_map (λ x. x / 64) (slice_get (members_between (words_have words) low bound) 0) ≡ Some bucket
unfolding tiny_members
first_in_word words bucket low bound past none within some =
    let word : TinySet = get_or words bucket (record { bits = 0 }) in
    elim (cases_first (tiny_has word) 0 64) [
      | inl empty ↦ absurd (some (members_between-none (tiny_has word) 0 64 empty))
      | inr found ↦
          let m : ℕ = found.0 in
          let here : words_have words (64 * bucket + m) ≡ true = words_have-at words bucket m found.1.below ∙ found.1.member in
          let first : IsFirst (words_have words) low bound (64 * bucket + m) = record {
            above = omega arith;
            below = within (64 * bucket + m) here;
            member = here;
            none_before = λ y above before. elim (cases_lt y (64 * bucket)) [
              | inl earlier ↦ none y above earlier
              | inr inside ↦
                  let place : 64 * bucket + (y - 64 * bucket) ≡ y = omega arith in
                  let small : y - 64 * bucket < 64 = omega (arith, found.1.below) in
                  rw place at (words_have-at words bucket (y - 64 * bucket) small) ∙ found.1.none_before (y - 64 * bucket) (omega arith) (omega arith)
            ];
          } in
          let whole : (64 * bucket + m) / 64 ≡ bucket = omega (arith, found.1.below) in
          rw (members_between-first_of (words_have words) low bound (64 * bucket + m) first, whole)
    ]

-- one more word has no member
pub HasNone-more : (words : List TinySet) (low i : ℕ) (word : TinySet) → i < length words → word ≡ get_or words i word → tiny_members word ≡ []
    → HasNone (words_have words) low (64 * i) → HasNone (words_have words) low (64 * (i + 1))
unfolding tiny_members
HasNone-more words low i word inside read empty none x above below =
    elim (cases_lt x (64 * i)) [
      | inl earlier ↦ none x above earlier
      | inr here ↦
          let place : 64 * i + (x - 64 * i) ≡ x = omega arith in
          let small : x - 64 * i < 64 = omega arith in
          let known = get_or_read words i word inside read (record { bits = 0 }) in
          rw place at (words_have-at words i (x - 64 * i) small)
          ∙ ap (λ (w : TinySet). tiny_has w (x - 64 * i)) (sym known)
          ∙ HasNone-from_members (tiny_has word) 0 64 empty (x - 64 * i) (omega arith) small
    ]

-- no word from `low` on has a member
pub first_in_none : (words : List TinySet) (low bound : ℕ) → HasNone (words_have words) low (64 * length words)
    → option_map (λ x. x / 64) (slice_get (members_between (words_have words) low bound) 0) ≡ None
first_in_none words low bound none =
    rw (members_between-none (words_have words) low bound (λ x above below. elim (cases_lt x (64 * length words)) [
      | inl inside ↦ none x above inside
      | inr past ↦ words_have-past words x (omega arith)
    ]))

-- the members of a word at or past a number
pub word_members_from : (has : ℕ → Bool) (word : TinySet) (low : ℕ)
    → ((x : ℕ) → tiny_has word x ≡ ((nat_lt x 64 && has (64 * (low / 64) + x)) && (nat_le (low % 64) x && nat_lt x 64)))
    → map (λ x. 64 * (low / 64) + x) (tiny_members word) ≡ members_between has low (64 * (low / 64 + 1))
unfolding tiny_members
word_members_from has word low is =
    let bucket : ℕ = low / 64 in
    let rest : ℕ = low % 64 in
    let place : 64 * bucket + rest ≡ low = omega arith in
    let end : 64 * bucket + 64 ≡ 64 * (bucket + 1) = omega arith in
    let inside : (x : ℕ) → x < 64 → rest ≤ x → tiny_has word x ≡ has (64 * bucket + x) = λ x small above. is x
    ∙ rw (lt-ltb x 64 small, le-leb rest x above) (and_true (has (64 * bucket + x))) in
    let before : HasNone (tiny_has word) 0 rest = λ x above below. is x
    ∙ rw (lt-leb rest x below) (and_right (nat_lt x 64 && has (64 * bucket + x)) false refl) in
    let shifted = members_between-shift has (64 * bucket) rest 64 in
    ap (map (λ x. 64 * bucket + x)) (members_between-skip (tiny_has word) 0 rest 64 (omega arith) before
    ∙ members_between-same (tiny_has word) (λ x. has (64 * bucket + x)) rest 64 (λ x above below. inside x below above))
    ∙ sym shifted ∙ rw (place, end)
