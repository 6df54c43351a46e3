-- What is left of a set, word by word.
use Rattle.std.proofs.Common.{◌≡◌, ℕ, ◌+◌, ◌*◌, ◌/◌, ◌%◌, ◌<◌, ◌≤◌, ◌&&◌, nat_lt, true, false, List, [], ◌∷◌, ◌++◌, drop, map, option_map, slice_get, Option}
use Rattle.std.proofs.Common.{Some, None, IsSome, unwrap_or, refl, sym, ap, ◌∙◌, inl, inr, arith, append-nil, true≢false, lt-ltb}
use Rattle.std.proofs.lemmas.Bool.{cases_lt}
use Rattle.std.proofs.lemmas.List.{drop-map}
use Rattle.qm_docset.specs.declared.bitset.BitSet.{BitSet}
use Rattle.qm_docset.specs.declared.tiny_set.TinySet.{TinySet}
use Rattle.qm_docset.specs.BitSet.{set_has, set_max_value, set_members_from, members_left}
use Rattle.qm_docset.specs.Entry.{plain}
use Rattle.qm_docset.specs.Members.{members_between}
use Rattle.qm_docset.specs.TinySet.{tiny_has, tiny_members}
use Rattle.qm_docset.specs.declared.numbers.TheConstants.{TERMINATED}
use Rattle.qm_docset.proofs.MembersLemmas.{members_between-none, members_between-split, members_between-skip, members_between-bound, HasNone, IsFirst}
use Rattle.qm_docset.proofs.MemberEntries.{first-from_Some, none-from_None}
use Rattle.qm_docset.proofs.BitSetLemmas.{word_members_whole}
use Rattle.qm_docset.proofs.BitSetMembers.{Lands, lands, head-of_entries, set_has-below, set_has-past, None-from_map, Some-from_map}

pub IsSome-from_not_None : (o : Option ℕ) → ((None ≡ o) → ⊥) → IsSome o
IsSome-from_not_None None there = absurd (there refl)
IsSome-from_not_None (Some x) there = refl

-- no member lies past the bound
pub members-to_bound : (s : BitSet) (low high : ℕ) → set_max_value s ≤ high → members_between (set_has s) low high ≡ set_members_from s low
unfolding set_members_from
members-to_bound s low high past = members_between-bound (set_has s) low (set_max_value s) high past (set_has-past s)

-- a stretch and what lies past it, which may be past the bound
pub members-split : (s : BitSet) (low mid : ℕ) → low ≤ mid → members_between (set_has s) low mid ++ set_members_from s mid ≡ set_members_from s low
unfolding set_members_from
members-split s low mid above =
    elim (cases_lt (set_max_value s) mid) [
      | inr within ↦ sym (members_between-split (set_has s) low mid (set_max_value s) above within)
      | inl past ↦
          let behind = members_between-none (set_has s) mid (set_max_value s) (λ x after below. absurd (omega arith)) in
          rw (behind, append-nil (members_between (set_has s) low mid)) (members-to_bound s low mid (omega arith))
    ]

-- ---- a member is taken

taken : (f : ℕ → ℕ) (xs ys : List ℕ) (x : ℕ) → Some x ≡ slice_get xs 0 →
    (Some (f x) ≡ slice_get (map f xs ++ ys) 0) × (map f (drop 1 xs) ++ ys ≡ drop 1 (map f xs ++ ys))
taken f [] ys x read = absurd (cc)
taken f (z ∷ xs) ys x read = let same : x ≡ z = cc in (ap (λ y. Some (f y)) same, refl)

empty : (xs : List ℕ) → None ≡ slice_get xs 0 → xs ≡ []
empty [] read = refl
empty (x ∷ xs) read = absurd (cc)

lowest_below : (word : TinySet) (lowest : ℕ) → Some lowest ≡ slice_get (tiny_members word) 0 → lowest < 64
unfolding tiny_members
lowest_below word lowest read = (first-from_Some (tiny_has word) 0 64 lowest read).below

no_member : (word : TinySet) → None ≡ slice_get (tiny_members word) 0 → (x : ℕ) → x < 64 → tiny_has word x ≡ false
unfolding tiny_members
no_member word none x small = none-from_None (tiny_has word) 0 64 none x (omega arith) small

first_of : (s : BitSet) (low x : ℕ) → Some x ≡ slice_get (set_members_from s low) 0 → IsFirst (set_has s) low (set_max_value s) x
unfolding set_members_from
first_of s low x read = first-from_Some (set_has s) low (set_max_value s) x read

skipped : (s : BitSet) (low mid : ℕ) → low ≤ mid → HasNone (set_has s) low mid → set_members_from s mid ≡ set_members_from s low
unfolding set_members_from
skipped s low mid above none = sym (members_between-skip (set_has s) low mid (set_max_value s) above none)

-- all of a word is left
pub left-whole : (s : BitSet) (bucket : ℕ) (word : TinySet) → ((x : ℕ) → tiny_has word x ≡ (nat_lt x 64 && set_has s (64 * bucket + x))) →
    members_left s bucket word ≡ set_members_from s (64 * bucket)
unfolding members_left
left-whole s bucket word is = rw (← word_members_whole (set_has s) word bucket is) (members-split s (64 * bucket) (64 * (bucket + 1)) (omega arith))

-- a word is left from a document on
pub left-from : (s : BitSet) (doc : ℕ) (word : TinySet) →
    map (λ x. 64 * (doc / 64) + x) (tiny_members word) ≡ members_between (set_has s) doc (64 * (doc / 64 + 1))
    → members_left s (doc / 64) word ≡ set_members_from s doc
unfolding members_left
left-from s doc word is = rw is (members-split s doc (64 * (doc / 64 + 1)) (omega arith))

module _ (s : BitSet) (bucket : ℕ) (word left : TinySet) (rest : tiny_members left ≡ drop 1 (tiny_members word)) where
  pub left-pop : (lowest : ℕ) → Some lowest ≡ slice_get (tiny_members word) 0
      → (Some (64 * bucket + lowest) ≡ slice_get (members_left s bucket word) 0) ×
      (members_left s bucket left ≡ drop 1 (members_left s bucket word)) × (lowest < 64)
  unfolding members_left
  left-pop lowest read =
      let t = taken (λ x. 64 * bucket + x) (tiny_members word) (set_members_from s (64 * (bucket + 1))) lowest read in
      (t.0, rw rest t.1, lowest_below word lowest read)

-- ---- a word has no member left

module _ (s : BitSet) (bucket : ℕ) (word left : TinySet) (rest : tiny_members left ≡ drop 1 (tiny_members word))
    (ended : None ≡ slice_get (tiny_members word) 0) where
  later : members_left s bucket word ≡ set_members_from s (64 * (bucket + 1))
  unfolding members_left
  later = rw (empty (tiny_members word) ended)

  -- nor has any word after it
  pub left-none : None ≡ option_map (λ x. x / 64) (slice_get (set_members_from s (64 * (bucket + 1))) 0)
      → (None ≡ slice_get (members_left s bucket word) 0) × (members_left s bucket left ≡ drop 1 (members_left s bucket word))
  unfolding members_left
  left-none after =
      let none = empty (set_members_from s (64 * (bucket + 1))) (None-from_map (λ x. x / 64) (slice_get (set_members_from s (64 * (bucket + 1))) 0) after) in
      let gone : tiny_members left ≡ [] = rest ∙ ap (drop 1) (empty (tiny_members word) ended) in
      (rw (empty (tiny_members word) ended, none), rw (gone, empty (tiny_members word) ended, none))

  -- the next word with a member
  pub left-next : (next : ℕ) (there : TinySet) → Some next ≡ option_map (λ x. x / 64) (slice_get (set_members_from s (64 * (bucket + 1))) 0)
      → ((x : ℕ) → tiny_has there x ≡ (nat_lt x 64 && set_has s (64 * next + x)))
      → (64 * next < set_max_value s) × ((None ≡ slice_get (tiny_members there) 0) → ⊥) × (members_left s next there ≡ members_left s bucket word)
  left-next next there after is =
      let found = Some-from_map (λ x. x / 64) (slice_get (set_members_from s (64 * (bucket + 1))) 0) next after in
      let first = first_of s (64 * (bucket + 1)) found.0 found.1 in
      let x : ℕ = found.0 in
      let within = set_has-below s x first.member in
      let place : 64 * next + x % 64 ≡ x = omega (arith, found.2) in
      let member : tiny_has there (x % 64) ≡ true = is (x % 64) ∙ rw (place, lt-ltb (x % 64) 64 (omega arith)) first.member in (
        omega (arith, found.2),
        λ none. true≢false (sym member ∙ no_member there none (x % 64) (omega arith)),
        left-whole s next there is ∙ skipped s (64 * (bucket + 1)) (64 * next) (omega (arith, first.above, found.2))
            (λ y after before. first.none_before y after (omega (arith, found.2))) ∙ sym later,
      )

-- ---- a cursor goes to the first of the members from a number on

module _ (s : BitSet) (fits : set_max_value s ≤ TERMINATED) (low bucket : ℕ) (word : TinySet) (left : members_left s bucket word ≡ set_members_from s low) where
  pub lands_on_first : (first : Option ℕ) → first ≡ slice_get (members_left s bucket word) 0 → Lands s low (unwrap_or first 2147483647)
  lands_on_first first read = lands s low (unwrap_or first 2147483647) fits
      (head-of_entries (members_left s bucket word) (map plain (set_members_from s low)) first (ap (map plain) left) read)

  -- and the others are left behind it
  pub behind_first : (doc other : ℕ) (rest : TinySet) → Lands s low doc → members_left s other rest ≡ drop 1 (members_left s bucket word) →
      map plain (members_left s other rest) ≡ drop 1 (map plain (set_members_from s doc))
  behind_first doc other rest there taken = ap (map plain) (taken ∙ ap (drop 1) left)
      ∙ sym (drop-map plain 1 (set_members_from s low)) ∙ ap (drop 1) (sym there.entries)
