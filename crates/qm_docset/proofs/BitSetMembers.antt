-- The members of a BitSet as the entries of a cursor.
use Rattle.std.proofs.Common.{◌≡◌, ℕ, ◌<◌, ◌≤◌, true, false, List, [], ◌∷◌, map, option_map, slice_get, Option, Some, None, unwrap_or, refl, sym, ap, ◌∙◌}
use Rattle.std.proofs.Common.{arith, max, drop}
use Rattle.std.proofs.lemmas.Bool.{false_from_ne_true}
use Rattle.qm_docset.specs.declared.bitset.BitSet.{BitSet}
use Rattle.qm_docset.specs.declared.numbers.TheConstants.{TERMINATED}
use Rattle.qm_docset.specs.BitSet.{set_has, set_max_value, set_members_from}
use Rattle.qm_docset.specs.Entry.{Entry, from, head_document, plain}
use Rattle.qm_docset.specs.Members.{members_between}
use Rattle.qm_docset.proofs.MembersLemmas.{IsFirst}
use Rattle.qm_docset.proofs.MemberEntries.{head-first, first-from_Some, none-from_None, entries-head, from-entries, entries-skip, entries-drop, head-bounds}
use Rattle.qm_docset.proofs.MemberEntries.{head-end}

pub None-from_map : (f : ℕ → ℕ) (o : Option ℕ) → None ≡ option_map f o → None ≡ o
None-from_map f None e = refl
None-from_map f (Some x) e = absurd (cc)

pub Some-from_map : (f : ℕ → ℕ) (o : Option ℕ) (y : ℕ) → Some y ≡ option_map f o → (x : ℕ) × (Some x ≡ o) × (f x ≡ y)
Some-from_map f None y e = absurd (cc)
Some-from_map f (Some x) y e = (x, refl, (cc))

-- members are below the bound
pub set_has-below : (s : BitSet) (x : ℕ) → set_has s x ≡ true → x < set_max_value s
unfolding set_has
set_has-below s x member = s.within x member

pub set_has-past : (s : BitSet) (x : ℕ) → set_max_value s ≤ x → set_has s x ≡ false
set_has-past s x past = false_from_ne_true (set_has s x) (λ member. absurd (let less = set_has-below s x member in omega arith))

-- the first member of a stretch is the first of all from there on
pub first-to_bound : (s : BitSet) (low high x : ℕ) → IsFirst (set_has s) low high x → IsFirst (set_has s) low (set_max_value s) x
first-to_bound s low high x first = record {
  above = first.above;
  below = set_has-below s x first.member;
  member = first.member;
  none_before = first.none_before;
}

module _ (s : BitSet) (target : ℕ) where
  -- the target's word has a member at or past it
  pub head-in_word : (high x : ℕ) → Some x ≡ slice_get (members_between (set_has s) target high) 0 → x ≡ head_document (map plain (set_members_from s target))
  unfolding set_members_from
  head-in_word high x read =
      let first = first-to_bound s target high x (first-from_Some (set_has s) target high x read) in
      sym (head-first (set_has s) target (set_max_value s) x first)

-- where a cursor lands that goes to the first member from `low` on
pub record Lands (s : BitSet) (low doc : ℕ) : Type 0 where
  pub entries : map plain (set_members_from s doc) ≡ map plain (set_members_from s low)
  pub placed : doc ≡ head_document (map plain (set_members_from s doc))
  pub within : doc ≤ TERMINATED

pub lands : (s : BitSet) (low doc : ℕ) → set_max_value s ≤ TERMINATED → doc ≡ head_document (map plain (set_members_from s low)) → Lands s low doc
unfolding set_members_from
lands s low doc fits first =
    let same : map plain (members_between (set_has s) doc (set_max_value s)) ≡ map plain (members_between (set_has s) low (set_max_value s)) =
    rw first (entries-head (set_has s) low (set_max_value s) fits) in
    record {
      entries = same;
      placed = first ∙ ap head_document (sym same);
      within = rw first (head-end (set_has s) low (set_max_value s) fits);
    }

pub members-from : (s : BitSet) (doc target : ℕ) → from target (map plain (set_members_from s doc)) ≡ map plain (set_members_from s (max doc target))
unfolding set_members_from
members-from s doc target = from-entries (set_has s) doc (set_max_value s) target

-- a target's word tells where a cursor goes: to a member of it
pub lands_in_word : (s : BitSet) (low high doc : ℕ) → set_max_value s ≤ TERMINATED →
    Some doc ≡ slice_get (members_between (set_has s) low high) 0 → (Lands s low doc) × (low ≤ doc) × (doc < TERMINATED)
lands_in_word s low high doc fits read =
    let first = first-from_Some (set_has s) low high doc read in
    let below = set_has-below s doc first.member in
    (lands s low doc fits (head-in_word s low high doc read), first.above, omega arith)

-- or past the members before its end
pub lands_past_word : (s : BitSet) (low high bound : ℕ) → None ≡ slice_get (members_between (set_has s) low high) 0 →
    low ≤ bound → bound ≤ high → bound ≤ TERMINATED → set_max_value s ≤ TERMINATED
    → (map plain (set_members_from s bound) ≡ map plain (set_members_from s low)) × (bound ≤ head_document (map plain (set_members_from s bound)))
unfolding set_members_from
lands_past_word s low high bound read above below ends fits =
    let none = none-from_None (set_has s) low high read in (
      entries-skip (set_has s) low (set_max_value s) bound above (λ x after before. none x after (omega arith)),
      (head-bounds (set_has s) bound (set_max_value s) ends fits).0,
    )

-- wherever steps lead
pub members-drop : (s : BitSet) (doc n : ℕ) → set_max_value s ≤ TERMINATED
    → map plain (set_members_from s (head_document (drop n (map plain (set_members_from s doc))))) ≡ drop n (map plain (set_members_from s doc))
unfolding set_members_from
members-drop s doc n fits = entries-drop (set_has s) doc (set_max_value s) n fits

pub head-of_entries : (xs : List ℕ) (es : List Entry) (o : Option ℕ) → map plain xs ≡ es → o ≡ slice_get xs 0 → unwrap_or o 2147483647 ≡ head_document es
head-of_entries [] es o same read = rw (← same, read)
head-of_entries (y ∷ xs) es o same read = rw (← same, read)
