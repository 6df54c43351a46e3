-- Counting the members of a set by words.
use Rattle.std.proofs.Common.{◌≡◌, ℕ, ◌+◌, ◌*◌, ◌/◌, ◌%◌, ◌≤◌, Bool, true, false, ◌&&◌, nat_lt, nat_le, List, [], ◌∷◌, length, map, filter, refl, sym, ap, ◌∙◌}
use Rattle.std.proofs.Common.{inl, inr, arith}
use Rattle.std.proofs.lemmas.Bool.{cases_Bool}
use Rattle.std.proofs.lemmas.List.{length-map}
use Rattle.qm_docset.specs.declared.bitset.BitSet.{BitSet}
use Rattle.qm_docset.specs.declared.tiny_set.TinySet.{TinySet}
use Rattle.qm_docset.specs.declared.alive_bitset.AliveBitSet.{AliveBitSet}
use Rattle.qm_docset.specs.AliveBitSet.{alive_docs, alive_entries}
use Rattle.qm_docset.specs.BitSet.{set_has, set_max_value, set_members_from}
use Rattle.qm_docset.specs.Entry.{plain}
use Rattle.qm_docset.specs.Members.{members_between}
use Rattle.qm_docset.specs.TinySet.{tiny_has, tiny_members}
use Rattle.qm_docset.proofs.MembersLemmas.{members_between-none, members_between-bound, filter-members_between}
use Rattle.qm_docset.proofs.BitSetLemmas.{word_members_from}
use Rattle.qm_docset.proofs.BitSetMembers.{set_has-past}
use Rattle.qm_docset.proofs.MembersLeft.{members-to_bound}

-- in both sets
unfoldable pub both_have : BitSet → BitSet → ℕ → Bool
both_have s t x = set_has s x && set_has t x

both_have-past : (s t : BitSet) (x : ℕ) → set_max_value s ≤ x → both_have s t x ≡ false
unfolding both_have
both_have-past s t x past = rw (set_has-past s x past)

-- a member of both words
both-parts : (a p q : Bool) → ((a && p) && (a && q)) ≡ (a && (p && q))
both-parts true p q = refl
both-parts false p q = refl

pub both-word : (s t : BitSet) (bucket x : ℕ) →
    ((nat_lt x 64 && set_has s (64 * bucket + x)) && (nat_lt x 64 && set_has t (64 * bucket + x))) ≡ (nat_lt x 64 && both_have s t (64 * bucket + x))
unfolding both_have
both-word s t bucket x = both-parts (nat_lt x 64) (set_has s (64 * bucket + x)) (set_has t (64 * bucket + x))

both-parts_from : (a b p q : Bool) → (((a && p) && (b && a)) && (a && q)) ≡ ((a && (p && q)) && (b && a))
both-parts_from true true true true = refl
both-parts_from true true true false = refl
both-parts_from true true false true = refl
both-parts_from true true false false = refl
both-parts_from true false true true = refl
both-parts_from true false true false = refl
both-parts_from true false false true = refl
both-parts_from true false false false = refl
both-parts_from false b p q = refl

-- of two words from a document on
pub length-both_from : (s t : BitSet) (doc : ℕ) (word : TinySet)
    → ((x : ℕ) → tiny_has word x
    ≡ (((nat_lt x 64 && set_has s (64 * (doc / 64) + x)) && (nat_le (doc % 64) x && nat_lt x 64)) && (nat_lt x 64 && set_has t (64 * (doc / 64) + x))))
    → length (tiny_members word) ≡ length (members_between (both_have s t) doc (64 * (doc / 64 + 1)))
unfolding both_have
length-both_from s t doc word is =
    let bucket : ℕ = doc / 64 in
    let members = word_members_from (both_have s t) word doc
    (λ x. is x ∙ both-parts_from (nat_lt x 64) (nat_le (doc % 64) x) (set_has s (64 * bucket + x)) (set_has t (64 * bucket + x))) in
    sym (length-map (tiny_members word) (λ x. 64 * bucket + x)) ∙ ap length members

pub length-from : (s : BitSet) (doc : ℕ) (word : TinySet) →
    map (λ x. 64 * (doc / 64) + x) (tiny_members word) ≡ members_between (set_has s) doc (64 * (doc / 64 + 1))
    → length (tiny_members word) ≡ length (members_between (set_has s) doc (64 * (doc / 64 + 1)))
length-from s doc word members = sym (length-map (tiny_members word) (λ x. 64 * (doc / 64) + x)) ∙ ap length members

-- ---- all that remain

pub count_all : (s : BitSet) (doc high : ℕ) → set_max_value s ≤ high →
    length (members_between (set_has s) doc high) ≡ length (map plain (set_members_from s doc))
count_all s doc high past = ap length (members-to_bound s doc high past) ∙ sym (length-map (set_members_from s doc) plain)

alive-plain : (a : AliveBitSet) (xs : List ℕ) → alive_entries a (map plain xs) ≡ map plain (filter (set_has (alive_docs a)) xs)
unfolding alive_entries
alive-plain a [] = refl
alive-plain a (x ∷ xs) =
    let rest = alive-plain a xs in
    elim (cases_Bool (set_has (alive_docs a) x)) [ inl alive ↦ rw (alive, rest) | inr deleted ↦ rw (deleted, rest) ]

pub count_alive : (s : BitSet) (a : AliveBitSet) (doc high : ℕ) → set_max_value s ≤ high
    → length (members_between (both_have s (alive_docs a)) doc high) ≡ length (alive_entries a (map plain (set_members_from s doc)))
unfolding both_have set_members_from
count_alive s a doc high past =
    let t : BitSet = alive_docs a in
    ap length (members_between-bound (both_have s t) doc (set_max_value s) high past (both_have-past s t)
    ∙ sym (filter-members_between (set_has s) (set_has t) doc (set_max_value s)))
    ∙ sym (ap length (alive-plain a (members_between (set_has s) doc (set_max_value s)))
    ∙ length-map (filter (set_has t) (members_between (set_has s) doc (set_max_value s))) plain)

-- ---- at the end

pub none_at_end : (s : BitSet) → set_max_value s ≤ 2147483647 → map plain (set_members_from s 2147483647) ≡ []
unfolding set_members_from
none_at_end s fits = ap (map plain) (members_between-none (set_has s) 2147483647 (set_max_value s) (λ x after below. absurd (omega arith)))
