-- What is deleted in two segments, and in the segment of both.
use Rattle.std.proofs.Common.{◌≡◌, ◌==◌, ◌||◌, ℕ, ◌+◌, ◌-◌, ◌<◌, ◌≤◌, Bool, true, false, [], ◌∷◌, ◌++◌, cond, length, map, nat_lt, refl, ap, sym, ◌∙◌, arith, inl, inr}
use Rattle.std.specs.List.{list_any}
use Rattle.std.proofs.lemmas.Bool.{cases_eq, eq-eqb, le-ltb, lt-ltb, ne_eqb}
use Rattle.std.proofs.lemmas.List.{append-nil}
use Rattle.qm_docset.specs.ListFacts.{list_any-outside}
use Rattle.qm_docset.specs.Members.{members_between}
use Rattle.qm_docset.proofs.MembersLemmas.{members_between-first, members_between-none, members_between-same, members_between-shift, members_between-split}
use Rattle.qm_postings.specs.Segment.{Segment, deleted_documents, is_deleted, with_deleted, without}
use Rattle.qm_postings.proofs.DeletedDocuments.{among_members}
use Rattle.qm_merge.specs.Merging.{joined, was_deleted}

-- ---- members one by one

pub members-more : (has : ℕ → Bool) (n : ℕ) → members_between has 0 (n + 1) ≡ members_between has 0 n ++ cond (has n) (n ∷ []) []
members-more has n =
    members_between-split has 0 n (n + 1) (omega arith) (omega arith)
    ∙ ap (λ l. members_between has 0 n ++ l) (last (has n) refl)
  where
    none : members_between has (n + 1) (n + 1) ≡ []
    none = members_between-none has (n + 1) (n + 1) (λ x above below. absurd (omega arith))

    last : (b : Bool) → has n ≡ b → members_between has n (n + 1) ≡ cond b (n ∷ []) []
    last true has_it = members_between-first has n (n + 1) (omega arith) has_it ∙ ap (λ l. n ∷ l) none
    last false lacks = members_between-none has n (n + 1) (λ x above below. let same : x ≡ n = omega arith in ap has same ∙ lacks)

-- ---- the deleted ones of both

pub deleted-of_both : (s t : Segment) → s.deleted ≡ deleted_documents s → t.deleted ≡ deleted_documents t →
    members_between (was_deleted s t) 0 (length s.documents + length t.documents) ≡ (joined s t).deleted
deleted-of_both s t own_s own_t =
    let n = length s.documents in
    let m = length t.documents in
    let start : n + 0 ≡ n = omega arith in
    members_between-split (was_deleted s t) 0 n (n + m) (omega arith) (omega arith)
    ∙ (λ i. members_between-same (was_deleted s t) (is_deleted s) 0 n
    (λ x above below. ap (λ b. cond b (is_deleted s x) (is_deleted t (x - n))) (lt-ltb x n below)) i
    ++ (ap (λ k. members_between (was_deleted s t) k (n + m)) (sym start)
    ∙ members_between-shift (was_deleted s t) n 0 m
    ∙ ap (map (λ d. n + d)) (members_between-same (λ d. was_deleted s t (n + d)) (is_deleted t) 0 m (λ x above below. behind n x))) i)
    ∙ (λ i. sym own_s i ++ map (λ d. n + d) (sym own_t i))
  where
    behind : (n x : ℕ) → cond (nat_lt (n + x) n) (is_deleted s (n + x)) (is_deleted t (n + x - n)) ≡ is_deleted t x
    behind n x =
        let back : n + x - n ≡ x = omega arith in
        ap (λ b. cond b (is_deleted s (n + x)) (is_deleted t (n + x - n))) (le-ltb (n + x) n (omega arith)) ∙ ap (is_deleted t) back

-- ---- one document more is deleted

absent : (has : ℕ → Bool) (d x : ℕ) → d + 1 ≤ x → list_any (λ y. y == x) (members_between has 0 d) ≡ false
unfolding members_between
absent has d x above = list_any-outside has 0 (d - 0) x (λ y _ under. ne_eqb y x (λ e. absurd (omega arith)))

pub deleted-too : (has : ℕ → Bool) (n d : ℕ) → d < n → has d ≡ true →
    members_between (λ x. x == d || list_any (λ y. y == x) (members_between has 0 d)) 0 n ≡ members_between has 0 (d + 1)
deleted-too has n d below passes =
    let too : ℕ → Bool = λ x. x == d || list_any (λ y. y == x) (members_between has 0 d) in
    members_between-split too 0 (d + 1) n (omega arith) (omega arith)
    ∙ (λ i. members_between-same too has 0 (d + 1) (λ x above under. own x under) i
    ++ members_between-none too (d + 1) n (λ x above under. other x above) i)
    ∙ append-nil (members_between has 0 (d + 1))
  where
    own : (x : ℕ) → x < d + 1 → (x == d || list_any (λ y. y == x) (members_between has 0 d)) ≡ has x
    own x under = elim (cases_eq x d) [
      | inl same ↦ ap (λ b. b || list_any (λ y. y == x) (members_between has 0 d)) (eq-eqb x d same) ∙ sym (ap has same ∙ passes)
      | inr not_same ↦ ap (λ b. b || list_any (λ y. y == x) (members_between has 0 d)) (ne_eqb x d not_same) ∙ among_members has d x (omega arith)
    ]

    other : (x : ℕ) → d + 1 ≤ x → (x == d || list_any (λ y. y == x) (members_between has 0 d)) ≡ false
    other x above = ap (λ b. b || list_any (λ y. y == x) (members_between has 0 d)) (ne_eqb x d (λ e. absurd (omega arith))) ∙ absent has d x above

-- a segment in which those below a number are deleted, that pass a test, and one more
pub delete-next : (has : ℕ → Bool) (s base : Segment) (d : ℕ) → s ≡ without (members_between has 0 d) base → d < length base.documents → has d ≡ true →
    with_deleted s d ≡ without (members_between has 0 (d + 1)) base
delete-next has s base d is below passes =
    ap (λ s. with_deleted s d) is ∙ ap (λ ds. without ds base) (deleted-too has (length base.documents) d below passes)

pub delete-none : (has : ℕ → Bool) (s base : Segment) (d : ℕ) → s ≡ without (members_between has 0 d) base → has d ≡ false →
    s ≡ without (members_between has 0 (d + 1)) base
delete-none has s base d is fails =
    is ∙ ap (λ ds. without ds base) (sym (members-more has d ∙ ap (λ b. members_between has 0 d ++ cond b (d ∷ []) []) fails ∙ append-nil (members_between has 0 d)))

pub delete-start : (has : ℕ → Bool) (s : Segment) → s.deleted ≡ [] → s ≡ without (members_between has 0 0) s
delete-start has s none = λ i. record {
  schema = s.schema;
  block_len = s.block_len;
  documents = s.documents;
  deleted = (none ∙ sym (members_between-none has 0 0 (λ x above below. absurd (omega arith)))) i;
}
