-- Numbers of documents that ascend, and segments in which these are deleted.
use Rattle.std.proofs.Common.{◌≡◌, ◌==◌, ◌||◌, ◌&&◌, ℕ, zero, suc, ◌+◌, ◌-◌, ◌<◌, ◌≤◌, Bool, true, false, not, cond, ltb, List, [], ◌∷◌, ◌++◌, filter, get_or, length, take, Option, None, Some, refl, ap, sym, subst, ◌∙◌, append-nil, arith, inl, inr}
use Rattle.std.specs.Prelude.{All, IfSome, nat_lt}
use Rattle.std.specs.List.{list_all, list_any, range_with_len}
use Rattle.std.proofs.lemmas.Bool.{cases_Bool, cases_eq, eq-eqb, lt-ltb, ltb-true, ne_eqb}
use Rattle.std.proofs.lemmas.List.{take_more}
use Rattle.std.proofs.lemmas.List.Elements.{All-cons, All-head, All-nil, All-tail, All-take, All-weaker}
use Rattle.std.proofs.lemmas.List.Folds.{list_any-append}
use Rattle.std.proofs.lemmas.List.Sums.{AllPass-from_list_all}
use Rattle.qm_docset.specs.Members.{members_between}
use Rattle.qm_docset.proofs.MembersLemmas.{members_between-first, members_between-found, members_between-none, members_between-same, members_between-split}
use Rattle.qm_postings.specs.Reading.{Reader, deleting}
use Rattle.qm_postings.specs.Segment.{AscendFrom, Segment, deleted_documents, is_alive, is_deleted}
use Rattle.qm_postings.proofs.DeletedDocuments.{not-not}
use Rattle.qm_store.specs.Deletions.{AreNumbers, counted_at, deleting_only, numbers_in, numbers_within}
use Rattle.qm_store.specs.Ends.{ended_by}
use Rattle.qm_store.specs.RowBytes.{followed_by, gaps_at, in_front_of_all}
use Rattle.qm_store.proofs.GapBytes.{gaps-ascend}

-- ---- the deleted ones of a segment ascend

ascend-lower : (low high : ℕ) (xs : List ℕ) → low ≤ high → AscendFrom high xs → AscendFrom low xs
ascend-lower low high [] le up = tt
ascend-lower low high (x ∷ xs) le up = (omega (arith, le, up.0), up.1, up.2)

filtered : (has : ℕ → Bool) (low n : ℕ) → low + n ≤ 4294967295 →
    AscendFrom low (filter has (range_with_len low n)) × All (λ d. d < low + n) (filter has (range_with_len low n))
filtered has low zero few = (tt, All-nil (λ d. d < low + 0))
filtered has low (suc n) few =
    let others = filtered has (low + 1) n (omega (arith, few)) in
    let end : low + 1 + n ≡ low + suc n = omega arith in
    let within = subst (λ m. All (λ d. d < m) (filter has (range_with_len (low + 1) n))) end others.1 in
    elim (cases_Bool (has low)) [
      | inl passes ↦ rw passes ((omega arith, omega (arith, few), others.0), All-cons (λ d. d < low + suc n) low _ (omega arith) within)
      | inr fails ↦ rw fails (ascend-lower low (low + 1) _ (omega arith) others.0, within)
    ]

pub deleted-numbers : (s : Segment) → s.deleted ≡ deleted_documents s → length s.documents ≤ 2147483647 → AreNumbers (length s.documents) s.deleted
unfolding members_between
deleted-numbers s own few =
    let n = length s.documents in
    let less : n - 0 ≡ n = omega arith in
    let found = filtered (λ d. list_any (λ x. x == d) s.deleted) 0 (n - 0) (omega (arith, few)) in
    let end : 0 + (n - 0) ≡ n = omega arith in
    record {
      ascending = subst (AscendFrom 0) (sym own) found.0;
      within = subst (All (λ d. d < n)) (sym own) (subst (λ m. All (λ d. d < m) (deleted_documents s)) end found.1);
    }

-- ---- one document after the other

members-more : (has : ℕ → Bool) (n : ℕ) → members_between has 0 (n + 1) ≡ members_between has 0 n ++ cond (has n) (n ∷ []) []
members-more has n =
    members_between-split has 0 n (n + 1) (omega arith) (omega arith)
    ∙ ap (λ l. members_between has 0 n ++ l) (last (has n) refl)
  where
    none : members_between has (n + 1) (n + 1) ≡ []
    none = members_between-none has (n + 1) (n + 1) (λ x above below. absurd (omega arith))

    last : (b : Bool) → has n ≡ b → members_between has n (n + 1) ≡ cond b (n ∷ []) []
    last true has_it = members_between-first has n (n + 1) (omega arith) has_it ∙ ap (λ l. n ∷ l) none
    last false lacks = members_between-none has n (n + 1) (λ x above below. let same : x ≡ n = omega arith in ap has same ∙ lacks)

-- a document that is there is deleted where it is not alive
dead : (s : Segment) (d : ℕ) (b : Bool) → d < length s.documents → b ≡ is_alive s d → is_deleted s d ≡ not b
dead s d b there is = sym (ap not is ∙ ap (λ a. not (a && not (is_deleted s d))) (lt-ltb d (length s.documents) there) ∙ not-not (is_deleted s d))

pub deleted-next : (s : Segment) (d : ℕ) (b : Bool) (xs : List ℕ) → d < length s.documents → b ≡ is_alive s d → b ≡ false →
    xs ≡ members_between (is_deleted s) 0 d → xs ++ d ∷ [] ≡ members_between (is_deleted s) 0 (d + 1)
deleted-next s d b xs there is fails so_far =
    ap (λ l. l ++ d ∷ []) so_far
    ∙ sym (members-more (is_deleted s) d ∙ ap (λ b. members_between (is_deleted s) 0 d ++ cond b (d ∷ []) []) (dead s d b there is ∙ ap not fails))

pub deleted-passed : (s : Segment) (d : ℕ) (b : Bool) (xs : List ℕ) → d < length s.documents → b ≡ is_alive s d → b ≡ true →
    xs ≡ members_between (is_deleted s) 0 d → xs ≡ members_between (is_deleted s) 0 (d + 1)
deleted-passed s d b xs there is holds so_far =
    so_far ∙ sym (append-nil (members_between (is_deleted s) 0 d))
    ∙ sym (members-more (is_deleted s) d ∙ ap (λ b. members_between (is_deleted s) 0 d ++ cond b (d ∷ []) []) (dead s d b there is ∙ ap not holds))

pub deleted-start : (s : Segment) → members_between (is_deleted s) 0 0 ≡ []
deleted-start s = members_between-none (is_deleted s) 0 0 (λ x above below. absurd (omega arith))

-- ---- numbers that ascend are those of documents that are among them

outside : (y low : ℕ) (xs : List ℕ) → y < low → AscendFrom low xs → list_any (λ z. z == y) xs ≡ false
outside y low [] below up = refl
outside y low (x ∷ xs) below up =
    ap (λ b. b || list_any (λ z. z == y) xs) (ne_eqb x y (λ e. absurd (omega (arith, e, below, up.0)))) ∙ outside y (x + 1) xs (omega (arith, below, up.0)) up.2

members-of : (low n : ℕ) (xs : List ℕ) → AscendFrom low xs → All (λ d. d < n) xs → members_between (λ z. list_any (λ y. y == z) xs) low n ≡ xs
members-of low n [] up within = members_between-none (λ z. false) low n (λ x above below. refl)
members-of low n (x ∷ xs) up within =
    let has : ℕ → Bool = λ z. x == z || list_any (λ y. y == z) xs in
    let others : ℕ → Bool = λ z. list_any (λ y. y == z) xs in
    let here = ap (λ b. b || others x) (eq-eqb x x refl) in
    let before = λ (y : ℕ) (above : low ≤ y) (below : y < x).
    ap (λ b. b || others y) (ne_eqb x y (λ e. absurd (omega (arith, e, below)))) ∙ outside y (x + 1) xs (omega (arith, below)) up.2 in
    members_between-found has low x n up.0 (All-head (λ d. d < n) x xs within) here before
    ∙ ap (λ l. x ∷ l) (members_between-same has others (x + 1) n (λ z above below. ap (λ b. b || others z) (ne_eqb x z (λ e. absurd (omega (arith, e, above)))))
    ∙ members-of (x + 1) n xs up.2 (All-tail (λ d. d < n) x xs within))

same-sides : (x d : ℕ) → (x == d) ≡ (d == x)
same-sides x d = elim (cases_eq x d) [
  | inl same ↦ eq-eqb x d same ∙ sym (eq-eqb d x (sym same))
  | inr other ↦ ne_eqb x d other ∙ sym (ne_eqb d x (λ e. other (sym e)))
]

either : (a b : Bool) → (a || b) ≡ (b || (a || false))
either true true = refl
either true false = refl
either false true = refl
either false false = refl

-- one more, behind all others
members-too : (n d : ℕ) (xs : List ℕ) → AreNumbers n (xs ++ d ∷ []) → members_between (λ x. x == d || list_any (λ y. y == x) xs) 0 n ≡ xs ++ d ∷ []
members-too n d xs are =
    members_between-same (λ x. x == d || list_any (λ y. y == x) xs) (λ x. list_any (λ y. y == x) (xs ++ d ∷ [])) 0 n (λ x above below.
    either (x == d) (list_any (λ y. y == x) xs)
    ∙ ap (λ b. list_any (λ y. y == x) xs || (b || false)) (same-sides x d)
    ∙ sym (list_any-append (λ y. y == x) xs (d ∷ [])))
    ∙ members-of 0 n (xs ++ d ∷ []) are.ascending are.within

-- ---- one by one

ascend-take : (low i : ℕ) (xs : List ℕ) → AscendFrom low xs → AscendFrom low (take i xs)
ascend-take low zero xs up = tt
ascend-take low (suc i) [] up = tt
ascend-take low (suc i) (x ∷ xs) up = (up.0, up.1, ascend-take (x + 1) i xs up.2)

pub deleting-next : (r base : Reader) (xs : List ℕ) (i d : ℕ) → i < length xs → d ≡ get_or xs i 0 → AreNumbers (length base.segment.documents) xs →
    r ≡ deleting_only (take i xs) base → deleting r d ≡ deleting_only (take (i + 1) xs) base
deleting-next r base xs i d within is are before =
    let n = length base.segment.documents in
    let more = take_more xs i 0 within ∙ ap (λ x. take i xs ++ x ∷ []) (sym is) in
    let first : AreNumbers n (take (i + 1) xs) =
    record { ascending = ascend-take 0 (i + 1) xs are.ascending; within = All-take (λ d. d < n) (i + 1) xs are.within } in
    ap (λ r. deleting r d) before
    ∙ ap (λ ds. deleting_only ds base) (members-too n d (take i xs) (subst (AreNumbers n) more first) ∙ sym more)

-- what is deleted, and nothing else, has changed
pub deleting-own : (r base : Reader) (xs : List ℕ) → r ≡ deleting_only xs base → r ≡ deleting_only r.segment.deleted base
deleting-own r base xs is = is ∙ ap (λ ds. deleting_only ds base) (sym (ap (λ r. r.segment.deleted) is))

pub deleting-none : (r : Reader) → r.segment.deleted ≡ [] → r ≡ deleting_only [] r
deleting-none r none = λ i. deleting_only (none i) r

-- ---- what a body tells

module _ (key count deleted : ℕ) (body rest old numbers last : List ℕ) (counted : Some (deleted, rest) ≡ counted_at key count body)
    (none : old ≡ []) (read : Some (numbers, last) ≡ in_front_of_all old (gaps_at deleted 0 rest)) (all : list_all (λ d. nat_lt d count) numbers ≡ true) where
  behind-nothing : (r : Option (List ℕ × List ℕ)) → in_front_of_all [] r ≡ r
  behind-nothing None = refl
  behind-nothing (Some p) = refl

  found : Some (numbers, last) ≡ gaps_at deleted 0 rest
  found = read ∙ ap (λ l. in_front_of_all l (gaps_at deleted 0 rest)) none ∙ behind-nothing (gaps_at deleted 0 rest)

  -- what was read are numbers of documents
  pub numbers-read : AreNumbers count numbers
  numbers-read = record {
    ascending = (subst (λ r. IfSome r (λ p. AscendFrom 0 p.0 × (length p.0 ≡ deleted))) (sym found) (gaps-ascend deleted 0 rest)).0;
    within = All-weaker (λ d. ltb d count ≡ true) (λ d. d < count) (λ d h. ltb-true d count h) numbers (AllPass-from_list_all (λ d. nat_lt d count) numbers all);
  }

  -- and they are those that the body tells
  pub body-read : length last ≡ 0 → Some numbers ≡ numbers_in key count body
  body-read ends =
      sym (go last ends)
      ∙ ap (λ b. cond (not b) None (ended_by numbers last)) (sym all)
      ∙ ap (λ (r : Option (List ℕ × List ℕ)). followed_by r (numbers_within count)) found
      ∙ ap (λ (r : Option (ℕ × List ℕ)). followed_by r (λ deleted rest. followed_by (gaps_at deleted 0 rest) (numbers_within count))) counted
    where
      go : (last : List ℕ) → length last ≡ 0 → ended_by numbers last ≡ Some numbers
      go [] e = refl
      go (b ∷ bs) e = absurd (omega (arith, e))
