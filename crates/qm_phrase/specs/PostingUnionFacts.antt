-- Facts on several postings as one: their positions ascend and keep within the room of all of them
-- together, and what they list ascends.
use Rattle.std.specs.Prelude.{◌≡◌, ℕ, ◌+◌, ◌≤◌, ◌==◌, ◌||◌, Bool, false, List, [], ◌∷◌, ◌++◌, All, length, filter, map}
use Rattle.std.specs.List.{range_with_len, sum_by}
use Rattle.std.proofs.Common.{zero, suc, arith, refl, ap, inl, inr}
use Rattle.std.proofs.lemmas.Bool.{cases_Bool, cases_eq, eq-eqb, ne_eqb}
use Rattle.std.proofs.lemmas.List.Elements.{All-map}
use Rattle.std.proofs.lemmas.List.FromFn.{length-range_with_len}
use Rattle.std.proofs.lemmas.List.Sums.{count_by-le-length, length-filter, sum_by-append, sum_by-cons}
use Rattle.qm_docset.specs.Entry.{Entry, Limits, AreEntries}
use Rattle.qm_docset.specs.Exclusion.{some_has_document}
use Rattle.qm_docset.specs.Gather.{entries_of, AreMembers}
use Rattle.qm_docset.specs.GatherFacts.{AreMembers-map, entries_of-before, entries_of-here, entries_of-nil, entries_of-other}
use Rattle.qm_docset.specs.ListFacts.{filter-none, filter-range_none}
use Rattle.qm_docset.specs.Listed.{listed, IsNamed}
use Rattle.qm_docset.specs.ListedFacts.{AreEntries-listed}
use Rattle.qm_postings.specs.Positions.{ArePositions, is_in}
use Rattle.qm_postings.specs.Segment.{AscendFrom}
use Rattle.qm_phrase.specs.PostingUnions.{described, entries_at, has_position, positions_below, limits_of_postings, united_entry, united_entries, united_over}
use Rattle.qm_phrase.specs.PostingUnions.{united_positions, united_room}

-- ---- positions ascend

AscendFrom-low : (low least : ℕ) (ps : List ℕ) → least ≤ low → AscendFrom low ps → AscendFrom least ps
AscendFrom-low low least [] h a = tt
AscendFrom-low low least (p ∷ ps) h a = (omega arith, a.1, a.2)

AscendFrom-filter : (p : ℕ → Bool) (a n : ℕ) → a + n ≤ 4294967295 → AscendFrom a (filter p (range_with_len a n))
AscendFrom-filter p a zero h = tt
AscendFrom-filter p a (suc n) h =
    let rest = AscendFrom-filter p (a + 1) n (omega arith) in
    elim (cases_Bool (p a)) [
      | inl passes ↦ rw passes (omega arith, omega arith, rest)
      | inr fails ↦ rw fails (AscendFrom-low (a + 1) a _ (omega arith) rest)
    ]

AscendFrom-below : (p : ℕ → Bool) (n : ℕ) → n ≤ 4294967295 → AscendFrom 0 (filter p (positions_below n))
unfolding positions_below
AscendFrom-below p n h = AscendFrom-filter p 0 n (omega arith)

pub ArePositions-united_positions : (es : List Entry) → ArePositions (united_positions es)
unfolding united_positions
ArePositions-united_positions es = AscendFrom-below (λ p. has_position es p) 4294967295 (omega arith)

-- ---- and are no more than those of all entries together

length-filter_either : {X : Type 0} (p q : X → Bool) (xs : List X) → length (filter (λ x. p x || q x) xs) ≤ length (filter p xs) + length (filter q xs)
length-filter_either p q [] = omega arith
length-filter_either p q (x ∷ xs) =
    let rest = length-filter_either p q xs in
    elim (cases_Bool (p x)) [
      | inl passes ↦ elim (cases_Bool (q x)) [ inl both ↦ rw (passes, both) (omega arith) | inr first ↦ rw (passes, first) (omega arith) ]
      | inr fails ↦ elim (cases_Bool (q x)) [ inl second ↦ rw (fails, second) (omega arith) | inr neither ↦ rw (fails, neither) rest ]
    ]

one_number : (y a n : ℕ) → length (filter (λ x. x == y) (range_with_len a n)) ≤ 1
one_number y a zero = omega arith
one_number y a (suc n) =
    elim (cases_eq a y) [
      | inl here ↦
          let none : filter (λ x. x == y) (range_with_len (a + 1) n) ≡ [] =
          filter-range_none (λ x. x == y) (a + 1) n (λ d above below. ne_eqb d y (omega arith)) in
          rw (eq-eqb a y here, none) (omega arith)
      | inr other ↦ rw (ne_eqb a y other) (one_number y (a + 1) n)
    ]

few_numbers : (ps : List ℕ) (a n : ℕ) → length (filter (λ x. is_in x ps) (range_with_len a n)) ≤ length ps
few_numbers [] a n = let none = ap length (filter-none (λ x. false) (range_with_len a n) (λ k d below. refl)) in omega arith
few_numbers (p ∷ ps) a n = omega (arith, length-filter_either (λ x. x == p) (λ x. is_in x ps) (range_with_len a n), one_number p a n, few_numbers ps a n)

few_positions : (es : List Entry) (a n : ℕ) → length (filter (λ p. has_position es p) (range_with_len a n)) ≤ sum_by (λ e. length e.positions) es
few_positions [] a n = let none = ap length (filter-none (λ p. has_position [] p) (range_with_len a n) (λ k d below. refl)) in omega arith
few_positions (e ∷ es) a n =
    omega (
      arith,
      length-filter_either (λ p. is_in p e.positions) (λ p. has_position es p) (range_with_len a n),
      few_numbers e.positions a n,
      few_positions es a n,
      sum_by-cons (λ (x : Entry). length x.positions) e es,
    )

few_positions_below : (es : List Entry) (n : ℕ) → (length (filter (λ p. has_position es p) (positions_below n)) ≤ sum_by (λ e. length e.positions) es) ×
    (length (filter (λ p. has_position es p) (positions_below n)) ≤ n)
unfolding positions_below
few_positions_below es n =
    let most = count_by-le-length (λ p. has_position es p) (range_with_len 0 n) in
    (few_positions es 0 n, omega (arith, length-filter (λ p. has_position es p) (range_with_len 0 n), most, length-range_with_len 0 n))

length-united_positions : (es : List Entry) → (length (united_positions es) ≤ sum_by (λ e. length e.positions) es) × (length (united_positions es) ≤ 4294967295)
unfolding united_positions
length-united_positions es = few_positions_below es 4294967295

-- ---- what several lists say of a document

pub entries_at-nil : (d : ℕ) → entries_at d [] ≡ []
unfolding entries_at
entries_at-nil d = refl

pub entries_at-cons : (d : ℕ) (es : List Entry) (ess : List (List Entry)) → entries_at d (es ∷ ess) ≡ entries_of d es ++ entries_at d ess
unfolding entries_at
entries_at-cons d es ess = refl

room-entries_of : (d low : ℕ) (limits : Limits) (es : List Entry) → AreEntries low limits es → sum_by (λ e. length e.positions) (entries_of d es) ≤ limits.room
room-entries_of d low limits [] a = rw (entries_of-nil d) (omega arith)
room-entries_of d low limits (e ∷ es) a =
    elim (cases_eq e.document d) [
      | inl here ↦
          let most = a.here.positions in
          rw (entries_of-here d e es here, entries_of-before d (e.document + 1) limits es (omega arith) a.others)
          (omega (arith, most, sum_by-cons (λ (x : Entry). length x.positions) e []))
      | inr other ↦ rw (entries_of-other d e es other) (room-entries_of d (e.document + 1) limits es a.others)
    ]

room-entries_at : (d : ℕ) (bounds : List Limits) (ess : List (List Entry)) → AreMembers bounds ess →
    sum_by (λ e. length e.positions) (entries_at d ess) ≤ sum_by (λ limits. limits.room) bounds
room-entries_at d [] [] members = rw (entries_at-nil d) (omega arith)
room-entries_at d [] (es ∷ ess) members = absurd members
room-entries_at d (limits ∷ bounds) [] members = absurd members
room-entries_at d (limits ∷ bounds) (es ∷ ess) members =
    let here = room-entries_of d 0 limits es members.0 in
    let rest = room-entries_at d bounds ess members.1 in
    rw (
      entries_at-cons d es ess,
      sum_by-append (λ (e : Entry). length e.positions) (entries_of d es) (entries_at d ess),
      sum_by-cons (λ (l : Limits). l.room) limits bounds,
    ) (omega arith)

-- no document has more positions than there is room for
pub length-united : (d : ℕ) (bounds : List Limits) (ess : List (List Entry)) →
    AreMembers bounds ess → length (united_positions (entries_at d ess)) ≤ united_room bounds
length-united d bounds ess members =
    let few = length-united_positions (entries_at d ess) in
    let room = room-entries_at d bounds ess members in
    omega (arith, few.0, few.1, room)

-- ---- what they list

-- a union's list is that of a cursor
pub AreEntries-united : {X : Type 0} (bound : X → Limits) (list : X → List Entry) (xs : List X) →
    All (λ x. AreEntries 0 (bound x) (list x)) xs → AreEntries 0 (limits_of_postings (map bound xs)) (united_entries (map list xs))
AreEntries-united bound list xs all =
    let ess = map list xs in
    AreEntries-listed (limits_of_postings (map bound xs)) (λ d. some_has_document ess d) (λ d. united_entry d (entries_at d ess))
    (λ d. refl) (λ d here. (omega arith, length-united d (map bound xs) ess (AreMembers-map bound list xs all)))

-- so is a set's, with what is made of its documents
pub AreEntries-described : (made : ℕ → Entry) (named : IsNamed made) (low : ℕ) (limits new : Limits) (set : List Entry) →
    ((d : ℕ) → ((made d).score ≤ new.top) × (length (made d).positions ≤ new.room)) → AreEntries low limits set → AreEntries low new (described made set)
AreEntries-described made named low limits new [] within a = tt
AreEntries-described made named low limits new (e ∷ es) within a =
    let name = named e.document in
    let rest = AreEntries-described made named (e.document + 1) limits new es within a.others in
    record {
      here = record {
        from_low = omega (arith, name, a.here.from_low);
        below_end = omega (arith, name, a.here.below_end);
        score = (within e.document).0;
        positions = (within e.document).1;
      };
      others = rw name rest;
    }

pub AreEntries-over : {X : Type 0} (bound : X → Limits) (list : X → List Entry) (xs : List X) (limits : Limits) (set : List Entry) →
    All (λ x. AreEntries 0 (bound x) (list x)) xs → AreEntries 0 limits set → AreEntries 0 (limits_of_postings (map bound xs)) (united_over set (map list xs))
AreEntries-over bound list xs limits set all a =
    let ess = map list xs in
    AreEntries-described (λ d. united_entry d (entries_at d ess)) (λ d. refl) 0 limits (limits_of_postings (map bound xs)) set
    (λ d. (omega arith, length-united d (map bound xs) ess (AreMembers-map bound list xs all))) a

-- and positions ascend
pub ArePositions-united : (ess : List (List Entry)) → All (λ e. ArePositions e.positions) (united_entries ess)
unfolding listed
ArePositions-united ess = All-map (λ e. ArePositions e.positions) (λ d. united_entry d (entries_at d ess)) _ (λ k d below. ArePositions-united_positions _)

pub ArePositions-over : (ess : List (List Entry)) (set : List Entry) → All (λ e. ArePositions e.positions) (united_over set ess)
ArePositions-over ess set =
    All-map (λ e. ArePositions e.positions) (λ e. united_entry e.document (entries_at e.document ess)) set (λ k d below. ArePositions-united_positions _)
