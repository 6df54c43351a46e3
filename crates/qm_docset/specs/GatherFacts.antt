-- Facts on what is gathered from several lists: it ascends, it says of each document what the lists
-- say there, and two ascending lists that say the same of each document are equal.
use Rattle.std.specs.Prelude.{◌≡◌, ℕ, ◌+◌, ◌<◌, ◌≤◌, ◌≢◌, List, [], ◌∷◌, ◌++◌, length, map, sum, sum_by, ◌⊎◌}
use Rattle.std.specs.List.{range_with_len, All}
use Rattle.std.proofs.Common.{zero, suc, arith, sym, ap, refl, ◌∙◌, inl, inr, length-append}
use Rattle.std.proofs.lemmas.Bool.{le-leb, lt-leb, eq-eqb, ne_eqb, cases_lt, cases_eq, cases_order}
use Rattle.std.proofs.lemmas.List.Elements.{All-head, All-tail}
use Rattle.std.proofs.lemmas.List.Sums.{sum_by-cons, sum_by-append}
use Rattle.qm_docset.specs.Entry.{Entry, Limits, AreEntries, head_document, head_score}
use Rattle.qm_docset.specs.EntryFacts.{AreEntries-below, AreEntries-head, AreEntries-low}
use Rattle.qm_docset.specs.Gather.{scored, entries_of, scores_at, documents_below, gathered, gather, IsWithin, AreMembers}
use Rattle.qm_docset.specs.declared.numbers.TheConstants.{TERMINATED}

-- What one list says of a document.

pub entries_of-nil : (d : ℕ) → entries_of d [] ≡ []
unfolding entries_of
entries_of-nil d = refl

pub entries_of-here : (d : ℕ) (e : Entry) (es : List Entry) → e.document ≡ d → entries_of d (e ∷ es) ≡ e ∷ entries_of d es
unfolding entries_of
entries_of-here d e es h = rw (eq-eqb e.document d h)

pub entries_of-other : (d : ℕ) (e : Entry) (es : List Entry) → e.document ≢ d → entries_of d (e ∷ es) ≡ entries_of d es
unfolding entries_of
entries_of-other d e es h = rw (ne_eqb e.document d h)

-- a list says nothing of the documents before it
pub entries_of-before : (d low : ℕ) (limits : Limits) (es : List Entry) → d < low → AreEntries low limits es → entries_of d es ≡ []
entries_of-before d low limits [] h a = entries_of-nil d
entries_of-before d low limits (e ∷ es) h a = entries_of-other d e es (omega arith) ∙ entries_of-before d (e.document + 1) limits es (omega arith) a.others

-- and one entry of the document that it begins with
pub entries_of-first : (low : ℕ) (limits : Limits) (e : Entry) (es : List Entry) → AreEntries low limits (e ∷ es) → entries_of e.document (e ∷ es) ≡ e ∷ []
entries_of-first low limits e es a = entries_of-here e.document e es refl
    ∙ ap (λ r. e ∷ r) (entries_of-before e.document (e.document + 1) limits es (omega arith) a.others)

-- none of the documents before its first
pub entries_of-ahead : (d low : ℕ) (limits : Limits) (es : List Entry) → AreEntries low limits es → d < head_document es → entries_of d es ≡ []
entries_of-ahead d low limits es a h = entries_of-before d (head_document es) limits es h (AreEntries-head low limits es a)

-- and one score of its first
pub score_of-here : (d low : ℕ) (limits : Limits) (es : List Entry) → AreEntries low limits es →
    head_document es ≡ d → d < TERMINATED → map (λ e. e.score) (entries_of d es) ≡ head_score es ∷ []
score_of-here d low limits [] a here h = absurd (omega arith)
score_of-here d low limits (e ∷ es) a here h = ap (λ n. map (λ x. x.score) (entries_of n (e ∷ es))) (sym here)
    ∙ ap (map (λ x. x.score)) (entries_of-first low limits e es a)

-- Two ascending lists that say the same of each document are equal.
pub same_list : (low : ℕ) (limits others : Limits) (xs ys : List Entry) → AreEntries low limits xs →
    AreEntries low others ys → ((d : ℕ) → d < TERMINATED → entries_of d xs ≡ entries_of d ys) → xs ≡ ys
same_list low limits others [] [] a b same = refl
same_list low limits others [] (y ∷ ys) a b same =
    let none : [] ≡ y ∷ [] = sym (entries_of-nil y.document) ∙ same y.document b.here.below_end ∙ entries_of-first low others y ys b in
    cc
same_list low limits others (x ∷ xs) [] a b same =
    let none : x ∷ [] ≡ [] = sym (entries_of-first low limits x xs a) ∙ same x.document a.here.below_end ∙ entries_of-nil x.document in
    cc
same_list low limits others (x ∷ xs) (y ∷ ys) a b same =
    elim (cases_order x.document y.document) [
      | inl level ↦
          let first : x ∷ [] ≡ y ∷ [] = sym (entries_of-first low limits x xs a) ∙ same x.document a.here.below_end
          ∙ ap (λ d. entries_of d (y ∷ ys)) level ∙ entries_of-first low others y ys b in
          let rest : xs ≡ ys = same_list (x.document + 1) limits others xs ys a.others (rw level b.others) (λ d below.
          elim (cases_lt d (x.document + 1)) [
            | inl before ↦ entries_of-before d (x.document + 1) limits xs before a.others
                ∙ sym (entries_of-before d (y.document + 1) others ys (omega arith) b.others)
            | inr past ↦ sym (entries_of-other d x xs (omega arith)) ∙ same d below ∙ entries_of-other d y ys (omega arith)
          ]) in
          cc
      | inr apart ↦ elim apart [
        | inl less ↦
            let none : x ∷ [] ≡ [] = sym (entries_of-first low limits x xs a) ∙ same x.document a.here.below_end
            ∙ entries_of-before x.document y.document others (y ∷ ys) less (AreEntries-low low y.document others y ys (omega arith) b) in
            cc
        | inr more ↦
            let none : [] ≡ y ∷ [] = sym (entries_of-before y.document x.document limits (x ∷ xs) more
            (AreEntries-low low x.document limits x xs (omega arith) a)) ∙ same y.document b.here.below_end ∙ entries_of-first low others y ys b in
            cc
      ]
    ]

-- The scores of a document in several lists.

pub scores_at-nil : (d : ℕ) → scores_at d [] ≡ []
unfolding scores_at
scores_at-nil d = refl

pub scores_at-cons : (d : ℕ) (es : List Entry) (ess : List (List Entry)) → scores_at d (es ∷ ess) ≡ map (λ e. e.score) (entries_of d es) ++ scores_at d ess
unfolding scores_at
scores_at-cons d es ess = refl

-- What is gathered, document by document.

pub gathered-nil : (least : ℕ) (combined : List ℕ → ℕ) (ess : List (List Entry)) → gathered least combined [] ess ≡ []
unfolding gathered
gathered-nil least combined ess = refl

pub gathered-keep : (least : ℕ) (combined : List ℕ → ℕ) (d : ℕ) (ds : List ℕ) (ess : List (List Entry)) → least ≤ length (scores_at d ess) →
    gathered least combined (d ∷ ds) ess ≡ scored d (combined (scores_at d ess)) ∷ gathered least combined ds ess
unfolding gathered
gathered-keep least combined d ds ess h = rw (le-leb least (length (scores_at d ess)) h)

pub gathered-skip : (least : ℕ) (combined : List ℕ → ℕ) (d : ℕ) (ds : List ℕ) (ess : List (List Entry)) →
    length (scores_at d ess) < least → gathered least combined (d ∷ ds) ess ≡ gathered least combined ds ess
unfolding gathered
gathered-skip least combined d ds ess h = rw (lt-leb least (length (scores_at d ess)) h)

AreEntries-gathered : (least : ℕ) (combined : List ℕ → ℕ) (top a n : ℕ) (ess : List (List Entry)) → a + n ≤ TERMINATED →
    IsWithin least combined top ess → AreEntries a (record { top = top; room = 0 }) (gathered least combined (range_with_len a n) ess)
AreEntries-gathered least combined top a zero ess h within = rw (gathered-nil least combined ess) tt
AreEntries-gathered least combined top a (suc n) ess h within =
    let rest = AreEntries-gathered least combined top (a + 1) n ess (omega arith) within in
    elim (cases_lt (length (scores_at a ess)) least) [
      | inl few ↦ rw (gathered-skip least combined a (range_with_len (a + 1) n) ess few)
          (AreEntries-below (a + 1) a (record { top = top; room = 0 }) _ (omega arith) rest)
      | inr enough ↦ rw (gathered-keep least combined a (range_with_len (a + 1) n) ess enough)
          (record { here = record { from_low = omega arith; below_end = omega arith; score = within a enough; positions = omega arith }; others = rest })
    ]

AreEntries-gathered_below : (least : ℕ) (combined : List ℕ → ℕ) (top n : ℕ) (ess : List (List Entry)) → n ≤ TERMINATED →
    IsWithin least combined top ess → AreEntries 0 (record { top = top; room = 0 }) (gathered least combined (documents_below n) ess)
unfolding documents_below
AreEntries-gathered_below least combined top n ess h within = AreEntries-gathered least combined top 0 n ess (omega arith) within

-- what is gathered are a cursor's entries, within the bound on its scores and without positions
pub AreEntries-gather : (least : ℕ) (combined : List ℕ → ℕ) (top : ℕ) (ess : List (List Entry)) →
    IsWithin least combined top ess → AreEntries 0 (record { top = top; room = 0 }) (gather least combined ess)
unfolding gather
AreEntries-gather least combined top ess within = AreEntries-gathered_below least combined top TERMINATED ess (omega arith) within

-- outside of the documents asked for nothing is gathered
entries_of-gathered_out : (least : ℕ) (combined : List ℕ → ℕ) (d a n : ℕ) (ess : List (List Entry)) →
    (d < a) ⊎ (a + n ≤ d) → entries_of d (gathered least combined (range_with_len a n) ess) ≡ []
entries_of-gathered_out least combined d a zero ess h = ap (entries_of d) (gathered-nil least combined ess) ∙ entries_of-nil d
entries_of-gathered_out least combined d a (suc n) ess h =
    let es = gathered least combined (range_with_len (a + 1) n) ess in
    let other : a ≢ d = elim h [ inl below ↦ omega arith | inr past ↦ omega arith ] in
    let out : (d < a + 1) ⊎ (a + 1 + n ≤ d) = elim h [ inl below ↦ inl (omega arith) | inr past ↦ inr (omega arith) ] in
    let rest = entries_of-gathered_out least combined d (a + 1) n ess out in
    elim (cases_lt (length (scores_at a ess)) least) [
      | inl few ↦ ap (entries_of d) (gathered-skip least combined a (range_with_len (a + 1) n) ess few) ∙ rest
      | inr many ↦ ap (entries_of d) (gathered-keep least combined a (range_with_len (a + 1) n) ess many)
          ∙ entries_of-other d (scored a (combined (scores_at a ess))) es other ∙ rest
    ]

-- of a document that too few of the lists have nothing is gathered
entries_of-gathered_few : (least : ℕ) (combined : List ℕ → ℕ) (d a n : ℕ) (ess : List (List Entry)) →
    length (scores_at d ess) < least → entries_of d (gathered least combined (range_with_len a n) ess) ≡ []
entries_of-gathered_few least combined d a zero ess h = ap (entries_of d) (gathered-nil least combined ess) ∙ entries_of-nil d
entries_of-gathered_few least combined d a (suc n) ess h =
    let es = gathered least combined (range_with_len (a + 1) n) ess in
    let rest = entries_of-gathered_few least combined d (a + 1) n ess h in
    elim (cases_lt (length (scores_at a ess)) least) [
      | inl few ↦ ap (entries_of d) (gathered-skip least combined a (range_with_len (a + 1) n) ess few) ∙ rest
      | inr many ↦
          let other : a ≢ d = λ same. absurd (omega (arith, ap (λ x. length (scores_at x ess)) same)) in
          ap (entries_of d) (gathered-keep least combined a (range_with_len (a + 1) n) ess many)
          ∙ entries_of-other d (scored a (combined (scores_at a ess))) es other ∙ rest
    ]

entries_of-gathered : (least : ℕ) (combined : List ℕ → ℕ) (d a n : ℕ) (ess : List (List Entry)) → a ≤ d → d < a + n →
    least ≤ length (scores_at d ess) → entries_of d (gathered least combined (range_with_len a n) ess) ≡ scored d (combined (scores_at d ess)) ∷ []
entries_of-gathered least combined d a zero ess h k enough = absurd (omega arith)
entries_of-gathered least combined d a (suc n) ess h k enough =
    let es = gathered least combined (range_with_len (a + 1) n) ess in
    elim (cases_eq a d) [
      | inl here ↦
          let first : scored a (combined (scores_at a ess)) ≡ scored d (combined (scores_at d ess)) = ap (λ x. scored x (combined (scores_at x ess))) here in
          let more : least ≤ length (scores_at a ess) = rw here enough in
          ap (entries_of d) (gathered-keep least combined a (range_with_len (a + 1) n) ess more)
          ∙ entries_of-here d (scored a (combined (scores_at a ess))) es here
          ∙ ap (λ r. scored a (combined (scores_at a ess)) ∷ r) (entries_of-gathered_out least combined d (a + 1) n ess (inl (omega arith)))
          ∙ ap (λ e. e ∷ []) first
      | inr other ↦
          let rest = entries_of-gathered least combined d (a + 1) n ess (omega arith) (omega arith) enough in
          elim (cases_lt (length (scores_at a ess)) least) [
            | inl few ↦ ap (entries_of d) (gathered-skip least combined a (range_with_len (a + 1) n) ess few) ∙ rest
            | inr many ↦ ap (entries_of d) (gathered-keep least combined a (range_with_len (a + 1) n) ess many)
                ∙ entries_of-other d (scored a (combined (scores_at a ess))) es other ∙ rest
          ]
    ]

entries_of-gathered_below : (least : ℕ) (combined : List ℕ → ℕ) (d n : ℕ) (ess : List (List Entry)) → d < n → least ≤ length (scores_at d ess) →
    entries_of d (gathered least combined (documents_below n) ess) ≡ scored d (combined (scores_at d ess)) ∷ []
unfolding documents_below
entries_of-gathered_below least combined d n ess h enough = entries_of-gathered least combined d 0 n ess (omega arith) (omega arith) enough

entries_of-gathered_below_few : (least : ℕ) (combined : List ℕ → ℕ) (d n : ℕ) (ess : List (List Entry)) →
    length (scores_at d ess) < least → entries_of d (gathered least combined (documents_below n) ess) ≡ []
unfolding documents_below
entries_of-gathered_below_few least combined d n ess few = entries_of-gathered_few least combined d 0 n ess few

-- what is gathered has a document that enough of the lists have, with what is made of its scores there
pub entries_of-gather : (least : ℕ) (combined : List ℕ → ℕ) (d : ℕ) (ess : List (List Entry)) → d < TERMINATED →
    least ≤ length (scores_at d ess) → entries_of d (gather least combined ess) ≡ scored d (combined (scores_at d ess)) ∷ []
unfolding gather
entries_of-gather least combined d ess h enough = entries_of-gathered_below least combined d TERMINATED ess h enough

-- and no other
pub entries_of-gather_few : (least : ℕ) (combined : List ℕ → ℕ) (d : ℕ) (ess : List (List Entry)) →
    length (scores_at d ess) < least → entries_of d (gather least combined ess) ≡ []
unfolding gather
entries_of-gather_few least combined d ess few = entries_of-gathered_below_few least combined d TERMINATED ess few

-- The scores of a document in the lists of cursors.

-- a cursor's list has at most one entry of a document, and its score is at most the cursor's bound
pub entries_of-most : (d low : ℕ) (limits : Limits) (es : List Entry) → AreEntries low limits es →
    (length (map (λ e. e.score) (entries_of d es)) ≤ 1) × (sum (map (λ e. e.score) (entries_of d es)) ≤ limits.top)
entries_of-most d low limits [] a = rw (entries_of-nil d) (omega arith, omega arith)
entries_of-most d low limits (e ∷ es) a =
    elim (cases_eq e.document d) [
      | inl here ↦ rw (entries_of-here d e es here, entries_of-before d (e.document + 1) limits es (omega arith) a.others)
          (omega arith, omega (arith, sum_by-cons (λ x. x) e.score []))
      | inr other ↦ rw (entries_of-other d e es other) (entries_of-most d (e.document + 1) limits es a.others)
    ]

pub length-scores_at : (d : ℕ) (bounds : List Limits) (ess : List (List Entry)) → AreMembers bounds ess → length (scores_at d ess) ≤ length ess
length-scores_at d [] [] members = rw (scores_at-nil d) (omega arith)
length-scores_at d [] (es ∷ ess) members = absurd members
length-scores_at d (limits ∷ bounds) [] members = absurd members
length-scores_at d (limits ∷ bounds) (es ∷ ess) members =
    let one = entries_of-most d 0 limits es members.0 in
    let rest = length-scores_at d bounds ess members.1 in
    rw (scores_at-cons d es ess) (omega (arith, length-append (map (λ e. e.score) (entries_of d es)) (scores_at d ess)))

pub sum-scores_at : (d : ℕ) (bounds : List Limits) (ess : List (List Entry)) →
    AreMembers bounds ess → sum (scores_at d ess) ≤ sum_by (λ limits. limits.top) bounds
sum-scores_at d [] [] members = rw (scores_at-nil d) (omega arith)
sum-scores_at d [] (es ∷ ess) members = absurd members
sum-scores_at d (limits ∷ bounds) [] members = absurd members
sum-scores_at d (limits ∷ bounds) (es ∷ ess) members =
    let one = entries_of-most d 0 limits es members.0 in
    let rest = sum-scores_at d bounds ess members.1 in
    rw (scores_at-cons d es ess, sum_by-append (λ x. x) (map (λ e. e.score) (entries_of d es)) (scores_at d ess), sum_by-cons (λ l. l.top) limits bounds)
    (omega arith)

-- Where the scores of a document are combined into at most `top` whenever they add up to at most the
-- sum of the members' bounds, `top` bounds what is gathered.
pub IsWithin-tops : (least : ℕ) (combined : List ℕ → ℕ) (top : ℕ) (bounds : List Limits) (ess : List (List Entry)) → AreMembers bounds ess →
    ((scores : List ℕ) → sum scores ≤ sum_by (λ limits. limits.top) bounds → combined scores ≤ top) → IsWithin least combined top ess
IsWithin-tops least combined top bounds ess members bound d enough = bound (scores_at d ess) (sum-scores_at d bounds ess members)

-- members by their cursors
pub AreMembers-map : {X : Type 0} (bound : X → Limits) (list : X → List Entry) (xs : List X) →
    All (λ x. AreEntries 0 (bound x) (list x)) xs → AreMembers (map bound xs) (map list xs)
AreMembers-map bound list [] all = tt
AreMembers-map bound list (x ∷ xs) all =
    (All-head (λ y. AreEntries 0 (bound y) (list y)) x xs all, AreMembers-map bound list xs (All-tail (λ y. AreEntries 0 (bound y) (list y)) x xs all))
