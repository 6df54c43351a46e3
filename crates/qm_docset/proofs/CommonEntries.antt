-- What several cursors have in common: a cursor that leads may be cut alone, the others may drop what
-- lies behind the leader, and where all stand on one document it is the first that they share.
use Rattle.std.proofs.Common.{◌≡◌, ℕ, zero, suc, ◌+◌, ◌<◌, ◌≤◌, List, [], ◌∷◌, length, map, get_or, refl, ap, sym, ◌∙◌, arith, length-append}
use Rattle.std.specs.List.{All, Any}
use Rattle.std.specs.List.Sorted.{IsPermutation}
use Rattle.std.proofs.lemmas.List.{length-map}
use Rattle.std.proofs.lemmas.List.Elements.{All-head}
use Rattle.std.proofs.lemmas.List.Sorted.{length_permutation}
use Rattle.qm_docset.specs.Entry.{Entry, Limits, from, head_document, head_score}
use Rattle.qm_docset.specs.EntryFacts.{from-from, AreEntries-from_low}
use Rattle.qm_docset.specs.Gather.{scored, entries_of, scores_at, gather, common_entries, IsBare, AreMembers}
use Rattle.qm_docset.specs.GatherFacts.{entries_of-ahead, scores_at-cons, length-scores_at, entries_of-most}
use Rattle.qm_docset.specs.RowFacts.{scores_at-together}
use Rattle.qm_docset.specs.declared.numbers.TheConstants.{TERMINATED}
use Rattle.qm_docset.proofs.Gathering.{gather-bare, gather-pass, gather-first, gather-none, head_document-from, head_document-gather, gather-permutation}

-- a document that one of the cursors has passed is not in all of them
missing : (d i : ℕ) (bounds : List Limits) (ess : List (List Entry)) (es : List Entry) → AreMembers bounds ess →
    i < length ess → get_or ess i es ≡ es → d < head_document es → length (scores_at d ess) < length ess
missing d i bounds [] es members h is past = absurd (omega arith)
missing d i [] (xs ∷ ess) es members h is past = absurd members
missing d zero (limits ∷ bounds) (xs ∷ ess) es members h is past =
    let none : entries_of d xs ≡ [] = entries_of-ahead d 0 limits xs members.0 (rw is past) in
    let others = length-scores_at d bounds ess members.1 in
    rw (scores_at-cons d xs ess, none) (omega arith)
missing d (suc i) (limits ∷ bounds) (xs ∷ ess) es members h is past =
    let one = entries_of-most d 0 limits xs members.0 in
    let others = missing d i bounds ess es members.1 (omega arith) is past in
    rw (scores_at-cons d xs ess) (omega (arith, length-append (map (λ e. e.score) (entries_of d xs)) (scores_at d ess)))

pub IsBare-passed : (t : ℕ) (bounds : List Limits) (ess : List (List Entry)) →
    AreMembers bounds ess → Any (λ es. t ≤ head_document es) ess → IsBare (length ess) t ess
IsBare-passed t bounds ess members one d below =
    let past : t ≤ head_document one.1 = one.4 in
    missing d one.0 bounds ess one.1 members one.2 one.3 (omega arith)

-- the cursor that comes first has passed the documents before it
first_is_past : (t : ℕ) (es : List Entry) (ess : List (List Entry)) → t ≤ head_document es → Any (λ xs. t ≤ head_document xs) (es ∷ ess)
first_is_past t es ess h = (0, es, omega arith, refl, h)

-- Cutting the cursor that leads cuts what all have in common.
pub common_entries-led : (t : ℕ) (combined : List ℕ → ℕ) (limits : Limits) (bounds : List Limits) (es : List Entry) (ess : List (List Entry)) →
    t ≤ TERMINATED → AreMembers (limits ∷ bounds) (es ∷ ess) → common_entries combined (from t es ∷ ess) ≡ from t (common_entries combined (es ∷ ess))
common_entries-led t combined limits bounds es ess h members =
    let cut : AreMembers (limits ∷ bounds) (from t es ∷ ess) = (AreEntries-from_low t 0 limits es members.0, members.1) in
    let bare = IsBare-passed t (limits ∷ bounds) (from t es ∷ ess) cut (first_is_past t (from t es) ess (head_document-from t es h)) in
    gather-pass (suc (length ess)) t combined (es ∷ ess) (from t es ∷ ess) (omega arith) bare
    (ap (λ xs. xs ∷ map (from t) ess) (from-from t t es (omega arith)))

-- What the others drop behind the leader is nothing that all have.
pub common_entries-behind : (t : ℕ) (combined : List ℕ → ℕ) (bounds others : List Limits) (es : List Entry) (old new : List (List Entry)) →
    t ≤ head_document es → AreMembers bounds (es ∷ old) → AreMembers others (es ∷ new) →
    map (from t) new ≡ map (from t) old → common_entries combined (es ∷ new) ≡ common_entries combined (es ∷ old)
common_entries-behind t combined bounds others es old new h before after same =
    let long : length new ≡ length old = sym (length-map new (from t)) ∙ ap length same ∙ length-map old (from t) in
    let bare_new = IsBare-passed t others (es ∷ new) after (first_is_past t es new h) in
    let bare_old = IsBare-passed t bounds (es ∷ old) before (first_is_past t es old h) in
    let pass = gather-pass (suc (length new)) t combined (es ∷ old) (es ∷ new) (omega arith) bare_new (ap (λ r. from t es ∷ r) same) in
    pass ∙ ap (λ n. from t (gather (suc n) combined (es ∷ old))) long ∙ gather-bare (suc (length old)) t combined (es ∷ old) (omega arith) bare_old

-- Nothing that all have stands before the document of any of them.
pub common_entries-bare : (t : ℕ) (combined : List ℕ → ℕ) (bounds : List Limits) (es : List Entry) (ess : List (List Entry)) → AreMembers bounds (es ∷ ess) →
    Any (λ xs. t ≤ head_document xs) (es ∷ ess) → from t (common_entries combined (es ∷ ess)) ≡ common_entries combined (es ∷ ess)
common_entries-bare t combined bounds es ess members one =
    gather-bare (suc (length ess)) t combined (es ∷ ess) (omega arith) (IsBare-passed t bounds (es ∷ ess) members one)

pub head_document-common_entries : (t : ℕ) (combined : List ℕ → ℕ) (bounds : List Limits) (es : List Entry) (ess : List (List Entry)) → t ≤ TERMINATED →
    AreMembers bounds (es ∷ ess) → Any (λ xs. t ≤ head_document xs) (es ∷ ess) → t ≤ head_document (common_entries combined (es ∷ ess))
head_document-common_entries t combined bounds es ess h members one =
    head_document-gather (suc (length ess)) t combined (es ∷ ess) (omega arith) h (IsBare-passed t bounds (es ∷ ess) members one)

-- Where one of them is at its end they have nothing more in common.
pub common_entries-ended : (combined : List ℕ → ℕ) (bounds : List Limits) (es : List Entry) (ess : List (List Entry)) →
    AreMembers bounds (es ∷ ess) → Any (λ xs. TERMINATED ≤ head_document xs) (es ∷ ess) → common_entries combined (es ∷ ess) ≡ []
common_entries-ended combined bounds es ess members one =
    gather-none (suc (length ess)) combined (es ∷ ess) (IsBare-passed TERMINATED bounds (es ∷ ess) members one)

-- Where all stand on one document, it is the first that they have in common.
pub common_entries-first : (d : ℕ) (combined : List ℕ → ℕ) (bounds : List Limits) (es : List Entry) (ess : List (List Entry)) →
    d < TERMINATED → AreMembers bounds (es ∷ ess) → All (λ xs. head_document xs ≡ d) (es ∷ ess) →
    common_entries combined (es ∷ ess) ≡ scored d (combined (map head_score (es ∷ ess))) ∷ from (d + 1) (common_entries combined (es ∷ ess))
common_entries-first d combined bounds es ess h members all =
    let scores = scores_at-together d bounds (es ∷ ess) h members all in
    let enough : suc (length ess) ≤ length (scores_at d (es ∷ ess)) = omega (arith, ap length scores, length-map (es ∷ ess) head_score) in
    let here : head_document es ≡ d = All-head (λ xs. head_document xs ≡ d) es ess all in
    let bare = IsBare-passed d bounds (es ∷ ess) members (first_is_past d es ess (omega arith)) in
    gather-first (suc (length ess)) d combined (es ∷ ess) h bare enough
    ∙ ap (λ r. scored d (combined r) ∷ from (d + 1) (common_entries combined (es ∷ ess))) scores

-- The order of the cursors is of no consequence.
pub common_entries-permutation : (combined : List ℕ → ℕ) (xss yss : List (List Entry)) →
    ((xs ys : List ℕ) → IsPermutation xs ys → combined xs ≡ combined ys) → IsPermutation xss yss → common_entries combined xss ≡ common_entries combined yss
common_entries-permutation combined xss yss any_order moved =
    gather-permutation (length xss) combined xss yss any_order moved ∙ ap (λ n. gather n combined yss) (sym (length_permutation xss yss moved))
