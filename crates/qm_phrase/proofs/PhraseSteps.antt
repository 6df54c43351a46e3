-- How the starts of a phrase change as its terms go on.
use Rattle.std.proofs.Common.{◌≡◌, ℕ, ◌+◌, ◌<◌, ◌≤◌, false, ◌&&◌, List, [], ◌∷◌, All, Any, length, map, get_or, refl, ap, sym, ◌∙◌, arith}
use Rattle.std.specs.List.{list_all}
use Rattle.std.proofs.lemmas.List.{get_or-map, length-map}
use Rattle.std.proofs.lemmas.List.Elements.{All-head, All-tail}
use Rattle.std.proofs.lemmas.List.Folds.{list_all_at}
use Rattle.std.proofs.Math.Bool.{and-false}
use Rattle.qm_combine.proofs.Uniting.{entries_of-ahead}
use Rattle.qm_docset.proofs.Gathering.{entries_of-from}
use Rattle.qm_docset.specs.Entry.{Entry, Limits, AreEntries, from, head_document, head_positions}
use Rattle.qm_docset.specs.Gather.{entries_of}
use Rattle.qm_docset.specs.GatherFacts.{entries_of-first, entries_of-nil}
use Rattle.qm_docset.specs.declared.numbers.TheConstants.{TERMINATED}
use Rattle.qm_phrase.specs.Phrase.{positions_at, shifted_each, sets_at, starts_at}
use Rattle.qm_phrase.specs.Starts.{has_near, is_place}
use Rattle.qm_phrase.proofs.StartSteps.{starts-none}
use Rattle.qm_phrase.proofs.TermSteps.{get_or-shifted_each, length-shifted_each}

-- What the lists say from a target on is all that counts there.

pub positions_at-from : (t d : ℕ) (ess : List (List Entry)) → t ≤ d → map (positions_at d) (map (from t) ess) ≡ map (positions_at d) ess
positions_at-from t d [] h = refl
positions_at-from t d (es ∷ ess) h =
    let here : positions_at d (from t es) ≡ positions_at d es = ap head_positions (entries_of-from d t es h) in
    let rest = positions_at-from t d ess h in
    λ i. here i ∷ rest i

pub sets_at-from : (t d : ℕ) (shifts : List ℕ) (new old : List (List Entry)) → t ≤ d →
    map (from t) new ≡ map (from t) old → sets_at shifts new d ≡ sets_at shifts old d
unfolding sets_at
sets_at-from t d shifts new old h same =
    ap (shifted_each shifts) (sym (positions_at-from t d new h) ∙ ap (map (positions_at d)) same ∙ positions_at-from t d old h)

-- Where one list lacks a document, there is no start.

near-lacks : (slop y k : ℕ) (sets : List (List ℕ)) → k < length sets → get_or sets k [] ≡ [] → list_all (λ s. has_near slop y s) sets ≡ false
near-lacks slop y k sets h none = list_all_at (λ s. has_near slop y s) sets k [] h (ap (λ s. has_near slop y s) none)

pub starts_at-lacks : (slop d k : ℕ) (shifts : List ℕ) (ess : List (List Entry)) → length shifts ≡ length ess →
    k < length ess → positions_at d (get_or ess k []) ≡ [] → starts_at slop shifts ess d ≡ 0
unfolding sets_at
starts_at-lacks slop d k shifts ess paired h none =
    let positions = map (positions_at d) ess in
    let long = length-map ess (positions_at d) in
    let set : get_or (shifted_each shifts positions) k [] ≡ [] = get_or-shifted_each shifts positions k 0 [] [] (omega arith) (omega arith)
    ∙ ap (λ ps. map (λ p. p + get_or shifts k 0) ps) (get_or-map (positions_at d) ess k [] [] h ∙ none) in
    let sets = shifted_each shifts positions in
    let wide = length-shifted_each shifts positions (omega arith) in
    starts-none slop sets (λ y. ap (λ b. is_place sets y && b) (near-lacks slop y k sets (omega arith) set) ∙ and-false (is_place sets y))

-- a list has no positions of a document before the one that it stands on, nor has an empty one
pub positions_at-past : (d t : ℕ) (limits : Limits) (es : List Entry) → AreEntries 0 limits es → t ≤ head_document es → d < t → positions_at d es ≡ []
positions_at-past d t limits es law past h = ap head_positions (entries_of-ahead d limits es law (omega (arith, past, h)))

pub positions_at-none : (d : ℕ) → positions_at d [] ≡ []
positions_at-none d = ap head_positions (entries_of-nil d)

-- the first of some members that stand on a document
pub first_stands : {X : Type 0} (Placed : X → Type 0) (list : X → List Entry) (d : ℕ) (xs : List X) →
    0 < length xs → All (λ x. Placed x × (head_document (list x) ≡ d)) xs → Any (λ x. d ≤ head_document (list x)) xs
first_stands Placed list d [] some all = absurd (omega arith)
first_stands {X} Placed list d (x ∷ xs) some all =
    let Stands : X → Type 0 = λ x. Placed x × (head_document (list x) ≡ d) in
    let here = All-head Stands x xs all in
    (0, x, omega arith, refl, omega arith)

-- where a cursor stands on a document, these are its positions there
pub positions_at-here : (d : ℕ) (limits : Limits) (es : List Entry) → AreEntries 0 limits es →
    head_document es ≡ d → d < TERMINATED → positions_at d es ≡ head_positions es
positions_at-here d limits [] a h below = absurd (omega arith)
positions_at-here d limits (e ∷ es) a h below = ap (λ n. head_positions (entries_of n (e ∷ es))) (sym h) ∙ ap head_positions (entries_of-first 0 limits e es a)

pub positions_at-members : {X : Type 0} (valid Placed : X → Type 0) (bound : X → Limits) (list : X → List Entry) →
    ((x : X) → valid x → AreEntries 0 (bound x) (list x)) → (d : ℕ) (xs : List X) → d < TERMINATED → All valid xs →
    All (λ x. Placed x × (head_document (list x) ≡ d)) xs → map (positions_at d) (map list xs) ≡ map head_positions (map list xs)
positions_at-members valid Placed bound list law d [] below all here = refl
positions_at-members {X} valid Placed bound list law d (x ∷ xs) below all here =
    let Stands : X → Type 0 = λ x. Placed x × (head_document (list x) ≡ d) in
    let first = positions_at-here d (bound x) (list x) (law x (All-head valid x xs all)) (All-head Stands x xs here).1 below in
    let rest = positions_at-members valid Placed bound list law d xs below (All-tail valid x xs all) (All-tail Stands x xs here) in
    λ i. first i ∷ rest i
