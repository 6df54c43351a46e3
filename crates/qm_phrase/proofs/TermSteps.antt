-- The terms of a phrase, one by one.
use Rattle.std.proofs.Common.{◌≡◌, ℕ, zero, suc, ◌+◌, ◌<◌, ◌≤◌, List, [], ◌∷◌, ◌++◌, All, length, map, get_or, set, refl, arith, subst}
use Rattle.std.proofs.lemmas.List.Elements.{All-nil, All-cons, All-head, All-tail}
use Rattle.qm_docset.specs.Entry.{Entry, Limits, head_positions}
use Rattle.qm_postings.specs.Positions.{ArePositions, shifted}
use Rattle.qm_postings.specs.PositionsFacts.{ArePositions-head}
use Rattle.qm_postings.specs.Segment.{AscendFrom}
use Rattle.qm_phrase.specs.Phrase.{shifted_each}
use Rattle.qm_phrase.specs.Places.{Ascends}
use Rattle.qm_phrase.specs.Terms.{AreRoomy}

-- Room for positions.

pub length-roomy : (limits : List Limits) (rooms : List ℕ) → AreRoomy limits rooms → length limits ≡ length rooms
length-roomy [] [] h = refl
length-roomy [] (room ∷ rooms) h = absurd h
length-roomy (l ∷ limits) [] h = absurd h
length-roomy (l ∷ limits) (room ∷ rooms) h = omega (arith, length-roomy limits rooms h.1)

pub room_at : (limits : List Limits) (rooms : List ℕ) (i : ℕ) (l : Limits) (room : ℕ) →
    AreRoomy limits rooms → i < length limits → (get_or limits i l).room ≤ get_or rooms i room
room_at [] rooms i l room h below = absurd (omega arith)
room_at (l ∷ limits) [] i m room h below = absurd h
room_at (l ∷ limits) (r ∷ rooms) zero m room h below = h.0
room_at (l ∷ limits) (r ∷ rooms) (suc i) m room h below = room_at limits rooms i m room h.1 (omega arith)

-- a buffer with no less room takes another's place
pub AreRoomy-set : {X : Type 0} (room : X → ℕ) (limits : List Limits) (rows : List X) (i : ℕ) (x d : X) → i < length rows →
    room (get_or rows i d) ≤ room x → AreRoomy limits (map room rows) → AreRoomy limits (map room (set rows i x))
AreRoomy-set room limits [] i x d h more roomy = absurd (omega arith)
AreRoomy-set room [] (r ∷ rows) i x d h more roomy = absurd roomy
AreRoomy-set room (l ∷ limits) (r ∷ rows) zero x d h more roomy = (omega (arith, more, roomy.0), roomy.1)
AreRoomy-set room (l ∷ limits) (r ∷ rows) (suc i) x d h more roomy = (roomy.0, AreRoomy-set room limits rows i x d (omega arith) more roomy.1)

-- Shifted positions.

pub length-shifted_each : (shifts : List ℕ) (positions : List (List ℕ)) →
    length shifts ≡ length positions → length (shifted_each shifts positions) ≡ length positions
length-shifted_each [] [] h = refl
length-shifted_each [] (ps ∷ positions) h = absurd (omega arith)
length-shifted_each (shift ∷ shifts) [] h = absurd (omega arith)
length-shifted_each (shift ∷ shifts) (ps ∷ positions) h = omega (arith, length-shifted_each shifts positions (omega arith))

pub get_or-shifted_each : (shifts : List ℕ) (positions : List (List ℕ)) (i shift : ℕ) (ps e : List ℕ) → i < length shifts →
    i < length positions → get_or (shifted_each shifts positions) i e ≡ shifted (get_or shifts i shift) (get_or positions i ps)
get_or-shifted_each [] positions i shift ps e h k = absurd (omega arith)
get_or-shifted_each (s ∷ shifts) [] i shift ps e h k = absurd (omega arith)
get_or-shifted_each (s ∷ shifts) (p ∷ positions) zero shift ps e h k = refl
get_or-shifted_each (s ∷ shifts) (p ∷ positions) (suc i) shift ps e h k = get_or-shifted_each shifts positions i shift ps e (omega arith) (omega arith)

Ascends-shifted : (low shift : ℕ) (ps : List ℕ) → shift ≤ 4294967295 → AscendFrom low ps → Ascends (low + shift) (shifted shift ps)
Ascends-shifted low shift [] h a = tt
Ascends-shifted low shift (p ∷ ps) h a =
    let next : p + 1 + shift ≡ p + shift + 1 = omega arith in
    let rest : Ascends (p + shift + 1) (shifted shift ps) = subst (λ n. Ascends n (shifted shift ps)) next (Ascends-shifted (p + 1) shift ps h a.2) in
    (omega arith, omega arith, rest)

pub Ascends-zero : (shift : ℕ) (ps : List ℕ) → shift ≤ 4294967295 → ArePositions ps → Ascends 0 (shifted shift ps)
Ascends-zero shift [] h a = tt
Ascends-zero shift (p ∷ ps) h a = let all = Ascends-shifted 0 shift (p ∷ ps) h a in (omega arith, all.1, all.2)

pub All-shifted_each : (shifts : List ℕ) (positions : List (List ℕ)) → All (λ shift. shift ≤ 4294967295) shifts →
    All ArePositions positions → All (Ascends 0) (shifted_each shifts positions)
All-shifted_each [] positions h a = All-nil (Ascends 0)
All-shifted_each (shift ∷ shifts) [] h a = All-nil (Ascends 0)
All-shifted_each (shift ∷ shifts) (ps ∷ positions) h a =
    let Fits : ℕ → Type 0 = λ shift. shift ≤ 4294967295 in
    All-cons (Ascends 0) (shifted shift ps) (shifted_each shifts positions) (Ascends-zero shift ps (All-head Fits shift shifts h)
    (All-head ArePositions ps positions a)) (All-shifted_each shifts positions (All-tail Fits shift shifts h) (All-tail ArePositions ps positions a))

-- the positions that cursors stand on
pub All-head_positions : {X : Type 0} (valid : X → Type 0) (list : X → List Entry) → ((x : X) → valid x → All (λ e. ArePositions e.positions) (list x)) →
    (xs : List X) → All valid xs → All ArePositions (map head_positions (map list xs))
All-head_positions valid list ordered [] all = All-nil ArePositions
All-head_positions valid list ordered (x ∷ xs) all =
    All-cons ArePositions (head_positions (list x)) (map head_positions (map list xs))
    (ArePositions-head (list x) (ordered x (All-head valid x xs all))) (All-head_positions valid list ordered xs (All-tail valid x xs all))

-- one more buffer
pub AreRoomy-push : (limits : List Limits) (rooms : List ℕ) (l : Limits) (room : ℕ) →
    AreRoomy limits rooms → l.room ≤ room → AreRoomy (limits ++ l ∷ []) (rooms ++ room ∷ [])
AreRoomy-push [] [] l room h fits = (fits, tt)
AreRoomy-push [] (r ∷ rooms) l room h fits = absurd h
AreRoomy-push (m ∷ limits) [] l room h fits = absurd h
AreRoomy-push (m ∷ limits) (r ∷ rooms) l room h fits = (h.0, AreRoomy-push limits rooms l room h.1 fits)
