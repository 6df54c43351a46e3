-- The first line of some bytes, and what stands after it.
use Rattle.std.proofs.Common.{◌≡◌, ℕ, ◌+◌, ◌-◌, ◌<◌, ◌≤◌, Bool, true, false, cond, List, [], ◌∷◌, ◌++◌, length, get_or, take, drop, Some, None, Option, IfSome}
use Rattle.std.proofs.Common.{refl, ap, sym, ◌∙◌, subst, append_assoc, append-nil, arith, rules, tests, ◌||◌, ◌&&◌, ◌==◌, suc, position, length-append, nat_lt}
use Rattle.std.proofs.Common.{add-one, inl, inr, slice_range, if◌then◌else◌}
use Rattle.std.specs.List.{position_or_len}
use Rattle.std.specs.Io.KnownBytes.{prepend_known}
use Rattle.std.specs.Io.BufRead.{take_through, drop_through, ends_with_byte, strip_last, first_line}
use Rattle.std.specs.Option.{is_some}
use Rattle.std.proofs.lemmas.Bool.{false≢true, cases_lt, eqb-true}
use Rattle.std.proofs.lemmas.List.Folds.{list_any-append, list_any_none, list_any_at}
use Rattle.std.proofs.lemmas.List.Quantifiers.{position-Some}
use Rattle.std.proofs.lemmas.List.Sums.{fails_before_first, position_or_len_is}
use Rattle.std.proofs.lemmas.Option.{IfSome_then}
use Rattle.std.proofs.lemmas.List.{take-append-drop, drop-take, drop-drop, length-take, length-drop, get_or-take, get_or-drop}
use Rattle.std.proofs.Math.Seq.{get_or-append_seam, take-append_seam, drop-cons}
use Rattle.std.proofs.Math.Bool.{and-false}
use Rattle.qm_script.specs.Lines.{has_break}

-- no break in two pieces, none in both together
pub has_break-append : (xs ys : List ℕ) → has_break xs ≡ false → has_break ys ≡ false → has_break (xs ++ ys) ≡ false
has_break-append xs ys x y = list_any-append (λ b. b == 10) xs ys ∙ ap (λ b. b || has_break ys) x ∙ y

-- a first byte that is no break, and the rest
pub has_break-cons : (x : ℕ) (xs : List ℕ) → has_break (x ∷ xs) ≡ false → ((x == 10) ≡ false) × (has_break xs ≡ false)
has_break-cons x xs none = go (x == 10) refl
  where
    go : (b : Bool) → (x == 10) ≡ b → ((x == 10) ≡ false) × (has_break xs ≡ false)
    go true is = absurd (false≢true (sym none ∙ ap (λ b. b || has_break xs) is))
    go false is = (is, sym (ap (λ b. b || has_break xs) is) ∙ none)

-- the bytes through the first break
take_through-break : (xs ys : List ℕ) → has_break xs ≡ false → take_through 10 (xs ++ (10 ∷ ys)) ≡ xs ++ (10 ∷ [])
take_through-break [] ys none = refl
take_through-break (x ∷ xs) ys none =
    let parts = has_break-cons x xs none in
    ap (λ b. cond b (x ∷ []) (x ∷ take_through 10 (xs ++ (10 ∷ ys)))) parts.0 ∙ ap (λ zs. x ∷ zs) (take_through-break xs ys parts.1)

pub drop_through-break : (xs ys : List ℕ) → has_break xs ≡ false → drop_through 10 (xs ++ (10 ∷ ys)) ≡ ys
drop_through-break [] ys none = refl
drop_through-break (x ∷ xs) ys none =
    let parts = has_break-cons x xs none in
    ap (λ b. cond b (xs ++ (10 ∷ ys)) (drop_through 10 (xs ++ (10 ∷ ys)))) parts.0 ∙ drop_through-break xs ys parts.1

-- all of the bytes, where there is no break
take_through-none : (xs : List ℕ) → has_break xs ≡ false → take_through 10 xs ≡ xs
take_through-none [] none = refl
take_through-none (x ∷ xs) none =
    let parts = has_break-cons x xs none in
    ap (λ b. cond b (x ∷ []) (x ∷ take_through 10 xs)) parts.0 ∙ ap (λ zs. x ∷ zs) (take_through-none xs parts.1)

pub drop_through-none : (xs : List ℕ) → has_break xs ≡ false → drop_through 10 xs ≡ []
drop_through-none [] none = refl
drop_through-none (x ∷ xs) none =
    let parts = has_break-cons x xs none in
    ap (λ b. cond b xs (drop_through 10 xs)) parts.0 ∙ drop_through-none xs parts.1

-- a list that ends with a break
ends_with_byte-break : (xs : List ℕ) → ends_with_byte 10 (xs ++ 10 ∷ []) ≡ true
ends_with_byte-break xs =
    let at_end : length (xs ++ 10 ∷ []) - 1 ≡ length xs = omega (arith, length-append xs (10 ∷ [])) in
    let some : 0 < length (xs ++ 10 ∷ []) = omega (arith, length-append xs (10 ∷ [])) in
    rw (at_end, get_or-append_seam xs 10 [] 0) (search (tests, rules))

ends_with_byte-none : (xs : List ℕ) → has_break xs ≡ false → ends_with_byte 10 xs ≡ false
ends_with_byte-none [] none = refl
ends_with_byte-none (x ∷ xs) none = go (get_or (x ∷ xs) (length (x ∷ xs) - 1) 0 == 10) refl
  where
    go : (b : Bool) → (get_or (x ∷ xs) (length (x ∷ xs) - 1) 0 == 10) ≡ b → ends_with_byte 10 (x ∷ xs) ≡ false
    go true is = absurd (false≢true (sym none ∙ list_any_at (λ b. b == 10) (x ∷ xs) (length (x ∷ xs) - 1) 0 (omega arith) is))
    go false is = ap (λ b. nat_lt 0 (length (x ∷ xs)) && b) is ∙ and-false (nat_lt 0 (length (x ∷ xs)))

strip_last-break : (xs : List ℕ) → strip_last 10 (xs ++ 10 ∷ []) ≡ xs
strip_last-break xs =
    let at_end : length (xs ++ 10 ∷ []) - 1 ≡ length xs = omega (arith, length-append xs (10 ∷ [])) in
    ap (λ b. cond b (take (length (xs ++ 10 ∷ []) - 1) (xs ++ 10 ∷ [])) (xs ++ 10 ∷ [])) (ends_with_byte-break xs)
    ∙ ap (λ n. take n (xs ++ 10 ∷ [])) at_end ∙ take-append_seam xs (10 ∷ [])

-- the first line, by the bytes through the first break
abbrev line_of : List ℕ → List ℕ
line_of through = cond (ends_with_byte 10 through) (strip_last 13 (strip_last 10 through)) (strip_last 10 through)

pub first_line-break : (xs ys : List ℕ) → has_break xs ≡ false → first_line (xs ++ (10 ∷ ys)) ≡ strip_last 13 xs
first_line-break xs ys none =
    ap line_of (take_through-break xs ys none) ∙ ap (λ b. cond b (strip_last 13 (strip_last 10 (xs ++ 10 ∷ []))) (strip_last 10 (xs ++ 10 ∷ [])))
    (ends_with_byte-break xs) ∙ ap (strip_last 13) (strip_last-break xs)

pub first_line-none : (xs : List ℕ) → has_break xs ≡ false → first_line xs ≡ xs
first_line-none xs none =
    ap line_of (take_through-none xs none) ∙ ap (λ b. cond b (strip_last 13 (strip_last 10 xs)) (strip_last 10 xs)) (ends_with_byte-none xs none)
    ∙ ap (λ b. cond b (take (length xs - 1) xs) xs) (ends_with_byte-none xs none)

-- where the first break stands
pub position-break : (xs : List ℕ) (i : ℕ) → position (λ b. b == 10) xs ≡ Some i →
    (i < length xs) × (xs ≡ take i xs ++ (10 ∷ drop (i + 1) xs)) × (has_break (take i xs) ≡ false)
position-break xs i is =
    let found = position-Some (λ b. b == 10) xs i 0 is in
    let here : get_or xs i 0 ≡ 10 = eqb-true (get_or xs i 0) 10 found.1 in (
      found.0,
      sym (take-append-drop i xs)
          ∙ ap (λ r. take i xs ++ r) (drop-cons xs i 0 found.0 ∙ ap (λ x. x ∷ drop (suc i) xs) here ∙ ap (λ n. 10 ∷ drop n xs) (sym (add-one i))),
      list_any_none (λ b. b == 10) (take i xs) (λ k d within.
          let before : k < i = omega (arith, length-take i xs) in
          ap (λ x. x == 10) (get_or-take i xs k d before) ∙ (position-Some (λ b. b == 10) xs i d is).2 k before),
    )

pub position-none : (xs : List ℕ) → position (λ b. b == 10) xs ≡ None → has_break xs ≡ false
position-none xs is = go (nat_lt (position_or_len (λ b. b == 10) xs) (length xs)) refl
  where
    go : (b : Bool) → nat_lt (position_or_len (λ b. b == 10) xs) (length xs) ≡ b → has_break xs ≡ false
    go true test =
        let found : Some (position_or_len (λ b. b == 10) xs) ≡ None = sym (ap (λ b. cond b (Some (position_or_len (λ b. b == 10) xs)) None) test) ∙ is in
        cc
    go false test =
        let past : length xs ≤ position_or_len (λ b. b == 10) xs = search (tests, rules) in
        list_any_none (λ b. b == 10) xs (λ k d within. fails_before_first (λ b. b == 10) xs k d (omega arith))

-- a part of a part
pub drop-slice_range : (xs : List ℕ) (a b n : ℕ) → a + n ≤ b → drop n (slice_range xs a b) ≡ slice_range xs (a + n) b
drop-slice_range xs a b n within =
    let room : b - a ≡ n + (b - (a + n)) = omega arith in
    ap (λ m. drop n (take m (drop a xs))) room ∙ drop-take n (b - (a + n)) (drop a xs) ∙ ap (take (b - (a + n))) (drop-drop n a xs)

-- What is still to come after a part of a line is taken: `first` are the bytes that the line began
-- with, `now` and `next` what is pending before and after.
abbrev pub pending_of : Bool → List ℕ → Option (List ℕ) → Option (List ℕ)
pending_of ended unread known = if ended then Some [] else prepend_known unread known

abbrev pub IsCarried : List ℕ → Option (List ℕ) → List ℕ → Type 0
IsCarried line now bytes = (rest : List ℕ) × (now ≡ Some rest) × (bytes ≡ line ++ rest)

pub carried-on : (first now next : Option (List ℕ)) (line : List ℕ) → IfSome first (IsCarried line now) →
    IfSome now (λ bytes. next ≡ Some bytes) → IfSome first (IsCarried line next)
carried-on first now next line carried same =
    IfSome_then first carried (λ bytes c. (c.0, let P : Option (List ℕ) → Type 0 = λ o. IfSome o (λ b. next ≡ Some b) in subst P c.1 same, c.2))

abbrev pub IsLastLine : List ℕ → List ℕ → Type 0
IsLastLine line bytes = (line ≡ first_line bytes) × (Some [] ≡ Some (drop_through 10 bytes))

pub carried-end : (first : Option (List ℕ)) (line : List ℕ) → has_break line ≡ false → IfSome first (IsCarried line (Some [])) → IfSome first (IsLastLine line)
carried-end first line unbroken carried =
    IfSome_then first carried (λ bytes c.
    let none : c.0 ≡ [] = cc in
    let whole : bytes ≡ line = c.2 ∙ ap (λ r. line ++ r) none ∙ append-nil line in
    (sym (ap first_line whole ∙ first_line-none line unbroken), ap (λ b. Some b) (sym (ap (drop_through 10) whole ∙ drop_through-none line unbroken))))

known_rest : (unread rest : List ℕ) (known : Option (List ℕ)) → prepend_known unread known ≡ Some rest →
    (more : List ℕ) × (known ≡ Some more) × (rest ≡ unread ++ more)
known_rest unread rest None is = absurd cc
known_rest unread rest (Some more) is = (more, refl, cc)

abbrev pub IsLine : List ℕ → Option (List ℕ) → List ℕ → Type 0
IsLine line next bytes = (0 < length bytes) × (strip_last 13 line ≡ first_line bytes) × (next ≡ Some (drop_through 10 bytes))

pub carried-break : (first : Option (List ℕ)) (ended : Bool) (known : Option (List ℕ)) (line before piece after : List ℕ) →
    (ended ≡ true → before ≡ []) → has_break line ≡ false → before ≡ piece ++ (10 ∷ after) → has_break piece ≡ false →
    IfSome first (IsCarried line (pending_of ended before known)) → IfSome first (IsLine (line ++ piece) (pending_of ended after known))
carried-break first true known line before piece after empty unbroken is_piece whole carried =
    let none : piece ++ (10 ∷ after) ≡ [] = sym is_piece ∙ empty refl in
    absurd (omega (arith, ap length none, length-append piece (10 ∷ after)))
carried-break first false known line before piece after empty unbroken is_piece whole carried =
    IfSome_then first carried (λ bytes c.
    let more = known_rest before c.0 known c.1 in
    let none = has_break-append line piece unbroken whole in
    let all : bytes ≡ (line ++ piece) ++ (10 ∷ (after ++ more.0)) = c.2 ∙ ap (λ r. line ++ r)
    (more.2 ∙ ap (λ u. u ++ more.0) is_piece ∙ append_assoc piece (10 ∷ after) more.0) ∙ sym (append_assoc line piece (10 ∷ (after ++ more.0))) in (
      omega (arith, ap length all, length-append (line ++ piece) (10 ∷ (after ++ more.0))),
      sym (ap first_line all ∙ first_line-break (line ++ piece) (after ++ more.0) none),
      ap (prepend_known after) more.1
          ∙ ap (λ b. Some b) (sym (ap (drop_through 10) all ∙ drop_through-break (line ++ piece) (after ++ more.0) none)),
    ))

pub carried-none : (first : Option (List ℕ)) (ended : Bool) (known : Option (List ℕ)) (line before : List ℕ) → (ended ≡ true → before ≡ []) →
    IfSome first (IsCarried line (pending_of ended before known)) → IfSome first (IsCarried (line ++ before) (pending_of ended [] known))
carried-none first true known line before empty carried =
    IfSome_then first carried (λ bytes c. (c.0, c.1, c.2 ∙ ap (λ l. l ++ c.0) (sym (ap (λ b. line ++ b) (empty refl) ∙ append-nil line))))
carried-none first false known line before empty carried =
    IfSome_then first carried (λ bytes c.
    let more = known_rest before c.0 known c.1 in
    (more.0, ap (prepend_known []) more.1, c.2 ∙ ap (λ r. line ++ r) more.2 ∙ sym (append_assoc line before more.0)))

pub slice_range-empty : (xs : List ℕ) (a b : ℕ) → b ≤ a → slice_range xs a b ≡ []
slice_range-empty xs a b none =
    let zero_left : b - a ≡ 0 = omega arith in
    ap (λ n. take n (drop a xs)) zero_left

-- no break in any place of a piece without one
pub unbroken-at : (xs : List ℕ) → has_break xs ≡ false → (k : ℕ) → k < length xs → (get_or xs k 0 == 10) ≡ false
unbroken-at xs none k within = go (get_or xs k 0 == 10) refl
  where
    go : (b : Bool) → (get_or xs k 0 == 10) ≡ b → (get_or xs k 0 == 10) ≡ false
    go true is = absurd (false≢true (sym none ∙ list_any_at (λ b. b == 10) xs k 0 within is))
    go false is = is

-- the first break is the first one behind a piece without one
pub position-behind : (xs : List ℕ) (passed place : ℕ) → has_break (take passed xs) ≡ false → passed ≤ length xs →
    position (λ b. b == 10) (drop passed xs) ≡ Some place → position (λ b. b == 10) xs ≡ Some (passed + place)
position-behind xs passed place none within is =
    let found = position-Some (λ b. b == 10) (drop passed xs) place 0 is in
    let room : passed + place < length xs = omega (arith, length-drop passed xs, found.0) in
    let first = position_or_len_is (λ b. b == 10) xs (passed + place) 0 (omega arith) (λ k before. elim (cases_lt k passed) [
      | inl earlier ↦
          ap (λ b. b == 10) (sym (get_or-take passed xs k 0 earlier)) ∙ unbroken-at (take passed xs) none k (omega (arith, length-take passed xs))
      | inr behind ↦
          let same : passed + (k - passed) ≡ k = omega arith in
          ap (λ n. get_or xs n 0 == 10) (sym same) ∙ ap (λ b. b == 10) (sym (get_or-drop passed xs (k - passed) 0))
          ∙ (position-Some (λ b. b == 10) (drop passed xs) place 0 is).2 (k - passed) (omega arith)
    ]) (λ more. ap (λ b. b == 10) (sym (get_or-drop passed xs place 0)) ∙ found.1) in
    let before_end : nat_lt (passed + place) (length xs) ≡ true = search (tests, rules) in
    ap (λ n. cond (nat_lt n (length xs)) (Some n) None) first ∙ ap (λ b. cond b (Some (passed + place)) None) before_end

-- there is none, where no piece has one
pub position-unbroken : (xs : List ℕ) → has_break xs ≡ false → position (λ b. b == 10) xs ≡ None
position-unbroken xs none =
    let last = position_or_len_is (λ b. b == 10) xs (length xs) 0 (omega arith) (unbroken-at xs none) (λ more. absurd (omega arith)) in
    let at_end : nat_lt (length xs) (length xs) ≡ false = search (tests, rules) in
    ap (λ n. cond (nat_lt n (length xs)) (Some n) None) last ∙ ap (λ b. cond b (Some (length xs)) None) at_end

-- whether there is one, by where the first is
pub has_break-position : (xs : List ℕ) (found : Option ℕ) → position (λ b. b == 10) xs ≡ found → is_some found ≡ has_break xs
has_break-position xs None is = sym (position-none xs is)
has_break-position xs (Some i) is =
    let found = position-Some (λ b. b == 10) xs i 0 is in
    sym (list_any_at (λ b. b == 10) xs i 0 found.0 found.1)
