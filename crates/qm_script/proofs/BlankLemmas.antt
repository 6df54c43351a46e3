-- What a blank ends is a word of the line, unless it is empty; the words behind it are those of the rest.
use Rattle.std.proofs.Common.{◌≡◌, ℕ, ◌<◌, ◌≤◌, ◌+◌, ◌-◌, ◌==◌, ◌||◌, not, false, true, true≢false, inl, inr, List, [], ◌∷◌, ◌++◌, length, take, drop, get_or, arith, ap, sym, subst, ◌∙◌, length-drop}
use Rattle.std.proofs.lemmas.List.{drop-drop, drop_more, get_or-drop, get_or-take, get_or_default, length-take, take-append-drop, take_all}
use Rattle.std.proofs.lemmas.Bool.{cases_lt, ne_eqb}
use Rattle.std.proofs.lemmas.List.Elements.{filter-append}
use Rattle.std.proofs.lemmas.List.Splits.{slice_split_at, slice_split_none}
use Rattle.std.specs.List.{All, slice_split}
use Rattle.qm_script.specs.Script.{is_blank, line_words, non_empty}
use Rattle.qm_script.proofs.WordLemmas.{non_empty-cons}

-- what stands above the space is no blank
pub above-blanks : (b : ℕ) → 32 < b → is_blank b ≡ false
above-blanks b above = ap (λ t. t || (b == 9)) (ne_eqb b 32 (λ e. absurd (omega arith))) ∙ ne_eqb b 9 (λ e. absurd (omega arith))

-- so a blank is ASCII, and a text may be cut before and behind it
pub blank-ascii : (b : ℕ) → is_blank b ≡ true → b < 128
blank-ascii b blank = elim (cases_lt b 128) [
  | inl below ↦ below
  | inr past ↦ absurd (true≢false (sym blank ∙ above-blanks b (omega arith)))
]

-- no byte from a place on, below another, is a blank
abbrev pub HasNoBlank : List ℕ → ℕ → ℕ → Type 0
HasNoBlank line start end = (k : ℕ) → start ≤ k → k < end → is_blank (get_or line k 0) ≡ false

module _ (line : List ℕ) (start end : ℕ) (order : start ≤ end) (within : end ≤ length line) where
  -- the bytes between the places
  piece : List ℕ
  piece = take (end - start) (drop start line)

  pub piece-length : length (take (end - start) (drop start line)) ≡ end - start
  piece-length = omega (arith, length-take (end - start) (drop start line), length-drop start line)

  piece-lacks : HasNoBlank line start end → All (λ b. is_blank b ≡ false) (take (end - start) (drop start line))
  piece-lacks none k d inside =
      let below : k < end - start = omega (arith, piece-length) in
      let here = get_or-take (end - start) (drop start line) k d below ∙ get_or-drop start line k d
      ∙ get_or_default line (start + k) d 0 (omega arith) in
      subst (λ b. is_blank b ≡ false) (sym here) (none (start + k) (omega arith) (omega arith))

-- a blank behind them
module _ (line : List ℕ) (start at : ℕ) (order : start ≤ at) (within : at < length line)
    (none : HasNoBlank line start at) (blank : is_blank (get_or line at 0) ≡ true) where
  parted : drop start line ≡ take (at - start) (drop start line) ++ get_or line at 0 ∷ drop (at + 1) line
  parted =
      let place : start + (at - start) ≡ at = omega arith in
      sym (take-append-drop (at - start) (drop start line))
      ∙ ap (λ rest. take (at - start) (drop start line) ++ rest)
      (drop-drop (at - start) start line ∙ ap (λ n. drop n line) place ∙ drop_more line at 0 within)

  cut : slice_split is_blank (drop start line) ≡ take (at - start) (drop start line) ∷ slice_split is_blank (drop (at + 1) line)
  cut = ap (slice_split is_blank) parted
      ∙ slice_split_at is_blank (take (at - start) (drop start line)) (get_or line at 0) (drop (at + 1) line)
      (piece-lacks line start at order (omega arith) none) blank

  -- a word ends here, unless it is empty
  pub word-ends : line_words (drop start line) ≡ non_empty (take (at - start) (drop start line) ∷ []) ++ line_words (drop (at + 1) line)
  word-ends = ap non_empty cut
      ∙ filter-append (λ w. not (length w == 0)) (take (at - start) (drop start line) ∷ []) (slice_split is_blank (drop (at + 1) line))

-- the end of the line ends a word too
pub last-word : (line : List ℕ) (start : ℕ) → start ≤ length line → HasNoBlank line start (length line) →
    line_words (drop start line) ≡ non_empty (take (length line - start) (drop start line) ∷ [])
last-word line start order none =
    let all = take_all (length line - start) (drop start line) (omega (arith, length-drop start line)) in
    ap line_words (sym all)
    ∙ ap non_empty (slice_split_none is_blank (take (length line - start) (drop start line))
    (piece-lacks line start (length line) order (omega arith) none))

-- a blank, and the end of a line, are no words
pub no-word-here : (line : List ℕ) (at : ℕ) → at < length line → is_blank (get_or line at 0) ≡ true →
    line_words (drop at line) ≡ line_words (drop (at + 1) line)
no-word-here line at within blank =
    let nothing : at - at ≡ 0 = omega arith in
    word-ends line at at (omega arith) within (λ k least below. absurd (omega arith)) blank
    ∙ ap (λ n. non_empty (take n (drop at line) ∷ []) ++ line_words (drop (at + 1) line)) nothing

pub no-word-left : (line : List ℕ) (at : ℕ) → at ≡ length line → line_words (drop at line) ≡ []
no-word-left line at end =
    let nothing : length line - at ≡ 0 = omega (arith, end) in
    last-word line at (omega (arith, end)) (λ k least below. absurd (omega (arith, end))) ∙ ap (λ n. non_empty (take n (drop at line) ∷ [])) nothing

-- what isn't empty stays
pub some-word : (word : List ℕ) (rest : List (List ℕ)) → 0 < length word → non_empty (word ∷ []) ++ rest ≡ word ∷ rest
some-word word rest some = ap (λ l. l ++ rest) (non_empty-cons word [] some)
