-- The lines of a script are the first line of its bytes, and those of the bytes behind it.
use Rattle.std.proofs.Common.{◌≡◌, ℕ, zero, suc, ◌<◌, ◌==◌, Bool, true, false, ◌||◌, if◌then◌else◌, List, [], ◌∷◌, ◌++◌, length, refl, ap, sym, ◌∙◌, inl, inr}
use Rattle.std.proofs.Common.{◌⊎◌, arith}
use Rattle.std.proofs.lemmas.Bool.{eqb-true, ne_eqb}
use Rattle.std.proofs.lemmas.List.Splits.{length-slice_split, slice_split_at, slice_split_none}
use Rattle.std.specs.Io.BufRead.{drop_through, first_line, strip_last}
use Rattle.std.specs.List.{All, slice_split}
use Rattle.qm_script.specs.Lines.{has_break}
use Rattle.qm_script.specs.Runs.{lines_of_pieces, script_lines}
use Rattle.qm_script.proofs.LineBytes.{has_break-cons, drop_through-break, drop_through-none, first_line-break, first_line-none}

-- the bytes before the first break, and those behind it; or there is none
abbrev Broken : List ℕ → Type 0
Broken bytes = (piece : List ℕ) × (rest : List ℕ) × (bytes ≡ piece ++ (10 ∷ rest)) × (has_break piece ≡ false)

find_break : (bytes : List ℕ) → Broken bytes ⊎ (has_break bytes ≡ false)
find_break [] = inr refl
find_break (b ∷ bytes) = go (b == 10) refl (find_break bytes)
  where
    go : (t : Bool) → (b == 10) ≡ t → Broken bytes ⊎ (has_break bytes ≡ false) → Broken (b ∷ bytes) ⊎ (has_break (b ∷ bytes) ≡ false)
    go true is found = inl ([], bytes, ap (λ x. x ∷ bytes) (eqb-true b 10 is), refl)
    go false is (inl found) = inl (b ∷ found.0, found.1, ap (λ l. b ∷ l) found.2, ap (λ t. t || has_break found.0) is ∙ found.3)
    go false is (inr none) = inr (ap (λ t. t || has_break bytes) is ∙ none)

none_breaks : (bytes : List ℕ) → has_break bytes ≡ false → All (λ b. (b == 10) ≡ false) bytes
none_breaks [] h k d within = absurd (omega arith)
none_breaks (b ∷ bytes) h zero d within = (has_break-cons b bytes h).0
none_breaks (b ∷ bytes) h (suc k) d within = none_breaks bytes (has_break-cons b bytes h).1 k d (omega arith)

first_of_pieces : (piece : List ℕ) (pieces : List (List ℕ)) → 0 < length pieces →
    lines_of_pieces (piece ∷ pieces) ≡ strip_last 13 piece ∷ lines_of_pieces pieces
first_of_pieces piece [] h = absurd (omega arith)
first_of_pieces piece (next ∷ pieces) h = refl

pub script_lines-first : (bytes : List ℕ) → 0 < length bytes → script_lines bytes ≡ first_line bytes ∷ script_lines (drop_through 10 bytes)
script_lines-first bytes some = go (find_break bytes)
  where
    at_break : (piece rest : List ℕ) → has_break piece ≡ false →
        script_lines (piece ++ (10 ∷ rest)) ≡ first_line (piece ++ (10 ∷ rest)) ∷ script_lines (drop_through 10 (piece ++ (10 ∷ rest)))
    at_break piece rest unbroken =
        ap lines_of_pieces (slice_split_at (λ b. b == 10) piece 10 rest (none_breaks piece unbroken) refl)
        ∙ first_of_pieces piece (slice_split (λ b. b == 10) rest) (omega (arith, length-slice_split (λ b. b == 10) rest))
        ∙ sym (λ i. first_line-break piece rest unbroken i ∷ script_lines (drop_through-break piece rest unbroken i))

    go : Broken bytes ⊎ (has_break bytes ≡ false) → script_lines bytes ≡ first_line bytes ∷ script_lines (drop_through 10 bytes)
    go (inl found) = ap script_lines found.2 ∙ at_break found.0 found.1 found.3 ∙ sym (ap (λ l. first_line l ∷ script_lines (drop_through 10 l)) found.2)
    go (inr none) =
        ap lines_of_pieces (slice_split_none (λ b. b == 10) bytes (none_breaks bytes none))
        ∙ ap (λ t. if t then [] else bytes ∷ []) (ne_eqb (length bytes) 0 (λ e. absurd (omega arith)))
        ∙ sym (λ i. first_line-none bytes none i ∷ script_lines (drop_through-none bytes none i))
