-- The digits of a number.
use Rattle.std.proofs.Common.{◌≡◌, ℕ, ◌+◌, ◌-◌, ◌*◌, min, true, false, List, ◌∷◌, None, Some, cond, drop, refl, sym, ap, ◌∙◌}
use Rattle.std.specs.Char.{is_ascii_digit}
use Rattle.qm_parser.proofs.CharacterLemmas.{next-is, none-is}
use Rattle.qm_parser.specs.Numbers.{digits_at}
use Rattle.qm_parser.specs.Signs.{first}
use Rattle.qm_parser.specs.declared.place_characters.Character.{Character}

unfolded : (n : ℕ) (c : Character) (cs : List Character) →
    digits_at n (c ∷ cs) ≡ cond (is_ascii_digit c.letter) (digits_at (min (n * 10 + (c.letter - 48)) 4294967296) cs) (n, c ∷ cs)
unfolding digits_at
unfolded n c cs = refl

pub digits-more : (n : ℕ) (c : Character) (cs : List Character) → Some c ≡ first cs → is_ascii_digit c.letter ≡ true →
    digits_at n cs ≡ digits_at (min (n * 10 + (c.letter - 48)) 4294967296) (drop 1 cs)
digits-more n c cs next is = ap (digits_at n) (next-is cs c next) ∙ unfolded n c (drop 1 cs)
    ∙ ap (λ b. cond b (digits_at (min (n * 10 + (c.letter - 48)) 4294967296) (drop 1 cs)) (n, c ∷ drop 1 cs)) is

pub digits-stop : (n : ℕ) (c : Character) (cs : List Character) → Some c ≡ first cs → is_ascii_digit c.letter ≡ false → digits_at n cs ≡ (n, cs)
digits-stop n c cs next is = ap (digits_at n) (next-is cs c next) ∙ unfolded n c (drop 1 cs)
    ∙ ap (λ b. cond b (digits_at (min (n * 10 + (c.letter - 48)) 4294967296) (drop 1 cs)) (n, c ∷ drop 1 cs)) is ∙ ap (λ l. (n, l)) (sym (next-is cs c next))

pub digits-done : (n : ℕ) (cs : List Character) → None ≡ first cs → digits_at n cs ≡ (n, cs)
unfolding digits_at
digits-done n cs none = ap (digits_at n) (none-is cs none) ∙ ap (λ l. (n, l)) (sym (none-is cs none))
