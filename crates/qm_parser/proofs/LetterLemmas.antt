-- The letters that were read, and those that follow.
use Rattle.std.proofs.Common.{◌≡◌, ℕ, Bool, List, [], ◌∷◌, ◌++◌, Option, None, Some, Result, Ok, Err, drop, refl, sym, ap, ◌∙◌, append_assoc, append-nil}
use Rattle.std.specs.Char.{encode_utf8}
use Rattle.qm_parser.proofs.CharacterLemmas.{next-is, none-is}
use Rattle.qm_parser.specs.Letters.{letters_at, letters_end, turn}
use Rattle.qm_parser.specs.Reading.{Gives, Reads, refused, ◌>>=◌}
use Rattle.qm_parser.specs.Signs.{first}
use Rattle.qm_parser.specs.declared.letters.Turn.{Turn}
use Rattle.qm_parser.specs.declared.letters.Turn.TheVariants.{Take, Escape, Stop}
use Rattle.qm_parser.specs.declared.parse_error.ParseError.{ParseError}
use Rattle.qm_parser.specs.declared.parse_error.ParseError.TheVariants.{Memory, Refused}
use Rattle.qm_parser.specs.declared.parse_error.Refusal.{Refusal}
use Rattle.qm_parser.specs.declared.place_characters.Character.{Character}
use Rattle.qm_parser.specs.declared.refusal_kind.RefusalKind.TheVariants.{StrayEscape}

abbrev pub Letters : Type 0
Letters = Result (List ℕ × List Character) Refusal

-- these letters, and what was read behind them
abbrev pub with_front : List ℕ → Result (List ℕ × List Character) Refusal → Result (List ℕ × List Character) Refusal
with_front front (Ok read) = Ok (front ++ read.0, read.1)
with_front front (Err r) = Err r

with_front-push : (front letter : List ℕ) (r : Letters) →
    with_front front (r >>= λ letters. Ok (letter ++ letters.0, letters.1)) ≡ with_front (front ++ letter) r
with_front-push front letter (Err r) = refl
with_front-push front letter (Ok read) = ap (λ l. Ok (l, read.1)) (sym (append_assoc front letter read.0))

-- what a turn makes of the letters
abbrev pub turned : Bool → Character → List Character → Turn → Letters
turned quoted c cs t = elim t [
  | Take ↦ letters_at quoted None cs >>= λ letters. Ok (encode_utf8 c.letter ++ letters.0, letters.1)
  | Escape ↦ letters_at quoted (Some c.place) cs
  | Stop ↦ Ok ([], c ∷ cs)
]

pub unfolded : (quoted : Bool) (escape : Option ℕ) (c : Character) (cs : List Character) →
    letters_at quoted escape (c ∷ cs) ≡ (turn quoted escape c.letter >>= turned quoted c cs)
unfolding letters_at
unfolded quoted escape c cs = refl

-- the letters where this character is the next
at_next : (quoted : Bool) (escape : Option ℕ) (c : Character) (cs : List Character) (t : Result Turn Refusal) →
    Some c ≡ first cs → turn quoted escape c.letter ≡ t → letters_at quoted escape cs ≡ (t >>= turned quoted c (drop 1 cs))
at_next quoted escape c cs t next is =
    ap (letters_at quoted escape) (next-is cs c next) ∙ unfolded quoted escape c (drop 1 cs) ∙ ap (λ r. r >>= turned quoted c (drop 1 cs)) is

pub letters-take : (quoted : Bool) (escape : Option ℕ) (c : Character) (cs : List Character) (front : List ℕ) (whole : Letters) →
    Some c ≡ first cs → turn quoted escape c.letter ≡ Ok Take → with_front front (letters_at quoted escape cs) ≡ whole →
    with_front (front ++ encode_utf8 c.letter) (letters_at quoted None (drop 1 cs)) ≡ whole
letters-take quoted escape c cs front whole next is kept =
    sym (with_front-push front (encode_utf8 c.letter) (letters_at quoted None (drop 1 cs)))
    ∙ sym (ap (with_front front) (at_next quoted escape c cs (Ok Take) next is)) ∙ kept

pub letters-escape : (quoted : Bool) (escape : Option ℕ) (c : Character) (cs : List Character) (front : List ℕ) (whole : Letters) →
    Some c ≡ first cs → turn quoted escape c.letter ≡ Ok Escape → with_front front (letters_at quoted escape cs) ≡ whole →
    with_front front (letters_at quoted (Some c.place) (drop 1 cs)) ≡ whole
letters-escape quoted escape c cs front whole next is kept =
    sym (ap (with_front front) (at_next quoted escape c cs (Ok Escape) next is)) ∙ kept

pub letters-stop : (quoted : Bool) (escape : Option ℕ) (c : Character) (cs : List Character) (front : List ℕ) (whole : Letters) →
    Some c ≡ first cs → turn quoted escape c.letter ≡ Ok Stop → with_front front (letters_at quoted escape cs) ≡ whole →
    whole ≡ Ok (front, cs)
letters-stop quoted escape c cs front whole next is kept =
    sym kept ∙ ap (with_front front) (at_next quoted escape c cs (Ok Stop) next is)
    ∙ ap (λ l. Ok (l, c ∷ drop 1 cs)) (append-nil front) ∙ ap (λ l. Ok (front, l)) (sym (next-is cs c next))

letters-refused : (quoted : Bool) (escape : Option ℕ) (c : Character) (cs : List Character) (front : List ℕ) (whole : Letters) (r : Refusal) →
    Some c ≡ first cs → turn quoted escape c.letter ≡ Err r → with_front front (letters_at quoted escape cs) ≡ whole → whole ≡ Err r
letters-refused quoted escape c cs front whole r next is kept = sym kept ∙ ap (with_front front) (at_next quoted escape c cs (Err r) next is)

-- a turn that was refused
pub letters-error : {V : Type 0} (view : V → List ℕ) (quoted : Bool) (escape : Option ℕ) (c : Character) (cs left : List Character) (front : List ℕ) (whole : Letters) (e : ParseError) →
    Some c ≡ first cs → Gives (λ (t : Turn). t) (Err e) (turn quoted escape c.letter) → with_front front (letters_at quoted escape cs) ≡ whole →
    Reads view (Err e) left whole
letters-error view quoted escape c cs left front whole Memory next is kept = tt
letters-error view quoted escape c cs left front whole (Refused r) next is kept = letters-refused quoted escape c cs front whole r next is kept

at_none : (quoted : Bool) (escape : Option ℕ) (cs : List Character) → None ≡ first cs → letters_at quoted escape cs ≡ letters_end escape
unfolding letters_at
at_none quoted escape cs none = ap (letters_at quoted escape) (none-is cs none)

pub letters-done : (quoted : Bool) (escape : Option ℕ) (cs : List Character) (front : List ℕ) (whole : Letters) →
    None ≡ first cs → escape ≡ None → with_front front (letters_at quoted escape cs) ≡ whole → whole ≡ Ok (front, cs)
letters-done quoted escape cs front whole none is kept =
    sym kept ∙ ap (with_front front) (at_none quoted escape cs none ∙ ap letters_end is) ∙ ap (λ l. Ok (l, [])) (append-nil front)
    ∙ ap (λ l. Ok (front, l)) (sym (none-is cs none))

pub letters-unfinished : (quoted : Bool) (escape : Option ℕ) (place : ℕ) (cs : List Character) (front : List ℕ) (whole : Letters) →
    None ≡ first cs → escape ≡ Some place → with_front front (letters_at quoted escape cs) ≡ whole → whole ≡ refused StrayEscape place
letters-unfinished quoted escape place cs front whole none is kept = sym kept ∙ ap (with_front front) (at_none quoted escape cs none ∙ ap letters_end is)
