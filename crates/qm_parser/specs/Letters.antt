-- The letters of a word, and of the text between quotes.
use Rattle.std.specs.Prelude.{ℕ, Bool, true, false, not, ◌==◌, ◌||◌, if◌then◌else◌, List, [], ◌∷◌, ◌++◌, Option, None, Some, Result, Ok}
use Rattle.std.specs.Char.{encode_utf8, is_whitespace}
use Rattle.qm_parser.specs.Reading.{refused, ◌>>=◌}
use Rattle.qm_parser.specs.declared.letters.Turn.{Turn}
use Rattle.qm_parser.specs.declared.letters.Turn.TheVariants.{Take, Escape, Stop}
use Rattle.qm_parser.specs.declared.parse_error.Refusal.{Refusal}
use Rattle.qm_parser.specs.declared.place_characters.Character.{Character}
use Rattle.qm_parser.specs.declared.refusal_kind.RefusalKind.TheVariants.{StrayEscape}

-- the signs that end a word: `\`, `"`, `(`, `)`, `*`, `?`, `:`, `^`, `~`, `[`, `]`, `{`, `}`
abbrev pub is_inner_sign : ℕ → Bool
is_inner_sign c = ((((((((((((c == 92) || (c == 34)) || (c == 40)) || (c == 41)) || (c == 42)) || (c == 63)) || (c == 58)) || (c == 94))
    || (c == 126)) || (c == 91)) || (c == 93)) || (c == 123)) || (c == 125)

-- all signs: these, and `+`, `-`, `/`, `<`, `>`, which are signs only where a word may begin
abbrev pub is_sign : ℕ → Bool
is_sign c = ((((is_inner_sign c || (c == 43)) || (c == 45)) || (c == 47)) || (c == 60)) || (c == 62)

-- what is a letter: between quotes all but a quote, and in a word what is neither white space nor a sign
abbrev pub is_letter : Bool → ℕ → Bool
is_letter true c = not (c == 34)
is_letter false c = not (is_whitespace c || is_inner_sign c)

-- what to do with a character, between quotes or not, behind a `\` at this place or behind none
unfoldable pub turn : Bool → Option ℕ → ℕ → Result Turn Refusal
turn quoted (Some place) c = if is_sign c then Ok Take else refused StrayEscape place
turn quoted None c = if c == 92 then Ok Escape else if is_letter quoted c then Ok Take else Ok Stop

-- no letter at the end of the characters, behind a `\` at this place or behind none
abbrev pub letters_end : Option ℕ → Result (List ℕ × List Character) Refusal
letters_end None = Ok ([], [])
letters_end (Some place) = refused StrayEscape place

-- The bytes of the letters that follow, and the characters behind them. A `\` is no letter; the sign
-- behind it is one.
unfoldable pub letters_at : Bool → Option ℕ → List Character → Result (List ℕ × List Character) Refusal
letters_at quoted escape [] = letters_end escape
letters_at quoted escape (c ∷ cs) = turn quoted escape c.letter >>= λ t. elim t [
  | Take ↦ letters_at quoted None cs >>= λ letters. Ok (encode_utf8 c.letter ++ letters.0, letters.1)
  | Escape ↦ letters_at quoted (Some c.place) cs
  | Stop ↦ Ok ([], c ∷ cs)
]
