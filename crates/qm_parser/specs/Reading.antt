-- What reads something of a text gives it, or refuses the text: with what isn't understood, and its place.
use Rattle.std.specs.Prelude.{◌≡◌, ℕ, List, Result, Ok, Err}
use Rattle.qm_parser.specs.declared.parse_error.ParseError.{ParseError}
use Rattle.qm_parser.specs.declared.parse_error.ParseError.TheVariants.{Memory, Refused}
use Rattle.qm_parser.specs.declared.parse_error.Refusal.{Refusal}
use Rattle.qm_parser.specs.declared.place_characters.Character.{Character}
use Rattle.qm_parser.specs.declared.refusal_kind.RefusalKind.{RefusalKind}

infixl 10 ◌>>=◌
-- what is read behind what was read; a refusal stays as it is
abbrev pub ◌>>=◌ : {A B : Type 0} → Result A Refusal → (A → Result B Refusal) → Result B Refusal
(Ok x) >>= f = f x
(Err r) >>= f = Err r

-- the text is refused for this, which stands at this place
abbrev pub refused : {A : Type 0} → RefusalKind → ℕ → Result A Refusal
refused kind at = Err (record { kind = kind; at = at })

-- What a call answered is what the language gives, unless memory ran out.
abbrev pub Gives : {X Y : Type 0} → (X → Y) → Result X ParseError → Result Y Refusal → Type 0
Gives view (Ok x) read = read ≡ Ok (view x)
Gives view (Err (Refused r)) read = read ≡ Err r
Gives view (Err Memory) read = Unit {0}

-- The same of a reader of characters, which left these.
abbrev pub Reads : {X Y : Type 0} → (X → Y) → Result X ParseError → List Character → Result (Y × List Character) Refusal → Type 0
Reads view (Ok x) left read = read ≡ Ok (view x, left)
Reads view (Err (Refused r)) left read = read ≡ Err r
Reads view (Err Memory) left read = Unit {0}
