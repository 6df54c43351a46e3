-- Signs, and where a token ends.
use Rattle.std.specs.Prelude.{ℕ, Bool, true, false, ◌==◌, ◌||◌, if◌then◌else◌, List, [], ◌∷◌, Option, None, Some, Result, Ok}
use Rattle.std.specs.Char.{is_whitespace}
use Rattle.qm_parser.specs.Reading.{refused}
use Rattle.qm_parser.specs.declared.parse_error.Refusal.{Refusal}
use Rattle.qm_parser.specs.declared.place_characters.Character.{Character}
use Rattle.qm_parser.specs.declared.refusal_kind.RefusalKind.{RefusalKind}
use Rattle.qm_parser.specs.declared.refusal_kind.RefusalKind.TheVariants.{StrayBoost, Fuzzy, Wildcard, FieldWithoutName, Regex, Range, Touching}

abbrev pub first : List Character → Option Character
first [] = None
first (c ∷ cs) = Some c

-- whether this character is the first
abbrev pub begins : ℕ → List Character → Bool
begins sign [] = false
begins sign (c ∷ cs) = c.letter == sign

-- this sign is taken where it is the first: its place, and the characters behind it
abbrev pub sign_at : ℕ → List Character → Option ℕ × List Character
sign_at sign [] = (None, [])
sign_at sign (c ∷ cs) = if c.letter == sign then (Some c.place, cs) else (None, c ∷ cs)

-- whether nothing follows, or white space
abbrev pub gap_follows : List Character → Bool
gap_follows [] = true
gap_follows (c ∷ cs) = is_whitespace c.letter

-- whether a token may end here: nothing follows, or white space, or a `)`
abbrev pub ends : List Character → Bool
ends [] = true
ends (c ∷ cs) = is_whitespace c.letter || (c.letter == 41)

-- whether a token may end here, or a `^` follows
abbrev pub is_apart : List Character → Bool
is_apart cs = ends cs || begins 94 cs

-- `[`, `]`, `{`, `}`, `<` and `>`
abbrev pub is_range_sign : ℕ → Bool
is_range_sign c = (c == 91) || ((c == 93) || ((c == 123) || ((c == 125) || ((c == 60) || (c == 62)))))

-- what is wrong with a character where no token can begin with it: `^`, `~`, `*` or `?`, `:`, `/`, or
-- another one, which touches the token before it
abbrev pub misplaced : ℕ → RefusalKind
misplaced c =
    if c == 94 then StrayBoost
    else if c == 126 then Fuzzy
    else if (c == 42) || (c == 63) then Wildcard
    else if c == 58 then FieldWithoutName
    else if c == 47 then Regex
    else if is_range_sign c then Range
    else Touching

-- that a token ends here
unfoldable pub end_at : List Character → Result (Unit {0}) Refusal
end_at [] = Ok tt
end_at (c ∷ cs) = if ends (c ∷ cs) then Ok tt else refused (misplaced c.letter) c.place
