-- The numbers of a query: slops and boosts.
use Rattle.std.specs.Prelude.{ℕ, ◌+◌, ◌-◌, ◌*◌, ◌^◌, min, nat_lt, if◌then◌else◌, List, [], ◌∷◌, Option, None, Some, Result, Ok}
use Rattle.std.specs.Char.{is_ascii_digit}
use Rattle.qm_parser.specs.Reading.{refused, ◌>>=◌}
use Rattle.qm_parser.specs.Signs.{end_at, ends, sign_at}
use Rattle.qm_parser.specs.declared.parse_error.Refusal.{Refusal}
use Rattle.qm_parser.specs.declared.place_characters.Character.{Character}
use Rattle.qm_parser.specs.declared.refusal_kind.RefusalKind.TheVariants.{BoostNotWhole, BoostTooGreat, BoostWithoutNumber, SlopTooGreat, SlopWithoutNumber}

-- the number of these digits behind a number, and what follows; no number is told apart from
-- 4294967296 or one above it
unfoldable pub digits_at : ℕ → List Character → ℕ × List Character
digits_at number [] = (number, [])
digits_at number (c ∷ cs) =
    if is_ascii_digit c.letter then digits_at (min (number * 10 + (c.letter - 48)) (2 ^ 32)) cs else (number, c ∷ cs)

-- the number that follows, none where no digit follows
unfoldable pub number_at : List Character → Option ℕ × List Character
number_at [] = (None, [])
number_at (c ∷ cs) = if is_ascii_digit c.letter then (Some (digits_at 0 (c ∷ cs)).0, (digits_at 0 (c ∷ cs)).1) else (None, c ∷ cs)

-- what a number behind a `~` at this place says, or none
abbrev pub slop_of : ℕ → Option ℕ × List Character → Result (ℕ × List Character) Refusal
slop_of place (None, cs) = refused SlopWithoutNumber place
slop_of place (Some n, cs) = if nat_lt n (2 ^ 32) then Ok (n, cs) else refused SlopTooGreat place

-- the slop behind a `~` at this place, up to 4294967295
unfoldable pub slop_at : ℕ → List Character → Result (ℕ × List Character) Refusal
slop_at place cs = slop_of place (number_at cs)

-- what a number behind a `^` at this place says, or none
abbrev pub factor_of : ℕ → Option ℕ × List Character → Result (ℕ × List Character) Refusal
factor_of place (None, cs) = refused BoostWithoutNumber place
factor_of place (Some n, cs) =
    if ends cs then (if nat_lt n (2 ^ 31) then Ok (n, cs) else refused BoostTooGreat place) else refused BoostNotWhole place

-- the boost behind a `^` at this place, up to 2147483647; the token ends behind it
unfoldable pub factor_at : ℕ → List Character → Result (ℕ × List Character) Refusal
factor_at place cs = factor_of place (number_at cs)

-- what a `^` says, or none
abbrev pub boost_of : Option ℕ × List Character → Result (Option ℕ × List Character) Refusal
boost_of (Some place, cs) = factor_at place cs >>= λ n. Ok (Some n.0, n.1)
boost_of (None, cs) = end_at cs >>= λ u. Ok (None, cs)

-- the boost behind a `^`, or none where the token ends without one
unfoldable pub boost_at : List Character → Result (Option ℕ × List Character) Refusal
boost_at cs = boost_of (sign_at 94 cs)
