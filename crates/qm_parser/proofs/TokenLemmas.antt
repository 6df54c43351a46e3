-- The tokens that were cut, and those that follow.
use Rattle.std.proofs.Common.{◌≡◌, ℕ, ◌+◌, ◌-◌, ◌<◌, zero, suc, true, false, cond, List, [], ◌∷◌, ◌++◌, None, Some, Result, Ok, Err, drop, refl, sym, ap, ◌∙◌, append_assoc, append-nil, arith}
use Rattle.std.specs.Char.{is_whitespace}
use Rattle.qm_parser.proofs.CharacterLemmas.{next-is, none-is}
use Rattle.qm_parser.specs.Pieces.{Piece, piece_at}
use Rattle.qm_parser.specs.Reading.{Gives, Reads, ◌>>=◌}
use Rattle.qm_parser.specs.Signs.{first}
use Rattle.qm_parser.specs.Tokens.{Token, tokens_at}
use Rattle.qm_parser.specs.declared.parse_error.ParseError.{ParseError}
use Rattle.qm_parser.specs.declared.parse_error.ParseError.TheVariants.{Memory, Refused}
use Rattle.qm_parser.specs.declared.parse_error.Refusal.{Refusal}
use Rattle.qm_parser.specs.declared.place_characters.Character.{Character}

abbrev Tokens : Type 0
Tokens = Result (List Token) Refusal

-- these tokens, and what was cut behind them
abbrev pub with_tokens : List Token → Result (List Token) Refusal → Result (List Token) Refusal
with_tokens front (Ok ts) = Ok (front ++ ts)
with_tokens front (Err r) = Err r

pub with_tokens-none : (r : Tokens) → with_tokens [] r ≡ r
with_tokens-none (Ok ts) = refl
with_tokens-none (Err r) = refl

with_tokens-push : (front : List Token) (t : Token) (r : Tokens) → with_tokens front (r >>= λ ts. Ok (t ∷ ts)) ≡ with_tokens (front ++ t ∷ []) r
with_tokens-push front t (Err r) = refl
with_tokens-push front t (Ok ts) = ap Ok (sym (append_assoc front (t ∷ []) ts))

abbrev pub placed : Piece → ℕ → Token
placed piece place = record { piece = piece; place = place }

-- what a token's reader makes of the tokens
abbrev pub cut : ℕ → Character → Piece × List Character → Tokens
cut n c p = tokens_at n p.1 >>= λ ts. Ok (placed p.0 c.place ∷ ts)

pub unfolded : (n : ℕ) (c : Character) (cs : List Character) →
    tokens_at (suc n) (c ∷ cs) ≡ cond (is_whitespace c.letter) (tokens_at n cs) (piece_at c (c ∷ cs) >>= cut n c)
unfolding tokens_at
unfolded n c cs = refl

at_space : (n : ℕ) (c : Character) (cs : List Character) → Some c ≡ first cs → is_whitespace c.letter ≡ true → tokens_at (suc n) cs ≡ tokens_at n (drop 1 cs)
at_space n c cs next is = ap (tokens_at (suc n)) (next-is cs c next) ∙ unfolded n c (drop 1 cs)
    ∙ ap (λ b. cond b (tokens_at n (drop 1 cs)) (piece_at c (c ∷ drop 1 cs) >>= cut n c)) is

at_piece : (n : ℕ) (c : Character) (cs : List Character) (read : Result (Piece × List Character) Refusal) →
    Some c ≡ first cs → is_whitespace c.letter ≡ false → piece_at c cs ≡ read → tokens_at (suc n) cs ≡ (read >>= cut n c)
at_piece n c cs read next is reads = ap (tokens_at (suc n)) (next-is cs c next) ∙ unfolded n c (drop 1 cs)
    ∙ ap (λ b. cond b (tokens_at n (drop 1 cs)) (piece_at c (c ∷ drop 1 cs) >>= cut n c)) is
    ∙ ap (λ l. piece_at c l >>= cut n c) (sym (next-is cs c next)) ∙ ap (λ r. r >>= cut n c) reads

one_less : (count i : ℕ) → i < count → count - i ≡ suc (count - (i + 1))
one_less count i h = omega arith

pub tokens-space : (count i : ℕ) (c : Character) (cs : List Character) (front : List Token) (whole : Tokens) → i < count →
    Some c ≡ first cs → is_whitespace c.letter ≡ true → with_tokens front (tokens_at (count - i) cs) ≡ whole →
    with_tokens front (tokens_at (count - (i + 1)) (drop 1 cs)) ≡ whole
tokens-space count i c cs front whole below next is kept =
    sym (ap (with_tokens front) (ap (λ n. tokens_at n cs) (one_less count i below) ∙ at_space (count - (i + 1)) c cs next is)) ∙ kept

pub tokens-more : (count i : ℕ) (c : Character) (cs rest : List Character) (piece : Piece) (front : List Token) (whole : Tokens) → i < count →
    Some c ≡ first cs → is_whitespace c.letter ≡ false → piece_at c cs ≡ Ok (piece, rest) → with_tokens front (tokens_at (count - i) cs) ≡ whole →
    with_tokens (front ++ placed piece c.place ∷ []) (tokens_at (count - (i + 1)) rest) ≡ whole
tokens-more count i c cs rest piece front whole below next is reads kept =
    sym (with_tokens-push front (placed piece c.place) (tokens_at (count - (i + 1)) rest))
    ∙ sym (ap (with_tokens front) (ap (λ n. tokens_at n cs) (one_less count i below) ∙ at_piece (count - (i + 1)) c cs (Ok (piece, rest)) next is reads)) ∙ kept

tokens-refused : (count i : ℕ) (c : Character) (cs : List Character) (r : Refusal) (front : List Token) (whole : Tokens) → i < count →
    Some c ≡ first cs → is_whitespace c.letter ≡ false → piece_at c cs ≡ Err r → with_tokens front (tokens_at (count - i) cs) ≡ whole → whole ≡ Err r
tokens-refused count i c cs r front whole below next is reads kept =
    sym kept ∙ ap (with_tokens front) (ap (λ n. tokens_at n cs) (one_less count i below) ∙ at_piece (count - (i + 1)) c cs (Err r) next is reads)

-- a token that was refused
pub tokens-error : {V P : Type 0} (view : V → List Token) (piece_view : P → Piece) (count i : ℕ) (c : Character) (cs left : List Character) (e : ParseError)
    (front : List Token) (whole : Tokens) → i < count → Some c ≡ first cs → is_whitespace c.letter ≡ false →
    Reads piece_view (Err e) left (piece_at c cs) → with_tokens front (tokens_at (count - i) cs) ≡ whole → Gives view (Err e) whole
tokens-error view piece_view count i c cs left Memory front whole below next is reads kept = tt
tokens-error view piece_view count i c cs left (Refused r) front whole below next is reads kept = tokens-refused count i c cs r front whole below next is reads kept

pub at_none : (n : ℕ) → tokens_at n [] ≡ Ok []
unfolding tokens_at
at_none zero = refl
at_none (suc n) = refl

-- no character is left
pub tokens-none : (n : ℕ) (cs : List Character) (front : List Token) (whole : Tokens) →
    None ≡ first cs → with_tokens front (tokens_at n cs) ≡ whole → whole ≡ Ok front
tokens-none n cs front whole none kept =
    sym kept ∙ ap (λ l. with_tokens front (tokens_at n l)) (none-is cs none) ∙ ap (with_tokens front) (at_none n) ∙ ap Ok (append-nil front)

at_zero : (cs : List Character) → tokens_at zero cs ≡ Ok []
unfolding tokens_at
at_zero cs = refl

-- so many were read
pub tokens-done : (count i : ℕ) (cs : List Character) (front : List Token) (whole : Tokens) → i ≡ count →
    with_tokens front (tokens_at (count - i) cs) ≡ whole → whole ≡ Ok front
tokens-done count i cs front whole at_end kept =
    let none : count - i ≡ zero = omega arith in
    sym kept ∙ ap (λ n. with_tokens front (tokens_at n cs)) none ∙ ap (with_tokens front) (at_zero cs) ∙ ap Ok (append-nil front)
