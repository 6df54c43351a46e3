-- No reader leaves more characters than it was handed, and each token has one at least. So there are at most as many
-- tokens as characters: reading more of them finds no other.
use Rattle.std.proofs.Common.{◌≡◌, ℕ, ◌≤◌, ◌+◌, zero, suc, Bool, true, false, cond, List, [], ◌∷◌, Option, None, Some, Result, Ok, Err, drop, length, refl, sym, ap, ◌∙◌, arith}
use Rattle.std.specs.Char.{is_ascii_digit, is_whitespace}
use Rattle.std.specs.Str.{bytes_eq}
use Rattle.std.specs.Prelude.{codes, min, not, ◌||◌, ◌*◌, ◌-◌, ◌==◌, nat_lt, ◌^◌}
use Rattle.qm_parser.proofs.LetterLemmas.{turned}
use Rattle.qm_parser.proofs.TokenLemmas.{at_none, cut, placed, unfolded}
use Rattle.qm_parser.specs.Letters.{is_inner_sign, is_letter, letters_at, turn}
use Rattle.qm_parser.specs.Numbers.{boost_at, boost_of, digits_at, factor_at, factor_of, number_at, slop_at, slop_of}
use Rattle.qm_parser.specs.Pieces.{Piece, behind_name, behind_quote, boosted_leaf, begins_nothing, ended_phrase, leaf_behind_star, phrase_at, phrase_with_slop, phrase_with_star}
use Rattle.qm_parser.specs.Pieces.{piece_at, plain_word, signed, word_at, word_with_colon, word_with_star}
use Rattle.qm_parser.specs.Query.{Leaf}
use Rattle.qm_parser.specs.Reading.{◌>>=◌}
use Rattle.qm_parser.specs.Signs.{begins, end_at, ends, gap_follows, is_apart, sign_at}
use Rattle.qm_parser.specs.Tokens.{tokens_at}
use Rattle.qm_parser.specs.declared.letters.Turn.{Turn}
use Rattle.qm_parser.specs.declared.letters.Turn.TheVariants.{Take, Escape, Stop}
use Rattle.qm_parser.specs.declared.parse_error.Refusal.{Refusal}
use Rattle.qm_parser.specs.declared.parsed_query.Sign.{Sign}
use Rattle.qm_parser.specs.declared.place_characters.Character.{Character}

-- what was read leaves at most so many characters
abbrev pub Leaves : {X : Type 0} → ℕ → Result (X × List Character) Refusal → Type 0
Leaves n (Ok x) = length x.1 ≤ n
Leaves n (Err r) = Unit {0}

leaves-then : {X Y : Type 0} (n : ℕ) (read : Result (X × List Character) Refusal) (f : X × List Character → Result (Y × List Character) Refusal) →
    Leaves n read → ((x : X × List Character) → length x.1 ≤ n → Leaves n (f x)) → Leaves n (read >>= f)
leaves-then n (Ok x) f h k = k x h
leaves-then n (Err r) f h k = tt

-- behind a test that leaves all
leaves-test : {X Y : Type 0} (n : ℕ) (read : Result X Refusal) (f : X → Result (Y × List Character) Refusal) → ((x : X) → Leaves n (f x)) → Leaves n (read >>= f)
leaves-test n (Ok x) f k = k x
leaves-test n (Err r) f k = tt

leaves-if : {X : Type 0} (n : ℕ) (b : Bool) (x y : Result (X × List Character) Refusal) → Leaves n x → Leaves n y → Leaves n (cond b x y)
leaves-if n true x y h k = h
leaves-if n false x y h k = k

pub leaves-more : {X : Type 0} (m n : ℕ) (read : Result (X × List Character) Refusal) → m ≤ n → Leaves m read → Leaves n read
leaves-more m n (Ok x) below h = omega arith
leaves-more m n (Err r) below h = tt

left-if : {X : Type 0} (n : ℕ) (b : Bool) (x y : X × List Character) → length x.1 ≤ n → length y.1 ≤ n → length (cond b x y).1 ≤ n
left-if n true x y h k = h
left-if n false x y h k = k

sign-leaves : (sign : ℕ) (cs : List Character) → length (sign_at sign cs).1 ≤ length cs
sign-leaves sign [] = omega arith
sign-leaves sign (c ∷ cs) = left-if (length (c ∷ cs)) (c.letter == sign) (Some c.place, cs) (None, c ∷ cs) (omega arith) (omega arith)

-- ---- numbers

digits-leave : (n : ℕ) (cs : List Character) → length (digits_at n cs).1 ≤ length cs
unfolding digits_at
digits-leave n [] = omega arith
digits-leave n (c ∷ cs) = left-if (length (c ∷ cs)) (is_ascii_digit c.letter) (digits_at (min (n * 10 + (c.letter - 48)) (2 ^ 32)) cs) (n, c ∷ cs)
    (omega (arith, digits-leave (min (n * 10 + (c.letter - 48)) (2 ^ 32)) cs)) (omega arith)

number-leaves : (cs : List Character) → length (number_at cs).1 ≤ length cs
unfolding number_at
number-leaves [] = omega arith
number-leaves (c ∷ cs) = left-if (length (c ∷ cs)) (is_ascii_digit c.letter) (Some (digits_at 0 (c ∷ cs)).0, (digits_at 0 (c ∷ cs)).1) (None, c ∷ cs)
    (digits-leave 0 (c ∷ cs)) (omega arith)

slop-leaves : (place : ℕ) (cs : List Character) → Leaves (length cs) (slop_at place cs)
unfolding slop_at
slop-leaves place cs = of (number_at cs) (number-leaves cs)
  where
    of : (n : Option ℕ × List Character) → length n.1 ≤ length cs → Leaves (length cs) (slop_of place n)
    of (None, left) h = tt
    of (Some n, left) h = leaves-if (length cs) (nat_lt n (2 ^ 32)) _ _ h tt

factor-leaves : (place : ℕ) (cs : List Character) → Leaves (length cs) (factor_at place cs)
unfolding factor_at
factor-leaves place cs = of (number_at cs) (number-leaves cs)
  where
    of : (n : Option ℕ × List Character) → length n.1 ≤ length cs → Leaves (length cs) (factor_of place n)
    of (None, left) h = tt
    of (Some n, left) h = leaves-if (length cs) (ends left) _ _ (leaves-if (length cs) (nat_lt n (2 ^ 31)) _ _ h tt) tt

boost-leaves : (cs : List Character) → Leaves (length cs) (boost_at cs)
unfolding boost_at
boost-leaves cs = of (sign_at 94 cs) (sign-leaves 94 cs)
  where
    of : (s : Option ℕ × List Character) → length s.1 ≤ length cs → Leaves (length cs) (boost_of s)
    of (Some place, left) h = leaves-then (length cs) (factor_at place left) _ (leaves-more (length left) (length cs) (factor_at place left) h (factor-leaves place left)) (λ x k. k)
    of (None, left) h = leaves-test (length cs) (end_at left) _ (λ u. h)

-- ---- letters

turn-leaves : (n : ℕ) (quoted : Bool) (c : Character) (cs : List Character) (t : Result Turn Refusal) → Leaves n (letters_at quoted None cs) →
    Leaves n (letters_at quoted (Some c.place) cs) → (t ≡ Ok Stop → length (c ∷ cs) ≤ n) → Leaves n (t >>= turned quoted c cs)
turn-leaves n quoted c cs (Err r) took escaped stopped = tt
turn-leaves n quoted c cs (Ok Take) took escaped stopped = leaves-then n (letters_at quoted None cs) _ took (λ x k. k)
turn-leaves n quoted c cs (Ok Escape) took escaped stopped = escaped
turn-leaves n quoted c cs (Ok Stop) took escaped stopped = stopped refl

letters-leave : (quoted : Bool) (escape : Option ℕ) (cs : List Character) → Leaves (length cs) (letters_at quoted escape cs)
unfolding letters_at
letters-leave quoted None [] = omega arith
letters-leave quoted (Some place) [] = tt
letters-leave quoted escape (c ∷ cs) = turn-leaves (length (c ∷ cs)) quoted c cs (turn quoted escape c.letter)
    (leaves-more (length cs) (length (c ∷ cs)) (letters_at quoted None cs) (omega arith) (letters-leave quoted None cs))
    (leaves-more (length cs) (length (c ∷ cs)) (letters_at quoted (Some c.place) cs) (omega arith) (letters-leave quoted (Some c.place) cs))
    (λ e. omega arith)

-- a word has a character at least, where its first is a letter or a `\`
first-leaves : (c : Character) (cs : List Character) → (turn false None c.letter ≡ Ok Stop → ⊥) → Leaves (length cs) (letters_at false None (c ∷ cs))
unfolding letters_at
first-leaves c cs goes = turn-leaves (length cs) false c cs (turn false None c.letter) (letters-leave false None cs) (letters-leave false (Some c.place) cs) (λ e. absurd (goes e))

-- ---- tokens

leaf-leaves : (l : Leaf) (cs : List Character) → Leaves (length cs) (boosted_leaf l cs)
unfolding boosted_leaf
leaf-leaves l cs = leaves-then (length cs) (boost_at cs) _ (boost-leaves cs) (λ x k. k)

star-leaves : (l : Leaf) (star : ℕ) (cs : List Character) → Leaves (length cs) (leaf_behind_star l star cs)
unfolding leaf_behind_star
star-leaves l star cs = leaves-if (length cs) (is_apart cs) _ _ (leaf-leaves l cs) tt

signed-leaves : (sign : Sign) (place : ℕ) (cs : List Character) → Leaves (length (drop 1 cs)) (signed sign place cs)
unfolding signed
signed-leaves sign place cs = leaves-if (length (drop 1 cs)) (gap_follows (drop 1 cs)) _ _ tt (omega arith)

quote-leaves : (text : List ℕ) (cs : List Character) → Leaves (length cs) (behind_quote text cs)
unfolding behind_quote
quote-leaves text cs = of (sign_at 126 cs) (sign-leaves 126 cs)
  where
    starred : (s : Option ℕ × List Character) → length s.1 ≤ length cs → Leaves (length cs) (phrase_with_star text s)
    starred (Some star, left) h = leaves-more (length left) (length cs) _ h (star-leaves _ star left)
    starred (None, left) h = leaves-more (length left) (length cs) _ h (leaf-leaves _ left)

    of : (s : Option ℕ × List Character) → length s.1 ≤ length cs → Leaves (length cs) (phrase_with_slop text s)
    of (Some place, left) h = leaves-then (length cs) (slop_at place left) _ (leaves-more (length left) (length cs) _ h (slop-leaves place left))
        (λ x k. leaves-more (length x.1) (length cs) _ k (leaf-leaves _ x.1))
    of (None, left) h = let kept = sign-leaves 42 left in starred (sign_at 42 left) (omega arith)

phrase-leaves : (place : ℕ) (cs : List Character) → Leaves (length (drop 1 cs)) (phrase_at place cs)
unfolding phrase_at
phrase-leaves place cs = leaves-then (length (drop 1 cs)) (letters_at true None (drop 1 cs)) _ (letters-leave true None (drop 1 cs))
    (λ x k. let kept = sign-leaves 34 x.1 in of x.0 (sign_at 34 x.1) (omega arith))
  where
    of : (text : List ℕ) (s : Option ℕ × List Character) → length s.1 ≤ length (drop 1 cs) → Leaves (length (drop 1 cs)) (ended_phrase text place s)
    of text (Some quote, left) h = leaves-more (length left) (length (drop 1 cs)) _ h (quote-leaves text left)
    of text (None, left) h = tt

name-leaves : (name : List ℕ) (place : ℕ) (cs : List Character) → Leaves (length cs) (behind_name name place cs)
unfolding behind_name
name-leaves name place cs = leaves-if (length cs) (begins 42 cs) _ _ tt (leaves-if (length cs) (gap_follows cs) _ _ tt (omega arith))

plain-leaves : (w : List ℕ) (place : ℕ) (cs : List Character) → Leaves (length cs) (plain_word w place cs)
unfolding plain_word
plain-leaves w place cs =
    let same : length cs ≤ length cs = omega arith in
    leaves-if (length cs) (bytes_eq w (codes "AND")) _ _ (leaves-test (length cs) (end_at cs) _ (λ u. same))
    (leaves-if (length cs) (bytes_eq w (codes "OR")) _ _ (leaves-test (length cs) (end_at cs) _ (λ u. same))
    (leaves-if (length cs) (bytes_eq w (codes "NOT")) _ _ (leaves-test (length cs) (end_at cs) _ (λ u. same))
    (leaves-if (length cs) (bytes_eq w (codes "IN")) _ _ tt (leaf-leaves _ cs))))

word-leaves : (n place : ℕ) (cs : List Character) → Leaves n (letters_at false None cs) → Leaves n (word_at place cs)
unfolding word_at
word-leaves n place cs read = leaves-then n (letters_at false None cs) _ read
    (λ x k. let kept = sign-leaves 58 x.1 in of x.0 (sign_at 58 x.1) (omega arith))
  where
    starred : (w : List ℕ) (s : Option ℕ × List Character) → length s.1 ≤ n → Leaves n (word_with_star w place s)
    starred w (Some star, left) h = leaves-more (length left) n _ h (star-leaves _ star left)
    starred w (None, left) h = leaves-more (length left) n _ h (plain-leaves w place left)

    of : (w : List ℕ) (s : Option ℕ × List Character) → length s.1 ≤ n → Leaves n (word_with_colon w place s)
    of w (Some colon, left) h = leaves-more (length left) n _ h (name-leaves w place left)
    of w (None, left) h = let kept = sign-leaves 42 left in starred w (sign_at 42 left) (omega arith)

leaves-case : {X : Type 0} (n : ℕ) (b : Bool) (x y : Result (X × List Character) Refusal) → (b ≡ true → Leaves n x) → (b ≡ false → Leaves n y) → Leaves n (cond b x y)
leaves-case n true x y h k = h refl
leaves-case n false x y h k = k refl

pub neither : (a b : Bool) → a ≡ false → b ≡ false → (a || b) ≡ false
neither true b h k = h
neither false b h k = k

pub either-false : (a b : Bool) → (a || b) ≡ false → (a ≡ false) × (b ≡ false)
either-false true b h = absurd (cc)
either-false false b h = (refl, h)

-- what no other token begins with is no sign inside a word but a `\`
no-inner-sign : (c : ℕ) → (c == 92) ≡ false → (c == 40) ≡ false → (c == 41) ≡ false → (c == 34) ≡ false → (c == 42) ≡ false → begins_nothing c ≡ false → is_inner_sign c ≡ false
no-inner-sign c no_escape opens closes quote star other =
    let at94 = either-false (c == 94) _ other in
    let at126 = either-false (c == 126) _ at94.1 in
    let at63 = either-false (c == 63) _ at126.1 in
    let at58 = either-false (c == 58) _ at63.1 in
    let at47 = either-false (c == 47) _ at58.1 in
    let at91 = either-false (c == 91) _ at47.1 in
    let at93 = either-false (c == 93) _ at91.1 in
    let at123 = either-false (c == 123) _ at93.1 in
    let at125 = either-false (c == 125) _ at123.1 in
    neither _ _ (neither _ _ (neither _ _ (neither _ _ (neither _ _ (neither _ _ (neither _ _ (neither _ _ (neither _ _ (neither _ _ (neither _ _ (neither _ _ no_escape quote) opens) closes) star) at63.0) at58.0) at94.0) at126.0) at91.0) at93.0) at123.0) at125.0

turn-of : (c : ℕ) (escapes : Bool) → (c == 92) ≡ escapes → ((c == 92) ≡ false → is_letter false c ≡ true) → turn false None c ≡ Ok Stop → ⊥
unfolding turn
turn-of c true is letter stops =
    let escaped : Ok Escape ≡ turn false None c = sym (ap (λ b. cond b (Ok Escape) (cond (is_letter false c) (Ok Take) (Ok Stop))) is) in cc
turn-of c false is letter stops =
    let taken : Ok Take ≡ turn false None c =
    sym (ap (λ b. cond b (Ok Escape) (cond (is_letter false c) (Ok Take) (Ok Stop))) is ∙ ap (λ b. cond b (Ok Take) (Ok Stop)) (letter is)) in cc

-- so it begins a word
begins-word : (c : ℕ) → is_whitespace c ≡ false → (c == 40) ≡ false → (c == 41) ≡ false → (c == 34) ≡ false → (c == 42) ≡ false → begins_nothing c ≡ false →
    turn false None c ≡ Ok Stop → ⊥
begins-word c no_space opens closes quote star other = turn-of c (c == 92) refl
    (λ no_escape. ap not (neither (is_whitespace c) (is_inner_sign c) no_space (no-inner-sign c no_escape opens closes quote star other)))

-- a token leaves fewer characters than there were
pub piece-leaves : (c : Character) (cs : List Character) → is_whitespace c.letter ≡ false → Leaves (length cs) (piece_at c (c ∷ cs))
unfolding piece_at
piece-leaves c cs no_space =
    let same : length cs ≤ length cs = omega arith in
    leaves-case (length cs) (c.letter == 40) _ _ (λ e. same) (λ opens.
    leaves-case (length cs) (c.letter == 41) _ _ (λ e. leaves-then (length cs) (boost_at cs) _ (boost-leaves cs) (λ x k. k)) (λ closes.
    leaves-if (length cs) (c.letter == 43) _ _ (signed-leaves _ c.place (c ∷ cs))
    (leaves-if (length cs) (c.letter == 45) _ _ (signed-leaves _ c.place (c ∷ cs))
    (leaves-case (length cs) (c.letter == 34) _ _ (λ e. phrase-leaves c.place (c ∷ cs)) (λ quote.
    leaves-case (length cs) (c.letter == 42) _ _ (λ e. star-leaves _ c.place cs) (λ star.
    leaves-case (length cs) (begins_nothing c.letter) _ _ (λ e. tt) (λ other.
    word-leaves (length cs) c.place (c ∷ cs) (first-leaves c cs (begins-word c.letter no_space opens closes quote star other)))))))))

-- ---- the tokens of a text

enough-behind : (m n : ℕ) (c : Character) (cs : List Character) (read : Result (Piece × List Character) Refusal) → Leaves (length cs) read →
    ((left : List Character) → length left ≤ length cs → tokens_at m left ≡ tokens_at n left) → (read >>= cut m c) ≡ (read >>= cut n c)
enough-behind m n c cs (Err r) leaves same = refl
enough-behind m n c cs (Ok p) leaves same = ap (λ read. read >>= λ ts. Ok (placed p.0 c.place ∷ ts)) (same p.1 leaves)

enough-step : (m n : ℕ) (c : Character) (cs : List Character) (space : Bool) → is_whitespace c.letter ≡ space →
    ((left : List Character) → length left ≤ length cs → tokens_at m left ≡ tokens_at n left) → tokens_at (suc m) (c ∷ cs) ≡ tokens_at (suc n) (c ∷ cs)
enough-step m n c cs true is same =
    unfolded m c cs ∙ ap (λ b. cond b (tokens_at m cs) (piece_at c (c ∷ cs) >>= cut m c)) is ∙ same cs (omega arith)
    ∙ sym (unfolded n c cs ∙ ap (λ b. cond b (tokens_at n cs) (piece_at c (c ∷ cs) >>= cut n c)) is)
enough-step m n c cs false is same =
    unfolded m c cs ∙ ap (λ b. cond b (tokens_at m cs) (piece_at c (c ∷ cs) >>= cut m c)) is
    ∙ enough-behind m n c cs (piece_at c (c ∷ cs)) (piece-leaves c cs is) same
    ∙ sym (unfolded n c cs ∙ ap (λ b. cond b (tokens_at n cs) (piece_at c (c ∷ cs) >>= cut n c)) is)

-- As many tokens as there are characters are enough: reading more of them finds no other.
pub tokens-enough : (m n : ℕ) (cs : List Character) → length cs ≤ m → length cs ≤ n → tokens_at m cs ≡ tokens_at n cs
tokens-enough m n [] below above = at_none m ∙ sym (at_none n)
tokens-enough zero n (c ∷ cs) below above = absurd (omega arith)
tokens-enough (suc m) zero (c ∷ cs) below above = absurd (omega arith)
tokens-enough (suc m) (suc n) (c ∷ cs) below above =
    enough-step m n c cs (is_whitespace c.letter) refl (λ left shorter. tokens-enough m n left (omega arith) (omega arith))
