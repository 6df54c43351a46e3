-- Words, numbers and the like are read back from their characters.
use Rattle.std.proofs.Common.{◌≡◌, ℕ, ◌+◌, ◌-◌, ◌*◌, ◌/◌, ◌%◌, ◌<◌, ◌≤◌, min, Bool, true, false, cond, List, [], ◌∷◌, ◌++◌, Option, None, Some, Result, Ok, length, refl, sym, ap, ◌∙◌, append_assoc, arith, lt-ltb, subst}
use Rattle.std.proofs.lemmas.Bool.Decides.{nat_tests}
use Rattle.std.proofs.lemmas.Fmt.{decimal_by_steps}
use Rattle.std.specs.Char.{encode_utf8, is_ascii_digit, is_whitespace}
use Rattle.std.specs.Fmt.{decimal}
use Rattle.std.specs.List.{AllByRecursion}
use Rattle.std.specs.Prelude.{◌==◌, ◌||◌, not}
use Rattle.std.specs.Str.{encode_utf8_all}
use Rattle.qm_parser.proofs.LetterLemmas.{Letters, turned, unfolded}
use Rattle.qm_parser.proofs.TokensEnough.{either-false}
use Rattle.qm_parser.specs.Characters.{placed_from}
use Rattle.qm_parser.specs.Letters.{is_inner_sign, is_letter, is_sign, letters_at, turn}
use Rattle.qm_parser.specs.Numbers.{boost_at, digits_at, factor_at, factor_of, number_at, slop_at, slop_of}
use Rattle.qm_parser.specs.Reading.{refused, ◌>>=◌}
use Rattle.qm_parser.specs.Signs.{end_at}
use Rattle.qm_parser.specs.Spelling.{boost_text, escaped}
use Rattle.qm_parser.specs.declared.letters.Turn.TheVariants.{Take, Escape, Stop}
use Rattle.qm_parser.specs.declared.parse_error.Refusal.{Refusal}
use Rattle.qm_parser.specs.declared.place_characters.Character.{Character}
use Rattle.qm_parser.specs.declared.refusal_kind.RefusalKind.TheVariants.{BoostTooGreat, SlopTooGreat, StrayEscape}

abbrev pub character : ℕ → ℕ → Character
character c place = record { letter = c; place = place }

-- this was read, and these characters are left, wherever they stand
abbrev pub ReadsTo : {X : Type 0} → Result (X × List Character) Refusal → X → List ℕ → Type 0
ReadsTo read x rest = (place : ℕ) × (read ≡ Ok (x, placed_from place rest))

-- ---- letters

-- letters that can be typed: between quotes any, and in a word all but white space
abbrev pub AreLetters : Bool → List ℕ → Type 0
AreLetters true w = Unit {0}
AreLetters false w = AllByRecursion (λ c. is_whitespace c ≡ false) w

next-letters : (is_quoted : Bool) (c : ℕ) (w : List ℕ) → AreLetters is_quoted (c ∷ w) → AreLetters is_quoted w
next-letters true c w letters = tt
next-letters false c w letters = letters.1

pub record NoSign (c : ℕ) : Type 0 where
  pub inner : is_inner_sign c ≡ false
  pub escape : (c == 92) ≡ false
  pub quote : (c == 34) ≡ false
  pub opens : (c == 40) ≡ false
  pub closes : (c == 41) ≡ false
  pub star : (c == 42) ≡ false
  pub question : (c == 63) ≡ false
  pub colon : (c == 58) ≡ false
  pub caret : (c == 94) ≡ false
  pub tilde : (c == 126) ≡ false
  pub from : (c == 91) ≡ false
  pub to : (c == 93) ≡ false
  pub above : (c == 123) ≡ false
  pub below : (c == 125) ≡ false
  pub plus : (c == 43) ≡ false
  pub minus : (c == 45) ≡ false
  pub slash : (c == 47) ≡ false
  pub less : (c == 60) ≡ false
  pub greater : (c == 62) ≡ false

pub no-sign : (c : ℕ) → is_sign c ≡ false → NoSign c
no-sign c is =
    let a62 = either-false _ (c == 62) is in
    let a60 = either-false _ (c == 60) a62.0 in
    let a47 = either-false _ (c == 47) a60.0 in
    let a45 = either-false _ (c == 45) a47.0 in
    let a43 = either-false (is_inner_sign c) (c == 43) a45.0 in
    let a125 = either-false _ (c == 125) a43.0 in
    let a123 = either-false _ (c == 123) a125.0 in
    let a93 = either-false _ (c == 93) a123.0 in
    let a91 = either-false _ (c == 91) a93.0 in
    let a126 = either-false _ (c == 126) a91.0 in
    let a94 = either-false _ (c == 94) a126.0 in
    let a58 = either-false _ (c == 58) a94.0 in
    let a63 = either-false _ (c == 63) a58.0 in
    let a42 = either-false _ (c == 42) a63.0 in
    let a41 = either-false _ (c == 41) a42.0 in
    let a40 = either-false _ (c == 40) a41.0 in
    let a34 = either-false (c == 92) (c == 34) a40.0 in
    record {
      inner = a43.0;
      escape = a34.0;
      quote = a34.1;
      opens = a40.1;
      closes = a41.1;
      star = a42.1;
      question = a63.1;
      colon = a58.1;
      caret = a94.1;
      tilde = a126.1;
      from = a91.1;
      to = a93.1;
      above = a123.1;
      below = a125.1;
      plus = a43.1;
      minus = a45.1;
      slash = a47.1;
      less = a60.1;
      greater = a62.1;
    }

letter : (is_quoted : Bool) (c : ℕ) (w : List ℕ) → AreLetters is_quoted (c ∷ w) → NoSign c → is_letter is_quoted c ≡ true
letter true c w letters none = ap not none.quote
letter false c w letters none = ap (λ b. not (b || is_inner_sign c)) letters.0 ∙ ap not none.inner

takes : (is_quoted : Bool) (c : ℕ) (w : List ℕ) → AreLetters is_quoted (c ∷ w) → NoSign c → turn is_quoted None c ≡ Ok Take
unfolding turn
takes is_quoted c w letters none =
    ap (λ b. cond b (Ok Escape) (cond (is_letter is_quoted c) (Ok Take) (Ok Stop))) none.escape
    ∙ ap (λ b. cond b (Ok Take) (Ok Stop)) (letter is_quoted c w letters none)

escapes : (is_quoted : Bool) → turn is_quoted None 92 ≡ Ok Escape
unfolding turn
escapes is_quoted = refl

takes-sign : (is_quoted : Bool) (place c : ℕ) → is_sign c ≡ true → turn is_quoted (Some place) c ≡ Ok Take
unfolding turn
takes-sign is_quoted place c is = ap (λ b. cond b (Ok Take) (refused StrayEscape place)) is

-- one letter more
more : (c : ℕ) (w rest : List ℕ) (read : Letters) → ReadsTo read (encode_utf8_all w) rest →
    ReadsTo (read >>= λ letters. Ok (encode_utf8 c ++ letters.0, letters.1)) (encode_utf8_all (c ∷ w)) rest
more c w rest read is = (is.0, ap (λ r. r >>= λ letters. Ok (encode_utf8 c ++ letters.0, letters.1)) is.1)

abbrev Letters-read : Bool → List ℕ → ℕ → List ℕ → Type 0
Letters-read is_quoted w stop rest = (place : ℕ) → ReadsTo (letters_at is_quoted None (placed_from place (escaped w ++ (stop ∷ rest)))) (encode_utf8_all w) (stop ∷ rest)

one-letter : (is_quoted : Bool) (c : ℕ) (w : List ℕ) (stop : ℕ) (rest : List ℕ) (place : ℕ) (sign : Bool) → is_sign c ≡ sign → AreLetters is_quoted (c ∷ w) →
    Letters-read is_quoted w stop rest →
    ReadsTo (letters_at is_quoted None (placed_from place (cond sign (92 ∷ c ∷ escaped w) (c ∷ escaped w) ++ (stop ∷ rest)))) (encode_utf8_all (c ∷ w)) (stop ∷ rest)
one-letter is_quoted c w stop rest place true is letters others =
    let second = place + length (encode_utf8 92) in
    let third = second + length (encode_utf8 c) in
    let behind = placed_from third (escaped w ++ (stop ∷ rest)) in
    let read = more c w (stop ∷ rest) (letters_at is_quoted None behind) (others third) in (
      read.0,
      unfolded is_quoted None (character 92 place) (character c second ∷ behind)
          ∙ ap (λ t. t >>= turned is_quoted (character 92 place) (character c second ∷ behind)) (escapes is_quoted)
          ∙ unfolded is_quoted (Some place) (character c second) behind
          ∙ ap (λ t. t >>= turned is_quoted (character c second) behind) (takes-sign is_quoted place c is) ∙ read.1,
    )
one-letter is_quoted c w stop rest place false is letters others =
    let second = place + length (encode_utf8 c) in
    let behind = placed_from second (escaped w ++ (stop ∷ rest)) in
    let read = more c w (stop ∷ rest) (letters_at is_quoted None behind) (others second) in (
      read.0,
      unfolded is_quoted None (character c place) behind
          ∙ ap (λ t. t >>= turned is_quoted (character c place) behind) (takes is_quoted c w letters (no-sign c is)) ∙ read.1,
    )

-- escaped letters are read back, up to what is none
pub letters-read : (is_quoted : Bool) (w : List ℕ) (stop : ℕ) (rest : List ℕ) → AreLetters is_quoted w → turn is_quoted None stop ≡ Ok Stop →
    (place : ℕ) → ReadsTo (letters_at is_quoted None (placed_from place (escaped w ++ (stop ∷ rest)))) (encode_utf8_all w) (stop ∷ rest)
letters-read is_quoted [] stop rest letters stops place = (
  place,
  unfolded is_quoted None (character stop place) (placed_from (place + length (encode_utf8 stop)) rest)
      ∙ ap (λ t. t >>= turned is_quoted (character stop place) (placed_from (place + length (encode_utf8 stop)) rest)) stops,
)
letters-read is_quoted (c ∷ w) stop rest letters stops place =
    one-letter is_quoted c w stop rest place (is_sign c) refl letters (letters-read is_quoted w stop rest (next-letters is_quoted c w letters) stops)

-- ---- numbers

digit : (d : ℕ) → d < 10 → is_ascii_digit (48 + d) ≡ true
digit d below = grind (arith, nat_tests)

one-digit : (n d place : ℕ) (rest : List ℕ) → d < 10 → n * 10 + d < 4294967296 →
    (after : ℕ) × (digits_at n (placed_from place ((48 + d) ∷ rest)) ≡ digits_at (n * 10 + d) (placed_from after rest))
unfolding digits_at
one-digit n d place rest below small =
    let after = place + length (encode_utf8 (48 + d)) in
    let value : min (n * 10 + (48 + d - 48)) 4294967296 ≡ n * 10 + d = omega arith in (
      after,
      ap (λ b. cond b (digits_at (min (n * 10 + (48 + d - 48)) 4294967296) (placed_from after rest)) (n, placed_from place ((48 + d) ∷ rest))) (digit d below)
          ∙ ap (λ v. digits_at v (placed_from after rest)) value,
    )

first-digit : (d place : ℕ) (rest : List ℕ) → d < 10 →
    number_at (placed_from place ((48 + d) ∷ rest)) ≡ (Some (digits_at 0 (placed_from place ((48 + d) ∷ rest))).0, (digits_at 0 (placed_from place ((48 + d) ∷ rest))).1)
unfolding number_at
first-digit d place rest below =
    let cs = placed_from place ((48 + d) ∷ rest) in
    ap (λ b. cond b (Some (digits_at 0 cs).0, (digits_at 0 cs).1) (None, cs)) (digit d below)

-- these digits make the number, whatever follows
record Makes (n : ℕ) (ds : List ℕ) : Type 0 where
  number : n < 4294967296 → (place : ℕ) (rest : List ℕ) → (after : ℕ) × (digits_at 0 (placed_from place (ds ++ rest)) ≡ digits_at n (placed_from after rest))
  begun : (place : ℕ) (rest : List ℕ) → let cs = placed_from place (ds ++ rest) in number_at cs ≡ (Some (digits_at 0 cs).0, (digits_at 0 cs).1)

makes-one : (n : ℕ) → n < 10 → Makes n ((48 + n) ∷ [])
makes-one n below = record {
  number = λ small place rest.
      let read = one-digit 0 n place rest below (omega arith) in
      let value : 0 * 10 + n ≡ n = omega arith in
      (read.0, read.1 ∙ ap (λ v. digits_at v (placed_from read.0 rest)) value);
  begun = λ place rest. first-digit n place rest below;
}

makes-more : (n : ℕ) (ds : List ℕ) → 10 ≤ n → Makes (n / 10) ds → Makes n (ds ++ ((48 + n % 10) ∷ []))
makes-more n ds above made = record {
  number = λ small place rest.
      let front = made.number (omega arith) place ((48 + n % 10) ∷ rest) in
      let last = one-digit (n / 10) (n % 10) front.0 rest (omega arith) (omega arith) in
      let value : n / 10 * 10 + n % 10 ≡ n = omega arith in (
        last.0,
        ap (λ l. digits_at 0 (placed_from place l)) (append_assoc ds ((48 + n % 10) ∷ []) rest) ∙ front.1 ∙ last.1
            ∙ ap (λ v. digits_at v (placed_from last.0 rest)) value,
      );
  begun = λ place rest.
      let P : List ℕ → Type 0 = λ l. let cs = placed_from place l in number_at cs ≡ (Some (digits_at 0 cs).0, (digits_at 0 cs).1) in
      subst P (sym (append_assoc ds ((48 + n % 10) ∷ []) rest)) (made.begun place ((48 + n % 10) ∷ rest));
}

digits-end : (n stop place : ℕ) (rest : List ℕ) → is_ascii_digit stop ≡ false → digits_at n (placed_from place (stop ∷ rest)) ≡ (n, placed_from place (stop ∷ rest))
unfolding digits_at
digits-end n stop place rest none =
    let after = placed_from (place + length (encode_utf8 stop)) rest in
    ap (λ b. cond b (digits_at (min (n * 10 + (stop - 48)) 4294967296) after) (n, character stop place ∷ after)) none

-- a number is read back
pub number-read : (n stop : ℕ) (rest : List ℕ) (place : ℕ) → n < 4294967296 → is_ascii_digit stop ≡ false →
    (after : ℕ) × (number_at (placed_from place (decimal n ++ (stop ∷ rest))) ≡ (Some n, placed_from after (stop ∷ rest)))
number-read n stop rest place small none =
    let made = decimal_by_steps Makes makes-one makes-more n (omega arith) in
    let value = made.number small place (stop ∷ rest) in
    let read = value.1 ∙ digits-end n stop value.0 rest none in
    (value.0, made.begun place (stop ∷ rest) ∙ ap (λ d. (Some d.0, d.1)) read)

abbrev pub CanBoost : Option ℕ → Type 0
CanBoost None = Unit {0}
CanBoost (Some factor) = factor < 2147483648

factor-read : (n : ℕ) (rest : List ℕ) (at place : ℕ) → n < 2147483648 → ReadsTo (factor_at at (placed_from place (decimal n ++ (32 ∷ rest)))) n (32 ∷ rest)
unfolding factor_at
factor-read n rest at place small =
    let number = number-read n 32 rest place (omega arith) refl in (
      number.0,
      ap (factor_of at) number.1
          ∙ ap (λ b. cond b (Ok (n, placed_from number.0 (32 ∷ rest))) (refused BoostTooGreat at)) (lt-ltb n 2147483648 small),
    )

-- a boost is read back, and so is none
pub boost-read : (factor : Option ℕ) (rest : List ℕ) (place : ℕ) → CanBoost factor →
    ReadsTo (boost_at (placed_from place (boost_text factor ++ (32 ∷ rest)))) factor (32 ∷ rest)
unfolding boost_at end_at
boost-read None rest place can = (place, refl)
boost-read (Some n) rest place can =
    let number = factor-read n rest place (place + length (encode_utf8 94)) can in
    (number.0, ap (λ r. r >>= λ m. Ok (Some m.0, m.1)) number.1)

-- a slop is read back
pub slop-read : (n stop : ℕ) (rest : List ℕ) (at place : ℕ) → n < 4294967296 → is_ascii_digit stop ≡ false →
    ReadsTo (slop_at at (placed_from place (decimal n ++ (stop ∷ rest)))) n (stop ∷ rest)
unfolding slop_at
slop-read n stop rest at place small none =
    let number = number-read n stop rest place small none in (
      number.0,
      ap (slop_of at) number.1
          ∙ ap (λ b. cond b (Ok (n, placed_from number.0 (stop ∷ rest))) (refused SlopTooGreat at)) (lt-ltb n 4294967296 small),
    )
