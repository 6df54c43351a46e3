-- The tokens of a query are read back from their characters.
use Rattle.std.proofs.Common.{◌≡◌, ℕ, ◌+◌, ◌<◌, Bool, true, false, cond, List, [], ◌∷◌, ◌++◌, Option, None, Some, Ok, drop, length, refl, sym, ap, subst, ◌∙◌, arith}
use Rattle.std.proofs.lemmas.Str.{encodes-chars}
use Rattle.std.specs.Char.{encode_utf8, is_whitespace}
use Rattle.std.specs.Fmt.{decimal}
use Rattle.std.specs.List.{AllByRecursion}
use Rattle.std.specs.Prelude.{◌==◌, codes}
use Rattle.std.specs.Str.{bytes_eq, chars, encode_utf8_all}
use Rattle.qm_parser.proofs.TokensEnough.{either-false, neither}
use Rattle.qm_parser.proofs.WordsReadBack.{CanBoost, NoSign, ReadsTo, boost-read, character, letters-read, no-sign, slop-read}
use Rattle.qm_parser.specs.Characters.{placed_from}
use Rattle.qm_parser.specs.Letters.{is_sign, turn}
use Rattle.qm_parser.specs.Pieces.{behind_name, behind_quote, begins_nothing, boosted_leaf, ended_phrase, leaf_behind_star, leaf_piece, name_piece}
use Rattle.qm_parser.specs.Pieces.{phrase_at, piece_at, plain_word, word_at, word_with_colon}
use Rattle.qm_parser.specs.Query.{Leaf, all, beginning, phrase, phrase_beginning, word}
use Rattle.qm_parser.specs.Reading.{refused, ◌>>=◌}
use Rattle.qm_parser.specs.Signs.{begins, gap_follows, misplaced, sign_at}
use Rattle.qm_parser.specs.Spelling.{IsTypedWord, boost_text, escaped, is_operator}
use Rattle.qm_parser.specs.declared.letters.Turn.TheVariants.{Stop}
use Rattle.qm_parser.specs.declared.place_characters.Character.{Character}
use Rattle.qm_parser.specs.declared.refusal_kind.RefusalKind.TheVariants.{AnyValue, FieldWithoutValue}

-- ---- parts of queries with what may stand behind them

pub boosted-read : (l : Leaf) (factor : Option ℕ) (rest : List ℕ) (place : ℕ) → CanBoost factor →
    ReadsTo (boosted_leaf l (placed_from place (boost_text factor ++ (32 ∷ rest)))) (leaf_piece l factor) (32 ∷ rest)
unfolding boosted_leaf
boosted-read l factor rest place can =
    let read = boost-read factor rest place can in
    (read.0, ap (λ r. r >>= λ b. Ok (leaf_piece l b.0, b.1)) read.1)

pub star-read : (l : Leaf) (star : ℕ) (factor : Option ℕ) (rest : List ℕ) (place : ℕ) → CanBoost factor →
    ReadsTo (leaf_behind_star l star (placed_from place (boost_text factor ++ (32 ∷ rest)))) (leaf_piece l factor) (32 ∷ rest)
unfolding leaf_behind_star
star-read l star None rest place can = boosted-read l None rest place can
star-read l star (Some n) rest place can = boosted-read l (Some n) rest place can

-- ---- words

stops-space : (turn false None 32 ≡ Ok Stop) × (turn false None 94 ≡ Ok Stop) × (turn false None 42 ≡ Ok Stop) × (turn false None 58 ≡ Ok Stop) × (turn true None 34 ≡ Ok Stop)
unfolding turn
stops-space = (refl, refl, refl, refl, refl)

-- a word up to what is no letter
word-begun : (w : List ℕ) (stop : ℕ) (rest : List ℕ) (place : ℕ) → IsTypedWord w → turn false None stop ≡ Ok Stop →
    (after : ℕ) × (word_at place (placed_from place (escaped (chars w) ++ (stop ∷ rest))) ≡ word_with_colon w place (sign_at 58 (placed_from after (stop ∷ rest))))
unfolding word_at
word-begun w stop rest place typed stops =
    let read = letters-read false (chars w) stop rest typed.no_space stops place in (
      read.0,
      ap (λ r. r >>= λ b. word_with_colon b.0 place (sign_at 58 b.1)) read.1
          ∙ ap (λ b. word_with_colon b place (sign_at 58 (placed_from read.0 (stop ∷ rest)))) (encodes-chars w typed.text),
    )

passed : {A : Type 0} (a b c d : Bool) (x y z u v : A) → a ≡ false → b ≡ false → c ≡ false → d ≡ false → cond a x (cond b y (cond c z (cond d u v))) ≡ v
passed a b c d x y z u v is-a is-b is-c is-d =
    ap (λ t. cond t x (cond b y (cond c z (cond d u v)))) is-a ∙ ap (λ t. cond t y (cond c z (cond d u v))) is-b
    ∙ ap (λ t. cond t z (cond d u v)) is-c ∙ ap (λ t. cond t u v) is-d

plain : (w : List ℕ) (place : ℕ) (cs : List Character) → is_operator w ≡ false → plain_word w place cs ≡ boosted_leaf (word w) cs
unfolding plain_word
plain w place cs is =
    let set = either-false _ (bytes_eq w (codes "IN")) is in
    let negation = either-false _ (bytes_eq w (codes "NOT")) set.0 in
    let both = either-false (bytes_eq w (codes "AND")) (bytes_eq w (codes "OR")) negation.0 in
    passed _ _ _ _ _ _ _ _ _ both.0 both.1 negation.1 set.1

pub word-read : (w : List ℕ) (factor : Option ℕ) (rest : List ℕ) (place : ℕ) → IsTypedWord w → is_operator w ≡ false → CanBoost factor →
    ReadsTo (word_at place (placed_from place (escaped (chars w) ++ (boost_text factor ++ (32 ∷ rest))))) (leaf_piece (word w) factor) (32 ∷ rest)
word-read w None rest place typed is can =
    let begun = word-begun w 32 rest place typed stops-space.0 in
    let read = boosted-read (word w) None rest begun.0 can in
    (read.0, begun.1 ∙ plain w place (placed_from begun.0 (32 ∷ rest)) is ∙ read.1)
word-read w (Some n) rest place typed is can =
    let begun = word-begun w 94 (decimal n ++ (32 ∷ rest)) place typed stops-space.1 in
    let read = boosted-read (word w) (Some n) rest begun.0 can in
    (read.0, begun.1 ∙ plain w place (placed_from begun.0 (94 ∷ (decimal n ++ (32 ∷ rest)))) is ∙ read.1)

pub beginning-read : (w : List ℕ) (factor : Option ℕ) (rest : List ℕ) (place : ℕ) → IsTypedWord w → CanBoost factor →
    ReadsTo (word_at place (placed_from place (escaped (chars w) ++ (42 ∷ (boost_text factor ++ (32 ∷ rest)))))) (leaf_piece (beginning w) factor) (32 ∷ rest)
beginning-read w factor rest place typed can =
    let begun = word-begun w 42 (boost_text factor ++ (32 ∷ rest)) place typed stops-space.2 in
    let read = star-read (beginning w) begun.0 factor rest (begun.0 + length (encode_utf8 42)) can in
    (read.0, begun.1 ∙ read.1)

-- what can follow a name and a sign
abbrev pub IsBegun : List ℕ → Type 0
IsBegun text = (place : ℕ) → (begins 42 (placed_from place text) ≡ false) × (gap_follows (placed_from place text) ≡ false)

pub name-read : (name rest : List ℕ) (place : ℕ) → IsTypedWord name → IsBegun rest →
    ReadsTo (word_at place (placed_from place (escaped (chars name) ++ (58 ∷ rest)))) (name_piece name) rest
unfolding behind_name
name-read name rest place typed follows =
    let begun = word-begun name 58 rest place typed stops-space.3 in
    let after = begun.0 + length (encode_utf8 58) in
    let left = placed_from after rest in (
      after,
      begun.1 ∙ ap (λ b. cond b (refused AnyValue place) (cond (gap_follows left) (refused FieldWithoutValue place) (Ok (name_piece name, left)))) (follows after).0
          ∙ ap (λ b. cond b (refused FieldWithoutValue place) (Ok (name_piece name, left))) (follows after).1,
    )

-- ---- phrases

quote-begun : (text rest : List ℕ) (place : ℕ) → encode_utf8_all (chars text) ≡ text →
    (after : ℕ) × (phrase_at place (placed_from place (34 ∷ (escaped (chars text) ++ (34 ∷ rest)))) ≡ behind_quote text (placed_from after rest))
unfolding phrase_at
quote-begun text rest place same =
    let read = letters-read true (chars text) 34 rest tt stops-space.4 (place + length (encode_utf8 34)) in (
      read.0 + length (encode_utf8 34),
      ap (λ r. r >>= λ b. ended_phrase b.0 place (sign_at 34 b.1)) read.1
          ∙ ap (λ b. behind_quote b (placed_from (read.0 + length (encode_utf8 34)) rest)) same,
    )

pub phrase-read : (text : List ℕ) (slop : ℕ) (factor : Option ℕ) (rest : List ℕ) (place : ℕ) → encode_utf8_all (chars text) ≡ text → slop < 4294967296 → CanBoost factor →
    ReadsTo (phrase_at place (placed_from place (34 ∷ (escaped (chars text) ++ (34 ∷ (126 ∷ (decimal slop ++ (boost_text factor ++ (32 ∷ rest)))))))))
    (leaf_piece (phrase text slop) factor) (32 ∷ rest)
unfolding behind_quote
phrase-read text slop None rest place same small can =
    let begun = quote-begun text (126 ∷ (decimal slop ++ (32 ∷ rest))) place same in
    let number = slop-read slop 32 rest begun.0 (begun.0 + length (encode_utf8 126)) small refl in
    let read = boosted-read (phrase text slop) None rest number.0 can in
    (read.0, begun.1 ∙ ap (λ r. r >>= λ s. boosted_leaf (phrase text s.0) s.1) number.1 ∙ read.1)
phrase-read text slop (Some n) rest place same small can =
    let begun = quote-begun text (126 ∷ (decimal slop ++ (94 ∷ (decimal n ++ (32 ∷ rest))))) place same in
    let number = slop-read slop 94 (decimal n ++ (32 ∷ rest)) begun.0 (begun.0 + length (encode_utf8 126)) small refl in
    let read = boosted-read (phrase text slop) (Some n) rest number.0 can in
    (read.0, begun.1 ∙ ap (λ r. r >>= λ s. boosted_leaf (phrase text s.0) s.1) number.1 ∙ read.1)

pub phrase_beginning-read : (text : List ℕ) (factor : Option ℕ) (rest : List ℕ) (place : ℕ) → encode_utf8_all (chars text) ≡ text → CanBoost factor →
    ReadsTo (phrase_at place (placed_from place (34 ∷ (escaped (chars text) ++ (34 ∷ (42 ∷ (boost_text factor ++ (32 ∷ rest))))))))
    (leaf_piece (phrase_beginning text) factor) (32 ∷ rest)
unfolding behind_quote
phrase_beginning-read text factor rest place same can =
    let begun = quote-begun text (42 ∷ (boost_text factor ++ (32 ∷ rest))) place same in
    let read = star-read (phrase_beginning text) begun.0 factor rest (begun.0 + length (encode_utf8 42)) can in
    (read.0, begun.1 ∙ read.1)

-- ---- where a word begins

pub record WordBegins (text : List ℕ) : Type 0 where
  pub first : ℕ
  pub others : List ℕ
  pub is : text ≡ first ∷ others
  pub no_space : is_whitespace first ≡ false
  pub no_star : (first == 42) ≡ false
  pub is_word : (place : ℕ) → piece_at (character first place) (placed_from place (first ∷ others)) ≡ word_at place (placed_from place (first ∷ others))

nothing-begins : (c : ℕ) → NoSign c → begins_nothing c ≡ false
nothing-begins c n = neither (c == 94) _ n.caret (neither (c == 126) _ n.tilde (neither (c == 63) _ n.question (neither (c == 58) _ n.colon
    (neither (c == 47) _ n.slash (neither (c == 91) _ n.from (neither (c == 93) _ n.to (neither (c == 123) _ n.above (neither (c == 125) _ n.below
    (neither (c == 60) (c == 62) n.less n.greater)))))))))

letter-begins : (c place : ℕ) (cs : List Character) → NoSign c → piece_at (character c place) cs ≡ word_at place cs
unfolding piece_at
letter-begins c place cs n =
    passed _ _ _ _ _ _ _ _ _ n.opens n.closes n.plus n.minus
    ∙ passed (c == 34) (c == 42) (begins_nothing c) false (phrase_at place cs) (leaf_behind_star all place (drop 1 cs)) (refused (misplaced c) place) (word_at place cs) (word_at place cs)
    n.quote n.star (nothing-begins c n) refl

escape-begins : (place : ℕ) (cs : List Character) → piece_at (character 92 place) cs ≡ word_at place cs
unfolding piece_at
escape-begins place cs = refl

first-letter : (c : ℕ) (w tail : List ℕ) (sign : Bool) → is_sign c ≡ sign → is_whitespace c ≡ false → WordBegins (cond sign (92 ∷ c ∷ escaped w) (c ∷ escaped w) ++ tail)
first-letter c w tail true is no_space = record {
  first = 92;
  others = c ∷ (escaped w ++ tail);
  is = refl;
  no_space = refl;
  no_star = refl;
  is_word = λ place. escape-begins place _;
}
first-letter c w tail false is no_space = record {
  first = c;
  others = escaped w ++ tail;
  is = refl;
  no_space = no_space;
  no_star = (no-sign c is).star;
  is_word = λ place. letter-begins c place _ (no-sign c is);
}

word-of : (w tail : List ℕ) → 0 < length (encode_utf8_all w) → AllByRecursion (λ c. is_whitespace c ≡ false) w → WordBegins (escaped w ++ tail)
word-of [] tail some no_space = absurd (omega arith)
word-of (c ∷ w) tail some no_space = first-letter c w tail (is_sign c) refl no_space.0

pub word-begins : (w tail : List ℕ) → IsTypedWord w → WordBegins (escaped (chars w) ++ tail)
word-begins w tail typed =
    let P : List ℕ → Type 0 = λ l. 0 < length l in
    word-of (chars w) tail (subst P (sym (encodes-chars w typed.text)) typed.some) typed.no_space
