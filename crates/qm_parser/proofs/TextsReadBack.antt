-- What spells a query is read to that query.
use Rattle.std.proofs.Common.{◌≡◌, ℕ, ◌+◌, ◌≤◌, suc, true, false, cond, List, [], ◌∷◌, ◌++◌, Option, None, Some, Ok, drop, length, refl, sym, ap, subst, ◌∙◌, append_assoc, append-nil, arith}
use Rattle.std.proofs.lemmas.Str.{encodes-chars}
use Rattle.std.specs.Char.{encode_utf8, is_whitespace}
use Rattle.std.specs.Fmt.{decimal}
use Rattle.std.specs.List.{flat_map}
use Rattle.std.specs.Str.{chars}
use Rattle.qm_parser.proofs.PiecesReadBack.{IsBegun, beginning-read, name-read, phrase-read, phrase_beginning-read, star-read, word-begins, word-read}
use Rattle.qm_parser.proofs.TokenLemmas.{cut, placed, unfolded}
use Rattle.qm_parser.proofs.TokensEnough.{Leaves, piece-leaves, tokens-enough}
use Rattle.qm_parser.proofs.TreesReadBack.{Are, tree-read}
use Rattle.qm_parser.proofs.WordsReadBack.{CanBoost, ReadsTo, boost-read, character}
use Rattle.qm_parser.specs.Characters.{placed_characters, placed_from}
use Rattle.qm_parser.specs.Pieces.{Piece, close_piece, leaf_behind_star, leaf_piece, name_piece, open_piece, phrase_at, piece_at, sign_piece, signed, word_at}
use Rattle.qm_parser.specs.Query.{Clauses, Leaf, Query, all, beginning, boolean, boost, clause, empty, field, leaf, no_clause, phrase, phrase_beginning, word}
use Rattle.qm_parser.specs.Reading.{refused, ◌>>=◌}
use Rattle.qm_parser.specs.Signs.{begins, gap_follows}
use Rattle.qm_parser.specs.Spelling.{HasTypedParts, HaveTypedParts, IsTypedWord, LeafCanBeTyped, Spells, as_operand, boost_text, clause_pieces, escaped, leaf_text, parenthesised}
use Rattle.qm_parser.specs.Spelling.{piece_text, pieces, quoted, sign_pieces, spelled}
use Rattle.qm_parser.specs.Tokens.{Token, tokens, tokens_at}
use Rattle.qm_parser.specs.Trees.{tree_of_text, tree_of_tokens}
use Rattle.qm_parser.specs.declared.parsed_query.Sign.{Sign}
use Rattle.qm_parser.specs.declared.parsed_query.Sign.TheVariants.{Must, MustNot, Should}
use Rattle.qm_parser.specs.declared.place_characters.Character.{Character}
use Rattle.qm_parser.specs.declared.refusal_kind.RefusalKind.TheVariants.{SignWithoutClause}

-- ---- the tokens of characters

-- a token and those behind it
tokens-first : (c : Character) (cs left : List Character) (piece : Piece) (ts : List Token) → is_whitespace c.letter ≡ false →
    piece_at c (c ∷ cs) ≡ Ok (piece, left) → tokens left ≡ Ok ts → tokens (c ∷ cs) ≡ Ok (placed piece c.place ∷ ts)
tokens-first c cs left piece ts no_space read others =
    let shorter : length left ≤ length cs = subst (Leaves (length cs)) read (piece-leaves c cs no_space) in
    tokens-enough (length (c ∷ cs)) (suc (length cs)) (c ∷ cs) (omega arith) (omega arith) ∙ unfolded (length cs) c cs
    ∙ ap (λ b. cond b (tokens_at (length cs) cs) (piece_at c (c ∷ cs) >>= cut (length cs) c)) no_space ∙ ap (λ r. r >>= cut (length cs) c) read
    ∙ ap (λ r. r >>= λ l. Ok (placed piece c.place ∷ l)) (tokens-enough (length cs) (length left) left shorter (omega arith) ∙ others)

tokens-gap : (c : Character) (cs : List Character) → is_whitespace c.letter ≡ true → tokens (c ∷ cs) ≡ tokens cs
tokens-gap c cs space =
    tokens-enough (length (c ∷ cs)) (suc (length cs)) (c ∷ cs) (omega arith) (omega arith) ∙ unfolded (length cs) c cs
    ∙ ap (λ b. cond b (tokens_at (length cs) cs) (piece_at c (c ∷ cs) >>= cut (length cs) c)) space

-- ---- texts of tokens

abbrev text_of : List Piece → List ℕ
text_of ps = flat_map piece_text ps

-- this text has these tokens, wherever it stands
abbrev Has : List ℕ → List Piece → Type 0
Has text ps = (place : ℕ) → (ts : List Token) × (tokens (placed_from place text) ≡ Ok ts) × Are ps ts

has-behind-gap : (text : List ℕ) (ps : List Piece) → Has text ps → Has (32 ∷ text) ps
has-behind-gap text ps has place =
    let others = has (place + length (encode_utf8 32)) in
    (others.0, tokens-gap (character 32 place) (placed_from (place + length (encode_utf8 32)) text) refl ∙ others.1, others.2)

-- at the front of the text stands this token, and the rest behind it
record Begins (text : List ℕ) (piece : Piece) (rest : List ℕ) (place : ℕ) : Type 0 where
  first : ℕ
  others : List ℕ
  is : text ≡ first ∷ others
  no_space : is_whitespace first ≡ false
  read : ReadsTo (piece_at (character first place) (placed_from place (first ∷ others))) piece rest

has-first : (text rest : List ℕ) (piece : Piece) (ps : List Piece) → ((place : ℕ) → Begins text piece rest place) → Has rest ps → Has text (piece ∷ ps)
has-first text rest piece ps front has place =
    let token = front place in
    let others = has token.read.0 in (
      placed piece place ∷ others.0,
      ap (λ l. tokens (placed_from place l)) token.is
          ∙ tokens-first (character token.first place) (placed_from (place + length (encode_utf8 token.first)) token.others) (placed_from token.read.0 rest) piece others.0
          token.no_space token.read.1 others.1,
      (refl, others.2),
    )

-- tokens that have their texts, whatever follows
abbrev Have : List Piece → Type 0
Have ps = (qs : List Piece) → Has (text_of qs) qs → Has (text_of (ps ++ qs)) (ps ++ qs)

have-none : Have []
have-none qs has = has

have-both : (ps rs : List Piece) → Have ps → Have rs → Have (ps ++ rs)
have-both ps rs h k qs has =
    let P : List Piece → Type 0 = λ l. Has (text_of l) l in
    subst P (sym (append_assoc ps rs qs)) (h (rs ++ qs) (k qs has))

-- ---- words and phrases

abbrev spaced : Option ℕ → List ℕ → List ℕ
spaced factor rest = boost_text factor ++ (32 ∷ rest)

word-token : (w text tail : List ℕ) (piece : Piece) (rest : List ℕ) (place : ℕ) → IsTypedWord w → text ≡ escaped (chars w) ++ tail →
    ReadsTo (word_at place (placed_from place (escaped (chars w) ++ tail))) piece rest → Begins text piece rest place
word-token w text tail piece rest place typed same read =
    let begun = word-begins w tail typed in
    record {
      first = begun.first;
      others = begun.others;
      is = same ∙ begun.is;
      no_space = begun.no_space;
      read = (read.0, begun.is_word place ∙ ap (λ l. word_at place (placed_from place l)) (sym begun.is) ∙ read.1);
    }

quote-at : (place : ℕ) (cs : List Character) → piece_at (character 34 place) cs ≡ phrase_at place cs
unfolding piece_at
quote-at place cs = refl

star-at : (place : ℕ) (cs : List Character) → piece_at (character 42 place) cs ≡ leaf_behind_star all place (drop 1 cs)
unfolding piece_at
star-at place cs = refl

regrouped : (a b : List ℕ) (rest : List ℕ) → (a ++ (b ++ 32 ∷ [])) ++ rest ≡ a ++ (b ++ (32 ∷ rest))
regrouped a b rest = append_assoc a (b ++ 32 ∷ []) rest ∙ ap (λ l. a ++ l) (append_assoc b (32 ∷ []) rest)

leaf-token : (l : Leaf) (factor : Option ℕ) (rest : List ℕ) (place : ℕ) → LeafCanBeTyped l → CanBoost factor →
    Begins (leaf_text l ++ spaced factor rest) (leaf_piece l factor) (32 ∷ rest) place
leaf-token all factor rest place typed can =
    let second = place + length (encode_utf8 42) in
    let read = star-read all place factor rest second can in
    record { first = 42; others = spaced factor rest; is = refl; no_space = refl; read = (read.0, star-at place _ ∙ read.1) }
leaf-token (word w) factor rest place typed can =
    word-token w _ (spaced factor rest) (leaf_piece (word w) factor) (32 ∷ rest) place typed.0 refl (word-read w factor rest place typed.0 typed.1 can)
leaf-token (beginning w) factor rest place typed can =
    word-token w _ (42 ∷ spaced factor rest) (leaf_piece (beginning w) factor) (32 ∷ rest) place typed (append_assoc (escaped (chars w)) (42 ∷ []) (spaced factor rest))
    (beginning-read w factor rest place typed can)
leaf-token (phrase text slop) factor rest place typed can =
    let read = phrase-read text slop factor rest place (encodes-chars text typed.0) typed.1 can in
    record {
      first = 34;
      others = escaped (chars text) ++ (34 ∷ (126 ∷ (decimal slop ++ spaced factor rest)));
      is = append_assoc (quoted text) (126 ∷ decimal slop) (spaced factor rest) ∙ ap (λ l. 34 ∷ l) (append_assoc (escaped (chars text)) (34 ∷ []) (126 ∷ (decimal slop ++ spaced factor rest)));
      no_space = refl;
      read = (read.0, quote-at place _ ∙ read.1);
    }
leaf-token (phrase_beginning text) factor rest place typed can =
    let read = phrase_beginning-read text factor rest place (encodes-chars text typed) can in
    record {
      first = 34;
      others = escaped (chars text) ++ (34 ∷ (42 ∷ spaced factor rest));
      is = append_assoc (quoted text) (42 ∷ []) (spaced factor rest) ∙ ap (λ l. 34 ∷ l) (append_assoc (escaped (chars text)) (34 ∷ []) (42 ∷ spaced factor rest));
      no_space = refl;
      read = (read.0, quote-at place _ ∙ read.1);
    }

leaf-has : (l : Leaf) (factor : Option ℕ) → LeafCanBeTyped l → CanBoost factor → Have (leaf_piece l factor ∷ [])
leaf-has l factor typed can qs has = has-first _ (32 ∷ text_of qs) (leaf_piece l factor) qs
    (λ place. subst (λ (text : List ℕ). Begins text (leaf_piece l factor) (32 ∷ text_of qs) place) (sym (regrouped (leaf_text l) (boost_text factor) (text_of qs)))
    (leaf-token l factor (text_of qs) place typed can))
    (has-behind-gap (text_of qs) qs has)

-- ---- parentheses, names and signs

open-has : Have (open_piece ∷ [])
unfolding piece_at
open-has qs has = has-first _ (text_of qs) open_piece qs
    (λ place. record { first = 40; others = text_of qs; is = refl; no_space = refl; read = (place + length (encode_utf8 40), refl) }) has

close-token : (factor : Option ℕ) (rest : List ℕ) (place : ℕ) → CanBoost factor → Begins (41 ∷ spaced factor rest) (close_piece factor) (32 ∷ rest) place
unfolding piece_at
close-token factor rest place can =
    let read = boost-read factor rest (place + length (encode_utf8 41)) can in
    record { first = 41; others = spaced factor rest; is = refl; no_space = refl; read = (read.0, ap (λ r. r >>= λ b. Ok (close_piece b.0, b.1)) read.1) }

close-has : (factor : Option ℕ) → CanBoost factor → Have (close_piece factor ∷ [])
close-has factor can qs has = has-first _ (32 ∷ text_of qs) (close_piece factor) qs
    (λ place. subst (λ (text : List ℕ). Begins (41 ∷ text) (close_piece factor) (32 ∷ text_of qs) place) (sym (append_assoc (boost_text factor) (32 ∷ []) (text_of qs)))
    (close-token factor (text_of qs) place can))
    (has-behind-gap (text_of qs) qs has)

parenthesised-has : (ps : List Piece) (factor : Option ℕ) → Have ps → CanBoost factor → Have (parenthesised ps factor)
parenthesised-has ps factor have can = have-both (open_piece ∷ []) (ps ++ close_piece factor ∷ []) open-has
    (have-both ps (close_piece factor ∷ []) have (close-has factor can))

operand-has : (q : Query) (factor : Option ℕ) → HasTypedParts q → Have (pieces q) → CanBoost factor → Have (as_operand q (pieces q) factor)
operand-has (leaf (word w)) factor typed have can = leaf-has (word w) factor typed can
operand-has (leaf (beginning w)) factor typed have can = leaf-has (beginning w) factor typed can
operand-has (leaf (phrase text slop)) factor typed have can = leaf-has (phrase text slop) factor typed can
operand-has (leaf (phrase_beginning text)) factor typed have can = leaf-has (phrase_beginning text) factor typed can
operand-has (leaf all) factor typed have can = parenthesised-has (pieces (leaf all)) factor have can
operand-has empty factor typed have can = parenthesised-has (pieces empty) factor have can
operand-has (field name q) factor typed have can = parenthesised-has (pieces (field name q)) factor have can
operand-has (boost n q) factor typed have can = parenthesised-has (pieces (boost n q)) factor have can
operand-has (boolean cs) factor typed have can = parenthesised-has (pieces (boolean cs)) factor have can

-- what begins as a word or a parenthesis does can follow a name and a sign
word-is-begun : (w tail : List ℕ) → IsTypedWord w → IsBegun (escaped (chars w) ++ tail)
word-is-begun w tail typed place =
    let begun = word-begins w tail typed in
    (ap (λ l. begins 42 (placed_from place l)) begun.is ∙ begun.no_star, ap (λ l. gap_follows (placed_from place l)) begun.is ∙ begun.no_space)

operand-is-begun : (q : Query) (factor : Option ℕ) (qs : List Piece) → HasTypedParts q → IsBegun (text_of (as_operand q (pieces q) factor ++ qs))
operand-is-begun (leaf (word w)) factor qs typed = subst IsBegun (sym (regrouped (escaped (chars w)) (boost_text factor) (text_of qs))) (word-is-begun w _ typed.0)
operand-is-begun (leaf (beginning w)) factor qs typed =
    subst IsBegun (sym (regrouped (escaped (chars w) ++ 42 ∷ []) (boost_text factor) (text_of qs) ∙ append_assoc (escaped (chars w)) (42 ∷ []) (spaced factor (text_of qs)))) (word-is-begun w _ typed)
operand-is-begun (leaf (phrase text slop)) factor qs typed = λ place. (refl, refl)
operand-is-begun (leaf (phrase_beginning text)) factor qs typed = λ place. (refl, refl)
operand-is-begun (leaf all) factor qs typed = λ place. (refl, refl)
operand-is-begun empty factor qs typed = λ place. (refl, refl)
operand-is-begun (field name q) factor qs typed = λ place. (refl, refl)
operand-is-begun (boost n q) factor qs typed = λ place. (refl, refl)
operand-is-begun (boolean cs) factor qs typed = λ place. (refl, refl)

name-has : (name : List ℕ) (ps : List Piece) → IsTypedWord name → ((qs : List Piece) → IsBegun (text_of (ps ++ qs))) → Have ps → Have (name_piece name ∷ ps)
name-has name ps typed begun have qs has =
    let rest = text_of (ps ++ qs) in
    has-first _ rest (name_piece name) (ps ++ qs)
    (λ place. word-token name _ (58 ∷ rest) (name_piece name) rest place typed (append_assoc (escaped (chars name)) (58 ∷ []) rest) (name-read name rest place typed (begun qs)))
    (have qs has)

sign-token : (sign : Sign) (rest : List ℕ) (place : ℕ) → IsBegun rest → ReadsTo (signed sign place (placed_from place (43 ∷ rest))) (sign_piece sign) rest
unfolding signed
sign-token sign rest place begun =
    let second = place + length (encode_utf8 43) in
    let left = placed_from second rest in
    (second, ap (λ b. cond b (refused SignWithoutClause place) (Ok (sign_piece sign, left))) (begun second).1)

minus-token : (sign : Sign) (rest : List ℕ) (place : ℕ) → IsBegun rest → ReadsTo (signed sign place (placed_from place (45 ∷ rest))) (sign_piece sign) rest
unfolding signed
minus-token sign rest place begun =
    let second = place + length (encode_utf8 45) in
    let left = placed_from second rest in
    (second, ap (λ b. cond b (refused SignWithoutClause place) (Ok (sign_piece sign, left))) (begun second).1)

sign-has : (sign : Sign) (ps : List Piece) → ((qs : List Piece) → IsBegun (text_of (ps ++ qs))) → Have ps → Have (sign_pieces sign ++ ps)
unfolding piece_at
sign-has Should ps begun have qs has = have qs has
sign-has Must ps begun have qs has = has-first _ (text_of (ps ++ qs)) (sign_piece Must) (ps ++ qs)
    (λ place. record { first = 43; others = text_of (ps ++ qs); is = refl; no_space = refl; read = sign-token Must (text_of (ps ++ qs)) place (begun qs) }) (have qs has)
sign-has MustNot ps begun have qs has = has-first _ (text_of (ps ++ qs)) (sign_piece MustNot) (ps ++ qs)
    (λ place. record { first = 45; others = text_of (ps ++ qs); is = refl; no_space = refl; read = minus-token MustNot (text_of (ps ++ qs)) place (begun qs) }) (have qs has)

-- ---- queries

clause-begun : (q : Query) (ps qs : List Piece) → HasTypedParts q → IsBegun (text_of ((as_operand q (pieces q) None ++ ps) ++ qs))
clause-begun q ps qs typed =
    let P : List Piece → Type 0 = λ l. IsBegun (text_of l) in
    subst P (sym (append_assoc (as_operand q (pieces q) None) ps qs)) (operand-is-begun q None (ps ++ qs) typed)

mutual
  query-has : (q : Query) → HasTypedParts q → Have (pieces q)
  query-has empty typed = have-none
  query-has (leaf l) typed = leaf-has l None typed tt
  query-has (field name q) typed =
      name-has name (as_operand q (pieces q) None) typed.0 (λ qs. operand-is-begun q None qs typed.1) (operand-has q None typed.1 (query-has q typed.1) tt)
  query-has (boost factor q) typed = operand-has q (Some factor) typed.1 (query-has q typed.1) typed.0
  query-has (boolean cs) typed = clauses-have cs typed.1

  clauses-have : (cs : Clauses) → HaveTypedParts cs → Have (clause_pieces cs)
  clauses-have no_clause typed = have-none
  clauses-have (clause sign q cs) typed =
      sign-has sign (as_operand q (pieces q) None ++ clause_pieces cs) (λ qs. clause-begun q (clause_pieces cs) qs typed.0)
      (have-both (as_operand q (pieces q) None) (clause_pieces cs) (operand-has q None typed.0 (query-has q typed.0) tt) (clauses-have cs typed.1))

none-has : Has [] []
unfolding tokens_at
none-has place = ([], refl, tt)

tokens-read : (q : Query) → HasTypedParts q → Has (spelled q) (pieces q)
tokens-read q typed =
    let P : List Piece → Type 0 = λ l. Has (text_of l) l in
    subst P (append-nil (pieces q)) (query-has q typed [] none-has)

text_tree : (text : List ℕ) → tree_of_text text ≡ (tokens (placed_characters text) >>= tree_of_tokens)
unfolding tree_of_text
text_tree text = refl

-- A text that spells a query says that query.
pub text-read : (text : List ℕ) (q : Query) → Spells text q → tree_of_text text ≡ Ok q
text-read text q spells =
    let read = tokens-read q spells.can_be.parts 0 in
    text_tree text ∙ ap (λ cs. tokens (placed_from 0 cs) >>= tree_of_tokens) spells.is ∙ ap (λ r. r >>= tree_of_tokens) read.1
    ∙ tree-read q read.0 spells.can_be read.2
