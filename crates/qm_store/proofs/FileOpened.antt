-- A file that a segment was written into opens, and shows that segment.
use Rattle.std.proofs.Common.{◌≡◌, ℕ, suc, ◌+◌, ◌^◌, ◌<◌, ◌≤◌, Bool, true, not, cond, List, [], ◌∷◌, ◌++◌, drop, length, take, map, Option, None, Some, refl, ap, sym, subst, ◌∙◌, append_assoc, append-nil, arith, Less, is_lt}
use Rattle.std.specs.Prelude.{nat_le, nat_lt, option_map}
use Rattle.std.specs.Int.{w64, to_le_bytes}
use Rattle.std.specs.List.{AllByRecursion, flat_map}
use Rattle.std.specs.List.Sorted.{IsStrictlySortedBy}
use Rattle.std.proofs.lemmas.Bool.{eq-eqb, le-leb, le-ltb}
use Rattle.std.proofs.lemmas.List.{length-append}
use Rattle.std.proofs.lemmas.List.Elements.{All-head}
use Rattle.std.specs.Prelude.{slice_index_or}
use Rattle.std.proofs.Math.Seq.{drop-append_seam, take-append_seam}
use Rattle.qm_postings.specs.Kept.{AreColumns}
use Rattle.qm_postings.specs.Rows.{Row}
use Rattle.qm_postings.specs.Segment.{keeps_lengths}
use Rattle.qm_schema.specs.Schema.{FieldFacts}
use Rattle.qm_schema.specs.Term.{TermKey, term_cmp}
use Rattle.qm_store.specs.Columns.{columns_at}
use Rattle.qm_store.specs.Dictionary.{Block, block_start_at, index_at, is_behind, starts_at}
use Rattle.qm_store.specs.Ends.{checked_ending, ended_by, ending_at, last_piece_at}
use Rattle.qm_store.specs.Numbers.{number_at, spelled}
use Rattle.qm_store.specs.Pieces.{piece_at, piece_bytes}
use Rattle.qm_store.specs.RowBytes.{followed_by}
use Rattle.qm_store.specs.Stored.{IsStorable, all_apart, block_bytes, block_named, blocks_named, dictionary_bytes, group_bytes, index_bytes, last_bytes, start_bytes}
use Rattle.qm_store.specs.TermBytes.{IsSomeTerm, term_bytes}
use Rattle.qm_store.specs.Words.{word_at}
use Rattle.qm_store.specs.declared.ending.Ending.{Ending}
use Rattle.qm_store.specs.declared.piece.Piece.{Piece}
use Rattle.qm_store.proofs.DigestFits.{digest-fits}
use Rattle.qm_store.proofs.NumberBytes.{number-read}
use Rattle.qm_store.proofs.PiecesRead.{piece-read, word-read}
use Rattle.qm_store.proofs.StoredRead.{IsGroup, all_rows, at-seam, behind-sorted, term_of}
use Rattle.qm_store.proofs.TermsRead.{term-read}

-- ---- the index

start-read : (b : Block) (rest : List ℕ) → IsSomeTerm b.first → b.piece.at < 128 ^ 9 → b.piece.len < 128 ^ 9 → b.piece.digest < 2 ^ 64 →
    block_start_at (start_bytes b ++ rest) ≡ Some (b, rest)
start-read b rest is at len fits =
    ap block_start_at (append_assoc (term_bytes b.first) (piece_bytes b.piece) rest)
    ∙ ap (λ (x : Option (TermKey × List ℕ)). followed_by x then_piece) (term-read b.first (piece_bytes b.piece ++ rest) is)
    ∙ ap (λ (x : Option (Piece × List ℕ)). followed_by x (then_block b.first)) (piece-read b.piece rest at len fits)
  where
    then_block : TermKey → Piece → List ℕ → Option (Block × List ℕ)
    then_block t p rest = Some (record { first = t; piece = p }, rest)

    then_piece : TermKey → List ℕ → Option (Block × List ℕ)
    then_piece t rest = followed_by (piece_at rest) (then_block t)

abbrev then_starts : ℕ → Option TermKey → Block → List ℕ → Option (List Block)
then_starts n before b rest = cond (is_behind before b.first) (option_map (λ starts. b ∷ starts) (starts_at n (Some b.first) rest)) None

-- the first of all rows is behind a term
abbrev Begins : Option TermKey → List Row → Type 0
Begins before rows = (s : Row) (rs : List Row) → rows ≡ s ∷ rs → is_behind before s.term ≡ true

next-begins : (s : Row) (g rs : List Row) → IsStrictlySortedBy term_cmp (map term_of ((s ∷ g) ++ rs)) → Begins (Some s.term) rs
unfolding IsStrictlySortedBy
next-begins s g rs sorted u us is =
    let seam = at-seam (λ v. term_cmp s.term v ≡ Less) g u us (subst (λ l. AllByRecursion (λ v. term_cmp s.term v ≡ Less) (map term_of (g ++ l))) is sorted.0) in
    ap is_lt seam

starts-read : (key at : ℕ) (gs : List (List Row)) (before : Option TermKey) → AllByRecursion IsGroup gs → IsStrictlySortedBy term_cmp (map term_of (all_rows gs)) →
    Begins before (all_rows gs) → at + length (dictionary_bytes key at gs) ≤ 2 ^ 60 →
    starts_at (length (blocks_named key at gs)) before (flat_map start_bytes (blocks_named key at gs)) ≡ Some (blocks_named key at gs)
starts-read key at [] before are sorted begins near = refl
starts-read key at ([] ∷ gs) before are sorted begins near = absurd (omega (arith, are.0.some))
starts-read key at ((s ∷ g) ∷ gs) before are sorted begins near =
    let own = group_bytes key at (s ∷ g) in
    let b = block_named key at (s ∷ g) in
    let next = blocks_named key (at + length own) gs in
    let rest = flat_map start_bytes next in
    let long = length-append own (dictionary_bytes key (at + length own) gs) in
    let parts = length-append (all_apart (s ∷ g)) (block_bytes key at (s ∷ g)) in
    let first = All-head IsStorable s g are.0.rows in
    ap (λ (x : Option (Block × List ℕ)). followed_by x (then_starts (length next) before))
    (start-read b rest first.term (omega (arith, near, long, parts)) (omega (arith, near, long, parts)) (digest-fits key (at + length (all_apart (s ∷ g))) (block_bytes key at (s ∷ g))))
    ∙ ap (λ (x : Bool). cond x (option_map (λ starts. b ∷ starts) (starts_at (length next) (Some s.term) rest)) None) (begins s (g ++ all_rows gs) refl)
    ∙ ap (option_map (λ starts. b ∷ starts)) (starts-read key (at + length own) gs (Some s.term) are.1 (behind-sorted (s ∷ g) (all_rows gs) sorted)
    (next-begins s g (all_rows gs) sorted) (omega (arith, near, long)))

pub index-read : (key at : ℕ) (gs : List (List Row)) → AllByRecursion IsGroup gs → IsStrictlySortedBy term_cmp (map term_of (all_rows gs)) →
    at + length (dictionary_bytes key at gs) ≤ 2 ^ 60 → length (blocks_named key at gs) < 128 ^ 9 →
    index_at (index_bytes (blocks_named key at gs)) ≡ Some (blocks_named key at gs)
index-read key at gs are sorted near few =
    ap (λ (x : Option (ℕ × List ℕ)). followed_by x (λ count rest. starts_at count None rest))
    (number-read 8 (length (blocks_named key at gs)) (flat_map start_bytes (blocks_named key at gs)) few)
    ∙ starts-read key at gs None are sorted (λ s rs is. refl) near

-- ---- the ends

pub last-read : (p : Piece) → p.at < 2 ^ 64 → p.len < 2 ^ 64 → p.digest < 2 ^ 64 → last_piece_at (last_bytes p) ≡ Some p
last-read p at len fits =
    ap (λ (x : Option (ℕ × List ℕ)). followed_by x then_len) (word-read p.at (to_le_bytes w64 p.len ++ to_le_bytes w64 p.digest) at)
    ∙ ap (λ (x : Option (ℕ × List ℕ)). followed_by x (then_digest p.at)) (word-read p.len (to_le_bytes w64 p.digest) len)
    ∙ ap (λ (l : List ℕ). followed_by (word_at l) (then_end p.at p.len)) (sym (append-nil (to_le_bytes w64 p.digest)))
    ∙ ap (λ (x : Option (ℕ × List ℕ)). followed_by x (then_end p.at p.len)) (word-read p.digest [] fits)
  where
    then_end : ℕ → ℕ → ℕ → List ℕ → Option Piece
    then_end at len d rest = ended_by (record { at = at; len = len; digest = d }) rest

    then_digest : ℕ → ℕ → List ℕ → Option Piece
    then_digest at len rest = followed_by (word_at rest) (then_end at len)

    then_len : ℕ → List ℕ → Option Piece
    then_len at rest = followed_by (word_at rest) (then_digest at)

module _ (key bl documents : ℕ) (index lengths : Piece) (fits : key < 2 ^ 64) (cut : bl ≤ 4294967295) (few : documents ≤ 4294967295)
    (index_at_all : index.at < 128 ^ 9) (index_len : index.len < 128 ^ 9) (index_fits : index.digest < 2 ^ 64)
    (lengths_at : lengths.at < 128 ^ 9) (lengths_len : lengths.len < 128 ^ 9) (lengths_fits : lengths.digest < 2 ^ 64) where
  abbrev then_lengths : ℕ → ℕ → ℕ → Piece → List ℕ → Option Ending
  then_lengths own bl documents index rest = followed_by (piece_at rest) (λ lengths rest. checked_ending key own bl documents index lengths rest)

  abbrev then_index : ℕ → ℕ → ℕ → List ℕ → Option Ending
  then_index own bl documents rest = followed_by (piece_at rest) (then_lengths own bl documents)

  abbrev then_documents : ℕ → ℕ → List ℕ → Option Ending
  then_documents own bl rest = followed_by (number_at 8 rest) (then_index own bl)

  abbrev then_block_len : ℕ → List ℕ → Option Ending
  then_block_len own rest = followed_by (number_at 8 rest) (then_documents own)

  abbrev all_bytes : List ℕ
  all_bytes = to_le_bytes w64 key ++ (spelled bl ++ (spelled documents ++ (piece_bytes index ++ piece_bytes lengths)))

  abbrev told : Ending
  told = record { block_len = bl; documents = documents; index = index; lengths = lengths }

  pub ending-read : ending_at key all_bytes ≡ Some told
  ending-read =
      ap (λ (x : Option (ℕ × List ℕ)). followed_by x then_block_len) (word-read key (spelled bl ++ (spelled documents ++ (piece_bytes index ++ piece_bytes lengths))) fits)
      ∙ ap (λ (x : Option (ℕ × List ℕ)). followed_by x (then_documents key)) (number-read 8 bl (spelled documents ++ (piece_bytes index ++ piece_bytes lengths)) (omega (arith, cut)))
      ∙ ap (λ (x : Option (ℕ × List ℕ)). followed_by x (then_index key bl)) (number-read 8 documents (piece_bytes index ++ piece_bytes lengths) (omega (arith, few)))
      ∙ ap (λ (x : Option (Piece × List ℕ)). followed_by x (then_lengths key bl documents)) (piece-read index (piece_bytes lengths) index_at_all index_len index_fits)
      ∙ ap (λ (l : List ℕ). then_lengths key bl documents index l) (sym (append-nil (piece_bytes lengths)))
      ∙ ap (λ (x : Option (Piece × List ℕ)). followed_by x (λ lengths rest. checked_ending key key bl documents index lengths rest))
      (piece-read lengths [] lengths_at lengths_len lengths_fits)
      ∙ ap (λ b. cond (not b) None (cond (nat_lt 4294967295 bl) None (cond (nat_lt 4294967295 documents) None (Some told)))) (eq-eqb key key refl)
      ∙ ap (λ b. cond b None (cond (nat_lt 4294967295 documents) None (Some told))) (le-ltb 4294967295 bl cut)
      ∙ ap (λ b. cond b None (Some told)) (le-ltb 4294967295 documents few)

-- ---- the length ids

-- a column for each field, with an id for each document where the field keeps lengths
abbrev Fill : List FieldFacts → ℕ → List (List ℕ) → Type 0
Fill [] count [] = Unit {0}
Fill [] count (c ∷ cs) = ⊥
Fill (f ∷ fs) count [] = ⊥
Fill (f ∷ fs) count (c ∷ cs) = (length c ≡ cond f.lengths count 0) × Fill fs count cs

fill : (schema : List FieldFacts) (count : ℕ) (columns : List (List ℕ)) → length columns ≡ length schema →
    ((f : ℕ) → f < length schema → length (slice_index_or columns f []) ≡ cond (keeps_lengths schema f) count 0) → Fill schema count columns
fill [] count [] same each = tt
fill [] count (c ∷ cs) same each = absurd (omega (arith, same))
fill (f ∷ fs) count [] same each = absurd (omega (arith, same))
fill (f ∷ fs) count (c ∷ cs) same each = (each 0 (omega arith), fill fs count cs (omega (arith, same)) (λ k inside. each (suc k) (omega (arith, inside))))

filled-read : (schema : List FieldFacts) (count : ℕ) (columns : List (List ℕ)) → Fill schema count columns →
    columns_at schema count (flat_map (λ c. c) columns) ≡ Some columns
filled-read [] count [] are = refl
filled-read [] count (c ∷ cs) are = absurd are
filled-read (f ∷ fs) count [] are = absurd are
filled-read (f ∷ fs) count (c ∷ cs) are =
    let rest = flat_map (λ c. c) cs in
    (λ i. cond (nat_le (sym are.0 i) (length (c ++ rest))) (option_map (λ columns. take (sym are.0 i) (c ++ rest) ∷ columns) (columns_at fs count (drop (sym are.0 i) (c ++ rest)))) None)
    ∙ ap (λ b. cond b (option_map (λ columns. take (length c) (c ++ rest) ∷ columns) (columns_at fs count (drop (length c) (c ++ rest)))) None)
    (le-leb (length c) (length (c ++ rest)) (omega (arith, length-append c rest)))
    ∙ (λ i. option_map (λ columns. take-append_seam c rest i ∷ columns) (columns_at fs count (drop-append_seam c rest i)))
    ∙ ap (option_map (λ columns. c ∷ columns)) (filled-read fs count cs are.1)

pub columns-read : (schema : List FieldFacts) (count : ℕ) (columns : List (List ℕ)) → AreColumns schema count columns →
    columns_at schema count (flat_map (λ c. c) columns) ≡ Some columns
columns-read schema count columns are = filled-read schema count columns (fill schema count columns are.each are.whole)
