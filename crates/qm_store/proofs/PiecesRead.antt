-- Words, halves of them, pieces and their names that were written are read again.
use Rattle.std.proofs.Common.{◌≡◌, ℕ, ◌+◌, ◌^◌, ◌<◌, cond, List, ◌++◌, drop, length, take, Option, None, Some, refl, ap, sym, ◌∙◌, append_assoc, arith}
use Rattle.std.specs.Prelude.{option_and_then}
use Rattle.std.specs.Int.{Width, w32, w64, from_le_bytes, to_le_bytes}
use Rattle.std.proofs.lemmas.Bool.{eq-eqb, le-leb, le-ltb}
use Rattle.std.proofs.lemmas.List.{length-append}
use Rattle.std.proofs.lemmas.Nat.{from_le_bytes-to_le_bytes_4, from_le_bytes-to_le_bytes_8}
use Rattle.std.proofs.Math.Seq.{drop-append_seam, take-append_seam}
use Rattle.qm_store.specs.Numbers.{number_at, spelled}
use Rattle.qm_store.specs.Pieces.{digest, digested, part_at, piece_at, piece_bytes, piece_in}
use Rattle.qm_store.specs.RowBytes.{followed_by}
use Rattle.qm_store.specs.Stored.{named}
use Rattle.qm_store.specs.Words.{fixed_at, half_at, word_at}
use Rattle.qm_store.specs.declared.piece.Piece.{Piece}
use Rattle.qm_store.proofs.NumberBytes.{number-read}

fixed-read : (w : Width) (size n : ℕ) (rest : List ℕ) → length (to_le_bytes w n) ≡ size → from_le_bytes w (to_le_bytes w n) ≡ n →
    fixed_at w size (to_le_bytes w n ++ rest) ≡ Some (n, rest)
fixed-read w size n rest long back =
    let bs = to_le_bytes w n in
    ap (λ b. cond b None (Some (from_le_bytes w (take size (bs ++ rest)), drop size (bs ++ rest))))
    (le-ltb (length (bs ++ rest)) size (omega (arith, length-append bs rest, long)))
    ∙ (λ i. Some (from_le_bytes w (take (sym long i) (bs ++ rest)), drop (sym long i) (bs ++ rest)))
    ∙ (λ i. Some (from_le_bytes w (take-append_seam bs rest i), drop-append_seam bs rest i))
    ∙ ap (λ m. Some (m, rest)) back

pub word-read : (n : ℕ) (rest : List ℕ) → n < 2 ^ 64 → word_at (to_le_bytes w64 n ++ rest) ≡ Some (n, rest)
word-read n rest fits = fixed-read w64 8 n rest refl (from_le_bytes-to_le_bytes_8 n fits)

pub half-read : (n : ℕ) (rest : List ℕ) → n < 2 ^ 32 → half_at (to_le_bytes w32 n ++ rest) ≡ Some (n, rest)
half-read n rest fits = fixed-read w32 4 n rest refl (from_le_bytes-to_le_bytes_4 n fits)

pub piece-read : (p : Piece) (rest : List ℕ) → p.at < 128 ^ 9 → p.len < 128 ^ 9 → p.digest < 2 ^ 64 → piece_at (piece_bytes p ++ rest) ≡ Some (p, rest)
piece-read p rest at len fits =
    ap piece_at (append_assoc (spelled p.at) (spelled p.len ++ to_le_bytes w64 p.digest) rest)
    ∙ ap (λ (x : Option (ℕ × List ℕ)). followed_by x after_place) (number-read 8 p.at ((spelled p.len ++ to_le_bytes w64 p.digest) ++ rest) at)
    ∙ ap (λ (bs : List ℕ). followed_by (number_at 8 bs) (after_length p.at)) (append_assoc (spelled p.len) (to_le_bytes w64 p.digest) rest)
    ∙ ap (λ (x : Option (ℕ × List ℕ)). followed_by x (after_length p.at)) (number-read 8 p.len (to_le_bytes w64 p.digest ++ rest) len)
    ∙ ap (λ (x : Option (ℕ × List ℕ)). followed_by x (after_digest p.at p.len)) (word-read p.digest rest fits)
  where
    after_digest : ℕ → ℕ → ℕ → List ℕ → Option (Piece × List ℕ)
    after_digest at len d rest = Some (record { at = at; len = len; digest = d }, rest)

    after_length : ℕ → ℕ → List ℕ → Option (Piece × List ℕ)
    after_length at len rest = followed_by (word_at rest) (after_digest at len)

    after_place : ℕ → List ℕ → Option (Piece × List ℕ)
    after_place at rest = followed_by (number_at 8 rest) (after_length at)

-- what stands between two parts of a file
pub part-there : (front bs back : List ℕ) → part_at (length front) (length bs) (front ++ (bs ++ back)) ≡ Some bs
part-there front bs back =
    ap (λ b. cond b (Some (take (length bs) (drop (length front) (front ++ (bs ++ back))))) None)
    (le-leb (length front + length bs) (length (front ++ (bs ++ back))) (omega (arith, length-append front (bs ++ back), length-append bs back)))
    ∙ ap (λ l. Some (take (length bs) l)) (drop-append_seam front (bs ++ back))
    ∙ ap Some (take-append_seam bs back)

pub piece-there : (key : ℕ) (front bs back : List ℕ) → piece_in key (front ++ (bs ++ back)) (named key (length front) bs) ≡ Some bs
piece-there key front bs back =
    ap (option_and_then (digested key (named key (length front) bs))) (part-there front bs back)
    ∙ ap (λ b. cond b (Some bs) None) (eq-eqb (digest key (length front) bs) (digest key (length front) bs) refl)
