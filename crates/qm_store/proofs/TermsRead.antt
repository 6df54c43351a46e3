-- A term that was written is read again.
use Rattle.std.proofs.Common.{◌≡◌, ℕ, List, ◌++◌, cond, length, take, drop, Option, Some, None, ap, ◌∙◌, append_assoc, arith}
use Rattle.std.specs.Prelude.{nat_le}
use Rattle.std.proofs.lemmas.Bool.{le-leb}
use Rattle.std.proofs.lemmas.List.{length-append}
use Rattle.std.proofs.Math.Seq.{drop-append_seam, take-append_seam}
use Rattle.qm_schema.specs.Term.{TermKey}
use Rattle.qm_store.specs.Numbers.{number_at, spelled}
use Rattle.qm_store.specs.RowBytes.{followed_by}
use Rattle.qm_store.specs.TermBytes.{IsSomeTerm, term_at, term_bytes, text_at}
use Rattle.qm_store.proofs.NumberBytes.{number-read}

pub term-read : (t : TermKey) (rest : List ℕ) → IsSomeTerm t → term_at (term_bytes t ++ rest) ≡ Some (t, rest)
term-read t rest is =
    ap term_at (append_assoc (spelled t.field) (spelled (length t.bytes) ++ t.bytes) rest)
    ∙ ap (λ (x : Option (ℕ × List ℕ)). followed_by x behind) (number-read 8 t.field ((spelled (length t.bytes) ++ t.bytes) ++ rest) (omega (arith, is.field)))
    ∙ ap (λ b. cond b (followed_by (number_at 8 ((spelled (length t.bytes) ++ t.bytes) ++ rest)) (text_at t.field)) None) (le-leb t.field 4294967295 is.field)
    ∙ ap (λ (bs : List ℕ). followed_by (number_at 8 bs) (text_at t.field)) (append_assoc (spelled (length t.bytes)) t.bytes rest)
    ∙ ap (λ (x : Option (ℕ × List ℕ)). followed_by x (text_at t.field)) (number-read 8 (length t.bytes) (t.bytes ++ rest) is.bytes)
    ∙ ap (λ b. cond b (Some (record t { bytes = take (length t.bytes) (t.bytes ++ rest) }, drop (length t.bytes) (t.bytes ++ rest))) None)
    (le-leb (length t.bytes) (length (t.bytes ++ rest)) (omega (arith, length-append t.bytes rest)))
    ∙ (λ i. Some (record t { bytes = take-append_seam t.bytes rest i }, drop-append_seam t.bytes rest i))
  where
    behind : ℕ → List ℕ → Option (TermKey × List ℕ)
    behind field bs = cond (nat_le field 4294967295) (followed_by (number_at 8 bs) (text_at field)) None
