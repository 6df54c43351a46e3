-- Every document from a number on: which ones a block of them has, and how many are alive.
use Rattle.std.specs.Prelude.{◌≡◌, ℕ, ◌+◌, ◌-◌, ◌<◌, ◌≤◌, cond, [], ◌∷◌, length, map, take, min}
use Rattle.std.specs.List.{range_with_len}
use Rattle.std.proofs.Common.{zero, suc, arith, ap, ◌∙◌, inl, inr}
use Rattle.std.proofs.lemmas.Bool.{cases_Bool}
use Rattle.qm_docset.specs.AliveBitSet.{alive_docs, alive_entries}
use Rattle.qm_docset.specs.BitSet.{set_has}
use Rattle.qm_docset.specs.Entry.{documents}
use Rattle.qm_docset.specs.declared.alive_bitset.AliveBitSet.{AliveBitSet}
use Rattle.qm_combine.specs.AllDocuments.{all_from, one}
use Rattle.qm_combine.specs.AllDocumentsFacts.{all_from-end}

documents-run : (k low n : ℕ) → documents (take k (map one (range_with_len low n))) ≡ range_with_len low (min k n)
documents-run zero low n = let count : zero ≡ min zero n = omega arith in ap (range_with_len low) count
documents-run (suc k) low zero = let count : zero ≡ min (suc k) zero = omega arith in ap (range_with_len low) count
documents-run (suc k) low (suc n) =
    let count : suc (min k n) ≡ min (suc k) (suc n) = omega arith in
    ap (λ ds. low ∷ ds) (documents-run k (low + 1) n) ∙ ap (range_with_len low) count

pub documents-all_from : (k low max_doc : ℕ) → documents (take k (all_from low max_doc)) ≡ range_with_len low (min k (max_doc - low))
unfolding all_from
documents-all_from k low max_doc = documents-run k low (max_doc - low)

-- the alive ones: the first, if it is, and those after it
pub alive-all_from : (alive : AliveBitSet) (low max_doc : ℕ) → low < max_doc →
    length (alive_entries alive (all_from low max_doc)) ≡ cond (set_has (alive_docs alive) low) 1 0 + length (alive_entries alive (all_from (low + 1) max_doc))
unfolding all_from alive_entries
alive-all_from alive low max_doc h =
    let more : max_doc - low ≡ suc (max_doc - (low + 1)) = omega arith in
    ap (λ n. length (alive_entries alive (map one (range_with_len low n)))) more ∙ elim (cases_Bool (set_has (alive_docs alive) low)) [
      | inl here ↦ rw here (omega arith)
      | inr gone ↦ rw gone (omega arith)
    ]

pub alive-all_from_end : (alive : AliveBitSet) (low max_doc : ℕ) → max_doc ≤ low → alive_entries alive (all_from low max_doc) ≡ []
unfolding alive_entries
alive-all_from_end alive low max_doc h = ap (alive_entries alive) (all_from-end low max_doc h)
