-- Documents are the entries of a cursor that knows nothing else of them.
use Rattle.std.specs.Prelude.{◌≡◌, ℕ, ◌+◌, ◌<◌, ◌≤◌, List, [], ◌∷◌, map, drop, length, slice_index}
use Rattle.std.proofs.Common.{zero, suc, arith, subst}
use Rattle.qm_docset.specs.Documents.{AreDocuments}
use Rattle.qm_docset.specs.Entry.{AreEntries, no_limits, plain}

-- what is left behind the first of some documents
AreDocuments-rest : (x : ℕ) (docs : List ℕ) → AreDocuments (x ∷ docs) → AreDocuments docs
AreDocuments-rest x docs h = record {
  ascending = λ k l. let P : ℕ → Type 0 = λ n. slice_index docs k < slice_index (x ∷ docs) n in
      let one_on : suc k + 1 ≡ suc (k + 1) = omega arith in subst P one_on (h.ascending (suc k) (omega arith));
  below_end = λ k d l. h.below_end (suc k) d (omega arith);
}

AreEntries-plain : (low : ℕ) (docs : List ℕ) → (0 < length docs → low ≤ slice_index docs 0) → AreDocuments docs → AreEntries low no_limits (map plain docs)
AreEntries-plain low [] first h = tt
AreEntries-plain low (x ∷ docs) first h =
    record {
      here = record { from_low = first (omega arith); below_end = h.below_end 0 0 (omega arith); score = omega arith; positions = omega arith };
      others = AreEntries-plain (x + 1) docs (λ l. let next = h.ascending 0 (omega arith) in omega arith) (AreDocuments-rest x docs h);
    }

-- the documents from a place on are the entries of a cursor that knows nothing else of them
pub AreEntries-documents : (n : ℕ) (docs : List ℕ) → AreDocuments docs → AreEntries 0 no_limits (map plain (drop n docs))
AreEntries-documents zero docs h = AreEntries-plain 0 docs (λ _. omega arith) h
AreEntries-documents (suc n) [] h = tt
AreEntries-documents (suc n) (x ∷ docs) h = AreEntries-documents n docs (AreDocuments-rest x docs h)
