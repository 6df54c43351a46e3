-- Counting the entries whose documents are alive.
use Rattle.std.proofs.Common.{◌≡◌, ℕ, zero, suc, ◌+◌, ◌<◌, ◌≤◌, Bool, true, false, List, [], ◌∷◌, length, get_or, map, drop, refl, arith, add-one}
use Rattle.std.proofs.lemmas.List.Sums.{length-filter, count_by-le-length}
use Rattle.qm_docset.specs.declared.alive_bitset.AliveBitSet.{AliveBitSet}
use Rattle.qm_docset.specs.declared.numbers.TheConstants.{TERMINATED}
use Rattle.qm_docset.specs.AliveBitSet.{alive_docs, alive_entries}
use Rattle.qm_docset.specs.BitSet.{set_has}
use Rattle.qm_docset.specs.Entry.{Entry, head_document, plain}

pub length-alive_entries : (a : AliveBitSet) (es : List Entry) → length (alive_entries a es) ≤ length es
unfolding alive_entries
length-alive_entries a es =
    let p : Entry → Bool = λ e. set_has (alive_docs a) e.document in
    omega (arith, length-filter p es, count_by-le-length p es)

pub alive_entries-nil : (a : AliveBitSet) → alive_entries a [] ≡ []
unfolding alive_entries
alive_entries-nil a = refl

-- the first document is counted where it is alive
pub alive_first : (a : AliveBitSet) (es : List Entry) → head_document es < TERMINATED → set_has (alive_docs a) (head_document es) ≡ true
    → length (alive_entries a es) ≡ 1 + length (alive_entries a (drop 1 es))
unfolding alive_entries
alive_first a [] here is = absurd (omega arith)
alive_first a (e ∷ es) here is = rw is (omega arith)

pub deleted_first : (a : AliveBitSet) (es : List Entry) → head_document es < TERMINATED → set_has (alive_docs a) (head_document es) ≡ false
    → length (alive_entries a es) ≡ length (alive_entries a (drop 1 es))
unfolding alive_entries
deleted_first a [] here is = absurd (omega arith)
deleted_first a (e ∷ es) here is = rw is

-- one more document of a list is looked at
alive_later : (a : AliveBitSet) (xs : List ℕ) (i : ℕ) → i < length xs → set_has (alive_docs a) (get_or xs i 0) ≡ true
    → length (alive_entries a (map plain (drop i xs))) ≡ 1 + length (alive_entries a (map plain (drop (suc i) xs)))
unfolding alive_entries
alive_later a [] i h is = absurd (omega arith)
alive_later a (x ∷ xs) zero h is = rw is (omega arith)
alive_later a (x ∷ xs) (suc i) h is = alive_later a xs i (omega arith) is

pub alive_next : (a : AliveBitSet) (xs : List ℕ) (i : ℕ) → i < length xs → set_has (alive_docs a) (get_or xs i 0) ≡ true
    → length (alive_entries a (map plain (drop i xs))) ≡ 1 + length (alive_entries a (map plain (drop (i + 1) xs)))
alive_next a xs i h is = rw add-one (alive_later a xs i h is)

deleted_later : (a : AliveBitSet) (xs : List ℕ) (i : ℕ) → i < length xs → set_has (alive_docs a) (get_or xs i 0) ≡ false
    → length (alive_entries a (map plain (drop i xs))) ≡ length (alive_entries a (map plain (drop (suc i) xs)))
unfolding alive_entries
deleted_later a [] i h is = absurd (omega arith)
deleted_later a (x ∷ xs) zero h is = rw is
deleted_later a (x ∷ xs) (suc i) h is = deleted_later a xs i (omega arith) is

pub deleted_next : (a : AliveBitSet) (xs : List ℕ) (i : ℕ) → i < length xs → set_has (alive_docs a) (get_or xs i 0) ≡ false
    → length (alive_entries a (map plain (drop i xs))) ≡ length (alive_entries a (map plain (drop (i + 1) xs)))
deleted_next a xs i h is = rw add-one (deleted_later a xs i h is)
