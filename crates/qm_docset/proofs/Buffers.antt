-- A buffer that takes a cursor's documents one by one.
use Rattle.std.proofs.Common.{◌≡◌, ◌≢◌, inl, inr, ℕ, zero, suc, ◌<◌, ◌≤◌, List, [], ◌∷◌, ◌++◌, length, take, drop, set, refl, ap, arith, length-drop}
use Rattle.std.proofs.lemmas.Bool.{cases_lt}
use Rattle.std.proofs.lemmas.List.{drop_all}
use Rattle.qm_docset.specs.Entry.{Entry, Limits, AreEntries, documents, head_document}
use Rattle.qm_docset.specs.EntryFacts.{AreEntries-drop, entries-at_end}
use Rattle.qm_docset.specs.declared.numbers.TheConstants.{TERMINATED}

-- one more document at the place behind those taken
pub documents-taken_more : (n v : ℕ) (es : List Entry) (b : List ℕ) → n < length es → n < length b →
    take n b ≡ documents (take n es) → v ≡ head_document (drop n es) → take (suc n) (set b n v) ≡ documents (take (suc n) es)
documents-taken_more n v [] b h k e f = absurd (omega arith)
documents-taken_more n v (x ∷ es) [] h k e f = absurd (omega arith)
documents-taken_more zero v (x ∷ es) (y ∷ b) h k e f = ap (λ d. d ∷ []) f
documents-taken_more (suc n) v (x ∷ es) (y ∷ b) h k e f =
    let first : y ≡ x.document = cc in
    let rest : take n b ≡ documents (take n es) = cc in
    let more : take (suc n) (set b n v) ≡ documents (take (suc n) es) = documents-taken_more n v es b (omega arith) (omega arith) rest f in
    cc

-- what a buffer took, and what is left behind it
pub documents-split : (n : ℕ) (es : List Entry) → documents (take n es) ++ documents (drop n es) ≡ documents es
documents-split zero es = refl
documents-split (suc n) [] = refl
documents-split (suc n) (e ∷ es) = ap (λ ds. e.document ∷ ds) (documents-split n es)

-- where a cursor ends after n documents, n is its length
pub length-ended : (n low : ℕ) (limits : Limits) (es : List Entry) → AreEntries low limits es → TERMINATED ≤ head_document (drop n es) → length es ≤ n
length-ended n low limits es a h =
    let none : drop n es ≡ [] = entries-at_end low limits (drop n es) (AreEntries-drop n low limits es a) h in
    omega (arith, length-drop n es, ap length none)

-- where a cursor still stands on a document after n of them, it has more than n
pub remains : (n : ℕ) (limits : Limits) (es : List Entry) → AreEntries 0 limits es → head_document (drop n es) ≢ TERMINATED → n < length es
remains n limits es a h =
    elim (cases_lt n (length es)) [
      | inl more ↦ more
      | inr ended ↦ absurd (h (ap head_document (drop_all n es ended)))
    ]
