-- The postings of a term are of documents of its segment, and rows with one more element.
use Rattle.std.proofs.Common.{◌≡◌, ℕ, ◌<◌, List, [], ◌∷◌, ◌++◌, All, length, subst, sym, arith}
use Rattle.std.specs.List.{range_with_len}
use Rattle.std.proofs.lemmas.List.Elements.{All-append, All-cons, All-filter, All-map, All-nil}
use Rattle.std.proofs.lemmas.List.FromFn.{get_or-range_with_len, length-range_with_len}
use Rattle.qm_docset.specs.Entry.{Entry}
use Rattle.qm_postings.specs.Segment.{Segment, frequency, holders, holds, positions, postings_of}
use Rattle.qm_schema.specs.Term.{TermKey}
use Rattle.qm_schema.specs.declared.schema.option.IndexRecordOption.{IndexRecordOption}

pub postings-below : (segment : Segment) (option : IndexRecordOption) (term : TermKey) →
    All (λ e. e.document < length segment.documents) (postings_of segment option term)
postings-below segment option term =
    let n = length segment.documents in
    let posting : ℕ →
    Entry = λ d. record { document = d; score = 0; frequency = frequency segment option term d; positions = positions segment option term d } in
    let below = All-filter (holds segment term) (λ d. d < n) (range_with_len 0 n)
    (λ k d within. let inside : k < n = omega (arith, length-range_with_len 0 n) in rw (get_or-range_with_len 0 n k d inside) (omega arith)) in
    All-map (λ e. e.document < n) posting (holders segment term) below

-- a row with one more element
pub All-one_more : {X : Type 0} (P : X → Type 0) (xs ys : List X) (x : X) → ys ≡ xs ++ x ∷ [] → All P xs → P x → All P ys
All-one_more P xs ys x is h p = subst (All P) (sym is) (All-append P xs (x ∷ []) h (All-cons P x [] p (All-nil P)))
