-- Documents of which nothing else is known: what a cursor over a list of them has left at a place.
use Rattle.std.proofs.Common.{◌≡◌, ℕ, ◌+◌, ◌-◌, ◌<◌, ◌≤◌, List, [], ◌∷◌, length, get_or, map, take, drop, min, ap, refl, sym, ◌∙◌}
use Rattle.std.proofs.lemmas.List.{length-map, drop-map}
use Rattle.qm_docset.specs.Documents.{AreDocuments}
use Rattle.qm_docset.specs.DocumentsFacts.{AreEntries-documents}
use Rattle.qm_docset.specs.Entry.{documents, from, no_limits, plain}
use Rattle.qm_docset.proofs.PlacesLeft as places

pub documents-plain : (ds : List ℕ) → documents (map plain ds) ≡ ds
documents-plain [] = refl
documents-plain (d ∷ ds) = ap (λ r. d ∷ r) (documents-plain ds)

-- dropping the first n of what is left at a place leaves what is left n places on
pub left_on : (n i : ℕ) (docs : List ℕ) → map plain (drop (i + n) docs) ≡ drop n (map plain (drop i docs))
left_on n i docs = sym (drop-map plain (i + n) docs) ∙ places.left_on n i (map plain docs) ∙ ap (drop n) (drop-map plain i docs)

-- what is left at the first place at or past a target is what a seek leaves
pub left_from : (t i j : ℕ) (docs : List ℕ) → AreDocuments docs → i ≤ j → j ≤ length docs → ((k : ℕ) → i ≤ k → k < j → get_or docs k 0 < t) →
    (j < length docs → t ≤ get_or docs j 0) → map plain (drop j docs) ≡ from t (map plain (drop i docs))
left_from t i j docs h ordered within passed reached =
    sym (drop-map plain j docs)
    ∙ places.left_from t i j no_limits (map plain docs) docs (documents-plain docs) (AreEntries-documents 0 docs h) ordered within passed reached
    ∙ ap (from t) (drop-map plain i docs)

-- what is left behind the next n documents, or all where fewer are left
pub left_behind : (n i count : ℕ) (docs : List ℕ) → count ≡ min n (length docs - i) → map plain (drop (i + count) docs) ≡ drop n (map plain (drop i docs))
left_behind n i count docs e =
    let many : count ≡ min n (length (map plain docs) - i) = e ∙ ap (λ l. min n (l - i)) (sym (length-map docs plain)) in
    sym (drop-map plain (i + count) docs) ∙ places.left_behind n i count (map plain docs) many ∙ ap (drop n) (drop-map plain i docs)

-- the next n documents, or all where fewer are left
pub taken : (n i count : ℕ) (docs : List ℕ) → count ≡ min n (length docs - i) → take count (drop i docs) ≡ documents (take n (map plain (drop i docs)))
taken n i count docs e = places.taken n i count (map plain docs) docs (documents-plain docs) e ∙ ap (λ es. documents (take n es)) (drop-map plain i docs)
