-- What a cursor has left at a place of its entries, whose documents it knows.
use Rattle.std.proofs.Common.{◌≡◌, inl, inr, ℕ, ◌+◌, ◌-◌, ◌<◌, ◌≤◌, List, [], ◌∷◌, length, get_or, map, take, drop, min, ap, refl, sym, subst, arith, ◌∙◌}
use Rattle.std.proofs.Common.{length-drop, zero, suc}
use Rattle.std.proofs.lemmas.Bool.{cases_lt}
use Rattle.std.proofs.lemmas.List.{length-map, take_all, drop_all, drop-map, drop-drop, take-map, get_or-drop}
use Rattle.qm_docset.specs.BelowFacts.{length-below-cut, length-below-least}
use Rattle.qm_docset.specs.Documents.{AreDocuments}
use Rattle.qm_docset.specs.DocumentsFacts.{AreEntries-documents}
use Rattle.qm_docset.specs.Entry.{AreEntries, Entry, Limits, below, documents, from, head_document, no_limits, plain}
use Rattle.qm_docset.specs.EntryFacts.{AreEntries-drop, from-cut, length-entries}
use Rattle.qm_docset.specs.declared.numbers.TheConstants.{TERMINATED}

pub length-named : (es : List Entry) (ds : List ℕ) → documents es ≡ ds → length es ≡ length ds
length-named es ds names = sym (length-map es (λ e. e.document)) ∙ ap length names

head_at : (n : ℕ) (es : List Entry) (x : ℕ) → n < length es → head_document (drop n es) ≡ get_or (documents es) n x
head_at n [] x l = absurd (omega arith)
head_at zero (e ∷ es) x l = refl
head_at (suc n) (e ∷ es) x l = head_at n es x (omega arith)

-- the document at a place
pub document_at : (n : ℕ) (es : List Entry) (ds : List ℕ) (x : ℕ) → documents es ≡ ds → n < length ds → head_document (drop n es) ≡ get_or ds n x
document_at n es ds x names l = head_at n es x (omega (arith, length-named es ds names)) ∙ ap (λ xs. get_or xs n x) names

-- nothing is left behind the last
pub none_left : (n : ℕ) (es : List Entry) (ds : List ℕ) → documents es ≡ ds → length ds ≤ n → drop n es ≡ []
none_left n es ds names l = drop_all n es (omega (arith, length-named es ds names))

pub count_left : (n : ℕ) (es : List Entry) (ds : List ℕ) → documents es ≡ ds → length (drop n es) ≡ length ds - n
count_left n es ds names = omega (arith, length-drop n es, length-named es ds names)

-- a place that stands on a document is within the arrays
pub within : (n : ℕ) (es : List Entry) (ds : List ℕ) → documents es ≡ ds → n ≤ length ds → head_document (drop n es) < TERMINATED → n < length ds
within n es ds names place here =
    elim (cases_lt n (length ds)) [
      | inl less ↦ less
      | inr past ↦ absurd (omega (arith, ap head_document (none_left n es ds names past)))
    ]

-- dropping the first n of what is left at a place leaves what is left n places on
pub left_on : (n i : ℕ) (es : List Entry) → drop (i + n) es ≡ drop n (drop i es)
left_on n i es = sym (drop-drop n i es)

-- what is left at the first place at or past a target is what a seek leaves
pub left_from : (t i j : ℕ) (limits : Limits) (es : List Entry) (ds : List ℕ) → documents es ≡ ds → AreEntries 0 limits es → i ≤ j →
    j ≤ length ds → ((k : ℕ) → i ≤ k → k < j → get_or ds k 0 < t) → (j < length ds → t ≤ get_or ds j 0) → drop j es ≡ from t (drop i es)
left_from t i j limits es ds names a ordered inside passed reached =
    let left = drop i es in
    let named : documents left ≡ drop i ds = sym (drop-map (λ e. e.document) i es) ∙ ap (drop i) names in
    let long : length left ≡ length ds - i = sym (length-map left (λ e. e.document)) ∙ ap length named ∙ length-drop i ds in
    let here = λ (k : ℕ). ap (λ xs. get_or xs k 0) named ∙ get_or-drop i ds k 0 in
    let on : i + (j - i) ≡ j = omega arith in
    let P : ℕ → Type 0 = λ n. drop n es ≡ drop (j - i) left in
    let cut = from-cut t (j - i) 0 limits left (AreEntries-drop i 0 limits es a) (omega arith)
    (λ k l. let e = here k in let p = passed (i + k) (omega arith) (omega arith) in omega arith) (λ l. let e = here (j - i) in
    let Q : ℕ → Type 0 = λ n. get_or (documents left) (j - i) 0 ≡ get_or ds n 0 in let f = subst Q on e in let r = reached (omega arith) in omega arith) in
    subst P on (left_on (j - i) i es) ∙ sym cut

-- the documents from a place on up to another are below a bound
module _ (b i j : ℕ) (es : List Entry) (ds : List ℕ) (names : documents es ≡ ds) (ordered : i ≤ j) (inside : j ≤ length ds)
    (passed : (k : ℕ) → i ≤ k → k < j → get_or ds k 0 < b) where
  named_left : documents (drop i es) ≡ drop i ds
  named_left = sym (drop-map (λ e. e.document) i es) ∙ ap (drop i) names

  long_left : length (drop i es) ≡ length ds - i
  long_left = sym (length-map (drop i es) (λ e. e.document)) ∙ ap length named_left ∙ length-drop i ds

  there : (k : ℕ) → get_or (documents (drop i es)) k 0 ≡ get_or ds (i + k) 0
  there k = ap (λ xs. get_or xs k 0) named_left ∙ get_or-drop i ds k 0

  before : (k : ℕ) → k < j - i → get_or (documents (drop i es)) k 0 < b
  before k l = omega (arith, there k, passed (i + k) (omega arith) (omega arith))

  pub below_least : j - i ≤ length (below b (drop i es))
  below_least = length-below-least b no_limits (j - i) (drop i es) (omega (arith, long_left)) before

  -- .. and the next is not
  pub below_up_to : (limits : Limits) → AreEntries 0 limits es → (j < length ds → b ≤ get_or ds j 0) → length (below b (drop i es)) ≡ j - i
  below_up_to limits a reached =
      let on : i + (j - i) ≡ j = omega arith in
      length-below-cut b limits (j - i) 0 (drop i es) (AreEntries-drop i 0 limits es a) (omega (arith, long_left)) before
      (λ l. omega (arith, there (j - i), ap (λ n. get_or ds n 0) on, reached (omega (arith, long_left))))

-- what is left behind the next n entries, or all where fewer are left
pub left_behind : (n i count : ℕ) (es : List Entry) → count ≡ min n (length es - i) → drop (i + count) es ≡ drop n (drop i es)
left_behind n i count es e =
    left_on count i es ∙ elim (cases_lt n (length es - i)) [
      | inl more ↦ ap (λ m. drop m (drop i es)) (omega arith)
      | inr all ↦ drop_all count (drop i es) (omega (arith, length-drop i es)) ∙ sym (drop_all n (drop i es) (omega (arith, length-drop i es)))
    ]

-- the documents of the next n entries, or of all where fewer are left
pub taken : (n i count : ℕ) (es : List Entry) (ds : List ℕ) → documents es ≡ ds →
    count ≡ min n (length ds - i) → take count (drop i ds) ≡ documents (take n (drop i es))
taken n i count es ds names e =
    let named : documents (drop i es) ≡ drop i ds = sym (drop-map (λ e. e.document) i es) ∙ ap (drop i) names in
    let same : take count (drop i ds) ≡ take n (drop i ds) = elim (cases_lt n (length ds - i)) [
      | inl more ↦ ap (λ m. take m (drop i ds)) (omega arith)
      | inr all ↦ take_all count (drop i ds) (omega (arith, length-drop i ds)) ∙ sym (take_all n (drop i ds) (omega (arith, length-drop i ds)))
    ] in
    same ∙ ap (take n) (sym named) ∙ take-map (λ e. e.document) n (drop i es)

-- fewer than 2^31 documents are left
pub few : (i : ℕ) (ds : List ℕ) → AreDocuments ds → length ds - i ≤ TERMINATED
few i ds h = omega (arith, few_at_all ds h)
  where
    few_at_all : (ds : List ℕ) → AreDocuments ds → length ds ≤ TERMINATED
    few_at_all ds h = omega (arith, length-entries 0 no_limits (map plain ds) (omega arith) (AreEntries-documents 0 ds h), length-map ds plain)
