-- Which documents are listed: an intersection lists exactly those that all lists have, a union those
-- that some list has.
use Rattle.std.specs.Prelude.{◌≡◌, ℕ, ◌+◌, ◌<◌, ◌≤◌, ◌==◌, ◌||◌, ◌&&◌, nat_le, false, List, [], ◌∷◌, length, filter, map}
use Rattle.std.proofs.Common.{suc, ap, sym, refl, ◌∙◌, arith, inl, inr, length-append}
use Rattle.std.proofs.lemmas.Bool.{le-leb, lt-leb, eq-eqb, ne_eqb, cases_eq, cases_lt}
use Rattle.std.proofs.lemmas.Bool.Decides.{nat_tests}
use Rattle.std.proofs.lemmas.List.{length-map}
use Rattle.qm_docset.specs.Entry.{Entry, Limits, documents}
use Rattle.qm_docset.specs.Exclusion.{has_document, some_has_document, all_have_document}
use Rattle.qm_docset.specs.Gather.{scored, entries_of, scores_at, documents_below, gathered, gather, common_entries, AreMembers}
use Rattle.qm_docset.specs.GatherFacts.{entries_of-nil, entries_of-here, entries_of-other, entries_of-most, entries_of-gather, entries_of-gather_few}
use Rattle.qm_docset.specs.GatherFacts.{scores_at-nil, scores_at-cons, length-scores_at}
use Rattle.qm_docset.specs.declared.numbers.TheConstants.{TERMINATED}

pub has_document-nil : (d : ℕ) → has_document [] d ≡ false
unfolding has_document
has_document-nil d = refl

pub has_document-cons : (e : Entry) (es : List Entry) (d : ℕ) → has_document (e ∷ es) d ≡ (e.document == d || has_document es d)
unfolding has_document
has_document-cons e es d = refl

-- a list has a document where it says something of it
pub has_document-entries_of : (d : ℕ) (es : List Entry) → has_document es d ≡ nat_le 1 (length (entries_of d es))
has_document-entries_of d [] = has_document-nil d ∙ sym (ap (λ r. nat_le 1 (length r)) (entries_of-nil d))
has_document-entries_of d (e ∷ es) =
    elim (cases_eq e.document d) [
      | inl here ↦
          has_document-cons e es d ∙ rw (eq-eqb e.document d here)
          (sym (ap (λ r. nat_le 1 (length r)) (entries_of-here d e es here) ∙ le-leb 1 (length (e ∷ entries_of d es)) (omega arith)))
      | inr other ↦
          has_document-cons e es d
          ∙ rw (ne_eqb e.document d other) (has_document-entries_of d es ∙ sym (ap (λ r. nat_le 1 (length r)) (entries_of-other d e es other)))
    ]

length-scores_at_cons : (d : ℕ) (es : List Entry) (ess : List (List Entry)) →
    length (scores_at d (es ∷ ess)) ≡ length (entries_of d es) + length (scores_at d ess)
length-scores_at_cons d es ess =
    ap length (scores_at-cons d es ess) ∙ length-append (map (λ e. e.score) (entries_of d es)) (scores_at d ess)
    ∙ ap (λ n. n + length (scores_at d ess)) (length-map (entries_of d es) (λ e. e.score))

one_of-sum : (a b : ℕ) → nat_le 1 (a + b) ≡ (nat_le 1 a || nat_le 1 b)
one_of-sum a b = grind (arith, nat_tests)

-- some of the lists have a document where it has a score in them
pub some_has_document-scores_at : (d : ℕ) (ess : List (List Entry)) → some_has_document ess d ≡ nat_le 1 (length (scores_at d ess))
unfolding some_has_document
some_has_document-scores_at d [] = sym (ap (λ r. nat_le 1 (length r)) (scores_at-nil d))
some_has_document-scores_at d (es ∷ ess) =
    ap (λ b. b || some_has_document ess d) (has_document-entries_of d es)
    ∙ ap (λ b. nat_le 1 (length (entries_of d es)) || b) (some_has_document-scores_at d ess)
    ∙ sym (ap (nat_le 1) (length-scores_at_cons d es ess) ∙ one_of-sum (length (entries_of d es)) (length (scores_at d ess)))

one_more : (lists here others : ℕ) → here ≤ 1 → others ≤ lists → nat_le (suc lists) (here + others) ≡ (nat_le 1 here && nat_le lists others)
one_more lists here others one most = grind (arith, nat_tests)

-- and all of them where it has as many as there are lists
pub all_have_document-scores_at : (d : ℕ) (bounds : List Limits) (ess : List (List Entry)) →
    AreMembers bounds ess → all_have_document ess d ≡ nat_le (length ess) (length (scores_at d ess))
unfolding all_have_document
all_have_document-scores_at d [] [] members = sym (ap (λ r. nat_le 0 (length r)) (scores_at-nil d))
all_have_document-scores_at d [] (es ∷ ess) members = absurd members
all_have_document-scores_at d (limits ∷ bounds) [] members = absurd members
all_have_document-scores_at d (limits ∷ bounds) (es ∷ ess) members =
    let here = length (entries_of d es) in
    let others = length (scores_at d ess) in
    let most = entries_of-most d 0 limits es members.0 in
    let one : here ≤ 1 = omega (arith, length-map (entries_of d es) (λ e. e.score)) in
    ap (λ b. b && all_have_document ess d) (has_document-entries_of d es)
    ∙ ap (λ b. nat_le 1 here && b) (all_have_document-scores_at d bounds ess members.1)
    ∙ sym (ap (nat_le (suc (length ess))) (length-scores_at_cons d es ess) ∙ one_more (length ess) here others one (length-scores_at d bounds ess members.1))

-- ---- what is gathered

-- it has the documents that have enough scores
pub has_document-gather : (least : ℕ) (combined : List ℕ → ℕ) (d : ℕ) (ess : List (List Entry)) →
    d < TERMINATED → has_document (gather least combined ess) d ≡ nat_le least (length (scores_at d ess))
has_document-gather least combined d ess below =
    has_document-entries_of d (gather least combined ess) ∙ elim (cases_lt (length (scores_at d ess)) least) [
      | inl few ↦ ap (λ r. nat_le 1 (length r)) (entries_of-gather_few least combined d ess few) ∙ sym (lt-leb least (length (scores_at d ess)) few)
      | inr enough ↦ ap (λ r. nat_le 1 (length r)) (entries_of-gather least combined d ess below enough) ∙ sym (le-leb least (length (scores_at d ess)) enough)
    ]

-- a union has exactly the documents that some of the lists have
pub has_document-union : (combined : List ℕ → ℕ) (d : ℕ) (ess : List (List Entry)) →
    d < TERMINATED → has_document (gather 1 combined ess) d ≡ some_has_document ess d
has_document-union combined d ess below = has_document-gather 1 combined d ess below ∙ sym (some_has_document-scores_at d ess)

-- an intersection has exactly those that all of the lists have
pub has_document-common_entries : (combined : List ℕ → ℕ) (d : ℕ) (bounds : List Limits) (ess : List (List Entry)) →
    d < TERMINATED → AreMembers bounds ess → has_document (common_entries combined ess) d ≡ all_have_document ess d
has_document-common_entries combined d bounds ess below members = has_document-gather (length ess) combined d ess below
    ∙ sym (all_have_document-scores_at d bounds ess members)

-- the documents of both, as filters of all documents
documents-scored : (score : ℕ → ℕ) (ds : List ℕ) → documents (map (λ d. scored d (score d)) ds) ≡ ds
documents-scored score [] = refl
documents-scored score (d ∷ ds) = ap (λ r. d ∷ r) (documents-scored score ds)

pub documents-gather : (least : ℕ) (combined : List ℕ → ℕ) (ess : List (List Entry)) →
    documents (gather least combined ess) ≡ filter (λ d. nat_le least (length (scores_at d ess))) (documents_below TERMINATED)
unfolding gather gathered
documents-gather least combined ess =
    documents-scored (λ d. combined (scores_at d ess)) (filter (λ d. nat_le least (length (scores_at d ess))) (documents_below TERMINATED))
