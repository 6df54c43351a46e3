-- What a union of postings lists: it begins with the least of its members' documents, and a pass over
-- the members drops what lies below its target.
use Rattle.std.proofs.Common.{◌≡◌, ℕ, ◌+◌, ◌<◌, ◌≤◌, nat_le, List, [], ◌∷◌, ◌++◌, All, filter, length, map, refl, ap, sym, ◌∙◌, arith}
use Rattle.std.proofs.lemmas.Bool.{le-leb}
use Rattle.qm_combine.specs.Union.{least_head}
use Rattle.qm_combine.proofs.Uniting.{head_document-members, least_head-le, scores_at-least}
use Rattle.qm_docset.specs.Entry.{Entry, Limits, AreEntries, documents, from, head_document, head_frequency, head_positions}
use Rattle.qm_docset.specs.Exclusion.{some_has_document}
use Rattle.qm_docset.specs.Gather.{documents_below, entries_of, gather, scores_at}
use Rattle.qm_docset.specs.GatherFacts.{AreMembers-map}
use Rattle.qm_docset.specs.HasFacts.{documents-gather, some_has_document-scores_at}
use Rattle.qm_docset.specs.ListFacts.{filter-same}
use Rattle.qm_docset.specs.Listed.{listed, IsNoneBelow}
use Rattle.qm_docset.specs.ListedFacts.{listed-first, listed-moved}
use Rattle.qm_docset.specs.RowFacts.{scores_at-row_ahead}
use Rattle.qm_docset.specs.SeekFacts.{entries_of-from, scores_at-from}
use Rattle.qm_docset.specs.declared.numbers.TheConstants.{TERMINATED}
use Rattle.qm_phrase.specs.PostingUnions.{entries_at, united_entry, united_entries, united_frequency, united_positions}
use Rattle.qm_phrase.specs.PostingUnionFacts.{entries_at-cons}

-- what is left of the lists from a target on says the same of the documents from there on
pub entries_at-from : (d t : ℕ) (ess : List (List Entry)) → t ≤ d → entries_at d (map (from t) ess) ≡ entries_at d ess
entries_at-from d t [] h = refl
entries_at-from d t (es ∷ ess) h =
    entries_at-cons d (from t es) (map (from t) ess) ∙ ap (λ r. r ++ entries_at d (map (from t) ess)) (entries_of-from d t es h)
    ∙ ap (λ r. entries_of d es ++ r) (entries_at-from d t ess h) ∙ sym (entries_at-cons d es ess)

pub entries_at-left : (d t : ℕ) (old new : List (List Entry)) → t ≤ d → map (from t) new ≡ map (from t) old → entries_at d new ≡ entries_at d old
entries_at-left d t old new h same = sym (entries_at-from d t new h) ∙ ap (entries_at d) same ∙ entries_at-from d t old h

-- and so which documents some of them has
some_has-left : (d t : ℕ) (old new : List (List Entry)) → t ≤ d → map (from t) new ≡ map (from t) old → some_has_document new d ≡ some_has_document old d
some_has-left d t old new h same =
    some_has_document-scores_at d new ∙ ap (λ r. nat_le 1 (length r)) (sym (scores_at-from d t new h) ∙ ap (scores_at d) same ∙ scores_at-from d t old h)
    ∙ sym (some_has_document-scores_at d old)

module _ {X : Type 0} (list : X → List Entry) (bound : X → Limits) where
  -- members at or past a target have no document below it
  none_below : (t : ℕ) (xs : List X) → All (λ x. AreEntries 0 (bound x) (list x)) xs →
      All (λ x. t ≤ head_document (list x)) xs → IsNoneBelow t (λ d. some_has_document (map list xs) d)
  none_below t xs all reached d below =
      let past : All (λ x. d < head_document (list x)) xs = λ k e within. (let h = reached k e within in omega arith) in
      some_has_document-scores_at d (map list xs) ∙ ap (λ r. nat_le 1 (length r)) (scores_at-row_ahead list bound d xs all past)

  -- a union whose members were sent to a target is what was left of it from there on
  pub united_entry-sought : (t : ℕ) (old : List (List Entry)) (xs : List X) → All (λ x. AreEntries 0 (bound x) (list x)) xs →
      All (λ x. t ≤ head_document (list x)) xs → map (from t) (map list xs) ≡ map (from t) old → united_entries (map list xs) ≡ from t (united_entries old)
  united_entry-sought t old xs all reached same =
      let new = map list xs in
      listed-moved t (λ d. some_has_document old d) (λ d. some_has_document new d)
      (λ d. united_entry d (entries_at d old)) (λ d. united_entry d (entries_at d new)) (λ d. refl) (record {
        none_below = none_below t xs all reached;
        same_test = λ d past. some_has-left d t old new past same;
        same_entry = λ d past here. ap (united_entry d) (entries_at-left d t old new past same);
      })

  -- it begins with the least document that its members begin with
  pub united_entry-first : (xs : List X) → All (λ x. AreEntries 0 (bound x) (list x)) xs →
      least_head (map list xs) < TERMINATED → united_entries (map list xs) ≡ united_entry (least_head (map list xs))
      (entries_at (least_head (map list xs)) (map list xs)) ∷ from (least_head (map list xs) + 1) (united_entries (map list xs))
  united_entry-first xs all below =
      let ess = map list xs in
      let d = least_head ess in
      let some = scores_at-least (map bound xs) ess (AreMembers-map bound list xs all) below in
      listed-first d (λ n. some_has_document ess n) (λ n. united_entry n (entries_at n ess)) below (λ n. refl)
      (none_below d xs all (λ k e within. least_head-le list xs k e within)) (some_has_document-scores_at d ess ∙ le-leb 1 (length (scores_at d ess)) some)

documents-united : (ess : List (List Entry)) → documents (united_entries ess) ≡ documents (gather 1 (λ scores. 0) ess)
unfolding listed
documents-united ess =
    let kept = filter (λ d. some_has_document ess d) (documents_below TERMINATED) in
    numbers kept
    ∙ filter-same (λ d. some_has_document ess d) (λ d. nat_le 1 (length (scores_at d ess)))
    (documents_below TERMINATED) (λ d. some_has_document-scores_at d ess)
    ∙ sym (documents-gather 1 (λ scores. 0) ess)
  where
    numbers : (ds : List ℕ) → documents (map (λ d. united_entry d (entries_at d ess)) ds) ≡ ds
    numbers [] = refl
    numbers (d ∷ ds) = ap (λ r. d ∷ r) (numbers ds)

head_by_documents : (es fs : List Entry) → documents es ≡ documents fs → head_document es ≡ head_document fs
head_by_documents [] [] same = refl
head_by_documents [] (f ∷ fs) same = absurd (cc)
head_by_documents (e ∷ es) [] same = absurd (cc)
head_by_documents (e ∷ es) (f ∷ fs) same = cc

-- it stands on the least of its members' documents
pub head_document-united : {X : Type 0} (ok : X → Type 0) (bound : X → Limits) (list : X → List Entry) →
    ((x : X) → ok x → AreEntries 0 (bound x) (list x)) → (xs : List X) → All ok xs → least_head (map list xs) ≡ head_document (united_entries (map list xs))
head_document-united ok bound list law xs all =
    head_document-members ok bound list law (λ scores. 0) xs all
    ∙ sym (head_by_documents (united_entries (map list xs)) (gather 1 (λ scores. 0) (map list xs)) (documents-united (map list xs)))

-- and shows what they say of it
pub union-frequency : {X : Type 0} (ok : X → Type 0) (bound : X → Limits) (list : X → List Entry) →
    ((x : X) → ok x → AreEntries 0 (bound x) (list x)) → (d : ℕ) (xs : List X) → All ok xs → d ≡ least_head (map list xs) →
    d < TERMINATED → head_frequency (united_entries (map list xs)) ≡ united_frequency (entries_at d (map list xs))
union-frequency ok bound list law d xs all is below =
    ap head_frequency (united_entry-first list bound xs (λ k e within. law _ (all k e within)) (omega (arith, is, below)))
    ∙ ap (λ n. united_frequency (entries_at n (map list xs))) (sym is)

pub union-positions : {X : Type 0} (ok : X → Type 0) (bound : X → Limits) (list : X → List Entry) →
    ((x : X) → ok x → AreEntries 0 (bound x) (list x)) → (d : ℕ) (xs : List X) → All ok xs → d ≡ least_head (map list xs) →
    d < TERMINATED → head_positions (united_entries (map list xs)) ≡ united_positions (entries_at d (map list xs))
union-positions ok bound list law d xs all is below =
    ap head_positions (united_entry-first list bound xs (λ k e within. law _ (all k e within)) (omega (arith, is, below)))
    ∙ ap (λ n. united_positions (entries_at n (map list xs))) (sym is)
