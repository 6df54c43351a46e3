-- Facts on a row of members, each with its list and its limits: where they stand, what they say of a
-- document, and what a pass over them leaves.
use Rattle.std.specs.Prelude.{◌≡◌, ℕ, ◌<◌, ◌≤◌, List, [], ◌∷◌, ◌++◌, All, length, map}
use Rattle.std.proofs.Common.{ap, sym, refl, ◌∙◌, arith, inl, inr}
use Rattle.std.proofs.lemmas.Bool.{cases_lt}
use Rattle.std.proofs.lemmas.List.Elements.{All-head, All-tail, All-weaker}
use Rattle.qm_docset.specs.Entry.{Entry, Limits, AreEntries, from, head_document, head_score}
use Rattle.qm_docset.specs.EntryFacts.{from-reached}
use Rattle.qm_docset.specs.Gather.{scores_at, IsBare, IsWithin, AreMembers}
use Rattle.qm_docset.specs.GatherFacts.{entries_of-ahead, score_of-here, scores_at-nil, scores_at-cons}
use Rattle.qm_docset.specs.SeekFacts.{scores_at-from}
use Rattle.qm_docset.specs.declared.numbers.TheConstants.{TERMINATED}

-- ---- over lists and limits beside them

-- where all stand on one document, its scores are those of their first entries
pub scores_at-together : (d : ℕ) (bounds : List Limits) (ess : List (List Entry)) → d < TERMINATED →
    AreMembers bounds ess → All (λ es. head_document es ≡ d) ess → scores_at d ess ≡ map head_score ess
scores_at-together d bounds [] h members all = scores_at-nil d
scores_at-together d [] (es ∷ ess) h members all = absurd members
scores_at-together d (limits ∷ bounds) (es ∷ ess) h members all =
    let here = score_of-here d 0 limits es members.0 (All-head (λ xs. head_document xs ≡ d) es ess all) h in
    let rest = scores_at-together d bounds ess h members.1 (All-tail (λ xs. head_document xs ≡ d) es ess all) in
    scores_at-cons d es ess ∙ ap (λ r. r ++ scores_at d ess) here ∙ ap (λ r. head_score es ∷ r) rest

-- where all stand past a document, none of them has it
pub scores_at-ahead : (d : ℕ) (bounds : List Limits) (ess : List (List Entry)) →
    AreMembers bounds ess → All (λ es. d < head_document es) ess → scores_at d ess ≡ []
scores_at-ahead d bounds [] members all = scores_at-nil d
scores_at-ahead d [] (es ∷ ess) members all = absurd members
scores_at-ahead d (limits ∷ bounds) (es ∷ ess) members all =
    let here = entries_of-ahead d 0 limits es members.0 (All-head (λ xs. d < head_document xs) es ess all) in
    let rest = scores_at-ahead d bounds ess members.1 (All-tail (λ xs. d < head_document xs) es ess all) in
    scores_at-cons d es ess ∙ ap (λ r. map (λ e. e.score) r ++ scores_at d ess) here ∙ rest

-- what is gathered keeps within a bound as the lists lose what lies below a target
pub IsWithin-pass : (least top t : ℕ) (combined : List ℕ → ℕ) (old new : List (List Entry)) → IsWithin least combined top old →
    IsBare least t new → map (from t) new ≡ map (from t) old → IsWithin least combined top new
IsWithin-pass least top t combined old new within bare same d enough =
    elim (cases_lt d t) [
      | inl below ↦ absurd (let few = bare d below in omega arith)
      | inr past ↦
          let stay : scores_at d new ≡ scores_at d old = sym (scores_at-from d t new past) ∙ ap (scores_at d) same ∙ scores_at-from d t old past in
          rw stay (within d (rw stay at enough))
    ]

-- ---- over the members themselves

module _ {X : Type 0} (list : X → List Entry) (bound : X → Limits) where
  -- nothing is dropped from members that stand at or past a target
  pub from-row : (t : ℕ) (xs : List X) → All (λ x. AreEntries 0 (bound x) (list x)) xs →
      All (λ x. t ≤ head_document (list x)) xs → map (from t) (map list xs) ≡ map list xs
  from-row t [] all reached = refl
  from-row t (x ∷ xs) all reached =
      let here = from-reached t 0 (bound x) (list x) (All-head (λ y. t ≤ head_document (list y)) x xs reached)
      (All-head (λ y. AreEntries 0 (bound y) (list y)) x xs all) in
      let rest = from-row t xs (All-tail (λ y. AreEntries 0 (bound y) (list y)) x xs all) (All-tail (λ y. t ≤ head_document (list y)) x xs reached) in
      ap (λ es. es ∷ map (from t) (map list xs)) here ∙ ap (λ ess. list x ∷ ess) rest

  -- and none of them has a document below it
  pub scores_at-row_ahead : (d : ℕ) (xs : List X) → All (λ x. AreEntries 0 (bound x) (list x)) xs →
      All (λ x. d < head_document (list x)) xs → scores_at d (map list xs) ≡ []
  scores_at-row_ahead d [] all past = scores_at-nil d
  scores_at-row_ahead d (x ∷ xs) all past =
      let here = entries_of-ahead d 0 (bound x) (list x) (All-head (λ y. AreEntries 0 (bound y) (list y)) x xs all)
      (All-head (λ y. d < head_document (list y)) x xs past) in
      let rest = scores_at-row_ahead d xs (All-tail (λ y. AreEntries 0 (bound y) (list y)) x xs all) (All-tail (λ y. d < head_document (list y)) x xs past) in
      scores_at-cons d (list x) (map list xs) ∙ ap (λ r. map (λ e. e.score) r ++ scores_at d (map list xs)) here ∙ rest

  pub IsBare-row : (t least : ℕ) (xs : List X) → 1 ≤ least → All (λ x. AreEntries 0 (bound x) (list x)) xs →
      All (λ x. t ≤ head_document (list x)) xs → IsBare least t (map list xs)
  IsBare-row t least xs some all reached d below =
      let none =
      scores_at-row_ahead d xs all (All-weaker (λ x. t ≤ head_document (list x)) (λ x. d < head_document (list x)) (λ x h. omega arith) xs reached) in
      omega (arith, ap length none)

  -- where all stand on one document, its scores are those of their first entries
  pub scores_at-row_together : (d : ℕ) (xs : List X) → d < TERMINATED → All (λ x. AreEntries 0 (bound x) (list x)) xs →
      All (λ x. head_document (list x) ≡ d) xs → scores_at d (map list xs) ≡ map (λ x. head_score (list x)) xs
  scores_at-row_together d [] h all together = scores_at-nil d
  scores_at-row_together d (x ∷ xs) h all together =
      let here = score_of-here d 0 (bound x) (list x) (All-head (λ y. AreEntries 0 (bound y) (list y)) x xs all)
      (All-head (λ y. head_document (list y) ≡ d) x xs together) h in
      let rest =
      scores_at-row_together d xs h (All-tail (λ y. AreEntries 0 (bound y) (list y)) x xs all) (All-tail (λ y. head_document (list y) ≡ d) x xs together) in
      scores_at-cons d (list x) (map list xs) ∙ ap (λ r. r ++ scores_at d (map list xs)) here ∙ ap (λ r. head_score (list x) ∷ r) rest
