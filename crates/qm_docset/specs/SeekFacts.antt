-- What lists say of documents once they were cut at a target.
use Rattle.std.specs.Prelude.{◌≡◌, ℕ, ◌<◌, ◌≤◌, List, [], ◌∷◌, ◌++◌, map}
use Rattle.std.proofs.Common.{refl, ap, sym, ◌∙◌, arith, inl, inr}
use Rattle.std.proofs.lemmas.Bool.{cases_lt, cases_eq}
use Rattle.qm_docset.specs.Entry.{Entry, from}
use Rattle.qm_docset.specs.EntryFacts.{from-nil, from-keep, from-skip}
use Rattle.qm_docset.specs.Gather.{entries_of, scores_at}
use Rattle.qm_docset.specs.GatherFacts.{entries_of-nil, entries_of-here, entries_of-other, scores_at-nil, scores_at-cons}

-- What is left of a list from a target on says the same of the documents from there on, and nothing
-- of those before.
pub entries_of-from : (d t : ℕ) (es : List Entry) → t ≤ d → entries_of d (from t es) ≡ entries_of d es
entries_of-from d t [] h = ap (entries_of d) (from-nil t)
entries_of-from d t (e ∷ es) h =
    elim (cases_lt e.document t) [
      | inl below ↦ ap (entries_of d) (from-skip t e es below) ∙ entries_of-from d t es h ∙ sym (entries_of-other d e es (omega arith))
      | inr kept ↦ elim (cases_eq e.document d) [
        | inl here ↦ ap (entries_of d) (from-keep t e es kept) ∙ entries_of-here d e (from t es) here
            ∙ ap (λ r. e ∷ r) (entries_of-from d t es h) ∙ sym (entries_of-here d e es here)
        | inr other ↦ ap (entries_of d) (from-keep t e es kept) ∙ entries_of-other d e (from t es) other
            ∙ entries_of-from d t es h ∙ sym (entries_of-other d e es other)
      ]
    ]

pub entries_of-from_past : (d t : ℕ) (es : List Entry) → d < t → entries_of d (from t es) ≡ []
entries_of-from_past d t [] h = ap (entries_of d) (from-nil t) ∙ entries_of-nil d
entries_of-from_past d t (e ∷ es) h =
    elim (cases_lt e.document t) [
      | inl below ↦ ap (entries_of d) (from-skip t e es below) ∙ entries_of-from_past d t es h
      | inr kept ↦ ap (entries_of d) (from-keep t e es kept) ∙ entries_of-other d e (from t es) (omega arith) ∙ entries_of-from_past d t es h
    ]

pub scores_at-from : (d t : ℕ) (ess : List (List Entry)) → t ≤ d → scores_at d (map (from t) ess) ≡ scores_at d ess
scores_at-from d t [] h = refl
scores_at-from d t (es ∷ ess) h =
    let first = entries_of-from d t es h in
    let rest = scores_at-from d t ess h in
    scores_at-cons d (from t es) (map (from t) ess) ∙ ap (λ r. map (λ e. e.score) r ++ scores_at d (map (from t) ess)) first
    ∙ ap (λ r. map (λ e. e.score) (entries_of d es) ++ r) rest ∙ sym (scores_at-cons d es ess)

pub scores_at-from_past : (d t : ℕ) (ess : List (List Entry)) → d < t → scores_at d (map (from t) ess) ≡ []
scores_at-from_past d t [] h = scores_at-nil d
scores_at-from_past d t (es ∷ ess) h =
    scores_at-cons d (from t es) (map (from t) ess)
    ∙ ap (λ r. map (λ e. e.score) r ++ scores_at d (map (from t) ess)) (entries_of-from_past d t es h) ∙ scores_at-from_past d t ess h
