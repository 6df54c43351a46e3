-- The list of a phrase prefix, as its terms go on.
use Rattle.std.proofs.Common.{◌≡◌, ℕ, ◌<◌, ◌≤◌, nat_lt, Bool, true, false, List, Option, None, Some, Ok, Err, length, get_or, refl, ap, sym, ◌∙◌, arith, inl}
use Rattle.std.proofs.Common.{inr}
use Rattle.std.proofs.lemmas.Bool.{cases_lt}
use Rattle.qm_docset.specs.Entry.{from, head_document, head_score}
use Rattle.qm_docset.specs.Gather.{scored}
use Rattle.qm_docset.specs.ListedFacts.{listed-moved}
use Rattle.qm_docset.specs.declared.numbers.TheConstants.{TERMINATED}
use Rattle.qm_term.specs.Bm25.{bm25}
use Rattle.qm_term.specs.Bm25Weight.{weighing}
use Rattle.qm_term.specs.OwnNorms.{OwnWeight}
use Rattle.qm_phrase.specs.PhrasePrefix.{PrefixLists, full_count, has_several, held_count, prefix_count, prefix_entries, prefix_limits, prefix_points}
use Rattle.qm_phrase.specs.PhrasePrefixFacts.{AreEntries-prefix}
use Rattle.qm_phrase.specs.PrefixTerms.{HaveGoneOn, IsFirstPrefix, IsPrefixLook}
use Rattle.qm_phrase.specs.declared.prefix_terms.PrefixCounts.{PrefixCounts}
use Rattle.qm_phrase.proofs.PhraseLists.{by_counts-bound, by_counts-head, by_counts-stands, kept-none, points-some}

-- what is left counts as it did
pub gone-counts : (target : ℕ) (found : ℕ × PrefixCounts) (t u : PrefixLists) → IsFirstPrefix target t found →
    HaveGoneOn found.0 t u → (d : ℕ) → target ≤ d → prefix_count u d ≡ prefix_count t d
gone-counts target found t u first gone d past = elim (cases_lt d found.0) [
  | inl before ↦ gone.behind d before ∙ sym (first.bare d past before)
  | inr reached ↦ gone.counts d reached
]

module _ (weight : Option OwnWeight) (ids : List ℕ) where
  -- what a document scores
  abbrev pub points_of : PrefixLists → ℕ → ℕ → ℕ
  points_of t d count = prefix_points weight (has_several t) ids d (held_count (full_count t d))

  same_entry : (t u : PrefixLists) (d : ℕ) → has_several u ≡ has_several t →
      full_count u d ≡ full_count t d → scored d (points_of u d 0) ≡ scored d (points_of t d 0)
  same_entry t u d several full = ap (λ b. scored d (prefix_points weight b ids d (held_count (full_count u d)))) several
      ∙ ap (λ n. scored d (prefix_points weight (has_several t) ids d (held_count n))) full

  -- after a look at one document
  pub look-entries : (target : ℕ) (t u : PrefixLists) → HaveGoneOn target t u → prefix_entries weight ids u ≡ from target (prefix_entries weight ids t)
  look-entries target t u gone =
      listed-moved target (λ d. nat_lt 0 (held_count (prefix_count t d))) (λ d. nat_lt 0 (held_count (prefix_count u d)))
      (λ d. scored d (points_of t d 0)) (λ d. scored d (points_of u d 0)) (λ d. refl) (record {
        none_below = λ d below. kept-none (prefix_count u d) (gone.behind d below);
        same_test = λ d past. ap (λ n. nat_lt 0 (held_count n)) (gone.counts d past);
        same_entry = λ d past here. same_entry t u d gone.several (gone.full d past);
      })

  pub look-head : (target : ℕ) (counts : PrefixCounts) (t u : PrefixLists) → target < TERMINATED →
      HaveGoneOn target t u → IsPrefixLook target t (Ok counts) → target ≡ head_document (prefix_entries weight ids u)
  look-head target counts t u below gone look =
      by_counts-head (points_of u) target (prefix_count u) (omega arith) gone.behind
      (λ h. omega (arith, look.some, look.prefix, gone.counts target (omega arith)))

  pub look-bound : (target bound : ℕ) (t u : PrefixLists) → HaveGoneOn target t u →
      IsPrefixLook target t (Err bound) → bound ≤ head_document (prefix_entries weight ids u)
  look-bound target bound t u gone look =
      by_counts-bound (points_of u) bound (prefix_count u) look.1 (λ d h. elim (cases_lt d target) [
        | inl before ↦ gone.behind d before
        | inr past ↦ gone.counts d past ∙ look.2 d past h
      ])

  -- after a search
  pub found-entries : (target : ℕ) (found : ℕ × PrefixCounts) (t u : PrefixLists) → IsFirstPrefix target t found →
      HaveGoneOn found.0 t u → prefix_entries weight ids u ≡ from target (prefix_entries weight ids t)
  found-entries target found t u first gone =
      listed-moved target (λ d. nat_lt 0 (held_count (prefix_count t d))) (λ d. nat_lt 0 (held_count (prefix_count u d)))
      (λ d. scored d (points_of t d 0)) (λ d. scored d (points_of u d 0)) (λ d. refl) (record {
        none_below = λ d below. kept-none (prefix_count u d) (gone.behind d (omega (arith, below, first.within.0)));
        same_test = λ d past. ap (λ n. nat_lt 0 (held_count n)) (gone-counts target found t u first gone d past);
        same_entry = λ d past here. elim (cases_lt d found.0) [
          | inl before ↦ absurd (cc (here, kept-none (prefix_count t d) (first.bare d past before)))
          | inr reached ↦ same_entry t u d gone.several (gone.full d reached)
        ];
      })

  pub found-head : (target : ℕ) (found : ℕ × PrefixCounts) (t u : PrefixLists) → IsFirstPrefix target t found →
      HaveGoneOn found.0 t u → found.0 ≡ head_document (prefix_entries weight ids u)
  found-head target found t u first gone =
      by_counts-head (points_of u) found.0 (prefix_count u) first.within.1 gone.behind
      (λ below. let here = first.here below in omega (arith, here.some, here.prefix, gone.counts found.0 (omega arith)))

  -- where it stands on a document, that one counts, and scores its points
  pub prefix-stands : (t : PrefixLists) (d : ℕ) → d ≡ head_document (prefix_entries weight ids t) → d < TERMINATED → (0 < prefix_count t d) ×
      (head_score (prefix_entries weight ids t) ≡ prefix_points weight (has_several t) ids d (held_count (full_count t d)))
  prefix-stands t d here below =
      by_counts-stands (prefix_limits weight (has_several t)) (points_of t) d (prefix_count t) (AreEntries-prefix weight ids t) here below

-- and was there before
pub gone-some : (target d : ℕ) (t u : PrefixLists) → HaveGoneOn target t u → 0 < prefix_count u d → 0 < prefix_count t d
gone-some target d t u gone some =
    elim (cases_lt d target) [
      | inl before ↦ absurd (omega (arith, gone.behind d before, some))
      | inr past ↦ omega (arith, gone.counts d past, some)
    ]

-- and is as many
pub gone-same : (target d : ℕ) (t u : PrefixLists) → HaveGoneOn target t u → 0 < prefix_count u d → prefix_count u d ≡ prefix_count t d
gone-same target d t u gone some =
    elim (cases_lt d target) [
      | inl before ↦ absurd (omega (arith, gone.behind d before, some))
      | inr past ↦ gone.counts d past
    ]

-- The points: without a weight, with one full term, and with two or more.

pub prefix_points-none : (given : Option OwnWeight) (several : Bool) (ids : List ℕ) (d n : ℕ) → given ≡ None → 1 ≡ prefix_points given several ids d n
prefix_points-none None true ids d n is = refl
prefix_points-none None false ids d n is = refl
prefix_points-none (Some weight) several ids d n is = absurd (cc)

pub prefix_points-single : (given : Option OwnWeight) (weight : OwnWeight) (several : Bool) (ids : List ℕ) (d n : ℕ) →
    given ≡ Some weight → false ≡ several → weight.boost ≡ prefix_points given several ids d n
prefix_points-single None weight several ids d n is one = absurd (cc)
prefix_points-single (Some other) weight true ids d n is one = absurd (cc)
prefix_points-single (Some other) weight false ids d n is one = let same : other ≡ weight = cc in ap (λ (w : OwnWeight). w.boost) (sym same)

pub prefix_points-several : (given : Option OwnWeight) (weight : OwnWeight) (several : Bool) (ids : List ℕ) (d count id n : ℕ) → given ≡ Some weight →
    true ≡ several → d < length ids → id ≡ get_or ids d id → count ≡ held_count n → bm25 (weighing weight) id count ≡ prefix_points given several ids d (held_count n)
prefix_points-several None weight several ids d count id n is more below read counted = absurd (cc)
prefix_points-several (Some other) weight false ids d count id n is more below read counted = absurd (cc)
prefix_points-several (Some other) weight true ids d count id n is more below read counted =
    points-some (Some other) weight ids d count id n is below read counted
