-- A list of documents with points, by how many starts each has.
use Rattle.std.proofs.Common.{◌≡◌, ℕ, get_or, length, Option, Some, None, Ok, Err, ◌+◌, ◌<◌, ◌≤◌, nat_lt, Bool, true, false, List, [], ◌∷◌, drop, min, refl, ap}
use Rattle.std.proofs.Common.{sym, ◌∙◌, arith, inl, inr}
use Rattle.std.proofs.lemmas.Bool.{cases_Bool, cases_lt, lt-ltb}
use Rattle.std.proofs.lemmas.List.{get_or_default}
use Rattle.qm_docset.specs.Entry.{Entry, Limits, AreEntries, from, head_document, head_score}
use Rattle.qm_docset.specs.Gather.{entries_of, scored}
use Rattle.qm_docset.specs.GatherFacts.{entries_of-first}
use Rattle.qm_docset.specs.Listed.{listed, IsNamed}
use Rattle.qm_docset.specs.ListedFacts.{entries_of-listed, entries_of-listed_lacks, head_document-listed, listed-first, listed-moved, listed-none}
use Rattle.qm_docset.specs.declared.docset.DocSet.{Ghosts}
use Rattle.qm_docset.specs.declared.numbers.TheConstants.{TERMINATED}
use Rattle.qm_term.specs.Bm25.{bm25}
use Rattle.qm_term.specs.Bm25Weight.{weighing}
use Rattle.qm_term.specs.OwnNorms.{OwnWeight}
use Rattle.qm_phrase.specs.PhrasePrefix.{held_count}
use Rattle.qm_phrase.specs.Phrase.{phrase_points}
use Rattle.qm_phrase.specs.PhraseScorer.{most_starts}
use Rattle.qm_phrase.specs.Terms.{AreMovedTo, IsFirstStart, IsLook, term_starts}
use Rattle.qm_phrase.specs.declared.terms.TermPlaces.{TermPlaces}
use Rattle.qm_phrase.proofs.TermMoves.{starts-ahead}

abbrev pub by_counts : (ℕ → ℕ → ℕ) → (ℕ → ℕ) → List Entry
by_counts points f = listed (λ d. nat_lt 0 (held_count (f d))) (λ d. scored d (points d (held_count (f d))))

pub kept-none : (n : ℕ) → n ≡ 0 → nat_lt 0 (held_count n) ≡ false
kept-none n none = ap (λ m. nat_lt 0 (held_count m)) none

kept-some : (n : ℕ) → 0 < n → nat_lt 0 (held_count n) ≡ true
kept-some n some = lt-ltb 0 (held_count n) (omega arith)

pub by_counts-moved : (points : ℕ → ℕ → ℕ) (t : ℕ) (f g : ℕ → ℕ) → ((d : ℕ) → d < t → f d ≡ 0) →
    ((d : ℕ) → t ≤ d → f d ≡ g d) → by_counts points f ≡ from t (by_counts points g)
by_counts-moved points t f g behind same =
    listed-moved t (λ d. nat_lt 0 (held_count (g d))) (λ d. nat_lt 0 (held_count (f d)))
    (λ d. scored d (points d (held_count (g d)))) (λ d. scored d (points d (held_count (f d)))) (λ d. refl) (record {
      none_below = λ d below. kept-none (f d) (behind d below);
      same_test = λ d past. ap (λ n. nat_lt 0 (held_count n)) (same d past);
      same_entry = λ d past here. ap (λ n. scored d (points d (held_count n))) (same d past);
    })

pub by_counts-first : (points : ℕ → ℕ → ℕ) (d : ℕ) (f : ℕ → ℕ) → d < TERMINATED → ((e : ℕ) → e < d → f e ≡ 0) →
    0 < f d → by_counts points f ≡ scored d (points d (held_count (f d))) ∷ from (d + 1) (by_counts points f)
by_counts-first points d f below behind some =
    listed-first d (λ e. nat_lt 0 (held_count (f e))) (λ e. scored e (points e (held_count (f e)))) below
    (λ e. refl) (λ e h. kept-none (f e) (behind e h)) (kept-some (f d) some)

pub by_counts-bound : (points : ℕ → ℕ → ℕ) (t : ℕ) (f : ℕ → ℕ) → t ≤ TERMINATED → ((d : ℕ) → d < t → f d ≡ 0) → t ≤ head_document (by_counts points f)
by_counts-bound points t f below behind =
    head_document-listed t (λ e. nat_lt 0 (held_count (f e))) (λ e. scored e (points e (held_count (f e)))) below (λ e. refl) (λ e h. kept-none (f e) (behind e h))

by_counts-none : (points : ℕ → ℕ → ℕ) (f : ℕ → ℕ) → ((d : ℕ) → d < TERMINATED → f d ≡ 0) → by_counts points f ≡ []
by_counts-none points f behind =
    listed-none (λ e. nat_lt 0 (held_count (f e))) (λ e. scored e (points e (held_count (f e)))) (λ e h. kept-none (f e) (behind e h))

-- it begins with the first document that has a start
pub by_counts-head : (points : ℕ → ℕ → ℕ) (d : ℕ) (f : ℕ → ℕ) → d ≤ TERMINATED →
    ((e : ℕ) → e < d → f e ≡ 0) → (d < TERMINATED → 0 < f d) → d ≡ head_document (by_counts points f)
by_counts-head points d f most behind some =
    elim (cases_lt d TERMINATED) [
      | inl here ↦ sym (ap head_document (by_counts-first points d f here behind (some here)))
      | inr ended ↦
          let level : d ≡ TERMINATED = omega arith in
          level ∙ sym (ap head_document (by_counts-none points f (λ e h. behind e (omega arith))))
    ]

module _ {P : Type 0} (D : Ghosts P) where
  -- after a search for a start, the terms count the same from the target on, and nothing before it
  pub found-behind : (slop most target : ℕ) (found : ℕ × ℕ) (old new : TermPlaces P) →
      IsFirstStart D slop most target old found → AreMovedTo D slop found.0 old new →
      (d : ℕ) → d < target → term_starts D slop new d ≡ 0
  found-behind slop most target found old new first moved d h = moved.behind d (omega (arith, first.within.0))

  pub found-same : (slop most target : ℕ) (found : ℕ × ℕ) (old new : TermPlaces P) →
      IsFirstStart D slop most target old found → AreMovedTo D slop found.0 old new →
      (d : ℕ) → target ≤ d → term_starts D slop new d ≡ term_starts D slop old d
  found-same slop most target found old new first moved d h =
      elim (cases_lt d found.0) [
        | inl before ↦ moved.behind d before ∙ sym (first.bare d h before)
        | inr past ↦ starts-ahead D slop found.0 d old new moved past
      ]

  found-some : (slop most target : ℕ) (found : ℕ × ℕ) (old new : TermPlaces P) →
      IsFirstStart D slop most target old found → AreMovedTo D slop found.0 old new →
      found.0 < TERMINATED → 0 < term_starts D slop new found.0
  found-some slop most target found old new first moved below =
      let here = first.here below in
      omega (arith, here.0, here.1, starts-ahead D slop found.0 found.0 old new moved (omega arith))

  pub found-entries : (points : ℕ → ℕ → ℕ) (slop most target : ℕ) (found : ℕ × ℕ) (old new : TermPlaces P) → IsFirstStart D slop most target old found → AreMovedTo D slop found.0 old new →
      by_counts points (term_starts D slop new) ≡ from target (by_counts points (term_starts D slop old))
  found-entries points slop most target found old new first moved =
      by_counts-moved points target (term_starts D slop new) (term_starts D slop old) (found-behind slop most target
      found old new first moved) (found-same slop most target found old new first moved)

  pub found-head : (points : ℕ → ℕ → ℕ) (slop most target : ℕ) (found : ℕ × ℕ) (old new : TermPlaces P) → IsFirstStart D slop most target old found →
      AreMovedTo D slop found.0 old new → found.0 ≡ head_document (by_counts points (term_starts D slop new))
  found-head points slop most target found old new first moved =
      by_counts-head points found.0 (term_starts D slop new) first.within.1 moved.behind
      (found-some slop most target found old new first moved)

  pub found-count : (slop most target : ℕ) (found : ℕ × ℕ) (old new : TermPlaces P) →
      IsFirstStart D slop most target old found → AreMovedTo D slop found.0 old new →
      found.0 < TERMINATED → found.1 ≡ min most (term_starts D slop new found.0)
  found-count slop most target found old new first moved below =
      (first.here below).1 ∙ ap (min most) (sym (starts-ahead D slop found.0 found.0 old new moved (omega arith)))

  -- what is left of the starts was there before
  pub moved-some : (slop target : ℕ) (old new : TermPlaces P) →
      AreMovedTo D slop target old new → (d : ℕ) → 0 < term_starts D slop new d → 0 < term_starts D slop old d
  moved-some slop target old new moved d some =
      elim (cases_lt d target) [
        | inl before ↦ absurd (omega (arith, moved.behind d before, some))
        | inr past ↦ omega (arith, some, starts-ahead D slop target d old new moved past)
      ]

  -- and is as many
  pub moved-same : (slop target : ℕ) (old new : TermPlaces P) → AreMovedTo D slop target old new → (d : ℕ) → 0 < term_starts D slop new d → term_starts D slop new d ≡ term_starts D slop old d
  moved-same slop target old new moved d some =
      elim (cases_lt d target) [
        | inl before ↦ absurd (omega (arith, moved.behind d before, some))
        | inr past ↦ starts-ahead D slop target d old new moved past
      ]

-- where a cursor stands on a document, that one is kept, and its entry is what is made of it
pub listed-stands : (limits : Limits) (kept : ℕ → Bool) (made : ℕ → Entry) (d : ℕ) (es : List Entry) → es ≡ listed kept made →
    AreEntries 0 limits es → IsNamed made → d ≡ head_document es → d < TERMINATED → (kept d ≡ true) × (es ≡ made d ∷ drop 1 es)
listed-stands limits kept made d [] is a named here below = absurd (omega arith)
listed-stands limits kept made d (e ∷ es) is a named here below =
    let first : entries_of d (listed kept made) ≡ e ∷ [] = ap (entries_of d) (sym is)
    ∙ ap (λ n. entries_of n (e ∷ es)) here ∙ entries_of-first 0 limits e es a in
    elim (cases_Bool (kept d)) [
      | inl holds ↦
          let same : made d ≡ e = cc (entries_of-listed d kept made below named holds, first) in
          (holds, ap (λ x. x ∷ es) (sym same))
      | inr fails ↦ absurd (cc (entries_of-listed_lacks d kept made named fails, first))
    ]

pub by_counts-stands : (limits : Limits) (points : ℕ → ℕ → ℕ) (d : ℕ) (f : ℕ → ℕ) → AreEntries 0 limits (by_counts points f) →
    d ≡ head_document (by_counts points f) → d < TERMINATED → (0 < f d) × (head_score (by_counts points f) ≡ points d (held_count (f d)))
by_counts-stands limits points d f a here below =
    let stands =
    listed-stands limits (λ e. nat_lt 0 (held_count (f e))) (λ e. scored e (points e (held_count (f e)))) d (by_counts points f) refl a (λ e. refl) here below in (
      elim (cases_lt 0 (f d)) [
        | inl some ↦ some
        | inr none ↦ absurd (cc (kept-none (f d) (omega arith), stands.0))
      ],
      ap head_score stands.1,
    )

-- what the weight gives a count at the document's length id
pub points-some : (given : Option OwnWeight) (weight : OwnWeight) (ids : List ℕ) (d count id n : ℕ) → given ≡ Some weight → d < length ids →
    id ≡ get_or ids d id → count ≡ min (most_starts given) n → bm25 (weighing weight) id count ≡ phrase_points given ids d (held_count n)
points-some None weight ids d count id n is below read counted = absurd (cc)
points-some (Some other) weight ids d count id n is below read counted =
    let same : other ≡ weight = cc in
    let level : id ≡ get_or ids d 0 = read ∙ get_or_default ids d id 0 below in
    ap (λ w. bm25 (weighing w) id count) (sym same) ∙ ap (λ i. bm25 (weighing other) i count) level ∙ ap (λ c. bm25 (weighing other) (get_or ids d 0) c) counted

pub points-none : (given : Option OwnWeight) (ids : List ℕ) (d n : ℕ) → given ≡ None → 1 ≡ phrase_points given ids d n
points-none None ids d n is = refl
points-none (Some weight) ids d n is = absurd (cc)

module _ {P : Type 0} (D : Ghosts P) where
  -- after a look at one document, the terms count the same from there on, and nothing before it
  pub look-entries : (points : ℕ → ℕ → ℕ) (slop target : ℕ) (old new : TermPlaces P) →
      AreMovedTo D slop target old new →
      by_counts points (term_starts D slop new) ≡ from target (by_counts points (term_starts D slop old))
  look-entries points slop target old new moved =
      by_counts-moved points target (term_starts D slop new) (term_starts D slop old) moved.behind
      (λ d h. starts-ahead D slop target d old new moved h)

  pub look-found : (points : ℕ → ℕ → ℕ) (slop most target count : ℕ) (old new : TermPlaces P) →
      target < TERMINATED → AreMovedTo D slop target old new → IsLook D slop most target old (Ok count) →
      (target ≡ head_document (by_counts points (term_starts D slop new))) × (count ≡ min most (term_starts D slop new target))
  look-found points slop most target count old new below moved look =
      let same = starts-ahead D slop target target old new moved (omega arith) in (
        by_counts-head points target (term_starts D slop new) (omega arith) moved.behind (λ h. omega (arith, look.0, look.1, same)),
        look.1
            ∙ ap (min most) (sym same),
      )

  pub look-bound : (points : ℕ → ℕ → ℕ) (slop most target bound : ℕ) (old new : TermPlaces P) →
      AreMovedTo D slop target old new → IsLook D slop most target old (Err bound) →
      bound ≤ head_document (by_counts points (term_starts D slop new))
  look-bound points slop most target bound old new moved look =
      by_counts-bound points bound (term_starts D slop new) look.1 (λ d h. elim (cases_lt d target) [
        | inl before ↦ moved.behind d before
        | inr past ↦ starts-ahead D slop target d old new moved past ∙ look.2 d past h
      ])
