-- Facts on the entries before a bound: they are the first of a cursor's, and those at or past it the others.
use Rattle.std.specs.Prelude.{◌≡◌, ℕ, ◌+◌, ◌<◌, ◌≤◌, List, [], ◌∷◌, All, length, drop, min, slice_index, take}
use Rattle.std.proofs.Common.{zero, suc, arith, ap, refl, sym, ◌∙◌, inl, inr}
use Rattle.std.proofs.lemmas.Bool.{cases_lt, le-ltb, lt-ltb}
use Rattle.std.proofs.lemmas.List.Elements.{All-cons, All-nil, All-weaker}
use Rattle.qm_docset.specs.Entry.{Entry, Limits, AreEntries, below, documents, from, head_document}
use Rattle.qm_docset.specs.EntryFacts.{from-all, from-nil, from-skip}
use Rattle.qm_docset.specs.declared.numbers.TheConstants.{TERMINATED}

pub below-nil : (b : ℕ) → below b [] ≡ []
unfolding below
below-nil b = refl

pub below-keep : (b : ℕ) (e : Entry) (es : List Entry) → e.document < b → below b (e ∷ es) ≡ e ∷ below b es
unfolding below
below-keep b e es h = rw (lt-ltb e.document b h) refl

pub below-skip : (b : ℕ) (e : Entry) (es : List Entry) → b ≤ e.document → below b (e ∷ es) ≡ below b es
unfolding below
below-skip b e es h = rw (le-ltb e.document b h) refl

-- entries from a bound on have none before it
below-past : (b low : ℕ) (limits : Limits) (es : List Entry) → b ≤ low → AreEntries low limits es → below b es ≡ []
below-past b low limits [] h a = below-nil b
below-past b low limits (e ∷ es) h a = below-skip b e es (omega arith) ∙ below-past b (e.document + 1) limits es (omega arith) a.others

-- .. and neither do those of a cursor that stands at or past it, or at its end
pub below-none : (b low : ℕ) (limits : Limits) (es : List Entry) → AreEntries low limits es → min b TERMINATED ≤ head_document es → below b es ≡ []
below-none b low limits [] a h = below-nil b
below-none b low limits (e ∷ es) a h =
    below-skip b e es (omega (arith, a.here.below_end))
    ∙ below-past b (e.document + 1) limits es (omega (arith, a.here.below_end)) a.others

-- a cursor that stands on one before it has some
pub below-here : (b : ℕ) (es : List Entry) → head_document es < b → head_document es < TERMINATED → 1 ≤ length (below b es)
below-here b [] before inside = absurd (omega arith)
below-here b (e ∷ es) before inside = omega (arith, ap length (below-keep b e es before))

module _ (b : ℕ) (limits : Limits) where
  -- where the first is not before the bound, none is
  below-first : (low : ℕ) (e : Entry) (es : List Entry) → AreEntries low limits (e ∷ es) → b ≤ e.document → below b (e ∷ es) ≡ []
  below-first low e es a h = below-skip b e es h ∙ below-past b (e.document + 1) limits es (omega arith) a.others

  -- behind the entries before a bound stand those at or past it
  pub drop-below : (low : ℕ) (es : List Entry) → AreEntries low limits es → drop (length (below b es)) es ≡ from b es
  drop-below low [] a = rw (below-nil b) (rw (from-nil b) refl)
  drop-below low (e ∷ es) a = elim (cases_lt e.document b) [
    | inl before ↦
        rw (below-keep b e es before) (drop-below (e.document + 1) es a.others ∙ rw (from-skip b e es before) refl)
    | inr past ↦
        let whole : AreEntries e.document limits (e ∷ es) = record {
          here = record { from_low = omega arith; below_end = a.here.below_end; score = a.here.score; positions = a.here.positions };
          others = a.others;
        } in
        rw (below-first low e es a past) (rw (from-all b e.document limits (e ∷ es) past whole) refl)
  ]

  -- some of those before it, and how many more there are
  pub length-below-drop : (n low : ℕ) (es : List Entry) → AreEntries low limits es → n ≤ length (below b es) →
      length (below b es) ≡ n + length (below b (drop n es))
  length-below-drop zero low es a h = omega arith
  length-below-drop (suc n) low [] a h = absurd (omega (arith, h, ap length (below-nil b)))
  length-below-drop (suc n) low (e ∷ es) a h = elim (cases_lt e.document b) [
    | inl before ↦
        let more = ap length (below-keep b e es before) in
        omega (arith, more, length-below-drop n (e.document + 1) es a.others (omega (arith, h, more)))
    | inr past ↦ absurd (omega (arith, h, ap length (below-first low e es a past)))
  ]

  -- .. all of which are before it
  pub documents-below : (n low : ℕ) (es : List Entry) → AreEntries low limits es → n ≤ length (below b es) →
      All (λ d. (low ≤ d) × (d < b)) (documents (take n es))
  documents-below zero low es a h = All-nil (λ d. (low ≤ d) × (d < b))
  documents-below (suc n) low [] a h = All-nil (λ d. (low ≤ d) × (d < b))
  documents-below (suc n) low (e ∷ es) a h = elim (cases_lt e.document b) [
    | inl before ↦
        let Within : ℕ → Type 0 = λ d. (low ≤ d) × (d < b) in
        let others = documents-below n (e.document + 1) es a.others (omega (arith, h, ap length (below-keep b e es before))) in
        All-cons Within e.document (documents (take n es)) (a.here.from_low, before)
        (All-weaker (λ d. (e.document + 1 ≤ d) × (d < b)) Within (λ d l. (omega (arith, l.0, a.here.from_low), l.1)) (documents (take n es)) others)
    | inr past ↦ absurd (omega (arith, h, ap length (below-first low e es a past)))
  ]

  -- .. and without which the same are left at or past it
  pub from-dropped : (n low : ℕ) (es : List Entry) → AreEntries low limits es → n ≤ length (below b es) → from b (drop n es) ≡ from b es
  from-dropped zero low es a h = refl
  from-dropped (suc n) low [] a h = refl
  from-dropped (suc n) low (e ∷ es) a h = elim (cases_lt e.document b) [
    | inl before ↦
        from-dropped n (e.document + 1) es a.others (omega (arith, h, ap length (below-keep b e es before))) ∙ sym (from-skip b e es before)
    | inr past ↦ absurd (omega (arith, h, ap length (below-first low e es a past)))
  ]

  -- the first n are before it
  pub length-below-least : (n : ℕ) (es : List Entry) → n ≤ length es → ((k : ℕ) → k < n → slice_index (documents es) k < b) → n ≤ length (below b es)
  length-below-least zero es h passed = omega arith
  length-below-least (suc n) [] h passed = absurd (omega (arith, h))
  length-below-least (suc n) (e ∷ es) h passed =
      let rest = length-below-least n es (omega (arith, h)) (λ k l. passed (suc k) (omega arith)) in
      omega (arith, rest, ap length (below-keep b e es (passed 0 (omega arith))))

  -- .. and the next is not
  pub length-below-cut : (n low : ℕ) (es : List Entry) → AreEntries low limits es → n ≤ length es →
      ((k : ℕ) → k < n → slice_index (documents es) k < b) → (n < length es → b ≤ slice_index (documents es) n) → length (below b es) ≡ n
  length-below-cut n low [] a h passed reached = omega (arith, h, ap length (below-nil b))
  length-below-cut zero low (e ∷ es) a h passed reached = ap length (below-first low e es a (reached (omega arith)))
  length-below-cut (suc n) low (e ∷ es) a h passed reached =
      let rest = length-below-cut n (e.document + 1) es a.others (omega (arith, h)) (λ k l. passed (suc k) (omega arith)) (λ l. reached (omega arith)) in
      omega (arith, rest, ap length (below-keep b e es (passed 0 (omega arith))))

-- no more entries are before a bound than there are
pub length-below-most : (b : ℕ) (es : List Entry) → length (below b es) ≤ length es
length-below-most b [] = omega (arith, ap length (below-nil b))
length-below-most b (e ∷ es) = elim (cases_lt e.document b) [
  | inl before ↦ omega (arith, length-below-most b es, ap length (below-keep b e es before))
  | inr past ↦ omega (arith, length-below-most b es, ap length (below-skip b e es past))
]
