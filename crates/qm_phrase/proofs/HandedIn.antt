-- The terms of a phrase as they are handed in, each with its offset.
use Rattle.std.proofs.Common.{◌≡◌, ℕ, ◌+◌, ◌-◌, ◌<◌, ◌≤◌, List, [], ◌∷◌, ◌++◌, ◌==◌, ◌||◌, true, All, length, map, fold, max, get_or, refl, ap, sym, ◌∙◌, arith}
use Rattle.std.proofs.Common.{subst, inl, inr, vec_capacity}
use Rattle.std.proofs.lemmas.Bool.{cases_lt, eq-eqb}
use Rattle.std.proofs.lemmas.List.{get_or_append_left, length-map, map-append}
use Rattle.std.proofs.lemmas.List.Elements.{All-get_or, All-head, All-map, All-push, All-tail, All-weaker}
use Rattle.std.proofs.lemmas.List.Folds.{list_any-append}
use Rattle.std.proofs.Math.Seq.{get_or-append_seam}
use Rattle.std.proofs.Math.Bool.{or-true}
use Rattle.qm_docset.specs.Entry.{Entry, head_positions}
use Rattle.qm_docset.specs.Gather.{entries_of}
use Rattle.qm_docset.specs.GatherFacts.{entries_of-nil, entries_of-other}
use Rattle.qm_docset.specs.ListFacts.{list_any-map, map-map}
use Rattle.qm_docset.specs.Lists.{lists, bounds}
use Rattle.qm_docset.specs.declared.docset.DocSet.{Ghosts}
use Rattle.qm_term.specs.TermScorer.{AreCovered}
use Rattle.qm_phrase.specs.Phrase.{positions_at, starts_at}
use Rattle.qm_phrase.specs.PhrasePrefix.{greatest_offset_of}
use Rattle.qm_phrase.specs.PhraseTerms.{lists_given, members_of, offsets_of, terms_given}
use Rattle.qm_phrase.specs.TermRows.{AreInside, AreUsed, each_of, is_used, term_of}
use Rattle.qm_phrase.specs.Terms.{AreRoomy, AreTerms, shifts_in, term_lists, terms_in}
use Rattle.qm_phrase.specs.declared.phrase_terms.PhraseTerms.{PhraseTerms}
use Rattle.qm_phrase.specs.declared.terms.TermPlaces.{TermPlaces}
use Rattle.qm_phrase.proofs.PhraseSteps.{starts_at-lacks}

fold_max-le : (n a : ℕ) (xs : List ℕ) → a ≤ n → All (λ x. x ≤ n) xs → fold max a xs ≤ n
fold_max-le n a [] h all = h
fold_max-le n a (x ∷ xs) h all =
    let Fits : ℕ → Type 0 = λ x. x ≤ n in
    let first = All-head Fits x xs all in
    fold_max-le n (max a x) xs (omega arith) (All-tail Fits x xs all)

-- the greatest offset is within what each is within
pub greatest-le : (offsets : List ℕ) → All (λ offset. offset ≤ 4294967295) offsets → fold max 0 offsets ≤ 4294967295
greatest-le offsets all = fold_max-le 4294967295 0 offsets (omega arith) all

-- documents without a length id are not listed
uncovered : (ids : List ℕ) (d : ℕ) (es : List Entry) → AreCovered ids es → length ids ≤ d → entries_of d es ≡ []
uncovered ids d [] covered past = entries_of-nil d
uncovered ids d (e ∷ es) covered past =
    let Covered : Entry → Type 0 = λ e. e.document < length ids in
    let here = All-head Covered e es covered in
    entries_of-other d e es (omega arith) ∙ uncovered ids d es (All-tail Covered e es covered) past

-- a document with a start has a length id
pub covered-starts : (ids : List ℕ) (slop d : ℕ) (shifts : List ℕ) (ess : List (List Entry)) → 0 < length ess → length shifts ≡ length ess →
    All (AreCovered ids) ess → 0 < starts_at slop shifts ess d → d < length ids
covered-starts ids slop d shifts ess some paired covered starts =
    elim (cases_lt d (length ids)) [
      | inl within ↦ within
      | inr past ↦
          let none : positions_at d (get_or ess 0 []) ≡ [] =
          ap head_positions (uncovered ids d (get_or ess 0 []) (All-get_or (AreCovered ids) ess 0 [] some covered) past) in
          absurd (omega (arith, starts, starts_at-lacks slop d 0 shifts ess paired some none))
    ]

-- One more term.

-- whose postings are one more member
pub inside-push : (count offset : ℕ) (terms : List (ℕ × ℕ)) → AreInside count terms → AreInside (count + 1) (terms ++ (offset, count) ∷ [])
inside-push count offset terms inside =
    All-push (λ t. t.1 < count + 1) terms (offset, count) (All-weaker (λ t. t.1 < count) (λ t. t.1 < count + 1) (λ t h. omega (arith, h)) terms inside)
    (omega arith)

used-before : (k : ℕ) (terms : List (ℕ × ℕ)) (t : ℕ × ℕ) → is_used terms k ≡ true → is_used (terms ++ t ∷ []) k ≡ true
used-before k terms t used = list_any-append (λ u. u.1 == k) terms (t ∷ []) ∙ ap (λ b. b || is_used (t ∷ []) k) used

pub used-push : (count offset : ℕ) (terms : List (ℕ × ℕ)) → AreUsed count terms → AreUsed (count + 1) (terms ++ (offset, count) ∷ [])
used-push count offset terms used k below =
    elim (cases_lt k count) [
      | inl before ↦ used-before k terms (offset, count) (used k before)
      | inr last ↦ list_any-append (λ u. u.1 == k) terms ((offset, count) ∷ [])
          ∙ rw (eq-eqb count k (omega (arith, below, last))) (or-true (is_used terms k))
    ]

each_of-longer : {X : Type 0} (xs : List (List X)) (x : List X) (terms : List (ℕ × ℕ)) → AreInside (length xs) terms →
    each_of (xs ++ x ∷ []) terms ≡ each_of xs terms
each_of-longer xs x [] inside = refl
each_of-longer xs x (t ∷ terms) inside =
    let Inside : ℕ × ℕ → Type 0 = λ u. u.1 < length xs in
    let here = get_or_append_left xs (x ∷ []) [] t.1 (All-head Inside t terms inside) in
    let rest = each_of-longer xs x terms (All-tail Inside t terms inside) in
    λ i. here i ∷ rest i

pub each_of-push : {X : Type 0} (xs : List (List X)) (x : List X) (offset : ℕ) (terms : List (ℕ × ℕ)) → AreInside (length xs) terms →
    each_of (xs ++ x ∷ []) (terms ++ (offset, length xs) ∷ []) ≡ each_of xs terms ++ x ∷ []
each_of-push {X} xs x offset terms inside =
    let list : ℕ × ℕ → List X = λ t. get_or (xs ++ x ∷ []) t.1 [] in
    map-append list terms ((offset, length xs) ∷ [])
    ∙ (λ i. each_of-longer xs x terms inside i ++ get_or-append_seam xs x [] [] i ∷ [])

-- which has the postings of another
pub inside-equal : (count offset member : ℕ) (terms : List (ℕ × ℕ)) → member < count → AreInside count terms →
    AreInside count (terms ++ (offset, member) ∷ [])
inside-equal count offset member terms h inside = All-push (λ t. t.1 < count) terms (offset, member) inside h

pub used-equal : (count : ℕ) (terms : List (ℕ × ℕ)) (t : ℕ × ℕ) → AreUsed count terms → AreUsed count (terms ++ t ∷ [])
used-equal count terms t used k below = used-before k terms t (used k below)

-- The rows of terms.

-- how far a term is shifted, and its member
abbrev pub placed : ℕ → ℕ × ℕ → ℕ × ℕ
placed greatest t = (greatest - t.0, t.1)

used-placed : (greatest count : ℕ) (terms : List (ℕ × ℕ)) → AreUsed count terms → AreUsed count (map (placed greatest) terms)
used-placed greatest count terms used k below = list_any-map (λ t. t.1 == k) (placed greatest) terms ∙ used k below

module _ {P : Type 0} (D : Ghosts P) where
  -- terms with their buffers are terms
  pub AreTerms-made : (given : PhraseTerms P) (made : TermPlaces P) (greatest : ℕ) → 0 < length (terms_given given) → greatest ≤ 4294967295 →
      All D.valid (members_of given) → made.members.items ≡ members_of given → AreRoomy (bounds D (members_of given)) (map vec_capacity made.positions.items) →
      terms_in made ≡ map (placed greatest) (terms_given given) → AreTerms D made
  AreTerms-made given made greatest some most valid members roomy terms =
      let shift : ℕ × ℕ → ℕ = λ t. t.0 in
      let long = length-map made.rows.items term_of in
      record {
        valid = rw members valid;
        some = omega (
          arith,
          some,
          ap length terms,
          length-map (terms_given given) (placed greatest),
          long,
        );
        roomy = rw members roomy;
        inside = rw (members, terms) (All-map (λ t. t.1 < length (members_of given)) (placed greatest) (terms_given given) given.inside);
        used = rw (members, terms) (used-placed greatest (length (members_of given)) (terms_given given) given.used);
        shifts = All-map (λ n. n ≤ 4294967295) shift (terms_in made)
            (rw terms (All-map (λ t. t.0 ≤ 4294967295) (placed greatest) (terms_given given) (λ k d below. omega (arith, most))));
      }

  pub shifts-made : (given : PhraseTerms P) (made : TermPlaces P) (greatest : ℕ) → terms_in made ≡ map (placed greatest) (terms_given given) →
      shifts_in made ≡ map (λ offset. greatest - offset) (offsets_of given)
  shifts-made given made greatest terms =
      let shift : ℕ × ℕ → ℕ = λ t. t.0 in
      ap (map shift) terms ∙ map-map shift (placed greatest) (terms_given given)
      ∙ sym (map-map (λ offset. greatest - offset) shift (terms_given given))

  pub lists-made : (given : PhraseTerms P) (made : TermPlaces P) (greatest : ℕ) → made.members.items ≡ members_of given →
      terms_in made ≡ map (placed greatest) (terms_given given) → term_lists D made ≡ lists_given D given
  lists-made given made greatest members terms =
      let list : ℕ × ℕ → List Entry = λ t. get_or (lists D (members_of given)) t.1 [] in
      ap (λ ms. each_of (lists D ms) (terms_in made)) members ∙ ap (each_of (lists D (members_of given))) terms
      ∙ map-map list (placed greatest) (terms_given given)

-- Each term has an offset and a list.

module _ {P : Type 0} (D : Ghosts P) (given : PhraseTerms P) where
  pub some-given : 0 < length (terms_given given) → 0 < length (lists_given D given)
  some-given some =
      let list : ℕ × ℕ → List Entry = λ t. get_or (lists D (members_of given)) t.1 [] in
      omega (arith, some, length-map (terms_given given) list)

  pub paired-given : (suffix_pos : ℕ) →
      length (map (λ offset. greatest_offset_of (offsets_of given) suffix_pos - offset) (offsets_of given)) ≡ length (lists_given D given)
  paired-given suffix_pos =
      let list : ℕ × ℕ → List Entry = λ t. get_or (lists D (members_of given)) t.1 [] in
      let offset : ℕ × ℕ → ℕ = λ t. t.0 in
      omega (
        arith,
        length-map (offsets_of given) (λ o. greatest_offset_of (offsets_of given) suffix_pos - o),
        length-map (terms_given given) offset,
        length-map (terms_given given) list,
      )

-- Terms that have postings of their own.

module _ {P : Type 0} (D : Ghosts P) (items : List (ℕ × P)) (given : PhraseTerms P) where
  pub length-own : offsets_of given ≡ map (λ pair. pair.0) items → length (terms_given given) ≡ length items
  length-own offsets =
      let offset : ℕ × ℕ → ℕ = λ t. t.0 in
      let own : ℕ × P → ℕ = λ pair. pair.0 in
      omega (arith, ap length offsets, length-map (terms_given given) offset, length-map items own)

  pub valid-own : members_of given ≡ map (λ pair. pair.1) items → All (λ pair. D.valid pair.1) items → All D.valid (members_of given)
  valid-own members valid =
      let postings : ℕ × P → P = λ pair. pair.1 in
      subst (All D.valid) (sym members) (All-map D.valid postings items valid)

  pub offsets-own : offsets_of given ≡ map (λ pair. pair.0) items → All (λ pair. pair.0 ≤ 4294967295) items →
      All (λ offset. offset ≤ 4294967295) (offsets_of given)
  offsets-own offsets all =
      let own : ℕ × P → ℕ = λ pair. pair.0 in
      subst (All (λ offset. offset ≤ 4294967295)) (sym offsets) (All-map (λ offset. offset ≤ 4294967295) own items all)

  pub covered-own : (ids : List ℕ) → lists_given D given ≡ map (λ pair. D.entries pair.1) items → All (λ pair. AreCovered ids (D.entries pair.1)) items →
      All (AreCovered ids) (lists_given D given)
  covered-own ids lists covered =
      let list : ℕ × P → List Entry = λ pair. D.entries pair.1 in
      subst (All (AreCovered ids)) (sym lists) (All-map (AreCovered ids) list items covered)
