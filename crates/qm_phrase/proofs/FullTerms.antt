-- The full terms of a phrase prefix: the places of the first, and the buffer for the common ones.
use Rattle.std.proofs.Common.{◌≡◌, ℕ, zero, suc, ◌+◌, ◌<◌, ◌≤◌, List, [], ◌∷◌, All, length, map, get_or, ap, sym, ◌∙◌, arith}
use Rattle.std.proofs.lemmas.List.{length-map}
use Rattle.std.proofs.lemmas.List.Elements.{All-head, All-tail}
use Rattle.qm_docset.specs.Entry.{Entry, head_positions, no_limits}
use Rattle.qm_docset.specs.Lists.{lists, bounds}
use Rattle.qm_docset.specs.declared.docset.DocSet.{Ghosts}
use Rattle.qm_postings.specs.PositionsFacts.{length-head_positions}
use Rattle.qm_phrase.specs.Phrase.{positions_at, sets_at, shifted_each}
use Rattle.qm_phrase.specs.Places.{room_of, shift_of}
use Rattle.qm_phrase.specs.PrefixTerms.{IsCommonBuffer}
use Rattle.qm_phrase.specs.TermRows.{AreInside, each_of, first_term, term_of}
use Rattle.qm_phrase.specs.Terms.{AreTerms, sets_here, shifts_in, terms_in}
use Rattle.qm_phrase.specs.declared.places.Places.{Places}
use Rattle.qm_phrase.specs.declared.terms.TermPlaces.{TermPlaces}
use Rattle.qm_phrase.proofs.TermMoves.{Law}
use Rattle.qm_phrase.proofs.TermSteps.{length-shifted_each}

pub length-sets_at : (shifts : List ℕ) (ess : List (List Entry)) (d : ℕ) → length shifts ≡ length ess → length (sets_at shifts ess d) ≡ length ess
unfolding sets_at
length-sets_at shifts ess d paired =
    let long = length-map ess (positions_at d) in
    let wide = length-shifted_each shifts (map (positions_at d) ess) (omega arith) in
    omega arith

module _ {P : Type 0} (D : Ghosts P) where
  fits_at : Law D → (members : List P) (k : ℕ) → All D.valid members → k < length members →
      length (get_or (map head_positions (lists D members)) k []) ≤ (get_or (bounds D members) k no_limits).room
  fits_at law [] k valid below = absurd (omega arith)
  fits_at law (m ∷ members) zero valid below = length-head_positions 0 (D.limits m) (D.entries m) (law m (All-head D.valid m members valid))
  fits_at law (m ∷ members) (suc k) valid below = fits_at law members k (All-tail D.valid m members valid) (omega arith)

  fits_first : Law D → (members : List P) (terms : List (ℕ × ℕ)) → 0 < length terms → AreInside (length members) terms → All D.valid members →
      length (get_or (shifted_each (map (λ t. t.0) terms) (each_of (map head_positions (lists D members)) terms)) 0 [])
      ≤ (get_or (bounds D members) (first_term terms).1 no_limits).room
  fits_first law members [] some inside valid = absurd (omega arith)
  fits_first law members (t ∷ terms) some inside valid =
      let Inside : ℕ × ℕ → Type 0 = λ u. u.1 < length members in
      omega (
        arith,
        length-map (get_or (map head_positions (lists D members)) t.1 []) (λ p. p + t.0),
        fits_at law members t.1 valid (All-head Inside t terms inside),
      )

  -- there is room for the places of the first term
  pub first-fits : Law D → (t : TermPlaces P) → AreTerms D t →
      length (get_or (sets_here D t) 0 []) ≤ (get_or (bounds D t.members.items) (first_term (terms_in t)).1 no_limits).room
  first-fits law t h =
      fits_first law t.members.items (terms_in t) (omega (arith, h.some, length-map t.rows.items term_of)) h.inside h.valid

  -- the buffer stays one
  pub IsCommonBuffer-kept : (t new : TermPlaces P) (common common_new : Places) → IsCommonBuffer D t common →
      bounds D new.members.items ≡ bounds D t.members.items → terms_in new ≡ terms_in t → shift_of common_new ≡ shift_of common →
      room_of common ≤ room_of common_new → IsCommonBuffer D new common_new
  IsCommonBuffer-kept t new common common_new is limits terms shift room = record {
    shift = shift ∙ is.shift ∙ ap (λ ts. (first_term ts).0) (sym terms);
    room = omega (
      arith,
      ap (λ bs. (get_or bs (first_term (terms_in new)).1 no_limits).room) limits,
      ap (λ ts. (get_or (bounds D t.members.items) (first_term ts).1 no_limits).room) terms,
      is.room,
      room,
    );
  }

  -- there are sets of places to look at
  pub some-sets : (t : TermPlaces P) → AreTerms D t → 0 < length (sets_here D t)
  some-sets t h =
      let shift : ℕ × ℕ → ℕ = λ u. u.0 in
      let list : ℕ × ℕ → List ℕ = λ u. get_or (map head_positions (lists D t.members.items)) u.1 [] in
      let wide = length-map (terms_in t) list in
      let each = length-shifted_each (shifts_in t) (map list (terms_in t)) (omega (arith, wide, length-map (terms_in t) shift)) in
      omega (arith, h.some, each, wide, length-map t.rows.items term_of)
