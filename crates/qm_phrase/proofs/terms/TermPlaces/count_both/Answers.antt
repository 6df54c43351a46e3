-- The places of two terms are the positions that their members lend, shifted.
use Rattle.std.proofs.Common.{◌≡◌, ℕ, ◌<◌, ◌≤◌, List, [], ◌∷◌, All, length, map, min, take, get_or, refl, ap, sym, subst, arith, ◌∙◌}
use Rattle.std.proofs.lemmas.List.{get_or-map, length-map}
use Rattle.std.proofs.lemmas.List.Elements.{All-take}
use Rattle.qm_combine.proofs.EachMember.{get_or-map-map}
use Rattle.qm_docset.specs.Entry.{head_document, head_positions}
use Rattle.qm_docset.specs.Lists.{lists}
use Rattle.qm_docset.specs.declared.docset.DocSet.{Ghosts}
use Rattle.qm_docset.specs.declared.numbers.TheConstants.{TERMINATED}
use Rattle.qm_postings.specs.Positions.{shifted}
use Rattle.qm_phrase.specs.Phrase.{shifted_each}
use Rattle.qm_phrase.specs.Places.{Ascends}
use Rattle.qm_phrase.specs.Starts.{starts}
use Rattle.qm_phrase.specs.TermRows.{each_of, term_of, terms_of}
use Rattle.qm_phrase.specs.Terms.{AreTerms, sets_here}
use Rattle.qm_phrase.specs.declared.term_row.TermRow.{TermRow}
use Rattle.qm_phrase.specs.declared.terms.TermPlaces.{TermPlaces}
use Rattle.qm_phrase.proofs.TermMoves.{sets-ascend}
use Rattle.qm_phrase.proofs.terms.TermPlaces.count_both.Goals as goal

pair_of : (positions : List (List ℕ)) (rows : List TermRow) (a b : TermRow) → 2 ≤ length rows → a ≡ get_or rows 0 a → b ≡ get_or rows 1 b →
    take 2 (shifted_each (map (λ u. u.0) (terms_of rows)) (each_of positions (terms_of rows)))
    ≡ shifted a.row.shift (get_or positions a.member []) ∷ shifted b.row.shift (get_or positions b.member []) ∷ []
pair_of positions [] a b two one other = absurd (omega (arith, two))
pair_of positions (x ∷ []) a b two one other = absurd (omega (arith, two))
pair_of positions (x ∷ y ∷ rows) a b two one other = rw (one, other) refl

module _ {P : Type 0} (D : Ghosts P) where
  -- the member of a term
  inside : (t : TermPlaces P) (k : ℕ) (a : TermRow) → AreTerms D t → k < length t.rows.items → a ≡ get_or t.rows.items k a → a.member < length t.members.items
  inside t k a h below is =
      let long = length-map t.rows.items term_of in
      omega (
        arith,
        h.inside k (term_of a) (omega arith),
        ap (λ u. u.1) (get_or-map term_of t.rows.items k a (term_of a) below),
        ap (λ (r : TermRow). r.member) is,
      )

  -- what a term's member stands on
  here : (t : TermPlaces P) (a : TermRow) (x : P) (ps : List ℕ) → a.member < length t.members.items → x ≡ get_or t.members.items a.member x →
      ps ≡ head_positions (D.entries x) → get_or (map head_positions (lists D t.members.items)) a.member [] ≡ ps
  here t a x ps below is lent =
      get_or-map-map head_positions D.entries t.members.items a.member x [] below ∙ ap (λ m. head_positions (D.entries m)) (sym is) ∙ sym lent

  both : (t : TermPlaces P) (a b : TermRow) (x y : P) (ps qs : List ℕ) → AreTerms D t → 2 ≤ length t.rows.items → a ≡ get_or t.rows.items 0 a →
      b ≡ get_or t.rows.items 1 b → x ≡ get_or t.members.items a.member x → y ≡ get_or t.members.items b.member y →
      ps ≡ head_positions (D.entries x) → qs ≡ head_positions (D.entries y) → take 2 (sets_here D t) ≡ shifted a.row.shift ps ∷ shifted b.row.shift qs ∷ []
  both t a b x y ps qs h two one other first second lent lent_too =
      let some = here t a x ps (inside t 0 a h (omega (arith, two)) one) first lent in
      let more = here t b y qs (inside t 1 b h (omega (arith, two)) other) second lent_too in
      pair_of (map head_positions (lists D t.members.items)) t.rows.items a b two one other
      ∙ (λ i. shifted a.row.shift (some i) ∷ shifted b.row.shift (more i) ∷ [])

pub index-requires-4 : goal.index-requires-4
index-requires-4 g c =
    let self = c.args.self.now in
    omega (
      arith,
      inside g.P.DocSet self 1 c.index-2.result.now c.requires.valid (omega (arith, c.requires.two)) c.index-2.ensures,
      self.members.ok.0,
    )

pub lent_positions-requires-2-clause-valid : goal.lent_positions-requires-2-clause-valid
lent_positions-requires-2-clause-valid g c =
    let self = c.args.self.now in
    let term = c.index-2.result.now in
    let below = inside g.P.DocSet self 1 term c.requires.valid (omega (arith, c.requires.two)) c.index-2.ensures in
    subst g.P.DocSet.valid (sym c.index-4.ensures) (c.requires.valid.valid term.member c.index-4.result.now below)

pub lent_positions-requires-2-clause-placed : goal.lent_positions-requires-2-clause-placed
lent_positions-requires-2-clause-placed g c =
    let self = c.args.self.now in
    let term = c.index-2.result.now in
    let below = inside g.P.DocSet self 1 term c.requires.valid (omega (arith, c.requires.two)) c.index-2.ensures in
    subst g.P.DocSet.placed (sym c.index-4.ensures) (c.requires.here term.member c.index-4.result.now below).0

pub lent_positions-requires-2-clause-here : goal.lent_positions-requires-2-clause-here
lent_positions-requires-2-clause-here g c =
    let self = c.args.self.now in
    let term = c.index-2.result.now in
    let below = inside g.P.DocSet self 1 term c.requires.valid (omega (arith, c.requires.two)) c.index-2.ensures in
    subst (λ m. head_document (g.P.DocSet.entries m) < TERMINATED) (sym c.index-4.ensures) (c.requires.here term.member c.index-4.result.now below).1

pub count_pair-requires : goal.count_pair-requires
count_pair-requires g c =
    subst (All (Ascends 0)) (both g.P.DocSet c.args.self.now c.index.result.now c.index-2.result.now c.index-3.result.now c.index-4.result.now
    c.in_ok-positions.positions.now c.in_ok-other_positions.other_positions.now c.requires.valid c.requires.two c.index.ensures c.index-2.ensures
    c.index-3.ensures c.index-4.ensures c.in_ok-positions.ensures c.in_ok-other_positions.ensures)
    (All-take (Ascends 0) 2 (sets_here g.P.DocSet c.args.self.now)
    (sets-ascend g.P.DocSet g.met.P.Postings.ordered c.args.self.now c.requires.valid))

pub returns : goal.returns
returns g c =
    c.count_pair.ensures ∙ ap (λ r. min c.args.most (starts c.args.slop r)) (sym (both g.P.DocSet c.args.self.now c.index.result.now
    c.index-2.result.now c.index-3.result.now c.index-4.result.now c.in_ok-positions.positions.now c.in_ok-other_positions.other_positions.now
    c.requires.valid c.requires.two c.index.ensures c.index-2.ensures c.index-3.ensures c.index-4.ensures c.in_ok-positions.ensures
    c.in_ok-other_positions.ensures))
