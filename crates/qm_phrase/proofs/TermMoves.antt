-- The terms of a phrase as they go on together.
use Rattle.std.proofs.Common.{◌≡◌, ℕ, ◌<◌, ◌≤◌, ◌==◌, List, [], ◌∷◌, All, Any, Ok, Err, length, map, min, get_or, set, refl, ap, sym, ◌∙◌, arith, inl, inr, subst, vec_capacity}
use Rattle.std.proofs.lemmas.Bool.{cases_lt, eqb-true}
use Rattle.std.proofs.lemmas.List.{get_or-map, get_or-set_same, length-map, length-set}
use Rattle.std.proofs.lemmas.List.Elements.{All-set}
use Rattle.std.proofs.lemmas.List.Folds.{Any-from_list_any}
use Rattle.qm_combine.proofs.EachMember.{map-map-set_same, map-set_same}
use Rattle.qm_docset.proofs.Gathering.{head_document-from}
use Rattle.qm_docset.specs.EntryFacts.{from-from}
use Rattle.qm_docset.specs.Entry.{Entry, AreEntries, from, head_document, head_positions}
use Rattle.qm_docset.specs.Lists.{lists, bounds}
use Rattle.qm_docset.specs.declared.docset.DocSet.{Ghosts}
use Rattle.qm_docset.specs.declared.numbers.TheConstants.{TERMINATED}
use Rattle.qm_phrase.specs.Phrase.{positions_at, sets_at, shifted_each}
use Rattle.qm_phrase.specs.Places.{Ascends}
use Rattle.qm_phrase.specs.Starts.{starts}
use Rattle.qm_postings.specs.Positions.{ArePositions}
use Rattle.qm_phrase.specs.TermRows.{AreInside, each_of, term_of, terms_of}
use Rattle.qm_phrase.specs.Terms.{AreHere, AreKept, AreMovedTo, AreRoomy, AreTerms, IsBareFrom, IsFirstStart, IsLook, sets_here, shifts_in, term_lists}
use Rattle.qm_phrase.specs.Terms.{term_starts, terms_in}
use Rattle.qm_phrase.specs.declared.term_row.TermRow.{TermRow}
use Rattle.qm_phrase.specs.declared.terms.TermPlaces.{TermPlaces}
use Rattle.std.specs.Global.{Vec}
use Rattle.qm_phrase.proofs.PhraseSteps.{first_stands, positions_at-members, positions_at-none, positions_at-past, sets_at-from, starts_at-lacks}
use Rattle.qm_phrase.proofs.TermRows.{All-each_of, each_of-map, each_of-same}
use Rattle.qm_phrase.proofs.TermSteps.{All-head_positions, All-shifted_each, length-roomy}

module _ {P : Type 0} where
  -- each term has a shift and a list
  pub paired : (D : Ghosts P) (t : TermPlaces P) → length (shifts_in t) ≡ length (term_lists D t)
  paired D t =
      let list : ℕ × ℕ → List Entry = λ u. get_or (lists D t.members.items) u.1 [] in
      let shift : ℕ × ℕ → ℕ = λ u. u.0 in
      omega (arith, length-map (terms_in t) shift, length-map (terms_in t) list)

module _ {P : Type 0} (D : Ghosts P) where
  abbrev pub Law : Type 0
  Law = (x : P) → D.valid x → AreEntries 0 (D.limits x) (D.entries x)

  -- there are terms, and so members
  pub some-lists : (t : TermPlaces P) → AreTerms D t → 0 < length (term_lists D t)
  some-lists t h =
      let list : ℕ × ℕ → List Entry = λ u. get_or (lists D t.members.items) u.1 [] in
      omega (arith, h.some, length-map (terms_in t) list, length-map t.rows.items term_of)

  pub some-members : (t : TermPlaces P) → AreTerms D t → 0 < length t.members.items
  some-members t h =
      let long = length-map t.rows.items term_of in
      let first : (get_or (terms_in t) 0 (0, 0)).1 < length t.members.items = h.inside 0 (0, 0) (omega (arith, h.some, long)) in
      omega (arith, first)

  -- each term has a buffer
  pub inside-positions : (t : TermPlaces P) → AreTerms D t → AreInside (length t.positions.items) (terms_in t)
  inside-positions t h =
      let buffers = length-map t.positions.items vec_capacity in
      let same : length t.members.items ≡ length t.positions.items = omega (
        arith,
        length-roomy (bounds D t.members.items) (map vec_capacity t.positions.items) h.roomy,
        length-map t.members.items D.limits,
        buffers,
      ) in
      subst (λ n. AreInside n (terms_in t)) same h.inside

  -- the same terms with other members and buffers are terms
  pub AreTerms-kept : (t new : TermPlaces P) → AreTerms D t → terms_in new ≡ terms_in t → All D.valid new.members.items →
      bounds D new.members.items ≡ bounds D t.members.items →
      AreRoomy (bounds D new.members.items) (map vec_capacity new.positions.items) → AreTerms D new
  AreTerms-kept t new h terms valid same roomy =
      let long : length new.members.items ≡ length t.members.items =
      omega (arith, ap length same, length-map t.members.items D.limits, length-map new.members.items D.limits) in
      let many : length new.rows.items ≡ length t.rows.items =
      omega (arith, ap length terms, length-map t.rows.items term_of, length-map new.rows.items term_of) in
      record {
        valid = valid;
        some = omega (arith, many, h.some);
        roomy = roomy;
        inside = rw (long, terms) h.inside;
        used = rw (long, terms) h.used;
        shifts = rw terms h.shifts;
      }

  -- no start before the place of one of the terms
  pub behind : Law → (slop d k : ℕ) (t : TermPlaces P) → AreTerms D t →
      Any (λ x. k ≤ head_document (D.entries x)) t.members.items → d < k → term_starts D slop t d ≡ 0
  behind law slop d k t h one below =
      let x = one.1 in
      let ok : D.valid x = subst D.valid one.3 (h.valid one.0 x one.2) in
      let here : get_or (lists D t.members.items) one.0 [] ≡ D.entries x =
      get_or-map D.entries t.members.items one.0 x [] one.2 ∙ ap D.entries one.3 in
      let none : positions_at d (D.entries x) ≡ [] = positions_at-past d k (D.limits x) (D.entries x) (law x ok) one.4 below in
      let user = Any-from_list_any (λ t. t.1 == one.0) (terms_in t) (h.used one.0 one.2) in
      let list : ℕ × ℕ → List Entry = λ u. get_or (lists D t.members.items) u.1 [] in
      let of_user : get_or (term_lists D t) user.0 [] ≡ D.entries x = get_or-map list (terms_in t) user.0 user.1 [] user.2
      ∙ ap list user.3 ∙ ap (λ m. get_or (lists D t.members.items) m []) (eqb-true user.1.1 one.0 user.4) ∙ here in
      starts_at-lacks slop d user.0 (shifts_in t) (term_lists D t) (paired D t)
      (omega (arith, user.2, length-map (terms_in t) list)) (ap (positions_at d) of_user ∙ none)

  -- terms with the same lists from a target on have the same places from there on, and count the same
  pub sets-from : (k d : ℕ) (old new : TermPlaces P) → terms_in new ≡ terms_in old →
      map (from k) (lists D new.members.items) ≡ map (from k) (lists D old.members.items) → k ≤ d →
      sets_at (shifts_in new) (term_lists D new) d ≡ sets_at (shifts_in old) (term_lists D old) d
  unfolding from
  sets-from k d old new terms same h =
      let mid : List (List Entry) = each_of (lists D old.members.items) (terms_in new) in
      sets_at-from k d (shifts_in new) (term_lists D new) mid h
      (each_of-same (from k) refl (lists D new.members.items) (lists D old.members.items) (terms_in new) same)
      ∙ ap (λ ts. sets_at (map (λ u. u.0) ts) (each_of (lists D old.members.items) ts) d) terms

  pub starts-from : (slop k d : ℕ) (old new : TermPlaces P) → terms_in new ≡ terms_in old →
      map (from k) (lists D new.members.items) ≡ map (from k) (lists D old.members.items) → k ≤ d → term_starts D slop new d ≡ term_starts D slop old d
  starts-from slop k d old new terms same h = ap (starts slop) (sets-from k d old new terms same h)

  pub starts-ahead : (slop k d : ℕ) (old new : TermPlaces P) → AreMovedTo D slop k old new → k ≤ d → term_starts D slop new d ≡ term_starts D slop old d
  starts-ahead slop k d old new moved h = starts-from slop k d old new moved.terms moved.lists h

  -- the positions of a document on which all members stand are those that the terms have there
  pub sets-here : Law → (d : ℕ) (t : TermPlaces P) → d < TERMINATED → AreTerms D t →
      All (λ m. D.placed m × (head_document (D.entries m) ≡ d)) t.members.items → sets_at (shifts_in t) (term_lists D t) d ≡ sets_here D t
  unfolding sets_at
  sets-here law d t below h here =
      ap (shifted_each (shifts_in t)) (each_of-map (positions_at d) (positions_at-none d) (lists D t.members.items) (terms_in t)
      ∙ ap (λ r. each_of r (terms_in t)) (positions_at-members D.valid D.placed D.limits D.entries law d t.members.items below h.valid here))

  pub starts-here : Law → (slop d : ℕ) (t : TermPlaces P) → d < TERMINATED → AreTerms D t →
      All (λ m. D.placed m × (head_document (D.entries m) ≡ d)) t.members.items → term_starts D slop t d ≡ starts slop (sets_here D t)
  starts-here law slop d t below h here = ap (starts slop) (sets-here law d t below h here)

  -- members that stand on one document stand on a document
  pub AreHere-at : (d : ℕ) (t : TermPlaces P) → d < TERMINATED → All (λ m. D.placed m × (head_document (D.entries m) ≡ d)) t.members.items → AreHere D t
  AreHere-at d t below here k x inside = let there = here k x inside in (there.0, omega (arith, there.1, below))

  -- the places that they read ascend
  pub sets-ascend : ((x : P) → D.valid x → All (λ e. ArePositions e.positions) (D.entries x)) → (t : TermPlaces P) → AreTerms D t →
      All (Ascends 0) (sets_here D t)
  sets-ascend ordered t h =
      let positions = map head_positions (lists D t.members.items) in
      let long : length positions ≡ length t.members.items = length-map (lists D t.members.items) head_positions ∙ length-map t.members.items D.entries in
      All-shifted_each (shifts_in t) (each_of positions (terms_in t)) h.shifts (All-each_of ArePositions positions (terms_in t)
      (subst (λ n. AreInside n (terms_in t)) (sym long) h.inside) (All-head_positions D.valid D.entries ordered t.members.items h.valid))

  -- The same terms where they were.

  pub AreKept-both : (old mid new : TermPlaces P) → AreKept D old mid → AreKept D mid new → AreKept D old new
  AreKept-both old mid new first second = record {
    valid = second.valid;
    terms = second.terms ∙ first.terms;
    lists = second.lists ∙ first.lists;
    limits = second.limits ∙ first.limits;
  }

  pub sets_here-kept : (old new : TermPlaces P) → AreKept D old new → sets_here D new ≡ sets_here D old
  sets_here-kept old new kept =
      λ i. shifted_each (map (λ u. u.0) (kept.terms i)) (each_of (map head_positions (kept.lists i)) (kept.terms i))

  -- What was looked at.

  -- terms whose members were sought at a document
  pub record IsSought (d : ℕ) (old sought : TermPlaces P) : Type 0 where
    pub valid : AreTerms D sought
    pub terms : terms_in sought ≡ terms_in old
    pub lists : map (from d) (lists D sought.members.items) ≡ map (from d) (lists D old.members.items)

  pub IsSought-members : (d : ℕ) (old sought : TermPlaces P) (members : List P) → AreTerms D old → sought.rows ≡ old.rows → sought.positions ≡ old.positions →
      sought.members.items ≡ members → All D.valid members → bounds D members ≡ bounds D old.members.items →
      map (from d) (map D.entries members) ≡ map (from d) (lists D old.members.items) → IsSought d old sought
  IsSought-members d old sought members h rows positions is valid limits entries =
      let terms : terms_in sought ≡ terms_in old = ap (λ (r : Vec TermRow). terms_of r.items) rows in
      let same : bounds D sought.members.items ≡ bounds D old.members.items = ap (map D.limits) is ∙ limits in
      record {
        valid = AreTerms-kept old sought h terms (subst (All D.valid) (sym is) valid) same (rw (same, positions) h.roomy);
        terms = terms;
        lists = ap (λ r. map (from d) (map D.entries r)) is ∙ entries;
      }

  -- where one member lies past the document
  pub AreMovedTo-past : Law → (slop d bound : ℕ) (old new : TermPlaces P) → IsSought d old new →
      Any (λ x. bound ≤ head_document (D.entries x)) new.members.items → d ≤ bound → AreMovedTo D slop d old new
  AreMovedTo-past law slop d bound old new sought one reached = record {
    valid = sought.valid;
    terms = sought.terms;
    lists = sought.lists;
    behind = λ e h. behind law slop e bound new sought.valid one (omega arith);
  }

  pub IsBareFrom-past : Law → (slop d bound : ℕ) (old new : TermPlaces P) → IsSought d old new →
      Any (λ x. bound ≤ head_document (D.entries x)) new.members.items → IsBareFrom D slop old d bound
  IsBareFrom-past law slop d bound old new sought one e low high =
      sym (starts-from slop d e old new sought.terms sought.lists low) ∙ behind law slop e bound new sought.valid one high

  -- where all stand on it, and were read
  pub AreMovedTo-read : Law → (slop d : ℕ) (old mid new : TermPlaces P) → IsSought d old mid →
      All (λ m. D.placed m × (head_document (D.entries m) ≡ d)) mid.members.items → AreKept D mid new → AreMovedTo D slop d old new
  AreMovedTo-read law slop d old mid new sought here kept = record {
    valid = kept.valid;
    terms = kept.terms ∙ sought.terms;
    lists = ap (map (from d)) kept.lists ∙ sought.lists;
    behind = λ e h. starts-from slop 0 e mid new kept.terms (ap (map (from 0)) kept.lists) (omega arith)
        ∙ behind law slop e d mid sought.valid (first_stands D.placed D.entries d mid.members.items (some-members mid sought.valid) here) h;
  }

  -- what is counted there is what counts there
  pub starts-read : Law → (slop d : ℕ) (old mid : TermPlaces P) → d < TERMINATED → IsSought d old mid →
      All (λ m. D.placed m × (head_document (D.entries m) ≡ d)) mid.members.items → starts slop (sets_here D mid) ≡ term_starts D slop old d
  starts-read law slop d old mid below sought here =
      sym (starts-here law slop d mid below sought.valid here) ∙ starts-from slop d d old mid sought.terms sought.lists (omega arith)

  -- A search.

  -- the same terms, which may have dropped what lies before a document, where none from the target on
  -- has a start
  pub record IsPassed (slop target doc : ℕ) (old new : TermPlaces P) : Type 0 where
    pub reached : target ≤ doc
    pub within : doc ≤ TERMINATED
    pub valid : AreTerms D new
    pub terms : terms_in new ≡ terms_in old
    pub left : map (from doc) (lists D new.members.items) ≡ map (from doc) (lists D old.members.items)
    pub bare : IsBareFrom D slop old target doc

  pub from_later : (t u : ℕ) (ess : List (List Entry)) → t ≤ u → map (from u) (map (from t) ess) ≡ map (from u) ess
  from_later t u [] h = refl
  from_later t u (es ∷ ess) h =
      let here = from-from t u es h in
      let rest = from_later t u ess h in
      λ i. here i ∷ rest i

  -- lists that are the same from one document on are so from a later one
  pub left-later : (t u : ℕ) (xs ys : List (List Entry)) → t ≤ u → map (from t) xs ≡ map (from t) ys → map (from u) xs ≡ map (from u) ys
  left-later t u xs ys h same = sym (from_later t u xs h) ∙ ap (map (from u)) same ∙ from_later t u ys h

  -- a document without a start is passed
  pub IsPassed-bound : (slop most target doc bound : ℕ) (old mid new : TermPlaces P) → IsPassed slop target doc old mid → AreMovedTo D slop doc mid new →
      IsLook D slop most doc mid (Err bound) → IsPassed slop target bound old new
  IsPassed-bound slop most target doc bound old mid new passed moved look = record {
    reached = omega (arith, passed.reached, look.0);
    within = look.1;
    valid = moved.valid;
    terms = moved.terms ∙ passed.terms;
    left = left-later doc bound (lists D new.members.items) (lists D old.members.items) (omega (arith, look.0)) (moved.lists ∙ passed.left);
    bare = λ d low high. elim (cases_lt d doc) [
      | inl before ↦ passed.bare d low before
      | inr past ↦ sym (starts-from slop doc d old mid passed.terms passed.left past) ∙ look.2 d past high
    ];
  }

  -- a document with a start is found
  pub IsFirstStart-here : (slop most target doc count : ℕ) (old mid : TermPlaces P) → IsPassed slop target doc old mid →
      IsLook D slop most doc mid (Ok count) → IsFirstStart D slop most target old (doc, count)
  IsFirstStart-here slop most target doc count old mid passed look = record {
    bare = passed.bare;
    within = (passed.reached, passed.within);
    here = λ below. (look.0, look.1 ∙ ap (min most) (starts-from slop doc doc old mid passed.terms passed.left (omega arith)));
  }

  pub AreMovedTo-here : (slop target doc : ℕ) (old mid new : TermPlaces P) → IsPassed slop target doc old mid →
      AreMovedTo D slop doc mid new → AreMovedTo D slop doc old new
  AreMovedTo-here slop target doc old mid new passed moved = record {
    valid = moved.valid;
    terms = moved.terms ∙ passed.terms;
    lists = moved.lists ∙ passed.left;
    behind = moved.behind;
  }

  -- at the end of a search all was passed
  pub AreMovedTo-end : (slop target doc : ℕ) (old mid new : TermPlaces P) → IsPassed slop target doc old mid → TERMINATED ≤ doc →
      AreMovedTo D slop TERMINATED mid new → AreMovedTo D slop TERMINATED old new
  AreMovedTo-end slop target doc old mid new passed ended moved =
      let level : doc ≡ TERMINATED = omega (arith, passed.within) in
      AreMovedTo-here slop target TERMINATED old mid new (subst (λ n. IsPassed slop target n old mid) level passed) moved

  pub IsFirstStart-end : (slop most target doc : ℕ) (old mid : TermPlaces P) → IsPassed slop target doc old mid → TERMINATED ≤ doc →
      IsFirstStart D slop most target old (TERMINATED, 0)
  IsFirstStart-end slop most target doc old mid passed ended =
      let level : doc ≡ TERMINATED = omega (arith, passed.within) in
      record {
        bare = λ d low high. passed.bare d low (omega arith);
        within = (omega (arith, passed.reached), omega arith);
        here = λ below. absurd (omega arith);
      }

  -- one member was sent to its end
  pub AreMovedTo-ended : Law → (slop : ℕ) (t new : TermPlaces P) (x d : P) → AreTerms D t → new.rows ≡ t.rows → new.positions ≡ t.positions →
      new.members.items ≡ set t.members.items 0 x → D.entries x ≡ from TERMINATED (D.entries (get_or t.members.items 0 d)) →
      D.limits x ≡ D.limits (get_or t.members.items 0 d) → D.valid x → AreMovedTo D slop TERMINATED t new
  AreMovedTo-ended law slop t new x d h rows positions is entries limits valid =
      let members = t.members.items in
      let some = some-members t h in
      let all : All D.valid new.members.items = subst (All D.valid) (sym is) (All-set D.valid members 0 x valid h.valid) in
      let same : bounds D new.members.items ≡ bounds D members = ap (map D.limits) is ∙ map-set_same D.limits members 0 x d some limits in
      let kept : terms_in new ≡ terms_in t = ap (λ (r : Vec TermRow). terms_of r.items) rows in
      let terms = AreTerms-kept t new h kept all same (rw (same, positions) h.roomy) in
      let cut : from TERMINATED (D.entries x) ≡ from TERMINATED (D.entries (get_or members 0 d)) = ap (from TERMINATED) entries
      ∙ from-from TERMINATED TERMINATED (D.entries (get_or members 0 d)) (omega arith) in
      let past : TERMINATED ≤ head_document (D.entries x) =
      omega (arith, ap head_document entries, head_document-from TERMINATED (D.entries (get_or members 0 d)) (omega arith)) in
      let stands : Any (λ y. TERMINATED ≤ head_document (D.entries y)) (set members 0 x) =
      (0, x, omega (arith, length-set members 0 x), get_or-set_same members 0 x x some, past) in
      record {
        valid = terms;
        terms = kept;
        lists = ap (λ r. map (from TERMINATED) (map D.entries r)) is ∙ map-map-set_same (from TERMINATED) D.entries members 0 x d some cut;
        behind = λ y below. behind law slop y TERMINATED new terms (subst (λ r. Any (λ y. TERMINATED ≤ head_document (D.entries y)) r) (sym is) stands) below;
      }
