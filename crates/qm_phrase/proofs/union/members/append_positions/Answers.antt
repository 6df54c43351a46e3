-- A member that stands on the document adds its positions; then the whole is sorted.
use Rattle.std.proofs.Common.{◌≡◌, ℕ, ◌+◌, ◌<◌, ◌≤◌, ◌||◌, All, length, take, get_or, ap, sym, subst, ◌∙◌, arith, refl}
use Rattle.std.specs.List.{sum_by}
use Rattle.std.proofs.Math.Bool.{or_assoc, or-false}
use Rattle.std.proofs.lemmas.List.{length-map, take_all}
use Rattle.std.proofs.lemmas.List.Elements.{All-get_or, All-set}
use Rattle.qm_combine.proofs.EachMember.{All-same_lists, map-set_same}
use Rattle.qm_docset.specs.Entry.{Limits, head_document, head_positions}
use Rattle.qm_docset.specs.Lists.{lists}
use Rattle.qm_postings.specs.Positions.{is_in, shifted}
use Rattle.qm_phrase.specs.PostingUnions.{entries_at, united_positions}
use Rattle.qm_phrase.specs.PostingUnionFacts.{entries_at-nil}
use Rattle.qm_phrase.proofs.SortedNumbers.{IsStrictlyIncreasing-tidied, is_in-tidied}
use Rattle.qm_phrase.proofs.UnitedMembers.{All-head_positions, AreOrdered, entries_at-more_ahead, has_shifted, has_shifted-more, is_in-united_shifted}
use Rattle.qm_phrase.proofs.UnitedMembers.{ordered-entries_at, room-more, room-within}
use Rattle.std.proofs.lemmas.Grind.{common_steps}
use Rattle.qm_phrase.proofs.union.members.append_positions.Goals as goal
use Rattle.qm_phrase.proofs.union.members.append_positions.Goals.{then-doc, else-doc}

pub loop-member-init : goal.loop-member-init
loop-member-init g c = record {
  placed = c.requires.members;
  entries = refl;
  limits = refl;
  added = λ x.
      sym (ap (λ r. is_in x c.args.output.now.items || has_shifted c.args.offset r x) (entries_at-nil c.args.doc) ∙ or-false (is_in x c.args.output.now.items));
  longer = omega arith;
  capacity = omega arith;
}

pub append_positions_with_offset-requires-clause-sums :
    goal.append_positions_with_offset-requires-clause-sums
append_positions_with_offset-requires-clause-sums g c =
    let members = c.loop-member.members in
    let i = c.loop-member.member-index in
    let x = c.member-item.result in
    let within : i < length members = omega arith in
    let valid : g.P.DocSet.valid x =
    subst g.P.DocSet.valid (sym c.member-item.is) (All-get_or g.P.DocSet.valid members i x within c.loop-member.invariant.placed.valid) in
    let Fits : ℕ → Type 0 = λ p. p + c.args.offset ≤ 4294967295 in
    let all : All Fits (united_positions (entries_at c.args.doc (lists g.P.DocSet members))) =
    subst (λ r. All Fits (united_positions (entries_at c.args.doc r))) (sym c.loop-member.invariant.entries) c.requires.sums in
    let ordered : AreOrdered g.P.DocSet.entries g.P.DocSet.limits members =
    λ k d below. g.met.P.Postings.ordered _ (c.loop-member.invariant.placed.valid k d below) in
    let here = All-head_positions g.P.DocSet.entries g.P.DocSet.limits Fits c.args.doc members i x ordered (g.met.P.DocSet.ascending x valid)
    c.member-item.is within (ap (λ m. head_document (g.P.DocSet.entries m)) c.member-item.is ∙ sym c.doc.ensures ∙ c.if-doc.true) c.requires.doc all in
    subst (λ m. All Fits (head_positions (g.P.DocSet.entries m))) c.member-item.is here

pub append_positions_with_offset-requires-clause-room :
    goal.append_positions_with_offset-requires-clause-room
append_positions_with_offset-requires-clause-room g c =
    let members = c.loop-member.members in
    let i = c.loop-member.member-index in
    let x = c.member-item.result in
    let bound = room-within g.P.DocSet.entries g.P.DocSet.limits members i x c.member-item.is (omega arith) in
    let room : Limits → ℕ = λ limits. limits.room in
    omega (
      arith,
      bound,
      c.loop-member.invariant.longer,
      c.loop-member.invariant.capacity,
      c.requires.room,
      ap (λ r. sum_by room (take i r)) c.loop-member.invariant.limits,
      ap (sum_by room) c.loop-member.invariant.limits,
      ap (λ m. room (g.P.DocSet.limits m)) c.member-item.is,
      c.args.output.now.small,
    )

pub loop-member-preserved : goal.loop-member-preserved
loop-member-preserved g c =
    let members = c.loop-member.members in
    let i = c.loop-member.member-index in
    let x = c.member-item.result in
    let doc = c.args.doc in
    let offset = c.args.offset in
    let old = c.args.output.now.items in
    let first = c.args.members.now in
    let kept = c.loop-member.invariant in
    let within : i < length members = omega arith in
    let valid : g.P.DocSet.valid x = subst g.P.DocSet.valid (sym c.member-item.is) (All-get_or g.P.DocSet.valid members i x within kept.placed.valid) in
    let a = g.met.P.DocSet.ascending x valid in
    let room : Limits → ℕ = λ limits. limits.room in
    let grown = room-more g.P.DocSet.entries g.P.DocSet.limits members i x c.member-item.is within in
    let rooms = ap (λ r. sum_by room (take i r)) kept.limits in
    let rooms_more = ap (λ r. sum_by room (take (i + 1) r)) kept.limits in
    let here = ap (λ m. room (g.P.DocSet.limits m)) c.member-item.is in
    let has : ℕ → ℕ → _ = λ n y. has_shifted offset (entries_at doc (take n (lists g.P.DocSet members))) y in
    let had : ℕ → ℕ → _ = λ n y. has_shifted offset (entries_at doc (take n (lists g.P.DocSet first))) y in
    let at_item : head_document (g.P.DocSet.entries x) ≡ c.doc.result = ap (λ m. head_document (g.P.DocSet.entries m)) c.member-item.is ∙ sym c.doc.ensures in
    let same : (n y : ℕ) → has n y ≡ had n y = λ n y. ap (λ r. has_shifted offset (entries_at doc (take n r)) y) kept.entries in
    elim c.if-doc.branch [
      | then-doc w ↦
          let m = w.append_positions_with_offset.new.self in
          let ensured = w.append_positions_with_offset.ensures in
          let stands : head_document (g.P.DocSet.entries x) ≡ doc = at_item ∙ w.if-doc.true in
          let one_more : (y : ℕ) → had (i + 1) y ≡ (had i y || is_in y (shifted offset (head_positions (g.P.DocSet.entries x)))) = λ y. sym (same (i + 1) y)
          ∙ has_shifted-more g.P.DocSet.entries g.P.DocSet.limits y offset doc members i x a c.member-item.is within stands c.requires.doc
          ∙ ap (λ b. b || is_in y (shifted offset (head_positions (g.P.DocSet.entries x)))) (same i y) in
          let mine : (y : ℕ) → is_in y (shifted offset (head_positions (g.P.DocSet.entries (get_or members i x)))) ≡ is_in y (shifted offset (head_positions
          (g.P.DocSet.entries x))) = λ y. ap (λ n. is_in y (shifted offset (head_positions (g.P.DocSet.entries n)))) (sym c.member-item.is) in
          rw (w.members-is, w.output-is) (record {
            placed = record {
              valid = All-set g.P.DocSet.valid members i m ensured.valid kept.placed.valid;
              placed = All-set g.P.DocSet.placed members i m ensured.placed kept.placed.placed;
            };
            entries = map-set_same g.P.DocSet.entries members i m x within ensured.entries ∙ kept.entries;
            limits = map-set_same g.P.DocSet.limits members i m x within ensured.limits ∙ kept.limits;
            added = λ y. ensured.members y ∙ ap (λ b. b || is_in y (shifted offset (head_positions (g.P.DocSet.entries (get_or members i x))))) (kept.added y)
                ∙ ap (λ b. is_in y old || had i y || b) (mine y) ∙ or_assoc (is_in y old) (had i y) _ ∙ ap (λ b. is_in y old || b) (sym (one_more y));
            longer = omega (arith, ensured.longer, kept.longer, grown, rooms, rooms_more, here);
            capacity = omega (arith, ensured.capacity, kept.capacity);
          })
      | else-doc w ↦
          let m = get_or members i x in
          let Reached : g.row.P.Denot → Type 0 = λ n. doc ≤ head_document (g.P.DocSet.entries n) in
          let reached : Reached m = All-get_or Reached members i x within
          (All-same_lists g.P.DocSet.entries (λ es. doc ≤ head_document es) first members kept.entries c.requires.reached) in
          let behind = entries_at-more_ahead g.P.DocSet.entries (g.P.DocSet.limits x) members i doc x a c.member-item.is within
          (omega (arith, reached, at_item, w.if-doc.false, ap (λ n. head_document (g.P.DocSet.entries n)) c.member-item.is)) in
          let no_more : (y : ℕ) → had (i + 1) y ≡ had i y = λ y. sym (same (i + 1) y) ∙ ap (λ r. has_shifted offset r y) behind ∙ same i y in
          rw (w.members-is, w.output-is) (record {
            placed = record {
              valid = All-set g.P.DocSet.valid members i m (All-get_or g.P.DocSet.valid members i x within kept.placed.valid) kept.placed.valid;
              placed = All-set g.P.DocSet.placed members i m (All-get_or g.P.DocSet.placed members i x within kept.placed.placed) kept.placed.placed;
            };
            entries = map-set_same g.P.DocSet.entries members i m x within refl ∙ kept.entries;
            limits = map-set_same g.P.DocSet.limits members i m x within refl ∙ kept.limits;
            added = λ y. kept.added y ∙ ap (λ b. is_in y old || b) (sym (no_more y));
            longer = omega (arith, kept.longer, grown, rooms, rooms_more);
            capacity = kept.capacity;
          })
    ]

pub returns-clause-added : goal.returns-clause-added
returns-clause-added g c = λ x.
    let first = c.args.members.now in
    let offset = c.args.offset in
    let valid = c.requires.members.valid in
    let ordered : AreOrdered g.P.DocSet.entries g.P.DocSet.limits first = λ k d below. g.met.P.Postings.ordered _ (valid k d below) in
    let all = take_all c.loop-member.member-index (lists g.P.DocSet first) (omega (arith, length-map first g.P.DocSet.entries)) in
    let united = is_in-united_shifted x offset (entries_at c.args.doc (lists g.P.DocSet first))
    (ordered-entries_at g.P.DocSet.entries g.P.DocSet.limits c.args.doc first ordered) in
    is_in-tidied x _ _ _ c.sort_unstable.ensures.permutation c.dedup.ensures.filtered ∙ c.loop-member.invariant.added x ∙ ap (λ r.
    is_in x c.args.output.now.items || has_shifted offset (entries_at c.args.doc r) x) all ∙ ap (λ b. is_in x c.args.output.now.items || b) (sym united)

pub returns-clause-ascending : goal.returns-clause-ascending
returns-clause-ascending g c = IsStrictlyIncreasing-tidied _ _ c.sort_unstable.ensures.sorted c.dedup.ensures.filtered

pub returns-clause-longer : goal.returns-clause-longer
returns-clause-longer g c = grind (arith, common_steps)

pub returns-clause-capacity : goal.returns-clause-capacity
returns-clause-capacity g c = grind (arith, common_steps)

pub returns-clause-limits : goal.returns-clause-limits
returns-clause-limits g c = grind (arith, common_steps)

pub returns-clause-entries : goal.returns-clause-entries
returns-clause-entries g c = grind (arith, common_steps)

pub returns-clause-members : goal.returns-clause-members
returns-clause-members g c = grind (arith, common_steps)
