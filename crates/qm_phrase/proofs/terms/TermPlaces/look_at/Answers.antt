-- All members have the document, or one of them lies past it.
use Rattle.std.proofs.Common.{◌≡◌, ◌≤◌, All, Any, length, map, min, arith, refl, ap, subst, sym, ◌∙◌}
use Rattle.std.specs.Vec.{with_items}
use Rattle.qm_combine.proofs.Leading.{whole}
use Rattle.qm_docset.specs.Entry.{from, head_document}
use Rattle.qm_phrase.specs.Terms.{term_starts}
use Rattle.qm_phrase.specs.declared.terms.TermPlaces.{TermPlaces}
use Rattle.qm_phrase.proofs.TermMoves.{AreHere-at, AreMovedTo-past, AreMovedTo-read, IsBareFrom-past, IsSought-members, starts-read}
use Rattle.qm_phrase.proofs.terms.TermPlaces.look_at.Goals as goal

pub returns-in-SeekLowerBound-clause-moved : goal.returns-in-SeekLowerBound-clause-moved
returns-in-SeekLowerBound-clause-moved g c =
    let D = g.P.DocSet in
    let self = c.args.self.now in
    let members = c.seek_each.new.members in
    let sought : TermPlaces g.row.P.Denot =
    record { members = with_items self.members members; positions = self.positions; rows = self.rows } in
    let is : sought.members.items ≡ members =
    whole self.members.len members self.members.items (c.seek_each.auto.members ∙ ap length c.deref_mut.ensures.value) self.members.ok.0 in
    let was = c.deref_mut.ensures.value in
    let found = IsSought-members D c.args.doc self sought members c.requires.valid refl refl is c.seek_each.ensures.valid
    (c.seek_each.ensures.limits ∙ ap (map D.limits) was) (c.seek_each.ensures.entries ∙ ap (λ r. map (from c.args.doc) (map D.entries r)) was) in
    let shared = c.in-SeekLowerBound.ensures.answer in
    let one = subst (Any (λ x. c.in-SeekLowerBound.bound ≤ head_document (D.entries x))) (sym is) shared.2 in
    AreMovedTo-past D g.met.P.DocSet.ascending c.args.slop c.args.doc c.in-SeekLowerBound.bound self sought found one (omega (arith, shared.0))

pub returns-in-SeekLowerBound-clause-answer : goal.returns-in-SeekLowerBound-clause-answer
returns-in-SeekLowerBound-clause-answer g c =
    let D = g.P.DocSet in
    let self = c.args.self.now in
    let members = c.seek_each.new.members in
    let sought : TermPlaces g.row.P.Denot =
    record { members = with_items self.members members; positions = self.positions; rows = self.rows } in
    let is : sought.members.items ≡ members =
    whole self.members.len members self.members.items (c.seek_each.auto.members ∙ ap length c.deref_mut.ensures.value) self.members.ok.0 in
    let was = c.deref_mut.ensures.value in
    let found = IsSought-members D c.args.doc self sought members c.requires.valid refl refl is c.seek_each.ensures.valid
    (c.seek_each.ensures.limits ∙ ap (map D.limits) was) (c.seek_each.ensures.entries ∙ ap (λ r. map (from c.args.doc) (map D.entries r)) was) in
    let shared = c.in-SeekLowerBound.ensures.answer in
    let one = subst (Any (λ x. c.in-SeekLowerBound.bound ≤ head_document (D.entries x))) (sym is) shared.2 in
    (shared.0, shared.1, IsBareFrom-past D g.met.P.DocSet.ascending c.args.slop c.args.doc c.in-SeekLowerBound.bound self sought found one)

pub count_here-requires-clause-valid : goal.count_here-requires-clause-valid
count_here-requires-clause-valid g c =
    let D = g.P.DocSet in
    let self = c.args.self.now in
    let members = c.seek_each.new.members in
    let sought : TermPlaces g.row.P.Denot =
    record { members = with_items self.members members; positions = self.positions; rows = self.rows } in
    let is : sought.members.items ≡ members =
    whole self.members.len members self.members.items (c.seek_each.auto.members ∙ ap length c.deref_mut.ensures.value) self.members.ok.0 in
    let was = c.deref_mut.ensures.value in
    let found = IsSought-members D c.args.doc self sought members c.requires.valid refl refl is c.seek_each.ensures.valid
    (c.seek_each.ensures.limits ∙ ap (map D.limits) was) (c.seek_each.ensures.entries ∙ ap (λ r. map (from c.args.doc) (map D.entries r)) was) in
    found.valid

pub count_here-requires-clause-here : goal.count_here-requires-clause-here
count_here-requires-clause-here g c =
    let D = g.P.DocSet in
    let self = c.args.self.now in
    let members = c.seek_each.new.members in
    let sought : TermPlaces g.row.P.Denot =
    record { members = with_items self.members members; positions = self.positions; rows = self.rows } in
    let is : sought.members.items ≡ members =
    whole self.members.len members self.members.items (c.seek_each.auto.members ∙ ap length c.deref_mut.ensures.value) self.members.ok.0 in
    let was = c.deref_mut.ensures.value in
    let found = IsSought-members D c.args.doc self sought members c.requires.valid refl refl is c.seek_each.ensures.valid
    (c.seek_each.ensures.limits ∙ ap (map D.limits) was) (c.seek_each.ensures.entries ∙ ap (λ r. map (from c.args.doc) (map D.entries r)) was) in
    let here = subst (All (λ m. D.placed m × (head_document (D.entries m) ≡ c.args.doc))) (sym is) c.in_default.ensures.answer in
    AreHere-at D c.args.doc sought c.requires.doc here

pub returns-in-0-clause-moved : goal.returns-in-0-clause-moved
returns-in-0-clause-moved g c =
    let D = g.P.DocSet in
    let self = c.args.self.now in
    let members = c.seek_each.new.members in
    let sought : TermPlaces g.row.P.Denot =
    record { members = with_items self.members members; positions = self.positions; rows = self.rows } in
    let is : sought.members.items ≡ members =
    whole self.members.len members self.members.items (c.seek_each.auto.members ∙ ap length c.deref_mut.ensures.value) self.members.ok.0 in
    let was = c.deref_mut.ensures.value in
    let found = IsSought-members D c.args.doc self sought members c.requires.valid refl refl is c.seek_each.ensures.valid
    (c.seek_each.ensures.limits ∙ ap (map D.limits) was) (c.seek_each.ensures.entries ∙ ap (λ r. map (from c.args.doc) (map D.entries r)) was) in
    let here = subst (All (λ m. D.placed m × (head_document (D.entries m) ≡ c.args.doc))) (sym is) c.in_default.ensures.answer in
    AreMovedTo-read D g.met.P.DocSet.ascending c.args.slop c.args.doc self sought c.count_here.new.self found here c.count_here.ensures.kept

pub returns-in_default-count_here-clause-moved : goal.returns-in_default-count_here-clause-moved
returns-in_default-count_here-clause-moved g c =
    let D = g.P.DocSet in
    let self = c.args.self.now in
    let members = c.seek_each.new.members in
    let sought : TermPlaces g.row.P.Denot =
    record { members = with_items self.members members; positions = self.positions; rows = self.rows } in
    let is : sought.members.items ≡ members =
    whole self.members.len members self.members.items (c.seek_each.auto.members ∙ ap length c.deref_mut.ensures.value) self.members.ok.0 in
    let was = c.deref_mut.ensures.value in
    let found = IsSought-members D c.args.doc self sought members c.requires.valid refl refl is c.seek_each.ensures.valid
    (c.seek_each.ensures.limits ∙ ap (map D.limits) was) (c.seek_each.ensures.entries ∙ ap (λ r. map (from c.args.doc) (map D.entries r)) was) in
    let here = subst (All (λ m. D.placed m × (head_document (D.entries m) ≡ c.args.doc))) (sym is) c.in_default.ensures.answer in
    AreMovedTo-read D g.met.P.DocSet.ascending c.args.slop c.args.doc self sought c.count_here.new.self found here c.count_here.ensures.kept

pub returns-in-0-clause-answer : goal.returns-in-0-clause-answer
returns-in-0-clause-answer g c =
    let D = g.P.DocSet in
    let self = c.args.self.now in
    let members = c.seek_each.new.members in
    let sought : TermPlaces g.row.P.Denot =
    record { members = with_items self.members members; positions = self.positions; rows = self.rows } in
    let is : sought.members.items ≡ members =
    whole self.members.len members self.members.items (c.seek_each.auto.members ∙ ap length c.deref_mut.ensures.value) self.members.ok.0 in
    let was = c.deref_mut.ensures.value in
    let found = IsSought-members D c.args.doc self sought members c.requires.valid refl refl is c.seek_each.ensures.valid
    (c.seek_each.ensures.limits ∙ ap (map D.limits) was) (c.seek_each.ensures.entries ∙ ap (λ r. map (from c.args.doc) (map D.entries r)) was) in
    let here = subst (All (λ m. D.placed m × (head_document (D.entries m) ≡ c.args.doc))) (sym is) c.in_default.ensures.answer in
    let read = starts-read D g.met.P.DocSet.ascending c.args.slop c.args.doc self sought c.requires.doc found here in
    let none : term_starts D c.args.slop self c.args.doc ≡ 0 = omega (arith, read, c.count_here.ensures.count, c.in-0.is, c.requires.most) in (
      omega arith,
      omega (arith, c.requires.doc),
      λ d low high. let level : d ≡ c.args.doc = omega arith in
          ap (term_starts D c.args.slop self) level ∙ none,
    )

pub returns-in_default-count_here-clause-answer : goal.returns-in_default-count_here-clause-answer
returns-in_default-count_here-clause-answer g c =
    let D = g.P.DocSet in
    let self = c.args.self.now in
    let members = c.seek_each.new.members in
    let sought : TermPlaces g.row.P.Denot =
    record { members = with_items self.members members; positions = self.positions; rows = self.rows } in
    let is : sought.members.items ≡ members =
    whole self.members.len members self.members.items (c.seek_each.auto.members ∙ ap length c.deref_mut.ensures.value) self.members.ok.0 in
    let was = c.deref_mut.ensures.value in
    let found = IsSought-members D c.args.doc self sought members c.requires.valid refl refl is c.seek_each.ensures.valid
    (c.seek_each.ensures.limits ∙ ap (map D.limits) was) (c.seek_each.ensures.entries ∙ ap (λ r. map (from c.args.doc) (map D.entries r)) was) in
    let here = subst (All (λ m. D.placed m × (head_document (D.entries m) ≡ c.args.doc))) (sym is) c.in_default.ensures.answer in
    let read = starts-read D g.met.P.DocSet.ascending c.args.slop c.args.doc self sought c.requires.doc found here in
    (omega arith, c.count_here.ensures.count ∙ ap (min c.args.most) (read))
