-- Each document that is looked at is counted where it is alive.
use Rattle.std.proofs.Common.{◌≡◌, ℕ, List, ◌-◌, length, map, take, drop, sym, ap, ◌∙◌, arith, length-drop, take_all}
use Rattle.std.proofs.lemmas.List.{drop_all, length-map}
use Rattle.qm_docset.specs.AliveBitSet.{alive_entries}
use Rattle.qm_docset.specs.Entry.{plain}
use Rattle.qm_docset.proofs.AliveLemmas.{alive_next, deleted_next, alive_entries-nil, length-alive_entries}
use Rattle.qm_docset.proofs.PlacesLeft.{few}
use Rattle.qm_docset.proofs.vec_docset.VecDocSetDocSet.count.Goals as goal
use Rattle.qm_docset.proofs.vec_docset.VecDocSetDocSet.count.Goals.{After-deref, then-is_alive, else-is_alive}

-- what is looked at is what is left of the list
left : (c : After-deref) → take (length c.deref.result.now - c.args.self.now.cursor) (drop c.args.self.now.cursor c.deref.result.now)
    ≡ drop c.args.self.now.cursor c.args.self.now.docs.items
left c =
    take_all (length c.deref.result.now - c.args.self.now.cursor) (drop c.args.self.now.cursor c.deref.result.now)
    (omega (arith, length-drop c.args.self.now.cursor c.deref.result.now))
    ∙ ap (drop c.args.self.now.cursor) c.deref.ensures.value

pub loop-doc-init : goal.loop-doc-init
loop-doc-init c = omega arith

pub overflow_add-count : goal.overflow_add-count
overflow_add-count c =
    let docs = c.args.self.now.docs in
    let at = c.args.self.now.cursor in
    let items : List ℕ = take (length c.deref.result.now - at) (drop at c.deref.result.now) in
    let next = alive_next c.args.alive.now items c.loop-doc.doc-index c.loop-doc-test.true (sym c.is_alive.ensures.member ∙ c.if-is_alive.true) in
    let most = length-alive_entries c.args.alive.now (map plain items) in
    let long = ap length (left (goal.at.overflow_add-count c).After-deref) in
    omega (arith, length-map items plain, length-drop at docs.items, few at docs.items c.requires.documents, c.loop-doc.invariant)

pub loop-doc-preserved : goal.loop-doc-preserved
loop-doc-preserved c =
    let at = c.args.self.now.cursor in
    let items : List ℕ = take (length c.deref.result.now - at) (drop at c.deref.result.now) in
    elim c.if-is_alive.branch [
      | then-is_alive w ↦
          let next = alive_next c.args.alive.now items c.loop-doc.doc-index c.loop-doc-test.true (sym c.is_alive.ensures.member ∙ w.if-is_alive.true) in
          rw w.count-is (omega (arith, c.loop-doc.invariant))
      | else-is_alive w ↦
          let next = deleted_next c.args.alive.now items c.loop-doc.doc-index c.loop-doc-test.true (sym c.is_alive.ensures.member ∙ w.if-is_alive.false) in
          rw w.count-is (omega (arith, c.loop-doc.invariant))
    ]

pub returns-clause-count : goal.returns-clause-count
returns-clause-count c =
    let at = c.args.self.now.cursor in
    let items : List ℕ = take (length c.deref.result.now - at) (drop at c.deref.result.now) in
    let none = drop_all c.loop-doc.doc-index items c.loop-doc-test.false in
    let nothing : length (alive_entries c.args.alive.now (map plain (drop c.loop-doc.doc-index items))) ≡ 0 =
    ap (λ xs. length (alive_entries c.args.alive.now (map plain xs))) none ∙ ap length (alive_entries-nil c.args.alive.now) in
    let all = ap (λ xs. length (alive_entries c.args.alive.now (map plain xs))) (left (goal.at.returns-clause-count c).After-deref) in
    omega (arith, c.loop-doc.invariant)
