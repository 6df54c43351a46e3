-- Each cursor is asked for itself, up to the first that has the document.
use Rattle.std.proofs.Common.{◌≡◌, ℕ, ◌+◌, ◌<◌, ◌≤◌, length, get_or, set, map, take, drop, ◌++◌, All, IsTrue, arith, sym, ap, ◌∙◌, length-set, take_all}
use Rattle.std.proofs.lemmas.Grind.{drop_more_same}
use Rattle.std.proofs.lemmas.List.{drop-set-lt}
use Rattle.std.proofs.lemmas.List.Elements.{All-set}
use Rattle.std.proofs.lemmas.List.Folds.{list_any_at}
use Rattle.qm_docset.specs.Exclusion.{has_document, some_has_document}
use Rattle.qm_docset.proofs.ExclusionLemmas.{some_has_document-map, some_has_document-set, some_has_document-set_added, lacks_more, same_at}
use Rattle.qm_docset.specs.ListFacts.{whole}
use Rattle.qm_docset.proofs.exclusion.VecExclusionSet.contains.Goals as goal
use Rattle.qm_docset.proofs.exclusion.VecExclusionSet.contains.Goals.{After-set-item, After-contains}
use Rattle.qm_docset.proofs.exclusion.VecExclusionSet.contains.Given.{Over}

-- the cursors after one more was asked
pub record Asked (g : Over) (c : After-contains g) : Type 0 where
  usable : All g.T.DocSet.valid (set c.loop-set.set-items c.loop-set.set-index c.contains.new.self)
  kept : (d : ℕ) → c.args.doc ≤ d → some_has_document (map g.T.DocSet.entries (set c.loop-set.set-items c.loop-set.set-index c.contains.new.self)) d
      ≡ some_has_document (map g.T.DocSet.entries c.args.self.now.items) d
  none_added : (d : ℕ) → IsTrue (some_has_document (map g.T.DocSet.entries (set c.loop-set.set-items c.loop-set.set-index c.contains.new.self)) d) →
      IsTrue (some_has_document (map g.T.DocSet.entries c.args.self.now.items) d)

asked : (g : Over) (c : After-contains g) → Asked g c
asked g c =
    let items = c.loop-set.set-items in
    let within : c.loop-set.set-index < length items = omega arith in
    record {
      usable = All-set g.T.DocSet.valid items c.loop-set.set-index c.contains.new.self c.contains.ensures.usable c.loop-set.invariant.usable;
      kept = λ d above. some_has_document-set g.T.DocSet.entries items c.loop-set.set-index c.contains.new.self c.set-item.result within d
          (c.contains.ensures.kept d above) ∙ c.loop-set.invariant.kept d above;
      none_added = λ d member. c.loop-set.invariant.none_added d (some_has_document-set_added g.T.DocSet.entries items
          c.loop-set.set-index c.contains.new.self c.set-item.result within d (c.contains.ensures.none_added d) member);
    }

-- the answer is that of the cursor as it was
answered : (g : Over) (c : After-contains g) →
    c.contains.result ≡ has_document (g.T.DocSet.entries (get_or c.args.self.now.items c.loop-set.set-index c.set-item.result)) c.args.doc
answered g c =
    c.contains.ensures.member
    ∙ ap (λ docs. has_document (g.T.DocSet.entries docs) c.args.doc)
    (same_at c.loop-set.set-items c.args.self.now.items c.loop-set.set-index c.set-item.result c.loop-set.invariant.not_asked)

pub contains-requires-clause-usable : goal.contains-requires-clause-usable
contains-requires-clause-usable g c = c.loop-set.invariant.usable c.loop-set.set-index c.set-item.result (omega arith)

pub loop-set-preserved : goal.loop-set-preserved
loop-set-preserved g c =
    let a = asked g (goal.at.loop-set-preserved g c).After-contains in
    let lacks = sym (answered g (goal.at.loop-set-preserved g c).After-contains) ∙ c.if-contains.false in
    let old = c.args.self.now.items in
    let within : c.loop-set.set-index < length old = omega (arith, ap length c.deref_mut-set-items.ensures.value) in
    record {
      usable = a.usable;
      kept = a.kept;
      none_added = a.none_added;
      not_asked = drop-set-lt (c.loop-set.set-index + 1) c.loop-set.set-items c.loop-set.set-index c.contains.new.self (omega arith)
          ∙ drop_more_same c.loop-set.set-items old c.loop-set.set-index c.loop-set.invariant.not_asked;
      lacked = lacks_more
          (λ docs. has_document (g.T.DocSet.entries docs) c.args.doc) old c.loop-set.set-index c.set-item.result within c.loop-set.invariant.lacked lacks;
    }

pub returns-then-contains-clause-member : goal.returns-then-contains-clause-member
returns-then-contains-clause-member g c =
    let old = c.args.self.now.items in
    let there = sym (answered g (goal.at.returns-then-contains-clause-member g c).After-contains) ∙ c.if-contains.true in
    let within : c.loop-set.set-index < length old = omega (arith, ap length c.deref_mut-set-items.ensures.value) in
    sym (some_has_document-map g.T.DocSet.entries old c.args.doc
    ∙ list_any_at (λ docs. has_document (g.T.DocSet.entries docs) c.args.doc) old c.loop-set.set-index c.set-item.result within there)

-- the vector has the cursors as they are now
lent : (g : Over) (c : After-contains g) → take c.args.self.now.len (set c.loop-set.set-items c.loop-set.set-index c.contains.new.self ++ drop (length (set
    c.loop-set.set-items c.loop-set.set-index c.contains.new.self)) c.args.self.now.items) ≡ set c.loop-set.set-items c.loop-set.set-index c.contains.new.self
lent g c =
    let long : length (set c.loop-set.set-items c.loop-set.set-index c.contains.new.self) ≡ c.args.self.now.len =
    length-set c.loop-set.set-items c.loop-set.set-index c.contains.new.self ∙ c.loop-set.auto.set-items ∙ c.deref_mut-set-items.ensures.len in
    whole c.args.self.now.len (set c.loop-set.set-items c.loop-set.set-index c.contains.new.self) _ long

pub returns-then-contains-clause-kept : goal.returns-then-contains-clause-kept
returns-then-contains-clause-kept g c d above =
    let at = (goal.at.returns-then-contains-clause-kept g c).After-contains in
    rw (lent g at) ((asked g at).kept d above)

pub returns-then-contains-clause-none_added : goal.returns-then-contains-clause-none_added
returns-then-contains-clause-none_added g c d member =
    let at = (goal.at.returns-then-contains-clause-none_added g c).After-contains in
    (asked g at).none_added d (rw (lent g at) at member)

pub returns-then-contains-clause-usable : goal.returns-then-contains-clause-usable
returns-then-contains-clause-usable g c =
    let at = (goal.at.returns-then-contains-clause-usable g c).After-contains in
    rw (lent g at) (asked g at).usable

pub returns-clause-member : goal.returns-clause-member
returns-clause-member g c =
    let old = c.args.self.now.items in
    let all : length old ≤ c.loop-set.set-index = omega (arith, ap length c.deref_mut-set-items.ensures.value) in
    let lacked = rw (take_all c.loop-set.set-index old all) at c.loop-set.invariant.lacked in
    sym (some_has_document-map g.T.DocSet.entries old c.args.doc ∙ lacked)
