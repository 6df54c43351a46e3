use Rattle.std.proofs.Common.{◌≡◌, ◌+◌, List, ◌∷◌, drop, String, Vec, sym, ◌∙◌, ap, subst}
use Rattle.std.proofs.lemmas.List.{drop_all, drop_more}
use Rattle.std.specs.declared.alloc.Global.{Global}
use Rattle.qm_folder.specs.Names.{AreDistinct, names_of}
use Rattle.qm_folder.specs.declared.memory_call.MemoryCall.{MemoryCall}
use Rattle.qm_folder.proofs.GivenNames.{AreLeft, all_left, given_none, given_one, none_left}
use Rattle.qm_folder.proofs.replay.names_after.Goals as goal
use Rattle.qm_folder.proofs.replay.names_after.Goals.{in-Some+in_ok-add_name-in-Some, in-None}

pub loop-call-init : goal.loop-call-init
loop-call-init c = record {
  left = subst (λ (l : List (String Global)). AreLeft c.args.calls.now (names_of l) c.args.calls.now) (sym c.new-names.ensures.items) (all_left c.args.calls.now);
  once = subst (λ (l : List (String Global)). AreDistinct (names_of l)) (sym c.new-names.ensures.items) tt;
}

pub loop-call-preserved : goal.loop-call-preserved
loop-call-preserved c =
    let calls = c.args.calls.now in
    let call = c.call-item.result in
    let rest = drop (c.loop-call.call-index + 1) calls in
    let next : drop c.loop-call.call-index calls ≡ call ∷ rest = drop_more calls c.loop-call.call-index call c.loop-call-test.true ∙ ap (λ (it : MemoryCall). it ∷ rest) (sym c.call-item.is) in
    let left = subst (λ (l : List MemoryCall). AreLeft calls (names_of c.loop-call.names.items) l) next c.loop-call.invariant.left in
    elim c.match-given_name.branch [
      | in-Some+in_ok-add_name-in-Some w ↦
          let now = given_one calls (names_of c.loop-call.names.items) (names_of w.add_name.new.names.items) call rest w.in-Some.name.now (sym w.in-Some.ensures) left w.in_ok-add_name-in-Some.ensures.added in
          let once = w.in_ok-add_name-in-Some.ensures.once c.loop-call.invariant.once in
          record {
            left = subst (λ (v : Vec (String Global) Global). AreLeft calls (names_of v.items) rest) (sym w.names-is) now;
            once = subst (λ (v : Vec (String Global) Global). AreDistinct (names_of v.items)) (sym w.names-is) once;
          }
      | in-None w ↦
          let now = given_none calls (names_of c.loop-call.names.items) call rest (sym w.in-None.ensures) left in
          record {
            left = subst (λ (v : Vec (String Global) Global). AreLeft calls (names_of v.items) rest) (sym w.names-is) now;
            once = subst (λ (v : Vec (String Global) Global). AreDistinct (names_of v.items)) (sym w.names-is) c.loop-call.invariant.once;
          }
    ]

pub returns-clause-once : goal.returns-clause-once
returns-clause-once c = c.loop-call.invariant.once

pub returns-clause-names : goal.returns-clause-names
returns-clause-names c =
    let calls = c.args.calls.now in
    none_left calls (names_of c.loop-call.names.items)
    (subst (λ (l : List MemoryCall). AreLeft calls (names_of c.loop-call.names.items) l) (drop_all c.loop-call.call-index calls c.loop-call-test.false) c.loop-call.invariant.left)
