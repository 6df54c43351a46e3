use Rattle.std.proofs.Common.{◌≡◌, List, true, false, is_some, rules, sym, subst}
use Rattle.qm_folder.specs.Names.{AreDistinct, Name, is_among, names_of}
use Rattle.qm_folder.specs.Memory.{IsAdded, seen_after}
use Rattle.qm_folder.proofs.GivenNames.{added, distinct_more, names_with}
use Rattle.qm_folder.proofs.replay.add_name.Goals as goal

pub returns-clause-added : goal.returns-clause-added
returns-clause-added c =
    let old = c.args.names.now.items in
    let name = c.args.name.now in
    let stands : is_some (seen_after c.args.calls.now name) ≡ true = search rules in
    subst (λ (names : List Name). IsAdded name c.args.calls.now (names_of old) names) (sym (names_with old name _ c.in_ok-from_str.field-0 c.in_ok-push.ensures.items c.in_ok-from_str.ensures.ok)) (added name c.args.calls.now (names_of old) stands)

pub returns-clause-once : goal.returns-clause-once
returns-clause-once c = λ distinct.
    let old = c.args.names.now.items in
    let name = c.args.name.now in
    let other : is_among (names_of old) name ≡ false = search rules in
    subst (λ (names : List Name). AreDistinct names) (sym (names_with old name _ c.in_ok-from_str.field-0 c.in_ok-push.ensures.items c.in_ok-from_str.ensures.ok)) (distinct_more (names_of old) name distinct other)
