use Rattle.std.proofs.Common.{◌<◌, [], ◌∷◌, ◌++◌, ap, arith, length, map, sym, take, ◌∙◌}
use Rattle.std.proofs.lemmas.List.{map_more}
use Rattle.qm_merge.specs.Merging.{joined}
use Rattle.qm_postings.specs.Reading.{Reader}
use Rattle.qm_postings.specs.Restriction.{restricted}
use Rattle.qm_script.specs.Narrowed.{all_joined}
use Rattle.qm_script.specs.Wanted.{is_wanted}
use Rattle.qm_script.proofs.RestrictedJoin.{joined-restricted, joined_more}
use Rattle.qm_script.proofs.narrowed.joined_narrowed.Goals as goal

pub loop-other-preserved : goal.loop-other-preserved
loop-other-preserved c =
    let wanted = is_wanted c.args.terms.now in
    let first = c.args.first.now.segment in
    let others = c.args.others.now in
    let i = c.loop-other.other-index in
    let other : Reader = c.other-item.result in
    let before = all_joined first (map (λ (r : Reader). r.segment) (take i others)) in
    let within : i < length others = omega (arith, c.loop-other-test.true, c.loop-other.auto.other-index-end) in
    let more = map_more (λ (r : Reader). r.segment) others i other within
    ∙ ap (λ (r : Reader). map (λ (q : Reader). q.segment) (take i others) ++ r.segment ∷ []) (sym c.other-item.is) in
    c.in_ok-whole-2.ensures
    ∙ (λ j. joined (c.loop-other.invariant j) (c.in_ok-part.ensures.restricted j))
    ∙ joined-restricted wanted before other.segment
    ∙ ap (restricted wanted) (sym (ap (all_joined first) more ∙ joined_more first (map (λ (r : Reader). r.segment) (take i others)) other.segment))
