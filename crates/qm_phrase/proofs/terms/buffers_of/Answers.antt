-- One more member has its buffer.
use Rattle.std.proofs.Common.{◌≡◌, ◌++◌, [], ◌∷◌, map, take, vec_capacity, ap, arith, ◌∙◌}
use Rattle.std.proofs.lemmas.List.{map-append}
use Rattle.qm_combine.proofs.EachMember.{take-map_more}
use Rattle.qm_docset.specs.Lists.{bounds}
use Rattle.qm_phrase.proofs.TermSteps.{AreRoomy-push}
use Rattle.qm_phrase.proofs.terms.buffers_of.Goals as goal

pub loop-member-preserved : goal.loop-member-preserved
loop-member-preserved g c =
    let members = c.args.members.now in
    let i = c.loop-member.member-index in
    let member = c.member-item.result in
    let made = c.in_ok-with_capacity.field-0 in
    let buffers = c.loop-member.buffers.items in
    let limits = take-map_more g.P.DocSet.limits members i member c.member-item.is c.loop-member-test.true in
    let rooms : map vec_capacity c.push.new.self.items ≡ map vec_capacity buffers ++ vec_capacity made ∷ [] =
    ap (map vec_capacity) c.in_ok-push.ensures.items ∙ map-append vec_capacity buffers (made ∷ []) in
    rw (limits, rooms) (AreRoomy-push (take i (bounds g.P.DocSet members)) (map vec_capacity buffers) (g.P.DocSet.limits member)
    (vec_capacity made) c.loop-member.invariant (omega (arith, c.in_ok-with_capacity.ensures.capacity, c.max_term_freq.ensures)))
