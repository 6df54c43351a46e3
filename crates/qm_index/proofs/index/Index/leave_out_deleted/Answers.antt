use Rattle.std.proofs.Common.{◌-◌, ◌++◌, ◌∷◌, [], ap, arith, get_or, rules, ◌∙◌}
use Rattle.qm_postings.specs.Segment.{Segment}
use Rattle.qm_index.specs.Indexed.{indexed}
use Rattle.qm_index.specs.Joining.{with_ended}
use Rattle.qm_index.proofs.JoinedNumbers.{replaced-last}
use Rattle.qm_index.proofs.LastSegments.{last-one, read-schema}
use Rattle.qm_index.proofs.index.Index.leave_out_deleted.Goals as goal

pub replace_last_segment-requires-clause-schema : goal.replace_last_segment-requires-clause-schema
replace_last_segment-requires-clause-schema c =
    let self = c.args.self.now in
    ap (λ (s : Segment). s.schema) c.in_ok-alive.ensures.alive
    ∙ read-schema self c.segment_readers.result.now (self.ended - 1) c.index-segment_readers-self.result (omega (arith, c.if-self-eq0.false))
    c.segment_readers.ensures.segments c.index-segment_readers-self.is

pub returns-clause-left : goal.returns-clause-left
returns-clause-left c =
    let self = c.args.self.now in
    let s = indexed self in
    let last = c.index-segment_readers-self.result in
    let it = last-one self last (omega (arith, c.if-self-eq0.false))
    (c.index-segment_readers-self.is ∙ ap (λ rs. get_or rs (self.ended - 1) last) c.segment_readers.ensures.segments) in (
      it,
      λ none. let no = c.has_deletes.ensures.1 none in let yes = c.if-not-has_deletes.false in absurd (search (rules, no, yes)),
      c.replace_last_segment.ensures.replaced ∙ replaced-last s it c.in_ok-alive.alive.segment
          ∙ ap (λ x. with_ended s (it.others ++ x ∷ [])) c.in_ok-alive.ensures.alive,
    )
