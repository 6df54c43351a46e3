-- What is said of the last two is said of the two readers.
use Rattle.std.proofs.Common.{◌*◌, ap, arith, length, sym, ◌∙◌}
use Rattle.std.proofs.lemmas.Bool.{lt-ltb, ltb-true}
use Rattle.qm_postings.specs.Segment.{Segment}
use Rattle.qm_index.specs.Indexed.{indexed}
use Rattle.qm_index.proofs.LastSegments.{last-two-read, same-first, same-second}
use Rattle.qm_index.proofs.index.Index.has_small_last.Goals as goal

pub returns-then-block_len : goal.returns-then-block_len
returns-then-block_len c =
    let self = c.args.self.now in
    let two = last-two-read self c.segment_readers-readers.result.now c.index-readers-self.result c.index-readers-self-2.result (omega (arith, c.if-self-lt2.false)) c.segment_readers-readers.ensures.segments
    c.index-readers-self.is c.index-readers-self-2.is in (
      λ no. cc,
      λ small. absurd (c.if-block_len.true (c.block_len.ensures ∙ ap (λ (s : Segment). s.block_len) (sym (same-first (indexed self).ended small.last two))
          ∙ small.alike ∙ ap (λ (s : Segment). s.block_len) (same-second (indexed self).ended small.last two) ∙ sym c.block_len-2.ensures)),
    )

pub returns-then-max_doc : goal.returns-then-max_doc
returns-then-max_doc c =
    let self = c.args.self.now in
    let two = last-two-read self c.segment_readers-readers.result.now c.index-readers-self.result c.index-readers-self-2.result (omega (arith, c.if-self-lt2.false)) c.segment_readers-readers.ensures.segments
    c.index-readers-self.is c.index-readers-self-2.is in (
      λ no. cc,
      λ small. absurd (omega (
        arith,
        small.few,
        c.if-max_doc.true,
        c.max_doc.ensures.number,
        c.max_doc-2.ensures.number,
        ap (λ (s : Segment). length s.documents) (same-first (indexed self).ended small.last two),
        ap (λ (s : Segment). length s.documents) (same-second (indexed self).ended small.last two),
      )),
    )

pub returns : goal.returns
returns c =
    let self = c.args.self.now in
    let two = last-two-read self c.segment_readers-readers.result.now c.index-readers-self.result c.index-readers-self-2.result (omega (arith, c.if-self-lt2.false)) c.segment_readers-readers.ensures.segments
    c.index-readers-self.is c.index-readers-self-2.is in (
      λ is. record {
        last = two;
        alike = sym c.block_len.ensures ∙ c.if-block_len.false ∙ c.block_len-2.ensures;
        few = omega (arith, c.if-max_doc.false, c.max_doc.ensures.number, c.max_doc-2.ensures.number, c.max_doc-2.ensures.room);
        small = omega (arith, ltb-true c.max_doc-3.result (2 * c.max_doc-4.result) is, c.max_doc-3.ensures.number, c.max_doc-4.ensures.number);
      },
      λ small. lt-ltb c.max_doc-3.result (2 * c.max_doc-4.result) (omega (
        arith,
        small.small,
        c.max_doc-3.ensures.number,
        c.max_doc-4.ensures.number,
        ap (λ (s : Segment). length s.documents) (same-first (indexed self).ended small.last two),
        ap (λ (s : Segment). length s.documents) (same-second (indexed self).ended small.last two),
      )),
    )
