-- The two can be joined where the last two segments can, since they have the same fields.
use Rattle.std.proofs.Common.{◌≡◌, ◌≤◌, ◌-◌, ◌↔◌, Err, List, ap, arith, get_or, length, refl, sym, ◌∙◌}
use Rattle.qm_merge.specs.Merging.{AreAlike, AreTooMany}
use Rattle.qm_postings.specs.Reading.{Reader}
use Rattle.qm_postings.specs.Segment.{Segment}
use Rattle.qm_index.specs.Indexed.{indexed}
use Rattle.qm_index.specs.Joining.{HasTooManyLast, HasUnlikeLast, LastTwo}
use Rattle.qm_index.specs.declared.index.Index.{Index}
use Rattle.qm_index.proofs.LastSegments.{last-two-read, read-schema, same-first, same-second}
use Rattle.qm_index.proofs.index.Index.last_two_joined.Goals as goal

module _ (i : Index) (readers : List Reader) (a b : Reader) (some : 2 ≤ i.ended) (are : readers ≡ i.searcher.segments)
    (first : a ≡ get_or readers (i.ended - 2) a) (second : b ≡ get_or readers (i.ended - 1) b) where
  abbrev two : LastTwo (indexed i).ended
  two = last-two-read i readers a b some are first second

  first-schema : a.segment.schema ≡ i.searcher.schema
  first-schema = read-schema i readers (i.ended - 2) a (omega (arith, some)) are first

  fields : a.segment.schema ≡ b.segment.schema
  fields = first-schema ∙ sym (read-schema i readers (i.ended - 1) b (omega (arith, some)) are second)

  unlike-as : (¬ AreAlike a.segment b.segment) ↔ HasUnlikeLast (indexed i)
  unlike-as = (
    λ un. (two, λ same. un (record { schema = fields; block_len = same })),
    λ has alike. has.1 (ap (λ (x : Segment). x.block_len) (same-first (indexed i).ended has.0 two) ∙ alike.block_len
        ∙ ap (λ (x : Segment). x.block_len) (sym (same-second (indexed i).ended has.0 two))),
  )

  many-as : AreTooMany a.segment b.segment ↔ HasTooManyLast (indexed i)
  many-as = (
    λ too. record { last = two; alike = too.alike.block_len; more = too.more },
    λ has. record {
      alike = record {
        schema = fields;
        block_len = ap (λ (x : Segment). x.block_len) (sym (same-first (indexed i).ended has.last two)) ∙ has.alike
            ∙ ap (λ (x : Segment). x.block_len) (same-second (indexed i).ended has.last two);
      };
      more = omega (
        arith,
        has.more,
        ap (λ (x : Segment). length x.documents) (same-first (indexed i).ended has.last two),
        ap (λ (x : Segment). length x.documents) (same-second (indexed i).ended has.last two),
      );
    },
  )

pub returns-in-Ok-clause-joined : goal.returns-in-Ok-clause-joined
returns-in-Ok-clause-joined c = (
  two c.args.self.now c.segment_readers-readers.result.now c.index-readers-self.result c.index-readers-self-2.result c.requires.two
      c.segment_readers-readers.ensures.segments c.index-readers-self.is c.index-readers-self-2.is,
  c.in-Ok.ensures.merged,
)

pub returns-in-Ok-clause-schema : goal.returns-in-Ok-clause-schema
returns-in-Ok-clause-schema c =
    ap (λ (x : Segment). x.schema) c.in-Ok.ensures.merged
    ∙ first-schema c.args.self.now c.segment_readers-readers.result.now c.index-readers-self.result c.index-readers-self-2.result c.requires.two
    c.segment_readers-readers.ensures.segments c.index-readers-self.is c.index-readers-self-2.is

pub returns-in-Ok-clause-unlike : goal.returns-in-Ok-clause-unlike
returns-in-Ok-clause-unlike c =
    let met = unlike-as c.args.self.now c.segment_readers-readers.result.now c.index-readers-self.result c.index-readers-self-2.result c.requires.two
    c.segment_readers-readers.ensures.segments c.index-readers-self.is c.index-readers-self-2.is in
    (λ no. cc, λ has. let no = c.in-Ok.ensures.unlike.1 (met.1 has) in cc)

pub returns-in-Ok-clause-many : goal.returns-in-Ok-clause-many
returns-in-Ok-clause-many c =
    let met = many-as c.args.self.now c.segment_readers-readers.result.now c.index-readers-self.result c.index-readers-self-2.result c.requires.two
    c.segment_readers-readers.ensures.segments c.index-readers-self.is c.index-readers-self-2.is in
    (λ no. cc, λ has. let no = c.in-Ok.ensures.too_many.1 (met.1 has) in cc)

pub returns-in-Err-Unlike-clause-unlike : goal.returns-in-Err-Unlike-clause-unlike
returns-in-Err-Unlike-clause-unlike c =
    let met = unlike-as c.args.self.now c.segment_readers-readers.result.now c.index-readers-self.result c.index-readers-self-2.result c.requires.two
    c.segment_readers-readers.ensures.segments c.index-readers-self.is c.index-readers-self-2.is in
    (λ is. met.0 (c.in-Err-Unlike.ensures.unlike.0 (ap Err c.in-Err-Unlike.field-0-is)), λ has. refl)

pub returns-in-Err-Unlike-clause-many : goal.returns-in-Err-Unlike-clause-many
returns-in-Err-Unlike-clause-many c =
    let met = many-as c.args.self.now c.segment_readers-readers.result.now c.index-readers-self.result c.index-readers-self-2.result c.requires.two
    c.segment_readers-readers.ensures.segments c.index-readers-self.is c.index-readers-self-2.is in
    (λ no. cc, λ has. let other = c.in-Err-Unlike.ensures.too_many.1 (met.1 has) in let own = c.in-Err-Unlike.field-0-is in cc)

pub returns-in-Err-TooMany-clause-unlike : goal.returns-in-Err-TooMany-clause-unlike
returns-in-Err-TooMany-clause-unlike c =
    let met = unlike-as c.args.self.now c.segment_readers-readers.result.now c.index-readers-self.result c.index-readers-self-2.result c.requires.two
    c.segment_readers-readers.ensures.segments c.index-readers-self.is c.index-readers-self-2.is in
    (λ no. cc, λ has. let other = c.in-Err-TooMany.ensures.unlike.1 (met.1 has) in let own = c.in-Err-TooMany.field-0-is in cc)

pub returns-in-Err-TooMany-clause-many : goal.returns-in-Err-TooMany-clause-many
returns-in-Err-TooMany-clause-many c =
    let met = many-as c.args.self.now c.segment_readers-readers.result.now c.index-readers-self.result c.index-readers-self-2.result c.requires.two
    c.segment_readers-readers.ensures.segments c.index-readers-self.is c.index-readers-self-2.is in
    (λ is. met.0 (c.in-Err-TooMany.ensures.too_many.0 (ap Err c.in-Err-TooMany.field-0-is)), λ has. refl)

pub returns-in-Err-Memory-clause-unlike : goal.returns-in-Err-Memory-clause-unlike
returns-in-Err-Memory-clause-unlike c =
    let met = unlike-as c.args.self.now c.segment_readers-readers.result.now c.index-readers-self.result c.index-readers-self-2.result c.requires.two
    c.segment_readers-readers.ensures.segments c.index-readers-self.is c.index-readers-self-2.is in
    (λ no. cc, λ has. let other = c.in-Err-Memory.ensures.unlike.1 (met.1 has) in let own = c.in-Err-Memory.field-0-is in cc)

pub returns-in-Err-Memory-clause-many : goal.returns-in-Err-Memory-clause-many
returns-in-Err-Memory-clause-many c =
    let met = many-as c.args.self.now c.segment_readers-readers.result.now c.index-readers-self.result c.index-readers-self-2.result c.requires.two
    c.segment_readers-readers.ensures.segments c.index-readers-self.is c.index-readers-self-2.is in
    (λ no. cc, λ has. let other = c.in-Err-Memory.ensures.too_many.1 (met.1 has) in let own = c.in-Err-Memory.field-0-is in cc)
