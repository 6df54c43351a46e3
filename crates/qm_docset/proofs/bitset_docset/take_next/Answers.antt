-- The lowest member of the word, or of the first word after it that has one.
use Rattle.std.proofs.Common.{◌≡◌, ◌+◌, ◌*◌, ◌<◌, drop, Some, None, slice_get, arith, sym, ap, ◌∙◌}
use Rattle.qm_docset.specs.BitSet.{set_max_value, members_left}
use Rattle.qm_docset.specs.TinySet.{tiny_members}
use Rattle.qm_docset.proofs.MembersLeft.{IsSome-from_not_None, left-pop, left-none, left-next}
use Rattle.qm_docset.proofs.bitset_docset.take_next.Goals as goal
use Rattle.qm_docset.proofs.bitset_docset.take_next.Goals.{In-Some, In_err-bucket, After-tinyset, After-unwrap-lowest}

-- the word has a member
popped : (c : In-Some) → (Some (64 * c.args.bucket.now + c.in-Some.lowest) ≡ slice_get (members_left c.args.docs.now c.args.bucket.now c.args.word.now) 0)
    × (members_left c.args.docs.now c.args.bucket.now c.pop_lowest.new.self ≡ drop 1 (members_left c.args.docs.now c.args.bucket.now c.args.word.now)) ×
    (c.in-Some.lowest < 64)
popped c =
    left-pop c.args.docs.now c.args.bucket.now c.args.word.now c.pop_lowest.new.self c.pop_lowest.ensures.members c.in-Some.lowest c.in-Some.ensures.lowest

pub overflow_add-result : goal.overflow_add-result
overflow_add-result c = omega (arith, (popped (goal.at.overflow_add-result c).In-Some).2)

pub returns-in-Some-clause-next : goal.returns-in-Some-clause-next
returns-in-Some-clause-next c = (popped (goal.at.returns-in-Some-clause-next c).In-Some).0

pub returns-in-Some-clause-left : goal.returns-in-Some-clause-left
returns-in-Some-clause-left c = (popped (goal.at.returns-in-Some-clause-left c).In-Some).1

-- no word has one
none_left : (c : In_err-bucket) → (None ≡ slice_get (members_left c.args.docs.now c.args.bucket.now c.args.word.now) 0)
    × (members_left c.args.docs.now c.args.bucket.now c.pop_lowest.new.self ≡ drop 1 (members_left c.args.docs.now c.args.bucket.now c.args.word.now))
none_left c =
    left-none c.args.docs.now c.args.bucket.now c.args.word.now c.pop_lowest.new.self
    c.pop_lowest.ensures.members c.in_default.ensures.lowest c.in_err-bucket.ensures

pub returns-in_err-bucket-clause-next : goal.returns-in_err-bucket-clause-next
returns-in_err-bucket-clause-next c = c.from_residual.ensures ∙ (none_left (goal.at.returns-in_err-bucket-clause-next c).In_err-bucket).0

pub returns-in_err-bucket-clause-left : goal.returns-in_err-bucket-clause-left
returns-in_err-bucket-clause-left c = (none_left (goal.at.returns-in_err-bucket-clause-left c).In_err-bucket).1

-- a later word has one
later : (c : After-tinyset) → (64 * c.in_ok-bucket.field-0 < set_max_value c.args.docs.now) × ((None ≡ slice_get (tiny_members c.tinyset.result) 0) → ⊥)
    × (members_left c.args.docs.now c.in_ok-bucket.field-0 c.tinyset.result ≡ members_left c.args.docs.now c.args.bucket.now c.args.word.now)
later c =
    left-next c.args.docs.now c.args.bucket.now c.args.word.now c.pop_lowest.new.self c.pop_lowest.ensures.members
    c.in_default.ensures.lowest c.in_ok-bucket.field-0 c.tinyset.result c.in_ok-bucket.ensures c.tinyset.ensures

popped_later : (c : After-unwrap-lowest) →
    (Some (64 * c.in_ok-bucket.field-0 + c.unwrap-lowest.result) ≡ slice_get (members_left c.args.docs.now c.in_ok-bucket.field-0 c.tinyset.result) 0)
    × (members_left c.args.docs.now c.in_ok-bucket.field-0 c.pop_lowest-2.new.self
    ≡ drop 1 (members_left c.args.docs.now c.in_ok-bucket.field-0 c.tinyset.result)) × (c.unwrap-lowest.result < 64)
popped_later c =
    left-pop c.args.docs.now c.in_ok-bucket.field-0 c.tinyset.result c.pop_lowest-2.new.self c.pop_lowest-2.ensures.members c.unwrap-lowest.result
    (sym c.unwrap-lowest.ensures ∙ c.pop_lowest-2.ensures.lowest)

pub unwrap-lowest-requires : goal.unwrap-lowest-requires
unwrap-lowest-requires c =
    let there = later (goal.at.unwrap-lowest-requires c).After-tinyset in
    IsSome-from_not_None c.pop_lowest-2.result (λ none. there.1 (none ∙ c.pop_lowest-2.ensures.lowest))

pub overflow_mul-result-2 : goal.overflow_mul-result-2
overflow_mul-result-2 c = omega (arith, c.requires.documents, (later (goal.at.overflow_mul-result-2 c).After-tinyset).0)

pub overflow_add-result-2 : goal.overflow_add-result-2
overflow_add-result-2 c =
    omega (
      arith,
      c.requires.documents,
      (later (goal.at.overflow_add-result-2 c).After-tinyset).0,
      (popped_later (goal.at.overflow_add-result-2 c).After-unwrap-lowest).2,
    )

pub returns-clause-next : goal.returns-clause-next
returns-clause-next c =
    (popped_later (goal.at.returns-clause-next c).After-unwrap-lowest).0 ∙ ap (λ xs. slice_get xs 0) (later (goal.at.returns-clause-next c).After-tinyset).2

pub returns-clause-left : goal.returns-clause-left
returns-clause-left c =
    (popped_later (goal.at.returns-clause-left c).After-unwrap-lowest).1 ∙ ap (drop 1) (later (goal.at.returns-clause-left c).After-tinyset).2

pub returns-clause-bucket : goal.returns-clause-bucket
returns-clause-bucket c = omega (arith, c.requires.documents, (later (goal.at.returns-clause-bucket c).After-tinyset).0)
