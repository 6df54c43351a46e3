-- The segment of the document ends behind it, and those before it don't.
use Rattle.std.proofs.Common.{rules, ◌<◌, ◌≤◌, ap, refl, ◌∙◌, arith, leb, length}
use Rattle.std.proofs.lemmas.List.Sorted.{IsPartitionPoint-from_clause}
use Rattle.std.proofs.lemmas.Option.{slice_get_read}
use Rattle.qm_index.proofs.SegmentEnds.{ends-here, ends-parted, is_inside, is_there, length-ends, starts_before}
use Rattle.qm_index.proofs.addresses.address_by_ends.Goals as goal

pub bounds-ends-place : goal.bounds-ends-place
bounds-ends-place c =
    let rs = c.args.readers.now in
    let n = c.args.number in
    let place = c.partition_point-place.result in
    let point = ends-parted rs c.args.ends.now n place c.requires.ends (λ parted. IsPartitionPoint-from_clause (λ e. leb e n)
    c.args.ends.now place c.partition_point-place.ensures.partitioned parted (λ a r q k. search rules)) in
    let long = ap length c.requires.ends ∙ length-ends 0 rs in
    let within : place ≤ length rs = omega (arith, c.partition_point-place.ensures.bound, long) in
    let there : place < length rs = is_there rs n place c.requires.exists within point in
    omega (arith, there, long)

pub offset_bounds-readers-place : goal.offset_bounds-readers-place
offset_bounds-readers-place c =
    let rs = c.args.readers.now in
    let n = c.args.number in
    let place = c.partition_point-place.result in
    let point = ends-parted rs c.args.ends.now n place c.requires.ends (λ parted. IsPartitionPoint-from_clause (λ e. leb e n)
    c.args.ends.now place c.partition_point-place.ensures.partitioned parted (λ a r q k. search rules)) in
    let long = ap length c.requires.ends ∙ length-ends 0 rs in
    let within : place ≤ length rs = omega (arith, c.partition_point-place.ensures.bound, long) in
    let there : place < length rs = is_there rs n place c.requires.exists within point in
    omega (arith, there, c.requires.few)

pub bounds-readers-place : goal.bounds-readers-place
bounds-readers-place c =
    let rs = c.args.readers.now in
    let n = c.args.number in
    let place = c.partition_point-place.result in
    let point = ends-parted rs c.args.ends.now n place c.requires.ends (λ parted. IsPartitionPoint-from_clause (λ e. leb e n)
    c.args.ends.now place c.partition_point-place.ensures.partitioned parted (λ a r q k. search rules)) in
    let long = ap length c.requires.ends ∙ length-ends 0 rs in
    let within : place ≤ length rs = omega (arith, c.partition_point-place.ensures.bound, long) in
    let there : place < length rs = is_there rs n place c.requires.exists within point in
    there

pub overflow_sub-first : goal.overflow_sub-first
overflow_sub-first c =
    let rs = c.args.readers.now in
    let n = c.args.number in
    let place = c.partition_point-place.result in
    let point = ends-parted rs c.args.ends.now n place c.requires.ends (λ parted. IsPartitionPoint-from_clause (λ e. leb e n)
    c.args.ends.now place c.partition_point-place.ensures.partitioned parted (λ a r q k. search rules)) in
    let long = ap length c.requires.ends ∙ length-ends 0 rs in
    let within : place ≤ length rs = omega (arith, c.partition_point-place.ensures.bound, long) in
    let there : place < length rs = is_there rs n place c.requires.exists within point in
    let reader = c.index-readers-place.result in
    let here = ends-here rs n place c.requires.exists within point reader c.index-readers-place.is c.args.ends.now c.requires.ends in
    let from = starts_before rs n place c.requires.exists within point in
    let inside = is_inside rs n place c.requires.exists within point reader c.index-readers-place.is in
    let len = c.from.ensures ∙ c.max_doc.ensures.number in
    omega (arith, here, len)

pub overflow_cast-place : goal.overflow_cast-place
overflow_cast-place c =
    let rs = c.args.readers.now in
    let n = c.args.number in
    let place = c.partition_point-place.result in
    let point = ends-parted rs c.args.ends.now n place c.requires.ends (λ parted. IsPartitionPoint-from_clause (λ e. leb e n)
    c.args.ends.now place c.partition_point-place.ensures.partitioned parted (λ a r q k. search rules)) in
    let long = ap length c.requires.ends ∙ length-ends 0 rs in
    let within : place ≤ length rs = omega (arith, c.partition_point-place.ensures.bound, long) in
    let there : place < length rs = is_there rs n place c.requires.exists within point in
    omega (arith, there, c.requires.few)

pub overflow_sub-number : goal.overflow_sub-number
overflow_sub-number c =
    let rs = c.args.readers.now in
    let n = c.args.number in
    let place = c.partition_point-place.result in
    let point = ends-parted rs c.args.ends.now n place c.requires.ends (λ parted. IsPartitionPoint-from_clause (λ e. leb e n)
    c.args.ends.now place c.partition_point-place.ensures.partitioned parted (λ a r q k. search rules)) in
    let long = ap length c.requires.ends ∙ length-ends 0 rs in
    let within : place ≤ length rs = omega (arith, c.partition_point-place.ensures.bound, long) in
    let there : place < length rs = is_there rs n place c.requires.exists within point in
    let reader = c.index-readers-place.result in
    let here = ends-here rs n place c.requires.exists within point reader c.index-readers-place.is c.args.ends.now c.requires.ends in
    let from = starts_before rs n place c.requires.exists within point in
    let inside = is_inside rs n place c.requires.exists within point reader c.index-readers-place.is in
    let len = c.from.ensures ∙ c.max_doc.ensures.number in
    omega (arith, here, len, from)

pub overflow_cast-number : goal.overflow_cast-number
overflow_cast-number c =
    let rs = c.args.readers.now in
    let n = c.args.number in
    let place = c.partition_point-place.result in
    let point = ends-parted rs c.args.ends.now n place c.requires.ends (λ parted. IsPartitionPoint-from_clause (λ e. leb e n)
    c.args.ends.now place c.partition_point-place.ensures.partitioned parted (λ a r q k. search rules)) in
    let long = ap length c.requires.ends ∙ length-ends 0 rs in
    let within : place ≤ length rs = omega (arith, c.partition_point-place.ensures.bound, long) in
    let there : place < length rs = is_there rs n place c.requires.exists within point in
    let reader = c.index-readers-place.result in
    let here = ends-here rs n place c.requires.exists within point reader c.index-readers-place.is c.args.ends.now c.requires.ends in
    let from = starts_before rs n place c.requires.exists within point in
    let inside = is_inside rs n place c.requires.exists within point reader c.index-readers-place.is in
    let len = c.from.ensures ∙ c.max_doc.ensures.number in
    omega (arith, here, len, from, inside, c.max_doc.ensures.number, c.max_doc.ensures.room)

pub returns : goal.returns
returns c =
    let rs = c.args.readers.now in
    let n = c.args.number in
    let place = c.partition_point-place.result in
    let point = ends-parted rs c.args.ends.now n place c.requires.ends (λ parted. IsPartitionPoint-from_clause (λ e. leb e n)
    c.args.ends.now place c.partition_point-place.ensures.partitioned parted (λ a r q k. search rules)) in
    let long = ap length c.requires.ends ∙ length-ends 0 rs in
    let within : place ≤ length rs = omega (arith, c.partition_point-place.ensures.bound, long) in
    let there : place < length rs = is_there rs n place c.requires.exists within point in
    let reader = c.index-readers-place.result in
    let here = ends-here rs n place c.requires.exists within point reader c.index-readers-place.is c.args.ends.now c.requires.ends in
    let from = starts_before rs n place c.requires.exists within point in
    let inside = is_inside rs n place c.requires.exists within point reader c.index-readers-place.is in
    let len = c.from.ensures ∙ c.max_doc.ensures.number in
    record {
      address = record {
        place = place;
        reader = reader;
        segment = omega (arith, c.new.ensures.segment);
        there = slice_get_read rs (length rs) place reader refl there c.index-readers-place.is;
        document = omega (arith, here, len, from, inside, c.new.ensures.document);
        number = omega (arith, here, len, from, inside, c.new.ensures.document);
      };
    }
