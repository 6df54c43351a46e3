use Rattle.std.proofs.Common.{◌≡◌, ◌+◌, ◌*◌, ◌<◌, ◌≤◌, ◌++◌, ap, sym, ◌∙◌, append-nil, arith, length, min, subst}
use Rattle.std.specs.Int.{div_ceil}
use Rattle.std.specs.List.{AllWithin, flat_map}
use Rattle.std.proofs.lemmas.Grind.{div_ceil_times}
use Rattle.std.proofs.lemmas.List.{length-append}
use Rattle.qm_store.specs.Numbers.{spelled}
use Rattle.qm_store.specs.Pieces.{IsMakeRefusal}
use Rattle.qm_store.specs.Stored.{IsStorable, block_named, blocks_named, dictionary_bytes, group_bytes, group_count, rows_bytes, start_bytes, stored_blocks}
use Rattle.qm_store.proofs.StoredSteps.{between, group-more, groups_left, handed-on, joined, length-blocks, none-left, refused-more, start-more, starts-within}
use Rattle.qm_store.proofs.stored_bytes.push_dictionary.Goals as goal

pub loop-number-preserved : goal.loop-number-preserved
loop-number-preserved c =
    let at = c.loop-number in
    let rows = c.args.segment.now.rows in
    let key = c.args.key in
    let i = at.number in
    let count = c.row_count-count.ensures.count in
    let blocks = c.div_ceil-blocks.ensures ∙ ap (λ n. div_ceil n 128) count in
    let some : i < group_count rows = omega (arith, blocks, c.loop-number-test.true) in
    let start = starts-within rows i some in
    let end-is : i * 128 + c.min.result ≡ min (i * 128 + 128) (length rows) = omega (arith, c.min.ensures, count, start) in
    let so_far : min (i * 128) (length rows) ≡ i * 128 = omega (arith, start) in
    let through : i * 128 + c.min.result ≡ min ((i + 1) * 128) (length rows) = omega (arith, c.min.ensures, count, start) in
    let out = c.in_ok-push_group.ensures.out ∙ ap (λ n. at.out.items ++ group_bytes key (length at.out.items) (between rows (i * 128) n)) end-is in
    let index = c.in_ok-push_group.ensures.index
    ∙ ap (λ n. at.index.items ++ start_bytes (block_named key (length at.out.items) (between rows (i * 128) n))) end-is in
    record {
      out = (λ k. out k ++ dictionary_bytes key (length (out k)) (groups_left rows (i + 1))) ∙ group-more key at.out.items rows i some ∙ at.invariant.out;
      index =
          (λ k. index k ++ flat_map start_bytes (blocks_named key (length (out k)) (groups_left rows (i + 1))))
          ∙ start-more key at.out.items rows i some at.index.items ∙ at.invariant.index;
      storable =
          subst (AllWithin IsStorable rows 0) through
          (joined IsStorable rows 0 (i * 128) (i * 128 + c.min.result) (subst (AllWithin IsStorable rows 0) so_far at.invariant.storable)
          c.in_ok-push_group.ensures.storable);
    }

pub returns-clause-out : goal.returns-clause-out
returns-clause-out c =
    let at = c.loop-number in
    let rows = c.args.segment.now.rows in
    let blocks = c.div_ceil-blocks.ensures ∙ ap (λ n. div_ceil n 128) c.row_count-count.ensures.count in
    let past : group_count rows ≤ at.number = omega (arith, blocks, c.loop-number-test.false) in
    sym (append-nil at.out.items)
    ∙ ap (λ gs. at.out.items ++ dictionary_bytes c.args.key (length at.out.items) gs) (sym (none-left rows at.number past))
    ∙ at.invariant.out

pub returns-clause-index : goal.returns-clause-index
returns-clause-index c =
    let at = c.loop-number in
    let rows = c.args.segment.now.rows in
    let key = c.args.key in
    let blocks = c.div_ceil-blocks.ensures ∙ ap (λ n. div_ceil n 128) c.row_count-count.ensures.count in
    let past : group_count rows ≤ at.number = omega (arith, blocks, c.loop-number-test.false) in
    sym (append-nil at.index.items)
    ∙ ap (λ gs. at.index.items ++ flat_map start_bytes (blocks_named key (length at.out.items) gs)) (sym (none-left rows at.number past))
    ∙ at.invariant.index
    ∙ ap (λ n. spelled n ++ flat_map start_bytes (stored_blocks key rows)) (sym (length-blocks key 16 (group_count rows) rows))

pub returns-clause-storable : goal.returns-clause-storable
returns-clause-storable c =
    let at = c.loop-number in
    let rows = c.args.segment.now.rows in
    let blocks = c.div_ceil-blocks.ensures ∙ ap (λ n. div_ceil n 128) c.row_count-count.ensures.count in
    let bounds = div_ceil_times (length rows) 128 (omega arith) in
    let past : length rows ≤ at.number * 128 = omega (arith, blocks, c.loop-number-test.false, bounds.0) in
    λ k d inside. at.invariant.storable k d (omega arith) (omega (arith, inside, past))

pub returns-in_err-push_group-clause-refused : goal.returns-in_err-push_group-clause-refused
returns-in_err-push_group-clause-refused c =
    let at = c.loop-number in
    let rows = c.args.segment.now.rows in
    let key = c.args.key in
    let i = at.number in
    let count = c.row_count-count.ensures.count in
    let blocks = c.div_ceil-blocks.ensures ∙ ap (λ n. div_ceil n 128) count in
    let some : i < group_count rows = omega (arith, blocks, c.loop-number-test.true) in
    let start = starts-within rows i some in
    let end-is : i * 128 + c.min.result ≡ min (i * 128 + 128) (length rows) = omega (arith, c.min.ensures, count, start) in
    let out = at.out.items in
    let own = group_bytes key (length out) (between rows (i * 128) (min (i * 128 + 128) (length rows))) in
    let rest = dictionary_bytes key (length (out ++ own)) (groups_left rows (i + 1)) in
    let whole = ap length (group-more key out rows i some ∙ at.invariant.out) in
    let sizes : length out + length own ≤ length (rows_bytes key rows) =
    omega (arith, whole, length-append (out ++ own) rest, length-append out own)
    in
    let e = c.in_err-push_group.field-0.0 in
    let refused : IsMakeRefusal (length (rows_bytes key rows)) e =
    refused-more e _ _ sizes (subst (λ n. IsMakeRefusal (length out + length (group_bytes key (length out) (between rows (i * 128) n))) e) end-is
    c.in_err-push_group.ensures.refused)
    in
    handed-on c.from_residual-in_err-push_group.result e (IsMakeRefusal (length (rows_bytes key rows))) c.from_residual-in_err-push_group.ensures.1 refused
