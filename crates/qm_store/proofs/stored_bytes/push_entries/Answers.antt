use Rattle.std.proofs.Common.{◌+◌, ◌<◌, ◌≤◌, ◌++◌, ap, get_or, sym, ◌∙◌, append-nil, arith, length, rules, subst}
use Rattle.std.proofs.lemmas.List.{length-append}
use Rattle.std.proofs.lemmas.List.Elements.{AllWithin-more, AllWithin-upto}
use Rattle.qm_postings.specs.Rows.{IsRow, no_row}
use Rattle.qm_store.specs.Pieces.{IsMakeRefusal}
use Rattle.qm_store.specs.Stored.{IsStorable, all_apart, apart, entries_bytes, entry_bytes}
use Rattle.qm_store.proofs.StoredSteps.{apart-more, at-place, between, entry-more, none-between, refused-more}
use Rattle.qm_store.proofs.stored_bytes.push_entries.Goals as goal

pub push_entry-requires : goal.push_entry-requires
push_entry-requires c =
    let s = c.args.segment.now.segment in
    let inside : c.loop-place.place < length c.args.segment.now.rows = omega (arith, c.loop-place-test.true, c.requires.within) in (
      s.schema,
      length s.documents,
      subst (IsRow s.schema (length s.documents)) (sym c.row.ensures)
          (c.requires.rows.made.are_rows.each c.loop-place.place no_row inside),
    )

pub loop-place-preserved : goal.loop-place-preserved
loop-place-preserved c =
    let at = c.loop-place in
    let key = c.args.key in
    let rows = c.args.segment.now.rows in
    let end = c.args.end in
    let rest = between rows (at.place + 1) end in
    let inside : at.place < length rows = omega (arith, c.loop-place-test.true, c.requires.within) in
    let out = c.in_ok-push_entry.ensures.out ∙ ap (λ r. at.out.items ++ apart r) c.row.ensures in
    let block = c.in_ok-push_entry.ensures.block ∙ ap (λ r. at.block.items ++ entry_bytes key (length at.out.items) r) c.row.ensures in
    record {
      out =
          ap (λ l. l ++ all_apart rest) out
          ∙ apart-more at.out.items rows at.place end c.loop-place-test.true c.requires.within ∙ at.invariant.out;
      block =
          (λ i. block i ++ entries_bytes key (length (out i)) rest)
          ∙ entry-more key at.out.items at.block.items rows at.place end c.loop-place-test.true c.requires.within ∙ at.invariant.block;
      storable = AllWithin-more IsStorable rows c.args.start at.place at.invariant.storable
          (at-place IsStorable rows at.place no_row inside (subst IsStorable c.row.ensures c.in_ok-push_entry.ensures.storable));
    }

pub returns-clause-out : goal.returns-clause-out
returns-clause-out c =
    let at = c.loop-place in
    sym (append-nil at.out.items)
    ∙ ap (λ rs. at.out.items ++ all_apart rs) (sym (none-between c.args.segment.now.rows at.place c.args.end c.loop-place-test.false))
    ∙ at.invariant.out

pub returns-clause-block : goal.returns-clause-block
returns-clause-block c =
    let at = c.loop-place in
    sym (append-nil at.block.items)
    ∙ ap (λ rs. at.block.items ++ entries_bytes c.args.key (length at.out.items) rs)
    (sym (none-between c.args.segment.now.rows at.place c.args.end c.loop-place-test.false))
    ∙ at.invariant.block

pub returns-clause-storable : goal.returns-clause-storable
returns-clause-storable c =
    AllWithin-upto IsStorable c.args.segment.now.rows c.args.start c.loop-place.place c.args.end c.loop-place-test.false c.loop-place.invariant.storable

pub returns-in_err-push_entry-clause-refused : goal.returns-in_err-push_entry-clause-refused
returns-in_err-push_entry-clause-refused c =
    let at = c.loop-place in
    let rows = c.args.segment.now.rows in
    let end = c.args.end in
    let r = get_or rows at.place no_row in
    let out = c.args.out.now.items in
    let rest = all_apart (between rows (at.place + 1) end) in
    let all = between rows c.args.start end in
    let e = c.in_err-push_entry.field-0.0 in
    let whole = ap length (apart-more at.out.items rows at.place end c.loop-place-test.true c.requires.within ∙ at.invariant.out) in
    let sizes : length at.out.items + length (apart r) ≤ length out + length (all_apart all) =
    omega (arith, whole, length-append (at.out.items ++ apart r) rest, length-append at.out.items (apart r), length-append out (all_apart all))
    in
    let refused : IsMakeRefusal (length out + length (all_apart all)) e =
    refused-more e _ _ sizes (subst (λ r. IsMakeRefusal (length at.out.items + length (apart r)) e) c.row.ensures c.in_err-push_entry.ensures.refused)
    in
    search (rules, refused)
