use Rattle.std.proofs.Common.{arith, sym, ◌∙◌}
use Rattle.birchagain_bytes.proofs.SegmentFiles.{deletions-known, deletions-new}
use Rattle.birchagain_bytes.proofs.index_files.push_deletions.Goals as goal

pub returns-then-is_known-clause-added : goal.returns-then-is_known-clause-added
returns-then-is_known-clause-added c =
    let pushed = c.in_ok-push_file.ensures in
    let numbers = c.args.numbers.now in
    deletions-known c.args.known.now numbers.key numbers.deletions c.args.segment.now.segment c.as_str.result.now c.args.out.now.items c.push_file.new.out.items
    (record { added = pushed.added; name_length = pushed.name_length; length = pushed.length; text = pushed.text }) (c.as_str.ensures.value ∙ c.in_ok-name.ensures)
    (c.is_known.ensures.found c.if-is_known.true)

pub returns-in-Ok-clause-added : goal.returns-in-Ok-clause-added
returns-in-Ok-clause-added c =
    let pushed = c.in_ok-push_file-in-Ok.ensures in
    let numbers = c.args.numbers.now in
    deletions-new c.args.known.now numbers.key numbers.deletions c.args.segment.now.segment c.as_str-in-Ok.result.now c.deref.result.now
    c.args.out.now.items c.push_file-in-Ok.new.out.items
    (record { added = pushed.added; name_length = pushed.name_length; length = pushed.length; text = pushed.text })
    (c.as_str-in-Ok.ensures.value ∙ c.in_ok-name.ensures)
    (λ rising. sym (c.is_known.ensures.all rising) ∙ c.if-is_known.false) (c.deref.ensures.value ∙ c.in-Ok.ensures.stored) (omega arith)
    c.in-Ok.ensures.numbers c.deleted_count-deleted.ensures.few
