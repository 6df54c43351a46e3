use Rattle.std.proofs.Common.{◌≡◌, Some, ap, subst, sym, ◌∙◌}
use Rattle.std.specs.Prelude.{IfSome}
use Rattle.qm_postings.specs.RowsSoFar.{IsLaid, pushed_row}
use Rattle.qm_store.specs.RowBytes.{row_at}
use Rattle.qm_store.specs.RowsPushed.{if_read}
use Rattle.qm_store.proofs.RowsLaid.{read-laid}
use Rattle.qm_store.proofs.row_bytes.read_row_behind.Goals as goal

pub end_row-requires : goal.end_row-requires
end_row-requires c =
    let found : Some (pushed_row c.args.term c.push_parts.new.rows) ≡ row_at c.args.term c.args.has_positions c.args.bytes.now =
    ap (λ b. if_read b (pushed_row c.args.term c.push_parts.new.rows)) (sym c.if-not-branch.false)
    ∙ c.in_ok-push_parts.ensures.read c.args.term in
    record { laid = subst (λ o. IfSome o IsLaid) (sym found) (read-laid c.args.term c.args.has_positions c.args.bytes.now) }
