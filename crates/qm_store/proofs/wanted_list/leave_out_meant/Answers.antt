use Rattle.std.proofs.Common.{rules}
use Rattle.std.proofs.lemmas.Fn.{dedup_same}
use Rattle.qm_store.specs.Wanted.{is_meant}
use Rattle.qm_store.proofs.wanted_list.leave_out_meant.Goals as goal

pub returns : goal.returns
returns c =
    dedup_same _ (λ later before. is_meant before later.term) _ (λ x y b f x' y' called. search rules) c.args.wanted.now.items c.dedup_by.new.self.items
    c.dedup_by.ensures.filtered
