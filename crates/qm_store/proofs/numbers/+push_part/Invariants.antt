use Rattle.qm_store.proofs.numbers.+push_part.Given as goal

abbrev pub decreases-push_part : goal.decreases-push_part
decreases-push_part l = l.more
