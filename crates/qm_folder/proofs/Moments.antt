-- How a run of calls goes on.
use Rattle.std.proofs.Common.{inl, inr, ⊎_elim, arith}
use Rattle.qm_folder.specs.Disk.{Disk, Contents, CouldLeave, LeavesOnly}
use Rattle.qm_folder.specs.Calls.{Elapses}

-- one call, before which and after which a crash leaves what has P
pub one_call : (old new : Disk) (P : Contents → Type 0) → ((c : Contents) → old.left_since old.moment c → P c) → Elapses old new → ((c : Contents) → CouldLeave new c → P c) → LeavesOnly old new P
one_call old new P here time there = record {
  later = time.later;
  each = λ c left. ⊎_elim (here c) (there c) (time.nothing_else old.moment c (omega arith) left);
  before = λ t c le left. ⊎_elim (λ was. inl was) (λ now. inr (there c now)) (time.nothing_else t c le left);
}

-- one run and then another, which leaves what has P too
pub joined : (old mid new : Disk) (P Q : Contents → Type 0) → LeavesOnly old mid P → LeavesOnly mid new Q → ((c : Contents) → Q c → P c) → LeavesOnly old new P
joined old mid new P Q first second leads = record {
  later = omega (arith, first.later, second.later);
  each = λ c left. ⊎_elim (first.each c) (leads c) (second.before old.moment c first.later left);
  before = λ t c le left. ⊎_elim (first.before t c le) (λ q. inr (leads c q)) (second.before t c (omega (arith, le, first.later)) left);
}

pub weakened : (old new : Disk) (P Q : Contents → Type 0) → LeavesOnly old new P → ((c : Contents) → P c → Q c) → LeavesOnly old new Q
weakened old new P Q run leads = record {
  later = run.later;
  each = λ c left. leads c (run.each c left);
  before = λ t c le left. ⊎_elim (λ was. inl was) (λ p. inr (leads c p)) (run.before t c le left);
}
