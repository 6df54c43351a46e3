-- No document lies past the last.
use Rattle.std.proofs.Common.{ℕ, List, slice_get, ap, sym, arith}
use Rattle.std.proofs.lemmas.Bool.{false_from_ne_true}
use Rattle.qm_docset.proofs.MembersLemmas.{members_between-none}
use Rattle.qm_combine.specs.Window.{window_end, window_has}
use Rattle.qm_combine.proofs.union.window.Window.next_until_last.Goals as goal

pub returns-then-self-doc : goal.returns-then-self-doc
returns-then-self-doc g c =
    let w = c.args.self.now in
    sym (ap (λ (ds : List ℕ). slice_get ds 0) (members_between-none (window_has w) c.args.doc (window_end w) (λ d past _.
    false_from_ne_true (window_has w d) (λ here. let low = c.requires d here in absurd (omega arith)))))
