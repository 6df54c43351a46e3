-- What is left behind the place ascends too.
use Rattle.std.proofs.Common.{subst, sym, ◌∙◌}
use Rattle.qm_phrase.specs.Places.{Ascends, left_in}
use Rattle.qm_phrase.proofs.StartSteps.{Ascends-past}
use Rattle.qm_phrase.proofs.TermRows.{read_is}
use Rattle.qm_phrase.proofs.term_row.TermRow.pass.Goals as goal

pub pass_below-requires : goal.pass_below-requires
pass_below-requires c =
    let row = c.args.self.now.row in
    let read = c.deref.result.now in
    let is = read_is c.args.positions.now c.args.self.now.member c.index-positions-self.result read c.requires.inside
    c.index-positions-self.is c.deref.ensures.value in
    let before = subst (λ r. Ascends 0 (left_in r row)) (sym is) c.requires.ascends in
    let behind = subst (Ascends 0) (sym c.pass.ensures.left) (Ascends-past 0 c.args.place (left_in read row) before) in
    subst (λ r. Ascends 0 (left_in r c.pass.new.self)) (c.deref.ensures.value ∙ sym c.deref-2.ensures.value) behind
