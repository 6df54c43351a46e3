-- Number by number those with too few scores are taken out.
use Rattle.std.proofs.Common.{◌≡◌, ◌+◌, ◌&&◌, ◌||◌, false, nat_le, slice_index_or, ap, arith, ◌∙◌, inl, inr}
use Rattle.std.proofs.lemmas.Bool.{cases_lt}
use Rattle.qm_docset.specs.TinySet.{tiny_has, tiny_members}
use Rattle.qm_docset.proofs.MemberEntries.{none-from_None}
use Rattle.qm_docset.proofs.TinySetLemmas.{tiny_has-past}
use Rattle.qm_combine.proofs.Filled.{lowest-small}
use Rattle.qm_combine.proofs.union.window.keep_counted.Goals as goal

pub remove-kept-requires : goal.remove-kept-requires
remove-kept-requires g c = lowest-small c.loop-lowest.left c.in-Some.lowest c.in-Some.ensures.lowest

pub returns : goal.returns
unfolding tiny_members
returns g c = λ x.
    let left = c.loop-lowest.left in
    let none : tiny_has left x ≡ false = elim (cases_lt x 64) [
      | inl small ↦ none-from_None (tiny_has left) 0 64 c.in_default.ensures.lowest x (omega arith) small
      | inr past ↦ tiny_has-past left x past
    ] in
    c.loop-lowest.invariant x
    ∙ ap (λ b. tiny_has c.args.word x && (b || nat_le c.args.minimum (slice_index_or c.args.states.now (c.args.first + x) c.args.cleared).count)) none
