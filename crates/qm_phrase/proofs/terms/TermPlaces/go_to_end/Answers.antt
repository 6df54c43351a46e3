-- Where one member is at its end, no document is left.
use Rattle.std.proofs.Common.{ap, arith, refl, ◌∙◌}
use Rattle.qm_combine.proofs.EachMember.{map-set_same}
use Rattle.qm_docset.specs.Entry.{from}
use Rattle.qm_docset.specs.declared.numbers.TheConstants.{TERMINATED}
use Rattle.qm_phrase.proofs.TermMoves.{AreMovedTo-ended, some-members}
use Rattle.qm_phrase.proofs.terms.TermPlaces.go_to_end.Goals as goal

pub index_mut-requires : goal.index_mut-requires
index_mut-requires g c = omega (arith, some-members g.P.DocSet c.args.self.now c.requires.valid, c.args.self.now.members.ok.0)

pub returns : goal.returns
returns g c = record {
  moved = λ slop. AreMovedTo-ended g.P.DocSet g.met.P.DocSet.ascending slop c.args.self.now _ c.seek.new.self c.index_mut.result.now c.requires.valid refl refl
      refl (c.seek.ensures.entries ∙ ap (λ m. from TERMINATED (g.P.DocSet.entries m)) c.index_mut.ensures.value)
      (c.seek.ensures.limits ∙ ap g.P.DocSet.limits c.index_mut.ensures.value) c.seek.ensures.valid;
  limits = map-set_same g.P.DocSet.limits c.args.self.now.members.items 0 c.seek.new.self c.index_mut.result.now
      (some-members g.P.DocSet c.args.self.now c.requires.valid) (c.seek.ensures.limits ∙ ap g.P.DocSet.limits c.index_mut.ensures.value);
}
