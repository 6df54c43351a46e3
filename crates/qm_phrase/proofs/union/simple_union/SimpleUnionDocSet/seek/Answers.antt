-- Each member below the target is sent there, or all are there already.
use Rattle.std.proofs.Common.{◌≡◌, map, length, arith, ap, sym, refl, ◌∙◌}
use Rattle.qm_combine.proofs.Leading.{whole}
use Rattle.qm_docset.specs.Entry.{from}
use Rattle.qm_docset.specs.EntryFacts.{from-reached}
use Rattle.qm_docset.specs.Lists.{lists, bounds}
use Rattle.qm_phrase.specs.PostingUnions.{limits_of_postings}
use Rattle.qm_phrase.specs.PostingUnionFacts.{AreEntries-united}
use Rattle.qm_phrase.proofs.UnitedLists.{head_document-united, united_entry-sought}
use Rattle.qm_phrase.proofs.union.simple_union.SimpleUnionDocSet.seek.Goals as goal

pub returns-then-target-self : goal.returns-then-target-self
returns-then-target-self g c =
    let s = c.args.self.now in
    let h = c.requires.valid in
    let ascends =
    AreEntries-united g.D.DocSet.limits g.D.DocSet.entries s.members.items (λ k d below. g.met.D.DocSet.ascending _ (h.members.valid k d below)) in
    let first = h.first ∙ head_document-united g.D.DocSet.valid g.D.DocSet.limits g.D.DocSet.entries g.met.D.DocSet.ascending s.members.items h.members.valid in
    record {
      head = first;
      entries = sym (from-reached c.args.target 0 _ _ (omega (arith, first, c.if-target-self.true)) ascends);
      limits = refl;
      kept = λ s k. tt;
      valid = h;
      placed = tt;
    }

pub returns : goal.returns
returns g c =
    let members = c.args.self.now.members in
    let step = c.seek_below-self in
    let new = step.new.members in
    let same = whole members.len new members.items (step.auto.members ∙ ap length c.deref_mut.ensures.value) members.ok.0 in
    let limits : bounds g.D.DocSet new ≡ bounds g.D.DocSet members.items = step.ensures.limits ∙ ap (bounds g.D.DocSet) c.deref_mut.ensures.value in
    let left = step.ensures.entries ∙ ap (λ xs. map (from c.args.target) (lists g.D.DocSet xs)) c.deref_mut.ensures.value in
    record {
      head = rw same
          (step.ensures.least ∙ head_document-united g.D.DocSet.valid g.D.DocSet.limits g.D.DocSet.entries g.met.D.DocSet.ascending new step.ensures.valid);
      entries = rw same (united_entry-sought g.D.DocSet.entries g.D.DocSet.limits c.args.target (lists g.D.DocSet members.items) new
          (λ k d below. g.met.D.DocSet.ascending _ (step.ensures.valid k d below)) (λ k d below. (step.ensures.reached k d below).1) left);
      limits = rw same (ap limits_of_postings limits);
      kept = λ s k. tt;
      valid = record {
        members = rw same (record { valid = step.ensures.valid; placed = λ k d below. (step.ensures.reached k d below).0 });
        first = rw same step.ensures.least;
      };
      placed = tt;
    }
