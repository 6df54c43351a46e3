-- The members go to the set's first document.
use Rattle.std.proofs.Common.{◌≡◌, map, length, arith, ap, ◌∙◌}
use Rattle.qm_combine.proofs.Leading.{whole}
use Rattle.qm_docset.specs.BitSetDocSet.{remaining_members}
use Rattle.qm_docset.specs.BitSetDocSetFacts.{AreEntries-remaining}
use Rattle.qm_docset.specs.Entry.{from, no_limits}
use Rattle.qm_docset.specs.Lists.{lists, bounds}
use Rattle.qm_phrase.specs.PostingUnions.{limits_of_postings}
use Rattle.qm_phrase.proofs.UnitedOver.{over-moved}
use Rattle.qm_phrase.proofs.union.bitset_union.BitSetPostingUnion.build.Goals as goal

pub returns : goal.returns
returns g c =
    let members = c.args.docsets in
    let step = c.seek_below in
    let new = step.new.members in
    let set = remaining_members c.args.bitset in
    let old = lists g.D.DocSet members.items in
    let same = whole members.len new members.items (step.auto.members ∙ ap length c.deref_mut.ensures.value) members.ok.0 in
    let left = step.ensures.entries ∙ ap (λ xs. map (from c.doc.result) (lists g.D.DocSet xs)) c.deref_mut.ensures.value in
    let limits : bounds g.D.DocSet new ≡ bounds g.D.DocSet members.items = step.ensures.limits ∙ ap (bounds g.D.DocSet) c.deref_mut.ensures.value in
    record {
      lists = record {
        entries =
            rw same (over-moved no_limits set old (lists g.D.DocSet new) (AreEntries-remaining c.args.bitset c.requires.set.valid) (rw c.doc.ensures at left));
        limits = rw same (ap limits_of_postings limits);
        valid = record {
          set = c.requires.set.valid;
          on_member = c.requires.set.placed;
          members = rw same (record { valid = step.ensures.valid; placed = λ k d below. (step.ensures.reached k d below).0 });
          aligned = rw same (λ k d below. (let h = (step.ensures.reached k d below).1 in omega (arith, h, c.doc.ensures)));
        };
        placed = tt;
      };
    }
