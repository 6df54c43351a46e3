use Rattle.std.proofs.Common.{◌≤◌, ◌+◌, ◌++◌, ◌∙◌, ap, arith, filter, length, nat_le, refl, take}
use Rattle.qm_script.specs.Paging.{numbers_in}
use Rattle.qm_weight.specs.Weights.{tree_of}
use Rattle.qm_script.proofs.Pages.{no-room, none-yet, nothing-more, numbers-sought}
use Rattle.qm_script.proofs.paging.Page.take_segment.Goals as goal
use Rattle.qm_script.proofs.paging.Page.take_segment.Goals.{then-next-self-via-then-next-self, then-next-self-via-else-next-self+then-self-len}

pub returns-then-next-self : goal.returns-then-next-self
returns-then-next-self c =
    let page = c.args.self.now in
    let s = c.args.segment.now.segment in
    let tree = tree_of c.args.weight.now in
    let had = page.documents.items in
    let more = filter (nat_le page.from) (numbers_in tree c.args.first s) in elim c.then-next-self.branch [
      | then-next-self-via-then-next-self w ↦
          let past : c.args.first + length s.documents ≤ page.from = omega (arith, w.if-next-self.true, c.from.ensures, c.max_doc.ensures.number) in
          record { taken = record { first = refl; limit = refl; documents = nothing-more page.limit had more c.requires.limited (none-yet tree c.args.first s page.from past) } }
      | then-next-self-via-else-next-self+then-self-len w ↦
          let full : page.limit ≤ length had = omega (arith, w.if-self-len.true, w.len.ensures) in
          record { taken = record { first = refl; limit = refl; documents = no-room page.limit had more c.requires.limited full } }
    ]

pub returns : goal.returns
returns c =
    let page = c.args.self.now in
    let s = c.args.segment.now.segment in
    let tree = tree_of c.args.weight.now in
    let taken = c.in_ok-take_from.ensures.taken in
    let listed = c.in_ok-scorer.ensures.scorer.list.documents in
    record {
      taken = record {
        first = taken.first;
        limit = taken.limit;
        documents = taken.documents ∙ ap (λ l. take page.limit (page.documents.items ++ l)) (numbers-sought tree c.args.first s page.from _ _ listed
            (λ d above. omega (arith, above, c.max.ensures)) (λ d below. omega (arith, below, c.max.ensures)));
      };
    }
