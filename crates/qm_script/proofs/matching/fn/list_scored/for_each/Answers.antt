use Rattle.std.proofs.Common.{◌+◌, ◌∷◌, [], Some, subst, w64}
use mir.ValLaws.{to_z-of_z}
use Rattle.qm_script.specs.Written.{ListsMore}
use Rattle.qm_script.proofs.matching.fn.list_scored.for_each.Goals as goal

pub returns : goal.returns
returns c = record {
  first = c.add_score.ensures.first;
  listed = subst (λ z. ListsMore ((c.captures.listing.now.first + c.args.document, Some z) ∷ []) c.captures.listing.now c.add_score.new.self)
      (to_z-of_z w64 c.args.score c.ranges.score) c.add_score.ensures.listed;
}
