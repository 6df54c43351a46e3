-- The members stand, and their documents are kept.
use Rattle.std.proofs.Common.{◌≤◌, map, sym, subst, ◌∙◌}
use Rattle.qm_docset.specs.EntryFacts.{from-zero}
use Rattle.qm_scorer.specs.Bare.{IsBounded}
use Rattle.qm_scorer.specs.BareFacts.{IsBounded-sought}
use Rattle.qm_scorer.specs.Group.{group_entries}
use Rattle.qm_scorer.specs.Tree.{AreMemberHeads, tree_entries}
use Rattle.qm_scorer.specs.declared.group_node.Shape.{Shape}
use Rattle.qm_scorer.proofs.group_builders.first_match.Goals as goal

pub next_match-requires-clause-members : goal.next_match-requires-clause-members
next_match-requires-clause-members g c = record {
  valid = c.requires.placed.valid;
  placed = c.requires.placed.placed;
  heads = subst (λ ms. AreMemberHeads c.in_ok-heads.heads (map (tree_entries g.S.DocSet) ms)) c.deref.ensures.value c.in_ok-heads.ensures;
}

pub returns : goal.returns
returns g c =
    let D = g.S.DocSet in
    let made = c.next_match.ensures in
    let new = c.next_match.new.node in
    record {
      valid = record {
        members = record { valid = made.members.valid; placed = made.members.placed; heads = made.members.heads };
        own = record {
          bounded = subst (λ (s : Shape). IsBounded s.top (group_entries D new)) (sym made.shape)
              (IsBounded-sought c.args.shape.top 0 _ (group_entries D new) made.entries c.requires.bounded);
          some = subst (λ (s : Shape). 1 ≤ s.minimum) (sym made.shape) c.requires.some;
          first = made.head;
          least = made.least;
          room = made.room;
        };
      };
      entries = made.entries ∙ from-zero _;
      kept = made.shape;
    }
