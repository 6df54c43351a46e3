use Rattle.std.proofs.Common.{◌≡◌, ℕ, ◌+◌, ◌*◌, ◌/◌, ◌%◌, ◌&&◌, nat_lt, nat_le, ap₂, ◌∙◌}
use Rattle.qm_docset.specs.BitSet.{set_has}
use Rattle.qm_docset.specs.TinySet.{tiny_has}
use Rattle.qm_docset.proofs.BitSetLemmas.{word_members_from}
use Rattle.qm_docset.proofs.bitset_docset.word_from.Goals as goal
use Rattle.qm_docset.proofs.bitset_docset.word_from.Goals.{After-intersect}

both : (c : After-intersect) (x : ℕ) →
    tiny_has c.intersect.result x ≡ ((nat_lt x 64 && set_has c.args.docs.now (64 * (c.args.doc / 64) + x)) && (nat_le (c.args.doc % 64) x && nat_lt x 64))
both c x = c.intersect.ensures x ∙ ap₂ (λ a b. a && b) (c.tinyset.ensures x) (c.range_greater_or_equal.ensures x)

pub returns-clause-has : goal.returns-clause-has
returns-clause-has c = both c

pub returns-clause-members : goal.returns-clause-members
returns-clause-members c = word_members_from (set_has c.args.docs.now) c.intersect.result c.args.doc (both c)
