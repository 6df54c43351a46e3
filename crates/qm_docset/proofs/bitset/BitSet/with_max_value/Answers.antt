use Rattle.std.proofs.Common.{◌≡◌, ℕ, false, length, arith, ap, sym, ◌∙◌, true≢false}
use Rattle.qm_docset.specs.Words.{words_have}
use Rattle.qm_docset.specs.BitSet.{set_has}
use Rattle.qm_docset.proofs.BitSetLemmas.{words_have-replicate}
use Rattle.qm_docset.proofs.MembersLemmas.{members_between-none}
use Rattle.qm_docset.proofs.bitset.BitSet.with_max_value.Goals as goal
use Rattle.qm_docset.proofs.bitset.BitSet.with_max_value.Goals.{In_ok-words}

no_members : (c : In_ok-words) (x : ℕ) → words_have c.in_ok-words.words.items x ≡ false
no_members c x =
    rw (c.in_ok-words.ensures.items_if_clones_equal (λ word same. same)) (words_have-replicate c.div_ceil.result c.empty.result c.empty.ensures x)

pub invariant_of-result : goal.invariant_of-result
invariant_of-result c = record {
  covers = omega (arith, c.in_ok-words.ensures.len, c.div_ceil.ensures);
  within = λ x member. absurd (true≢false (sym member ∙ no_members c x));
  counted = sym (ap length (members_between-none (words_have c.in_ok-words.words.items) 0 c.args.max_value (λ x above below. no_members c x)));
}

pub returns-clause-members : goal.returns-clause-members
unfolding set_has
returns-clause-members c = no_members (goal.at.returns-clause-members c).In_ok-words
