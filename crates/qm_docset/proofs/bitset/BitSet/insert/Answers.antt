-- A number that is not yet there is added to its word, and counted.
use Rattle.std.proofs.Common.{◌≡◌, ◌<◌, ◌/◌, false, length, sym, ◌∙◌, inl, inr, arith}
use Rattle.std.proofs.lemmas.Bool.{cases_eq, eq-eqb, ne_eqb}
use Rattle.qm_docset.specs.BitSet.{set_has}
use Rattle.qm_docset.specs.Words.{words_have}
use Rattle.qm_docset.proofs.BitSetLemmas.{words_have-insert, insert_within}
use Rattle.qm_docset.proofs.MembersLemmas.{length-members_between, length-members_between_insert}
use Rattle.qm_docset.proofs.bitset.BitSet.insert.Goals as goal

pub index-requires : goal.index-requires
index-requires c = omega (arith, c.requires, c.args.self.now.covers)

pub index_mut-requires : goal.index_mut-requires
index_mut-requires c = omega (arith, c.requires, c.args.self.now.covers)

pub overflow_add-self : goal.overflow_add-self
overflow_add-self c =
    let set = c.args.self.now in
    omega (arith, set.counted, length-members_between (words_have set.words.items) 0 set.max_value)

pub invariant_of-self : goal.invariant_of-self
unfolding set_has
invariant_of-self c =
    let set = c.args.self.now in
    let inside : c.args.el / 64 < length set.words.items = omega (arith, c.requires, set.covers, set.words.ok.0) in
    let lacks : words_have set.words.items c.args.el ≡ false = sym c.contains.ensures.member ∙ c.if-contains.false in
    let more = words_have-insert set.words.items c.args.el c.index.result.now c.insert.result inside c.index.ensures c.insert.ensures in
    record {
      covers = set.covers;
      within = insert_within set.words.items c.args.el c.index.result.now c.insert.result
          inside c.index.ensures c.insert.ensures set.max_value c.requires set.within;
      counted = omega (
        arith,
        set.counted,
        length-members_between_insert (words_have set.words.items) _ c.args.el 0 set.max_value (omega arith) c.requires lacks more,
      );
    }

-- it is there already
pub returns-then-contains-clause-members : goal.returns-then-contains-clause-members
returns-then-contains-clause-members c x =
    let set = c.args.self.now in
    elim (cases_eq x c.args.el) [
      | inl same ↦ rw (eq-eqb x c.args.el same, same) (sym c.contains.ensures.member ∙ c.if-contains.true)
      | inr other ↦ rw (ne_eqb x c.args.el other)
    ]

pub returns-clause-members : goal.returns-clause-members
unfolding set_has
returns-clause-members c =
    let set = c.args.self.now in
    let inside : c.args.el / 64 < length set.words.items = omega (arith, c.requires, set.covers, set.words.ok.0) in
    words_have-insert set.words.items c.args.el c.index.result.now c.insert.result inside c.index.ensures c.insert.ensures
