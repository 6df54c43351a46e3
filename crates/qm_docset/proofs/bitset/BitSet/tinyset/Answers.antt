use Rattle.std.proofs.Common.{◌≤◌, length, sym, ap, ◌∙◌}
use Rattle.qm_docset.specs.declared.tiny_set.TinySet.{TinySet}
use Rattle.qm_docset.specs.TinySet.{tiny_has}
use Rattle.qm_docset.specs.BitSet.{set_has}
use Rattle.qm_docset.proofs.BitSetLemmas.{tiny_has-word, words_past}
use Rattle.qm_docset.proofs.bitset.BitSet.tinyset.Goals as goal

pub returns-in-Some : goal.returns-in-Some
unfolding set_has
returns-in-Some c x =
    let words = c.args.self.now.words.items in
    let read = rw c.deref.ensures.value at c.in-Some.ensures.lookup.3.1 (record { bits = 0 }) in
    ap (λ (word : TinySet). tiny_has word x) read ∙ tiny_has-word words c.args.bucket x

pub returns-in-None : goal.returns-in-None
unfolding set_has
returns-in-None c x =
    let words = c.args.self.now.words.items in
    let past : length words ≤ c.args.bucket = rw c.deref.ensures.value at c.in-None.ensures.lookup.3 in
    c.empty.ensures x ∙ sym (words_past words c.args.bucket x past)
