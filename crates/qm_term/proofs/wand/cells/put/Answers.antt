-- A place is a bit in its word.
use Rattle.std.proofs.Common.{◌<◌, ◌/◌, arith, get_or, length}
use Rattle.qm_docset.specs.declared.tiny_set.TinySet.{TinySet}
use Rattle.qm_docset.proofs.BitSetLemmas.{words_have-insert}
use Rattle.qm_combine.proofs.WindowWords.{get_or-there}
use Rattle.qm_term.proofs.wand.cells.put.Goals as goal

pub returns-clause-words : goal.returns-clause-words
returns-clause-words g c =
    let words = c.args.words.now in
    let i = c.args.place / 64 in
    let was : TinySet = get_or words i (record { bits = 0 }) in
    let inside : i < length words = omega (arith, c.requires.words) in
    words_have-insert words c.args.place was c.insert_mut.new.self inside (get_or-there words i (record { bits = 0 }) was inside)
    c.insert_mut.ensures.members
