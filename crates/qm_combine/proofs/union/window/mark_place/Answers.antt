-- A place is a bit in its word.
use Rattle.std.proofs.Common.{◌<◌, ◌/◌, get_or, length, not, ap, arith, ◌∙◌}
use Rattle.qm_docset.specs.declared.tiny_set.TinySet.{TinySet}
use Rattle.qm_docset.proofs.BitSetLemmas.{words_have-insert}
use Rattle.qm_combine.proofs.WindowWords.{get_or-there, words_have-was}
use Rattle.qm_combine.proofs.union.window.mark_place.Goals as goal

pub returns-clause-new : goal.returns-clause-new
returns-clause-new c =
    let words = c.args.buckets.now in
    let i = c.args.place / 64 in
    let was : TinySet = get_or words i (record { bits = 0 }) in
    let inside : i < length words = omega (arith, c.requires.place, c.requires.buckets) in
    c.insert_mut.ensures.new ∙ ap not (words_have-was words c.args.place was inside (get_or-there words i (record { bits = 0 }) was inside))

pub returns-clause-documents : goal.returns-clause-documents
returns-clause-documents c =
    let words = c.args.buckets.now in
    let i = c.args.place / 64 in
    let was : TinySet = get_or words i (record { bits = 0 }) in
    let inside : i < length words = omega (arith, c.requires.place, c.requires.buckets) in
    words_have-insert words c.args.place was c.insert_mut.new.self inside (get_or-there words i (record { bits = 0 }) was inside)
    c.insert_mut.ensures.members
