use Rattle.std.proofs.Common.{◌≡◌, ap, sym, ◌∙◌}
use Rattle.qm_postings.specs.Segment.{Segment}
use Rattle.qm_store.specs.Stored.{stored}
use Rattle.std.proofs.lemmas.Option.{same_Some}
use Rattle.qm_index.proofs.stored_files.open_whole.Goals as goal

pub returns-clause-opened : goal.returns-clause-opened
returns-clause-opened g c = λ told s fields file.
    let seen = (g.F.Folder.disk c.args.folder.now).seen in
    let own : file.reader.segment.schema ≡ c.args.schema.now = ap (λ (x : Segment). x.schema) file.of ∙ fields in
    let same : c.in_ok-bytes.bytes.items ≡ stored c.args.key file.reader =
    same_Some c.in_ok-bytes.bytes.items (stored c.args.key file.reader)
    (sym (c.in_ok-bytes.ensures.bytes told) ∙ ap seen (c.as_str.ensures.value ∙ c.in_ok-name.ensures) ∙ file.bytes) in
    c.in_ok-segment.ensures.whole file.reader file.storable own same ∙ file.of
