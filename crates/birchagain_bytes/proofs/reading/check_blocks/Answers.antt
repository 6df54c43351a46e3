use Rattle.std.proofs.Common.{ap, arith, inr, sym, ◌∙◌}
use Rattle.std.specs.Prelude.{Err}
use Rattle.qm_folder.specs.declared.updating.TheConstants.{MANIFEST}
use Rattle.qm_store.specs.Manifest.{ManifestFacts, told}
use Rattle.birchagain_bytes.specs.PackedFolder.{contents_in}
use Rattle.birchagain_bytes.proofs.ManifestTold.{manifest-refused, manifest-told}
use Rattle.birchagain_bytes.proofs.reading.check_blocks.Goals as goal

pub returns-in-Ok-2-clause-whole : goal.returns-in-Ok-2-clause-whole
returns-in-Ok-2-clause-whole c = λ m tells len.
    let there = contents_in c.args.files.now.files MANIFEST.now in
    let same = manifest-told m tells.fits c.in-Some.bytes.now there c.in-Some.ensures tells.spelled (told c.in-Ok.manifest) c.in-Ok.ensures in
    let own = ap (λ (n : ManifestFacts). n.block_len) same in
    absurd (omega (arith, own, len, c.if-read_manifest-eq-BLOCK_LEN.false))

pub returns-in-Err-clause-whole : goal.returns-in-Err-clause-whole
returns-in-Err-clause-whole c = λ m tells len.
    let there = contents_in c.args.files.now.files MANIFEST.now in
    c.of_reading.ensures ∙ manifest-refused m tells.fits c.in-Some.bytes.now there c.in-Some.ensures tells.spelled c.in-Err.error c.in-Err.ensures

pub returns-in-Ok-clause-others : goal.returns-in-Ok-clause-others
returns-in-Ok-clause-others c = λ m tells other.
    let there = contents_in c.args.files.now.files MANIFEST.now in
    let same = manifest-told m tells.fits c.in-Some.bytes.now there c.in-Some.ensures tells.spelled (told c.in-Ok.manifest) c.in-Ok.ensures in
    absurd (other (sym (ap (λ (n : ManifestFacts). n.block_len) same) ∙ c.if-read_manifest-eq-BLOCK_LEN.true))

pub returns-in-Err-clause-others : goal.returns-in-Err-clause-others
returns-in-Err-clause-others c = λ m tells other.
    let there = contents_in c.args.files.now.files MANIFEST.now in
    inr (ap Err (c.of_reading.ensures ∙ manifest-refused m tells.fits c.in-Some.bytes.now there c.in-Some.ensures tells.spelled c.in-Err.error c.in-Err.ensures))
