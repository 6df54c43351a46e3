use Rattle.std.proofs.Common.{ap, ◌∙◌}
use Rattle.std.specs.Prelude.{Err}
use Rattle.std.proofs.lemmas.Result.{err_from_is_err_and}
use Rattle.qm_index.specs.Saving.{manifest_with}
use Rattle.qm_postings.specs.Segment.{Segment}
use Rattle.birchagain_bytes.specs.PackedFolder.{contents_in}
use Rattle.birchagain_bytes.proofs.IndexBytes.{all-hold, folder-refusal, manifest-there, not-done, opened-same, passed-on}
use Rattle.birchagain_bytes.proofs.reading.from_bytes.Goals as goal

pub returns-in_err-check_blocks-clause-whole : goal.returns-in_err-check_blocks-clause-whole
returns-in_err-check_blocks-clause-whole c = λ saved are sorted.
    let p = err_from_is_err_and c.from_residual-in_err-check_blocks.result c.from_residual-in_err-check_blocks.ensures.1 in
    let seen = contents_in c.in_ok-files.files.files in
    let there = c.in_ok-files.ensures.files are.packed.files are.packed.fit are.packed.spelled in
    let len = ap (λ (s : Segment). s.block_len) are.none_open in
    rw (p.1, p.2) (c.in_err-check_blocks.ensures.whole (manifest_with saved are.packed.kept) (manifest-there saved seen are.packed there) len)

pub returns-in-Ok-Some-clause-documents : goal.returns-in-Ok-Some-clause-documents
returns-in-Ok-Some-clause-documents c = λ saved are.
    let seen = contents_in c.in_ok-files.files.files in
    let there = c.in_ok-files.ensures.files are.packed.files are.packed.fit are.packed.spelled in
    let opened = rw c.in-Ok-Some.field-0-is at c.in-Ok-Some.ensures.opened tt saved (all-hold saved c.args.bytes.now seen are there) in
    opened-same saved c.in-Ok-Some.index opened are.none_open

pub returns-in-Ok-Some-clause-statistics : goal.returns-in-Ok-Some-clause-statistics
returns-in-Ok-Some-clause-statistics c = λ saved are.
    let seen = contents_in c.in_ok-files.files.files in
    let there = c.in_ok-files.ensures.files are.packed.files are.packed.fit are.packed.spelled in
    let opened = rw c.in-Ok-Some.field-0-is at c.in-Ok-Some.ensures.opened tt saved (all-hold saved c.args.bytes.now seen are there) in
    opened.statistics

pub returns-in-Ok-None-clause-whole : goal.returns-in-Ok-None-clause-whole
returns-in-Ok-None-clause-whole c = λ saved are sorted.
    let seen = contents_in c.in_ok-files.files.files in
    let there = c.in_ok-files.ensures.files are.packed.files are.packed.fit are.packed.spelled in
    absurd (rw c.in-Ok-None.field-0-is at c.in-Ok-None.ensures.opened tt saved (all-hold saved c.args.bytes.now seen are there))

pub returns-clause-whole : goal.returns-clause-whole
returns-clause-whole c = λ saved are sorted.
    let seen = contents_in c.in_ok-files.files.files in
    let there = c.in_ok-files.ensures.files are.packed.files are.packed.fit are.packed.spelled in
    c.of_reading.ensures ∙ folder-refusal c.in-Err.error (c.in-Err.ensures.refused tt saved (all-hold saved c.args.bytes.now seen are there) sorted)

pub returns-in_err-check_blocks-clause-other_blocks : goal.returns-in_err-check_blocks-clause-other_blocks
returns-in_err-check_blocks-clause-other_blocks c = λ saved are.
    let p = err_from_is_err_and c.from_residual-in_err-check_blocks.result c.from_residual-in_err-check_blocks.ensures.1 in
    let seen = contents_in c.in_ok-files.files.files in
    let there = c.in_ok-files.ensures.files are.packed.files are.packed.fit are.packed.spelled in
    passed-on c.from_residual-in_err-check_blocks.result c.in_err-check_blocks.field-0.0 (p.1 ∙ ap Err p.2)
    (c.in_err-check_blocks.ensures.others (manifest_with saved are.packed.kept) (manifest-there saved seen are.packed there) are.other)

pub returns-in-Ok-Some-clause-other_blocks : goal.returns-in-Ok-Some-clause-other_blocks
returns-in-Ok-Some-clause-other_blocks c = λ saved are.
    let seen = contents_in c.in_ok-files.files.files in
    let there = c.in_ok-files.ensures.files are.packed.files are.packed.fit are.packed.spelled in
    absurd (not-done tt (c.in_ok-check_blocks.ensures.others (manifest_with saved are.packed.kept) (manifest-there saved seen are.packed there) are.other))

pub returns-in-Ok-None-clause-other_blocks : goal.returns-in-Ok-None-clause-other_blocks
returns-in-Ok-None-clause-other_blocks c = λ saved are.
    let seen = contents_in c.in_ok-files.files.files in
    let there = c.in_ok-files.ensures.files are.packed.files are.packed.fit are.packed.spelled in
    absurd (not-done tt (c.in_ok-check_blocks.ensures.others (manifest_with saved are.packed.kept) (manifest-there saved seen are.packed there) are.other))

pub returns-clause-other_blocks : goal.returns-clause-other_blocks
returns-clause-other_blocks c = λ saved are.
    let seen = contents_in c.in_ok-files.files.files in
    let there = c.in_ok-files.ensures.files are.packed.files are.packed.fit are.packed.spelled in
    absurd (not-done tt (c.in_ok-check_blocks.ensures.others (manifest_with saved are.packed.kept) (manifest-there saved seen are.packed there) are.other))
