use Rattle.std.proofs.Common.{◌≡◌, ℕ, List, ap, arith, is_some, subst, sym, ◌∙◌}
use Rattle.std.specs.Prelude.{IsUtf8}
use Rattle.std.specs.String.{string_bytes}
use Rattle.birchagain_bytes.specs.Packed.{files_bytes, head_at}
use Rattle.birchagain_bytes.specs.PackedFolder.{contents_in}
use Rattle.birchagain_bytes.proofs.FilesRead.{head-read}
use Rattle.birchagain_bytes.proofs.OnlyFiles.{more-read, none-read, only-files, same-left}
use Rattle.birchagain_bytes.proofs.Taken.{AreTaken, all-distinct, all-there, next-file, next-is-new, none-seen, none-taken, same-bytes, same-name, same-rest, seen-there, taken-more}
use Rattle.birchagain_bytes.proofs.packed_files.PackedFiles.read.Goals as goal

pub returns-in_default-clause-whole : goal.returns-in_default-clause-whole
returns-in_default-clause-whole c = λ fs fit is distinct.
    let m = c.loop-rest.files in
    let rest = c.loop-rest.rest.now in
    let are = c.loop-rest.invariant.taken fs fit is in
    let next = next-file m rest fs are fit (sym c.is_empty.ensures ∙ c.loop-rest-test.true) in
    absurd (cc (c.in_default.ensures.read, next.read))

pub returns-in_default-from_utf8-clause-whole : goal.returns-in_default-from_utf8-clause-whole
returns-in_default-from_utf8-clause-whole c = λ fs fit is distinct.
    let m = c.loop-rest.files in
    let rest = c.loop-rest.rest.now in
    let are = c.loop-rest.invariant.taken fs fit is in
    let next = next-file m rest fs are fit (sym c.is_empty.ensures ∙ c.loop-rest-test.true) in
    let name = same-name _ _ _ _ _ _ (c.in-Some.ensures.read ∙ next.read) in
    absurd (c.in_default-from_utf8.ensures.cases.0 (subst IsUtf8 (sym name) next.fits.text))

pub returns-then-is_some-clause-whole : goal.returns-then-is_some-clause-whole
returns-then-is_some-clause-whole c = λ fs fit is distinct.
    let m = c.loop-rest.files in
    let rest = c.loop-rest.rest.now in
    let are = c.loop-rest.invariant.taken fs fit is in
    let next = next-file m rest fs are fit (sym c.is_empty.ensures ∙ c.loop-rest-test.true) in
    let key = c.in_ok-name.name in
    let name : string_bytes key ≡ next.file.name =
    c.in_ok-name.ensures.ok ∙ c.in-Ok.ensures.cases.0 ∙ same-name _ _ _ _ _ _ (c.in-Some.ensures.read ∙ next.read) in
    let there = seen-there m (string_bytes key) (ap is_some (sym c.in_ok-insert.ensures.old) ∙ sym c.is_some.ensures ∙ c.if-is_some.true) in
    absurd (next-is-new m rest fs next.file next.others are next.left distinct (ap (λ n. is_some (contents_in m n)) (sym name) ∙ there))

pub loop-rest-init : goal.loop-rest-init
loop-rest-init c = record {
  taken = λ fs fit is.
      let rest = c.in_ok-rest.rest.now in
      let same = same-left (files_bytes fs) rest (sym (head-read (files_bytes fs)) ∙ ap head_at (sym is) ∙ sym c.in_ok-rest.ensures) in
      subst (λ (r : List ℕ). AreTaken c.new-files.result r fs) same (none-taken c.new-files.result fs c.new-files.ensures.empty);
  read = none-read c.args.bytes.now c.in_ok-rest.rest.now (λ i. omega (arith, c.type_inv.bytes i)) (sym c.in_ok-rest.ensures);
}

pub loop-rest-preserved : goal.loop-rest-preserved
loop-rest-preserved c = record {
  taken = λ fs fit is.
      let m = c.loop-rest.files in
      let rest = c.loop-rest.rest.now in
      let are = c.loop-rest.invariant.taken fs fit is in
      let next = next-file m rest fs are fit (sym c.is_empty.ensures ∙ c.loop-rest-test.true) in
      let key = c.in_ok-name.name in
      let same = c.in-Some.ensures.read ∙ next.read in
      let name : string_bytes key ≡ next.file.name = c.in_ok-name.ensures.ok ∙ c.in-Ok.ensures.cases.0 ∙ same-name _ _ _ _ _ _ same in
      let fresh = none-seen m (string_bytes key) (ap is_some (sym c.in_ok-insert.ensures.old) ∙ sym c.is_some.ensures ∙ c.if-is_some.false) in
      taken-more key c.in-Some.file m c.insert.new.self c.in_ok-insert.ensures.updates rest c.in-Some.behind.now fs next.file next.others are next.left
      (same-rest _ _ _ _ _ _ same) name (same-bytes _ _ _ _ _ _ same) fresh;
  read = more-read c.args.bytes.now c.loop-rest.rest.now c.in-Some.name.now c.in-Some.file.now c.in-Some.behind.now c.loop-rest.invariant.read
      c.in-Ok.ensures.cases.1 c.in-Some.ensures.fit.0 c.in-Some.ensures.fit.1 (sym c.in-Some.ensures.read);
}

pub returns-clause-files : goal.returns-clause-files
returns-clause-files c = λ fs fit is.
    all-there c.loop-rest.files c.loop-rest.rest.now fs (c.loop-rest.invariant.taken fs fit is) (sym c.is_empty.ensures ∙ c.loop-rest-test.false)

pub returns-clause-distinct : goal.returns-clause-distinct
returns-clause-distinct c = λ fs fit is.
    all-distinct c.loop-rest.files c.loop-rest.rest.now fs (c.loop-rest.invariant.taken fs fit is) (sym c.is_empty.ensures ∙ c.loop-rest-test.false)

pub returns-clause-only : goal.returns-clause-only
returns-clause-only c =
    only-files c.loop-rest.files c.args.bytes.now c.loop-rest.rest.now c.loop-rest.invariant.read c.loop-rest.invariant.taken (sym c.is_empty.ensures ∙ c.loop-rest-test.false)
