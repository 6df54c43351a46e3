use Rattle.std.proofs.Common.{rules, ◌≡◌, ◌∙◌, Option, Some, Result, Ok, Err, OnOk, subst, sym}
use Rattle.qm_index.specs.declared.index.Index.{Index}
use Rattle.birchagain_bytes.specs.Statuses.{status_of}
use Rattle.birchagain_bytes.specs.declared.refusal.BytesRefusal.{BytesRefusal}
use Rattle.birchagain_bytes.specs.declared.refusal.BytesRefusal.TheVariants.{Damaged, Memory, NoNumber, NoRoom, OpenSegment, OtherBlocks, OtherFile, OtherVersion}
use Rattle.birchagain_c.specs.Bytes.{IsWritten, status_after}
use Rattle.birchagain_c.specs.Held.{Holds}
use Rattle.birchagain_c.proofs.bytes.birchagain_to_bytes.Goals as goal

-- no refusal has the status of a call that is done
not_done : (refusal : BytesRefusal) → status_of refusal ≡ 0 → ⊥
not_done Memory is = cc
not_done OtherFile is = cc
not_done OtherVersion is = cc
not_done Damaged is = cc
not_done OtherBlocks is = cc
not_done OpenSegment is = cc
not_done NoNumber is = cc
not_done NoRoom is = cc

done_said : {X : Type 0} (P : Type 0) (done : Result X BytesRefusal) → status_after done ≡ 0 → OnOk done P → P
done_said P (Ok x) is said = said
done_said P (Err refusal) is said = absurd (not_done refusal is)

pub returns-in-Some-clause-written : goal.returns-in-Some-clause-written
returns-in-Some-clause-written c =
    let is_written : Index → Type 0 = IsWritten c.args.known.now c.args.out.now c.write_bytes-done.new.out c.write_bytes-done.new.size in
    let held : c.args.index.now.held ≡ Some c.in-Some.held.value = search rules in
    λ zero. subst (Holds is_written) (sym held) (subst is_written c.deref_mut.ensures.value
    (λ blocks. done_said _ c.write_bytes-done.result (sym c.status_after.ensures ∙ zero) (c.write_bytes-done.ensures.bytes blocks)))
