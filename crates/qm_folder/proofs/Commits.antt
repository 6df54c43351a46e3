-- What a crash leaves while the new manifest takes its name.
use Rattle.std.proofs.Common.{◌≡◌, inl, inr, true, false, [], ◌∷◌, refl, sym, ◌∙◌, subst}
use Rattle.std.proofs.lemmas.Bool.{or_cases}
use Rattle.std.specs.Str.{bytes_eq}
use Rattle.qm_folder.specs.Names.{Name, is_among}
use Rattle.qm_folder.specs.Disk.{Disk, IsSettled, LeavesOnly}
use Rattle.qm_folder.specs.Calls.{Elapses, IsRenamed, KeepsBut, LeavesWritten, MayRename}
use Rattle.qm_folder.specs.Steps.{IsCommitted, IsLeftByCommit}
use Rattle.qm_folder.specs.declared.updating.TheConstants.{MANIFEST, STAGED}
use Rattle.qm_folder.proofs.Moments.{joined, one_call}
use Rattle.qm_folder.proofs.NameLists.{same_name}
use Rattle.qm_folder.proofs.Runs.{IsNow, call, settles}

pub renaming : (old new : Disk) → IsNow old → MayRename STAGED.now MANIFEST.now old new → Elapses old new → LeavesOnly old new (IsLeftByCommit old)
renaming old new now moves time =
    one_call old new (IsLeftByCommit old)
    (λ c left. record { others = λ n other. now c left n; manifest = inl (now c left MANIFEST.now) })
    time
    (λ c left. record { others = λ n other. moves.others.leaves n (c n) other (left n); manifest = moves.target_left (c MANIFEST.now) (left MANIFEST.now) })

pub committing : (old mid new : Disk) → IsNow old → IsNow mid → MayRename STAGED.now MANIFEST.now old mid → Elapses old mid → KeepsBut [] mid new → Elapses mid new → LeavesOnly old new (IsLeftByCommit old)
committing old mid new now later moves time quiet more =
    let first = renaming old mid now moves time in
    let second = (call [] mid new later quiet more).left in
    joined old mid new (IsLeftByCommit old) _ first second
    (λ c left. record { others = λ n other. moves.others.leaves n (c n) other (left n refl); manifest = moves.target_left (c MANIFEST.now) (left MANIFEST.now refl) })

pub committed : (old mid new : Disk) → IsSettled old → old.written STAGED.now → IsRenamed STAGED.now MANIFEST.now old mid → MayRename STAGED.now MANIFEST.now old mid → KeepsBut [] mid new → LeavesWritten mid new → IsCommitted old new
committed old mid new settled written renamed moves quiet durable = record {
  settled = settles (STAGED.now ∷ MANIFEST.now ∷ []) old mid new settled moves.others both quiet durable;
  there = quiet.seen MANIFEST.now refl ∙ renamed.there;
  away = quiet.seen STAGED.now refl ∙ renamed.away;
}
  where
    both : (n : Name) → is_among (STAGED.now ∷ MANIFEST.now ∷ []) n ≡ true → mid.written n
    both n there = elim (or_cases (bytes_eq n STAGED.now) (is_among (MANIFEST.now ∷ []) n) there) [
      | inl staged ↦ subst mid.written (sym (same_name n STAGED.now staged)) renamed.gone
      | inr other ↦ elim (or_cases (bytes_eq n MANIFEST.now) false other) [
        | inl manifest ↦ subst mid.written (sym (same_name n MANIFEST.now manifest)) (renamed.moved written)
        | inr none ↦ absurd (cc none)
      ]
    ]
