use Rattle.std.proofs.Common.{◌≡◌, ◌++◌, List, ℕ, length, subst}
use Rattle.std.specs.Int.{w64, to_le_bytes}
use Rattle.birchagain_bytes.specs.Packed.{named_bytes}
use Rattle.birchagain_bytes.proofs.FilesRead.{all-pushed}
use Rattle.birchagain_bytes.proofs.packing.push_file.Goals as goal

pub returns-clause-added : goal.returns-clause-added
unfolding named_bytes
returns-clause-added c =
    let out = c.args.out.now.items in
    let bytes = c.args.bytes.now in
    let name = c.as_bytes-name.result.now in
    let d = c.extend_from_slice-2.new.self.items in
    subst (λ (n : List ℕ). d ≡ out ++ (to_le_bytes w64 (length n) ++ (to_le_bytes w64 (length bytes) ++ (n ++ bytes)))) c.as_bytes-name.ensures.value
    (all-pushed out c.push_word.new.out.items c.push_word-2.new.out.items c.extend_from_slice.new.self.items d
    (to_le_bytes w64 (length name)) (to_le_bytes w64 (length bytes)) name bytes
    c.in_ok-push_word.ensures.added c.in_ok-push_word-2.ensures.added c.in_ok-extend_from_slice.ensures.items c.in_ok-extend_from_slice-2.ensures.items)
