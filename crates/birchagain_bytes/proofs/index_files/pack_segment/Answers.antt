use Rattle.std.proofs.Common.{arith, refl, rules, subst, sym}
use Rattle.std.proofs.lemmas.List.{nil_from_length}
use Rattle.qm_index.specs.SavedFiles.{IsNumberedBelow}
use Rattle.qm_store.specs.declared.kept_segment.KeptSegment.{KeptSegment}
use Rattle.birchagain_bytes.specs.Bytes.{IsPacked}
use Rattle.birchagain_bytes.proofs.SegmentFiles.{packed-deleted, packed-whole}
use Rattle.birchagain_bytes.proofs.index_files.pack_segment.Goals as goal
use Rattle.birchagain_bytes.proofs.index_files.pack_segment.Goals.{then-deleted-gt0+in_ok-push_deletions, else-deleted-gt0}

pub returns-clause-packed : goal.returns-clause-packed
returns-clause-packed c =
    let known = c.args.known.now in
    let s = c.args.segment.now.segment in
    let numbers = c.args.numbers.now in
    let out = c.args.out.now.items in
    let deleted = c.deleted_count-deleted.result in
    let counted = c.deleted_count-deleted.ensures.deleted in
    let ascending = c.deleted_count-deleted.ensures.ascending in
    elim c.if-deleted-gt0.branch [
      | then-deleted-gt0+in_ok-push_deletions w ↦
          let k : KeptSegment = record { key = numbers.key; deletions = numbers.deletions; deleted = deleted } in
          let numbered : IsNumberedBelow 18446744073709551615 k = record { key = search rules; deletions = search rules } in
          let packed = packed-deleted known k s out c.push_segment.new.out.items w.push_deletions.new.out.items
          c.in_ok-push_segment.ensures.added w.in_ok-push_deletions.ensures.added counted ascending numbered in
          subst (λ d. IsPacked known (record { key = numbers.key; deletions = d; deleted = deleted }) s out c.if-deleted-gt0.out.items) (sym w.deletions-is)
          (subst (λ o. IsPacked known k s out o.items) (sym w.out-is) packed)
      | else-deleted-gt0 w ↦
          let k : KeptSegment = record { key = numbers.key; deletions = 0; deleted = deleted } in
          let numbered : IsNumberedBelow 18446744073709551615 k = record { key = search rules; deletions = omega arith } in
          let none = nil_from_length s.deleted (omega (arith, counted, w.if-deleted-gt0.false)) in
          let packed = packed-whole known k s out c.push_segment.new.out.items c.in_ok-push_segment.ensures.added none refl counted ascending numbered in
          subst (λ d. IsPacked known (record { key = numbers.key; deletions = d; deleted = deleted }) s out c.if-deleted-gt0.out.items) (sym w.deletions-is)
          (subst (λ o. IsPacked known k s out o.items) (sym w.out-is) packed)
    ]
