use Rattle.std.proofs.Common.{subst}
use Rattle.qm_index.specs.Parts.{segments_of}
use Rattle.birchagain_bytes.specs.Bytes.{IsManifestAdded}
use Rattle.birchagain_bytes.proofs.SegmentFiles.{index-left-out, index-packed}
use Rattle.birchagain_bytes.proofs.index_files.pack_index.Goals as goal

pub returns-clause-packed : goal.returns-clause-packed
returns-clause-packed c = λ len.
    let i = c.args.index.now in
    let mid = c.pack_segments.new.out.items in
    let out = c.push_manifest.new.out.items in
    let last = subst (λ ks. IsManifestAdded i ks mid out) c.deref.ensures.value (c.in_ok-push_manifest.ensures.added len) in
    index-packed c.args.known.now i c.in_ok-kept.kept.items (segments_of c.ended_segments.result.now) c.in_ok-out.out.items mid out c.in_ok-out.ensures
    c.in_ok-kept.ensures.packed c.ended_segments.ensures.segments last

pub returns-clause-left_out : goal.returns-clause-left_out
returns-clause-left_out c = λ len rising.
    let i = c.args.index.now in
    let mid = c.pack_segments.new.out.items in
    let out = c.push_manifest.new.out.items in
    let last = subst (λ ks. IsManifestAdded i ks mid out) c.deref.ensures.value (c.in_ok-push_manifest.ensures.added len) in
    index-left-out c.args.known.now i c.in_ok-kept.kept.items (segments_of c.ended_segments.result.now) c.in_ok-out.out.items mid out c.in_ok-out.ensures
    c.in_ok-kept.ensures.packed last rising
