use Rattle.std.proofs.Common.{◌≡◌, ap, subst, sym, ◌∙◌, []}
use Rattle.qm_index.specs.Saving.{manifest_with}
use Rattle.qm_store.specs.Manifest.{IsManifest, facts_of, manifest_spelled}
use Rattle.birchagain_bytes.proofs.IndexBytes.{same-facts}
use Rattle.birchagain_bytes.proofs.SegmentFiles.{manifest-added}
use Rattle.birchagain_bytes.proofs.index_files.push_manifest.Goals as goal

pub returns-in_ok-push_file-in-Ok-clause-added : goal.returns-in_ok-push_file-in-Ok-clause-added
returns-in_ok-push_file-in-Ok-clause-added c = λ len.
    let i = c.args.index.now in
    let kept = c.args.kept.now in
    let s = c.searcher.result.now in
    let pushed = c.in_ok-push_file-in-Ok.ensures in
    let facts : facts_of s 128 kept [] ≡ manifest_with i kept =
    same-facts s i.searcher 128 kept c.searcher.ensures.statistics ∙ ap (λ n. facts_of i.searcher n kept []) (sym len) in
    manifest-added i kept c.deref.result.now c.args.out.now.items c.push_file.new.out.items
    (record { added = pushed.added; name_length = pushed.name_length; length = pushed.length; text = pushed.text })
    (c.deref.ensures.value ∙ c.in-Ok.ensures.spelled ∙ ap manifest_spelled facts) (subst IsManifest facts c.in-Ok.ensures.whole)
