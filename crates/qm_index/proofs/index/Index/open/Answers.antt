-- What the manifest says is what was saved, and the segments that it names are those that the folder holds.
use Rattle.std.proofs.Common.{◌≡◌, ◌⊎◌, ℕ, ◌<◌, ◌≤◌, All, Some, inl, inr, ap, arith, length, option_map, subst, sym, take, ◌∙◌}
use Rattle.std.proofs.lemmas.List.{length-map, length-take-le}
use Rattle.std.proofs.lemmas.Result.{err_from_is_err_and}
use Rattle.std.specs.List.Sorted.{IsNonDecreasing}
use Rattle.qm_folder.specs.declared.updating.TheConstants.{MANIFEST}
use Rattle.qm_postings.specs.Reading.{Reader}
use Rattle.qm_postings.specs.Statistics.{Searched}
use Rattle.qm_store.specs.Manifest.{ManifestFacts, manifest_read, told}
use Rattle.qm_index.specs.Indexed.{Indexed, indexed}
use Rattle.qm_index.specs.SavedFiles.{IsNumberedBelow}
use Rattle.qm_index.specs.SavedIndex.{AreHeld, WereHeld}
use Rattle.qm_index.specs.declared.index.Index.{Index}
use Rattle.qm_index.proofs.LastSegments.{ended-count}
use Rattle.qm_index.proofs.OpenRefusals.{fails-memory, index-made, memory-refusal, searcher-made}
use Rattle.qm_index.proofs.OpenedFiles.{held-length, keeps-on}
use Rattle.qm_index.proofs.OpenedIndex.{facts, fields-are, held-all-seen, manifest-is, manifest-there, opened-is}
use Rattle.qm_index.proofs.SavingSteps.{held-were}
use Rattle.qm_index.proofs.index.Index.open.Goals as goal

few-enough : (n : ℕ) → n < 4294967295 → 4294967295 ≤ n → ⊥
few-enough n few many = absurd (omega (arith, few, many))

bad-block : (i : Index) (n : ℕ) → n ≡ i.block_len → (n ≡ 0) ⊎ (128 < n) → ⊥
bad-block i n is (inl none) = absurd (omega (arith, is, none, i.block.0))
bad-block i n is (inr long) = absurd (omega (arith, is, long, i.block.1))

pub invariant_of-index : goal.invariant_of-index
invariant_of-index g c =
    let i = c.in_ok-index.index in
    let s = c.in_ok-searcher.searcher in
    let manifest = c.in_ok-manifest.manifest in
    let segments = c.in_ok-segments.segments in
    let made = rw c.in_ok-searcher.ensures.made at c.from_parts.ensures.made in
    let shown = rw c.in_ok-index.ensures.made at c.of_searcher.ensures.segments in
    let front = take i.ended i.searcher.segments in
    let all = ap (λ (x : Indexed). length x.ended) shown in
    let own = ap (λ (x : Searched). length x.segments) made in
    record {
      block = i.block;
      within = i.within;
      room = i.room;
      some_built = i.some_built;
      few = i.few;
      counted = i.counted;
      ends_known = i.ends_known;
      small = i.small;
      alike = i.alike;
      some_saved = omega (
        arith,
        all,
        own,
        length-map front (λ (r : Reader). r.segment),
        length-map s.segments (λ (r : Reader). r.segment),
        length-take-le i.ended i.searcher.segments i.within,
        segments.ok.0,
        manifest.segments.ok.0,
        c.in_ok-segments.ensures.count,
        ap length c.deref-2.ensures.value,
      );
      built_parts = i.built_parts;
      parts = i.parts;
      building = i.building;
      good = i.good;
    }

pub returns-clause-opened : goal.returns-clause-opened
returns-clause-opened g c = λ is_told saved holds.
    let old = g.F.Folder.disk c.args.folder.now in
    let mid = g.F.Folder.disk c.read_file.new.folder in
    let manifest = c.in_ok-manifest.manifest in
    let ended = (indexed saved).ended in
    let there : old.seen MANIFEST.now ≡ Some c.in-Some.bytes.items =
    sym (c.in_ok-bytes.ensures.bytes is_told) ∙ ap (option_map (λ v. v.items)) c.in-Some.is in
    let same : told manifest ≡ _ = manifest-is saved old.seen holds (told manifest) c.in-Some.bytes.items c.deref.result.now there c.deref.ensures.value c.in_ok-manifest.ensures in
    let kept = c.deref-2.ensures.value ∙ ap (λ (x : ManifestFacts). x.segments) same in
    let held = subst (λ ks. AreHeld mid.seen ks ended) (sym kept) (held-all-seen holds.kept ended old mid (c.read_file.ensures.kept is_told) holds.segments) in
    let own = c.in_ok-segments.ensures.opened is_told ended
    (fields-are saved old.seen holds manifest.schema (ap (λ (x : ManifestFacts). x.schema) same)) held in
    let made = rw c.in_ok-searcher.ensures.made at c.from_parts.ensures.made in
    let shown = rw c.in_ok-index.ensures.made at c.of_searcher.ensures.segments in
    let says = rw c.in_ok-index.ensures.made at c.of_searcher.ensures.statistics in
    let is = opened-is saved old.seen holds (told manifest) same c.in_ok-index.index c.in_ok-searcher.searcher c.in_ok-segments.segments.items made own shown says in
    record { ended = is.ended; current = is.current; statistics = is.statistics }

pub returns-clause-kept : goal.returns-clause-kept
returns-clause-kept g c = λ is_told saved holds.
    let old = g.F.Folder.disk c.args.folder.now in
    let mid = g.F.Folder.disk c.read_file.new.folder in
    let new = g.F.Folder.disk c.open_segments.new.folder in
    let manifest = c.in_ok-manifest.manifest in
    let ended = (indexed saved).ended in
    let there : old.seen MANIFEST.now ≡ Some c.in-Some.bytes.items =
    sym (c.in_ok-bytes.ensures.bytes is_told) ∙ ap (option_map (λ v. v.items)) c.in-Some.is in
    let same : told manifest ≡ _ = manifest-is saved old.seen holds (told manifest) c.in-Some.bytes.items c.deref.result.now there c.deref.ensures.value c.in_ok-manifest.ensures in
    let named = ap (λ (x : ManifestFacts). x.segments) same in
    let held = subst (λ ks. AreHeld mid.seen ks ended) (sym (c.deref-2.ensures.value ∙ named))
    (held-all-seen holds.kept ended old mid (c.read_file.ensures.kept is_told) holds.segments) in
    let own = c.in_ok-segments.ensures.opened is_told ended
    (fields-are saved old.seen holds manifest.schema (ap (λ (x : ManifestFacts). x.schema) same)) held in
    let made = rw c.in_ok-searcher.ensures.made at c.from_parts.ensures.made in
    let shown = rw c.in_ok-index.ensures.made at c.of_searcher.ensures.segments in
    let says = rw c.in_ok-index.ensures.made at c.of_searcher.ensures.statistics in
    let is = opened-is saved old.seen holds (told manifest) same c.in_ok-index.index c.in_ok-searcher.searcher c.in_ok-segments.segments.items made own shown says in
    let keeps = keeps-on old mid new (c.read_file.ensures.kept is_told) (c.open_segments.ensures.kept is_told) in
    subst (WereHeld new.seen manifest.segments.items) (sym is.ended)
    (held-were new.seen manifest.segments.items ended (subst (λ ks. AreHeld new.seen ks ended) (sym named) (held-all-seen holds.kept ended old new keeps holds.segments)))

pub returns-in_err-manifest-clause-refused : goal.returns-in_err-manifest-clause-refused
returns-in_err-manifest-clause-refused g c = λ is_told saved holds sorted.
    let p = err_from_is_err_and c.from_residual-in_err-manifest.result c.from_residual-in_err-manifest.ensures.1 in
    let old = g.F.Folder.disk c.args.folder.now in
    let e = c.in_err-manifest.field-0.0 in
    let there : old.seen MANIFEST.now ≡ Some c.in-Some.bytes.items =
    sym (c.in_ok-bytes.ensures.bytes is_told) ∙ ap (option_map (λ v. v.items)) c.in-Some.is in
    let read = manifest-there saved old.seen holds c.in-Some.bytes.items c.deref.result.now there c.deref.ensures.value in
    rw (p.1, p.2) (memory-refusal e (fails-memory e (facts saved old.seen holds) (manifest_read c.deref.result.now) read c.in_err-manifest.ensures))

pub returns-in_err-segments-clause-refused : goal.returns-in_err-segments-clause-refused
returns-in_err-segments-clause-refused g c = λ is_told saved holds sorted.
    let p = err_from_is_err_and c.from_residual-in_err-segments.result c.from_residual-in_err-segments.ensures.1 in
    let old = g.F.Folder.disk c.args.folder.now in
    let mid = g.F.Folder.disk c.read_file.new.folder in
    let manifest = c.in_ok-manifest.manifest in
    let ended = (indexed saved).ended in
    let there : old.seen MANIFEST.now ≡ Some c.in-Some.bytes.items =
    sym (c.in_ok-bytes.ensures.bytes is_told) ∙ ap (option_map (λ v. v.items)) c.in-Some.is in
    let same : told manifest ≡ _ = manifest-is saved old.seen holds (told manifest) c.in-Some.bytes.items c.deref.result.now there c.deref.ensures.value c.in_ok-manifest.ensures in
    let kept = c.deref-2.ensures.value ∙ ap (λ (x : ManifestFacts). x.segments) same in
    let held = subst (λ ks. AreHeld mid.seen ks ended) (sym kept) (held-all-seen holds.kept ended old mid (c.read_file.ensures.kept is_told) holds.segments) in
    rw (p.1, p.2) (c.in_err-segments.ensures.refused is_told ended
    (fields-are saved old.seen holds manifest.schema (ap (λ (x : ManifestFacts). x.schema) same)) held)

pub returns-in_err-next-clause-refused : goal.returns-in_err-next-clause-refused
returns-in_err-next-clause-refused g c = λ is_told saved holds sorted.
    let old = g.F.Folder.disk c.args.folder.now in
    let manifest = c.in_ok-manifest.manifest in
    let there : old.seen MANIFEST.now ≡ Some c.in-Some.bytes.items =
    sym (c.in_ok-bytes.ensures.bytes is_told) ∙ ap (option_map (λ v. v.items)) c.in-Some.is in
    let same : told manifest ≡ _ = manifest-is saved old.seen holds (told manifest) c.in-Some.bytes.items c.deref.result.now there c.deref.ensures.value c.in_ok-manifest.ensures in
    let kept = c.deref-3.ensures.value ∙ ap (λ (x : ManifestFacts). x.segments) same in
    let no = c.in_err-next.ensures.there (subst (All (IsNumberedBelow 18446744073709551615)) (sym kept) holds.numbered) in
    absurd (cc)

pub returns-in_err-searcher-clause-refused : goal.returns-in_err-searcher-clause-refused
returns-in_err-searcher-clause-refused g c = λ is_told saved holds sorted.
    let p = err_from_is_err_and c.from_residual-in_err-searcher.result c.from_residual-in_err-searcher.ensures.1 in
    let old = g.F.Folder.disk c.args.folder.now in
    let manifest = c.in_ok-manifest.manifest in
    let there : old.seen MANIFEST.now ≡ Some c.in-Some.bytes.items =
    sym (c.in_ok-bytes.ensures.bytes is_told) ∙ ap (option_map (λ v. v.items)) c.in-Some.is in
    let same : told manifest ≡ _ = manifest-is saved old.seen holds (told manifest) c.in-Some.bytes.items c.deref.result.now there c.deref.ensures.value c.in_ok-manifest.ensures in
    let kept = c.deref-2.ensures.value ∙ ap (λ (x : ManifestFacts). x.segments) same in
    let few : length c.in_ok-segments.segments.items < 4294967295 = omega (
      arith,
      saved.room,
      ended-count saved,
      held-length old.seen holds.kept (indexed saved).ended holds.segments,
      ap length kept,
      c.in_ok-segments.ensures.count,
      c.in_ok-segments.segments.ok.0,
    ) in
    let made = searcher-made c.from_parts.result
    (λ bad. c.from_parts.ensures.bad_norms.0 bad (subst IsNonDecreasing (sym (ap (λ (x : ManifestFacts). x.norms) same)) sorted))
    (λ many. few-enough (length c.in_ok-segments.segments.items) few (omega (arith, (c.from_parts.ensures.many.0 many).1)))
    c.from_parts.ensures.refused in
    rw (p.1, p.2) (memory-refusal c.in_err-searcher.field-0.0 (c.in_err-searcher.ensures.memory made))

pub returns-in_err-index-clause-refused : goal.returns-in_err-index-clause-refused
returns-in_err-index-clause-refused g c = λ is_told saved holds sorted.
    let p = err_from_is_err_and c.from_residual-in_err-index.result c.from_residual-in_err-index.ensures.1 in
    let old = g.F.Folder.disk c.args.folder.now in
    let manifest = c.in_ok-manifest.manifest in
    let there : old.seen MANIFEST.now ≡ Some c.in-Some.bytes.items =
    sym (c.in_ok-bytes.ensures.bytes is_told) ∙ ap (option_map (λ v. v.items)) c.in-Some.is in
    let same : told manifest ≡ _ = manifest-is saved old.seen holds (told manifest) c.in-Some.bytes.items c.deref.result.now there c.deref.ensures.value c.in_ok-manifest.ensures in
    let kept = c.deref-2.ensures.value ∙ ap (λ (x : ManifestFacts). x.segments) same in
    let block = ap (λ (x : ManifestFacts). x.block_len) same in
    let searcher = rw c.in_ok-searcher.ensures.made at c.from_parts.ensures.made in
    let few : length c.in_ok-searcher.searcher.segments < 4294967295 = omega (
      arith,
      saved.room,
      ended-count saved,
      held-length old.seen holds.kept (indexed saved).ended holds.segments,
      ap length kept,
      c.in_ok-segments.ensures.count,
      c.in_ok-segments.segments.ok.0,
      ap (λ (x : Searched). length x.segments) searcher,
    ) in
    let made = index-made c.of_searcher.result
    (λ bad. bad-block saved manifest.block_len block (c.of_searcher.ensures.block_len.0 bad))
    (λ many. few-enough (length c.in_ok-searcher.searcher.segments) few (c.of_searcher.ensures.many.0 many).full)
    c.of_searcher.ensures.refused in
    rw (p.1, p.2) (memory-refusal c.in_err-index.field-0.0 (c.in_err-index.ensures.memory made))
