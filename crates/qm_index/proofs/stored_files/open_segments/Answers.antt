use Rattle.std.proofs.Common.{◌≡◌, ◌+◌, ◌<◌, ◌++◌, ◌∷◌, [], IsOk, ap, arith, get_or, length, rules, subst, sym, take, vec_len, ◌∙◌}
use Rattle.std.proofs.lemmas.List.{map-append, take_all, take_more}
use Rattle.std.proofs.lemmas.List.Elements.{All-get_or, All-push}
use Rattle.std.proofs.lemmas.Result.{err_from_is_err_and}
use Rattle.qm_postings.specs.Reading.{Reader}
use Rattle.qm_postings.specs.Segment.{Segment, empty_segment}
use Rattle.qm_store.specs.declared.kept_segment.KeptSegment.{KeptSegment}
use Rattle.qm_index.specs.Numbers.{AreOf}
use Rattle.qm_index.specs.Parts.{segments_of}
use Rattle.qm_index.specs.SavedIndex.{IsHeld}
use Rattle.qm_index.proofs.OpenedFiles.{held-at, held-length, held-seen, keeps-on}
use Rattle.qm_index.proofs.stored_files.open_segments.Goals as goal

pub loop-place-preserved : goal.loop-place-preserved
loop-place-preserved g c =
    let ks = c.args.kept.now in
    let place = c.loop-place.place in
    let segments = c.loop-place.segments.items in
    let segment = c.in_ok-segment.segment in
    let none : KeptSegment = record { key = 0; deletions = 0; deleted = 0 } in
    let k = get_or ks place none in
    let old = g.F.Folder.disk c.args.folder.now in
    let mid = g.F.Folder.disk c.loop-place.folder in
    let inside : place < length ks = search rules in
    let ok : IsOk c.push.result = search rules in
    let pushed : c.push.new.self.items ≡ segments ++ segment ∷ [] = rw ok at c.push.ensures.items in
    let longer : vec_len c.push.new.self ≡ vec_len c.loop-place.segments + 1 = rw ok at c.push.ensures.len in
    record {
      opened = λ told ss fields held.
          let s = get_or ss place segment.segment in
          let few : place < length ss = omega (arith, inside, held-length old.seen ks ss held) in
          let own : IsHeld mid.seen k s = held-seen k s old mid (c.loop-place.invariant.kept told)
          (held-at old.seen ks ss place none segment.segment held inside) in
          let is : segment.segment ≡ s = c.in_ok-segment.ensures.opened told s (All-get_or (λ (x : Segment). x.schema ≡ c.args.schema.now) ss place segment.segment few fields) own in
          ap segments_of pushed ∙ map-append (λ (r : Reader). r.segment) segments (segment ∷ [])
          ∙ ap (λ l. l ++ segment.segment ∷ []) (c.loop-place.invariant.opened told ss fields held)
          ∙ ap (λ x. take place ss ++ x ∷ []) is ∙ sym (take_more ss place segment.segment few);
      alike = subst (AreOf c.args.schema.now) (sym pushed)
          (All-push (λ (r : Reader). r.segment.schema ≡ c.args.schema.now) segments segment c.loop-place.invariant.alike c.in_ok-segment.ensures.schema);
      count = omega (arith, longer, c.loop-place.invariant.count);
      kept = λ told. keeps-on old mid (g.F.Folder.disk c.open_segment.new.folder) (c.loop-place.invariant.kept told) (c.open_segment.ensures.kept told);
    }

pub returns-clause-opened : goal.returns-clause-opened
returns-clause-opened g c = λ told ss fields held.
    let ks = c.args.kept.now in
    let end : length ks ≡ c.loop-place.place = search rules in
    c.loop-place.invariant.opened told ss fields held
    ∙ take_all c.loop-place.place ss (omega (arith, end, held-length (g.F.Folder.disk c.args.folder.now).seen ks ss held))

pub returns-in_err-segment-clause-refused : goal.returns-in_err-segment-clause-refused
returns-in_err-segment-clause-refused g c = λ told ss fields held.
    let p = err_from_is_err_and c.from_residual.result c.from_residual.ensures.1 in
    let ks = c.args.kept.now in
    let place = c.loop-place.place in
    let none : KeptSegment = record { key = 0; deletions = 0; deleted = 0 } in
    let empty : Segment = empty_segment c.args.schema.now 0 in
    let k = get_or ks place none in
    let s = get_or ss place empty in
    let old = g.F.Folder.disk c.args.folder.now in
    let mid = g.F.Folder.disk c.loop-place.folder in
    let inside : place < length ks = search rules in
    let few : place < length ss = omega (arith, inside, held-length old.seen ks ss held) in
    let own : IsHeld mid.seen k s = held-seen k s old mid (c.loop-place.invariant.kept told) (held-at old.seen ks ss place none empty held inside) in
    rw (p.1, p.2) (c.in_err-segment.ensures.refused told s (All-get_or (λ (x : Segment). x.schema ≡ c.args.schema.now) ss place empty few fields) own)
