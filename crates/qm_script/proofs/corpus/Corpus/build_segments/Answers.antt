-- The parts stand behind the segments that were ended.
use Rattle.std.proofs.Common.{◌≡◌, ◌≤◌, ◌-◌, List, ap, arith, drop, inl, inr, length, sym, take, ◌∙◌}
use Rattle.std.proofs.lemmas.List.{length-append, length-drop, length-map, length-take}
use Rattle.qm_postings.specs.Reading.{Reader}
use Rattle.qm_index.specs.Indexed.{indexed}
use Rattle.qm_index.specs.Parts.{segments_of}
use Rattle.qm_script.specs.Prefixes.{has_failing}
use Rattle.qm_script.specs.Reached.{is_reached}
use Rattle.qm_script.specs.Spelled.{query_of}
use Rattle.qm_script.proofs.PrunedParts.{rest-taken}
use Rattle.qm_script.proofs.corpus.Corpus.build_segments.Goals as goal
use Rattle.qm_script.proofs.corpus.Corpus.build_segments.Goals.{then-parts-lt2-via-else-parts-lt2+then-not-has_cut, then-parts-lt2-via-then-parts-lt2}

pub slice_bounds-parts-count : goal.slice_bounds-parts-count
slice_bounds-parts-count c =
    let are = c.searcher-searcher.ensures.searched in
    let s = indexed c.refresh.new.self in
    omega (
      arith,
      c.ended-ended.ensures,
      ap length c.segment_readers.ensures.segments,
      ap length are.all,
      length-map c.searcher-searcher.result.now.segments (λ (r : Reader). r.segment),
      length-append s.ended are.parts,
    )

pub slice_bounds-parts-start : goal.slice_bounds-parts-start
slice_bounds-parts-start c =
    let are = c.searcher-searcher.ensures.searched in
    let s = indexed c.refresh.new.self in
    let within : c.ended-ended.result ≤ length c.segment_readers.result.now = omega (
      arith,
      c.ended-ended.ensures,
      ap length c.segment_readers.ensures.segments,
      ap length are.all,
      length-map c.searcher-searcher.result.now.segments (λ (r : Reader). r.segment),
      length-append s.ended are.parts,
    ) in
    within

pub returns-then-parts-lt2-clause-served : goal.returns-then-parts-lt2-clause-served
returns-then-parts-lt2-clause-served c =
    let index = c.refresh.new.self in
    let q = query_of c.args.query.now in
    let given : List Reader = c.segment_readers.result.now in
    let readers : List Reader = c.searcher-searcher.result.now.segments in
    let own : List Reader = index.searcher.segments in
    let same : given ≡ readers = c.segment_readers.ensures.segments in
    let ended = c.ended-ended.result in
    let parts = ap segments_of (rest-taken ended given) ∙ (λ i. segments_of (drop (c.ended-ended.ensures i) (same i))) ∙ c.searcher-searcher.ensures.parts in
    elim c.then-parts-lt2.branch [
      | then-parts-lt2-via-then-parts-lt2 w ↦ inl (omega (
        arith,
        w.if-parts-lt2.true,
        ap length parts,
        length-map (take (length given - ended) (drop ended given)) (λ (r : Reader). r.segment),
        length-take (length given - ended) (drop ended given),
        length-drop ended given,
        length-map (drop index.ended own) (λ (r : Reader). r.segment),
        length-drop index.ended own,
      ))
      | then-parts-lt2-via-else-parts-lt2+then-not-has_cut w ↦
          inr (ap (λ ps. has_failing (is_reached ps) q) (sym parts) ∙ sym w.has_cut.ensures ∙ w.if-not-has_cut.true)
    ]
