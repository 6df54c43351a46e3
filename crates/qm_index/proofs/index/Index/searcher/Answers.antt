-- The parts are cut out of the documents, all of which are built.
use Rattle.std.proofs.Common.{◌≡◌, ap, sym, ◌∙◌, arith, drop, length, take}
use Rattle.std.proofs.lemmas.List.{length-drop, length-map, length-take-le, map-append, take-append-drop}
use Rattle.std.proofs.lemmas.List.Sums.{sum_by-take-drop}
use Rattle.qm_postings.specs.Reading.{Reader}
use Rattle.qm_index.specs.Parts.{segments_of}
use Rattle.qm_index.proofs.Cutting.{cut-parts}
use Rattle.qm_index.proofs.index.Index.searcher.Goals as goal

pub returns-clause-searched : goal.returns-clause-searched
returns-clause-searched c =
    let self = c.args.self.now in
    let readers = self.searcher.segments in
    let parts = drop self.ended readers in
    record {
      parts = segments_of parts;
      all = ap segments_of (sym (take-append-drop self.ended readers)) ∙ map-append (λ (r : Reader). r.segment) (take self.ended readers) parts;
      of_current = cut-parts self.searcher.schema self.block_len parts self.documents.items 0 self.parts
          (omega (arith, self.built_parts, c.requires.refreshed, self.documents.ok.0));
    }

pub returns-clause-merged : goal.returns-clause-merged
returns-clause-merged c = λ merged.
    let self = c.args.self.now in
    let readers = self.searcher.segments in
    let parts = drop self.ended readers in
    record {
      searched = record {
        parts = segments_of parts;
        all = ap segments_of (sym (take-append-drop self.ended readers)) ∙ map-append (λ (r : Reader). r.segment) (take self.ended readers) parts;
        of_current = cut-parts self.searcher.schema self.block_len parts self.documents.items 0 self.parts
            (omega (arith, self.built_parts, c.requires.refreshed, self.documents.ok.0));
      };
      one = omega (arith, length-map parts (λ (r : Reader). r.segment), length-drop self.ended readers, merged);
    }

pub returns-clause-parts : goal.returns-clause-parts
returns-clause-parts c =
    let self = c.args.self.now in
    let readers = self.searcher.segments in
    let ended : length (segments_of (take self.ended readers)) ≡ self.ended =
    length-map (take self.ended readers) (λ (r : Reader). r.segment) ∙ length-take-le self.ended readers self.within in
    ap (λ n. segments_of (drop n readers)) ended

pub returns-clause-few : goal.returns-clause-few
returns-clause-few c =
    let self = c.args.self.now in
    omega (
      arith,
      sum_by-take-drop (λ (r : Reader). length r.segment.documents) self.searcher.segments self.ended,
      self.counted,
      self.small,
      self.room,
      self.built_parts,
      self.some_built,
      self.few,
    )
