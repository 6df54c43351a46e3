use Rattle.std.proofs.Common.{◌≡◌, length, map, take}
use Rattle.std.specs.List.{flat_map, range_with_len}
use Rattle.qm_postings.specs.Kept.{range_infos}
use Rattle.qm_postings.proofs.segment_builder.term_blocks.cut_into_blocks.Given as goal

abbrev pub invariant-loop-entry : goal.invariant-loop-entry
invariant-loop-entry l =
    let own = range_infos l.block_len (map (λ c. c.items) l.columns) l.documents l.frequencies in
    record {
      places : l.starts.items ≡ map (λ i. length (flat_map own (take i l.terms))) (range_with_len 0 l.entry-index);
      all : l.infos.items ≡ flat_map own (take l.entry-index l.terms);
    }
