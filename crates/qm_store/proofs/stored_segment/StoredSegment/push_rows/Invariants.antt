use Rattle.std.proofs.Common.{◌≡◌, ◌++◌, List, ℕ, Some, drop, map, option_map}
use Rattle.qm_store.specs.Dictionary.{start_of}
use Rattle.qm_store.specs.StoredSegment.{rows_of_blocks}
use Rattle.qm_store.proofs.stored_segment.StoredSegment.push_rows.Given as goal

abbrev pub invariant-loop-block : goal.invariant-loop-block
invariant-loop-block g l = record {
  whole : (file : List ℕ) → g.P.Pieces.bytes l.self.source ≡ Some file →
      option_map (λ more. l.rows.rows ++ more)
      (rows_of_blocks l.self.key file l.schema (option_map (λ w. w.now) l.chosen) (map start_of (drop l.block-index l.blocks)))
      ≡ option_map (λ more. l.fn.rows.rows ++ more) (rows_of_blocks l.self.key file l.schema (option_map (λ w. w.now) l.chosen) (map start_of l.blocks));
}
