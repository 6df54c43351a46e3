use Rattle.std.proofs.Common.{◌≡◌, ◌++◌, List, ℕ, Some, drop, option_map}
use Rattle.qm_store.specs.StoredSegment.{opened_of, rows_of}
use Rattle.qm_store.proofs.stored_segment.StoredSegment.read_wanted.Given as goal

abbrev pub invariant-loop-one : goal.invariant-loop-one
invariant-loop-one g l = record {
  whole : (file : List ℕ) → g.P.Pieces.bytes l.self.source ≡ Some file →
      option_map (λ more. l.rows.rows ++ more) (rows_of l.self.key file l.schema (opened_of l.self).blocks (drop l.one-index l.wanted))
      ≡ rows_of l.self.key file l.schema (opened_of l.self).blocks l.wanted;
}
