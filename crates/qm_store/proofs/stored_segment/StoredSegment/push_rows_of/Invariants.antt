use Rattle.std.proofs.Common.{◌≡◌, ◌-◌, ◌++◌, List, ℕ, Some, option_map}
use Rattle.qm_store.proofs.RowsThen.{rows_among}
use Rattle.qm_store.proofs.stored_segment.StoredSegment.push_rows_of.Given as goal

abbrev pub invariant-loop : goal.invariant-loop
invariant-loop g l = record {
  whole : (file : List ℕ) → g.P.Pieces.bytes l.self.source ≡ Some file →
      option_map (λ more. l.rows.rows ++ more) (rows_among l.self.key file l.schema (option_map (λ w. w.now) l.chosen) (l.count - l.counter) l.rest)
      ≡ option_map (λ more. l.fn.rows.rows ++ more) (rows_among l.self.key file l.schema (option_map (λ w. w.now) l.chosen) l.count l.initial.rest);
}
