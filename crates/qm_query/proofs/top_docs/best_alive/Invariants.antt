-- Of the segments so far the best documents are kept, and so many were scored.
use Rattle.std.proofs.Common.{◌≡◌, ◌≤◌, ◌*◌, false, length, take}
use Rattle.std.specs.Prelude.{IsTrue}
use Rattle.qm_docset.specs.declared.numbers.TheConstants.{TERMINATED}
use Rattle.qm_weight.specs.Tree.{is_scoring}
use Rattle.qm_weight.specs.Weights.{tree_of}
use Rattle.qm_query.specs.KeptDocuments.{AreBest, ranked_kept}
use Rattle.qm_query.specs.TopDocs.{alive_matches_from, matching_in}
use Rattle.qm_query.proofs.top_docs.best_alive.Given as goal

abbrev pub invariant-loop-reader : goal.invariant-loop-reader
invariant-loop-reader l = record {
  limit : l.kept.limit ≡ l.limit;
  number : l.segment_ord ≡ l.reader-index;
  best : IsTrue (is_scoring (tree_of l.weight)) → AreBest l.kept (alive_matches_from 0 (tree_of l.weight) (take l.reader-index l.searcher.segments));
  fits : l.scored ≤ l.reader-index * TERMINATED;
  fewer : l.kept.refused ≡ false → length (ranked_kept l.kept) ≤ l.scored;
  matched : l.scored ≤ matching_in (tree_of l.weight) (take l.reader-index l.searcher.segments);
}
