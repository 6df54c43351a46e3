use Rattle.std.proofs.Common.{◌≡◌, ◌++◌, take}
use Rattle.qm_index.proofs.given_document.set_lengths.Given as goal

abbrev pub invariant-loop-field : goal.invariant-loop-field
invariant-loop-field l = record {
  lengths : l.document.lengths ≡ l.fn.document.lengths ++ take l.field-index l.lengths;
  terms : l.document.terms ≡ l.fn.document.terms;
}
