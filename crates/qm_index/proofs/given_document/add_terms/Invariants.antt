use Rattle.std.proofs.Common.{◌≡◌, ◌++◌, take}
use Rattle.qm_index.proofs.given_document.add_terms.Given as goal

abbrev pub invariant-loop-given : goal.invariant-loop-given
invariant-loop-given l = record {
  terms : l.document.terms ≡ l.fn.document.terms ++ take l.given-index l.terms;
  lengths : l.document.lengths ≡ l.fn.document.lengths;
}
