use Rattle.std.proofs.Common.{◌≡◌, ◌≤◌, length, take, drop}
use Rattle.qm_docset.specs.Entry.{below, documents, head_document}
use Rattle.qm_docset.proofs.docset.DocSet.fill_buffer_below.Given as goal

abbrev pub invariant-loop-taken : goal.invariant-loop-taken
invariant-loop-taken g l = record {
  within : l.taken ≤ length (below l.fn.bound (g.Self.DocSet.entries l.fn.self));
  filled : take l.taken l.buffer ≡ documents (take l.taken (g.Self.DocSet.entries l.fn.self));
  left : g.Self.DocSet.entries l.self ≡ drop l.taken (g.Self.DocSet.entries l.fn.self);
  here : l.doc ≡ head_document (g.Self.DocSet.entries l.self);
  limits : g.Self.DocSet.limits l.self ≡ g.Self.DocSet.limits l.fn.self;
  kept : (s : _) → g.Self.DocSet.keeps s l.fn.self → g.Self.DocSet.keeps s l.self;
  valid : g.Self.DocSet.valid l.self;
  placed : g.Self.DocSet.placed l.self;
}
