use Rattle.std.proofs.Common.{◌≡◌, ◌+◌, length}
use Rattle.qm_docset.specs.AliveBitSet.{alive_entries}
use Rattle.qm_docset.specs.Entry.{head_document}
use Rattle.qm_docset.proofs.docset.DocSet.count.Given as goal

abbrev pub invariant-loop-doc : goal.invariant-loop-doc
invariant-loop-doc g l = record {
  counted : l.count + length (alive_entries l.alive (g.Self.DocSet.entries l.self)) ≡ length (alive_entries l.alive (g.Self.DocSet.entries l.fn.self));
  here : l.doc ≡ head_document (g.Self.DocSet.entries l.self);
  limits : g.Self.DocSet.limits l.self ≡ g.Self.DocSet.limits l.fn.self;
  kept : (s : _) → g.Self.DocSet.keeps s l.fn.self → g.Self.DocSet.keeps s l.self;
  valid : g.Self.DocSet.valid l.self;
  placed : g.Self.DocSet.placed l.self;
}

abbrev pub decreases-loop-doc : goal.decreases-loop-doc
decreases-loop-doc g l = length (g.Self.DocSet.entries l.self)
