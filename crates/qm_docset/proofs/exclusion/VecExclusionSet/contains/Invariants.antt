use Rattle.std.proofs.Common.{◌≡◌, ℕ, ◌≤◌, All, IsTrue, false, map, take, drop}
use Rattle.qm_docset.specs.Exclusion.{has_document, some_has_document}
use Rattle.std.specs.List.{list_any}
use Rattle.qm_docset.proofs.exclusion.VecExclusionSet.contains.Given as goal

abbrev pub invariant-loop-set : goal.invariant-loop-set
invariant-loop-set g l = record {
  usable : All g.T.DocSet.valid l.set-items;
  kept : (d : ℕ) → l.doc ≤ d → some_has_document (map g.T.DocSet.entries l.set-items) d ≡ some_has_document (map g.T.DocSet.entries l.fn.self.items) d;
  none_added : (d : ℕ) → IsTrue (some_has_document (map g.T.DocSet.entries l.set-items) d) →
      IsTrue (some_has_document (map g.T.DocSet.entries l.fn.self.items) d);
  not_asked : drop l.set-index l.set-items ≡ drop l.set-index l.fn.self.items;
  lacked : list_any (λ docs. has_document (g.T.DocSet.entries docs) l.doc) (take l.set-index l.fn.self.items) ≡ false;
}
