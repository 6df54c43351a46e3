-- With what the cursor has left, as far as there is room, all is taken.
use Rattle.std.proofs.Common.{◌≡◌, ◌≤◌, ◌++◌, length, take}
use Rattle.qm_docset.specs.Entry.{from, head_document}
use Rattle.qm_script.specs.Paging.{alive_numbered}
use Rattle.qm_script.proofs.paging.Page.take_from.Given as goal

abbrev pub invariant-loop-document : goal.invariant-loop-document
invariant-loop-document g l = record {
  first : l.self.from ≡ l.fn.self.from;
  limit : l.self.limit ≡ l.fn.self.limit;
  limited : length l.self.documents.items ≤ l.self.limit;
  left : take l.fn.self.limit (l.self.documents.items ++ alive_numbered l.segment.segment l.first (g.D.DocSet.entries l.cursor))
      ≡ take l.fn.self.limit (l.fn.self.documents.items ++ alive_numbered l.segment.segment l.first (from l.start (g.D.DocSet.entries l.fn.cursor)));
  here : l.document ≡ head_document (g.D.DocSet.entries l.cursor);
  valid : g.D.DocSet.valid l.cursor;
  placed : g.D.DocSet.placed l.cursor;
}

abbrev pub decreases-loop-document : goal.decreases-loop-document
decreases-loop-document g l = length (g.D.DocSet.entries l.cursor)
