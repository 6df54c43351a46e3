-- What an AliveBitSet holds.
use Rattle.std.specs.Prelude.{List, filter}
use Rattle.qm_docset.specs.BitSet.{set_has}
use Rattle.qm_docset.specs.Entry.{Entry}
use Rattle.qm_docset.specs.declared.bitset.BitSet.{BitSet}
use Rattle.qm_docset.specs.declared.alive_bitset.AliveBitSet.{AliveBitSet}

-- the set of the alive documents
abbrev pub alive_docs : AliveBitSet → BitSet
alive_docs a = a.alive

-- the entries whose documents are alive
unfoldable pub alive_entries : AliveBitSet → List Entry → List Entry
alive_entries a es = filter (λ e. set_has (alive_docs a) e.document) es
