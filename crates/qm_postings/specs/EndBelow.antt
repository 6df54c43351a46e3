-- How far a buffer of documents below a bound goes.
use Rattle.std.specs.Prelude.{ℕ, ◌+◌, List, drop, length, min}
use Rattle.qm_docset.specs.Entry.{Entry, below}
use Rattle.qm_docset.specs.declared.numbers.TheConstants.{COLLECT_BLOCK_BUFFER_LEN}

-- the place behind those from a place on that are below a bound, as many as a buffer has room for
abbrev pub place_below : ℕ → ℕ → List Entry → ℕ
place_below start bound es = start + min COLLECT_BLOCK_BUFFER_LEN (length (below bound (drop start es)))
