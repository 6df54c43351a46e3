-- The frequencies of a range of postings: those that take a byte each, and behind them those that take four.
use Rattle.std.specs.Prelude.{ℕ, ◌++◌, List}
use Rattle.qm_postings.specs.declared.frequencies.FrequencyPart.{FrequencyPart}

-- the list of them
abbrev pub listed : FrequencyPart → List ℕ
listed p = p.small.now ++ p.large.now
