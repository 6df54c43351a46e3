use Rattle.std.proofs.Common.{◌≡◌, map, take}
use Rattle.qm_index.specs.Parts.{segments_of}
use Rattle.qm_postings.specs.Restriction.{restricted}
use Rattle.qm_script.specs.Wanted.{is_wanted}
use Rattle.qm_script.proofs.narrowed.each_narrowed.Given as goal

abbrev pub invariant-loop-reader : goal.invariant-loop-reader
invariant-loop-reader l = segments_of l.segments.items ≡ map (restricted (is_wanted l.terms)) (segments_of (take l.reader-index l.readers))
