-- The buffer takes the documents up to the place that was found.
use Rattle.std.proofs.Common.{◌≡◌, ◌-◌, length, take, drop, ap, arith, ◌∙◌, length-drop, take_all}
use Rattle.std.proofs.lemmas.List.{take-append-le, length-take}
use Rattle.qm_postings.specs.Frequencies.{listed}
use Rattle.qm_postings.specs.SegmentPostings.{postings_limits}
use Rattle.qm_postings.specs.StoredFacts.{AreEntries-stored}
use Rattle.qm_postings.specs.TermArrays.{stored}
use Rattle.qm_docset.proofs.PlacesLeft.{taken}
use Rattle.qm_postings.proofs.PostingsLeft.{named}
use Rattle.qm_postings.proofs.segment_postings.SegmentPostingsDocSet.fill_buffer_below.Goals as goal

pub returns-clause-count : goal.returns-clause-count
returns-clause-count c =
    let s = c.args.self.now in
    let a = s.arrays in
    let entries = AreEntries-stored s.reading a.max_term_freq a.documents.now (listed a.frequencies) a.positions.now c.requires.valid.arrays.documents
    c.requires.valid.arrays.room in
    omega (arith, c.end_below-end.ensures.place (stored s.reading a) (postings_limits s) (named s) entries)

pub returns-clause-documents : goal.returns-clause-documents
returns-clause-documents c =
    let s = c.args.self.now in
    let docs = s.arrays.documents.now in
    let at = s.cursor in
    let count = c.end_below-end.result - at in
    let copy = c.copy_from_slice.new.self in
    let part : copy ≡ take count (drop at docs) = c.copy_from_slice.ensures.after in
    let long : length copy ≡ count = ap length part ∙ length-take count (drop at docs) ∙ omega (arith, length-drop at docs, c.end_below-end.ensures.within) in
    take-append-le count copy _ (omega (arith, long)) ∙ take_all count copy (omega (arith, long)) ∙ part
    ∙ taken count at count (stored s.reading s.arrays) docs (named s) (omega (arith, c.end_below-end.ensures.within))
