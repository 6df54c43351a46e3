-- The documents up to the block's end ascend too, and the last of them is not below the target.
use Rattle.qm_postings.specs.Frequencies.{listed}
use Rattle.std.proofs.Common.{◌≡◌, ℕ, ◌-◌, ◌<◌, ◌≤◌, get_or, length, take, arith, inl, inr}
use Rattle.std.proofs.lemmas.Bool.{cases_lt}
use Rattle.std.proofs.lemmas.List.{get_or-take, length-take-le}
use Rattle.qm_docset.proofs.GallopFacts.{increases_in_part}
use Rattle.qm_docset.proofs.PlacesLeft.{left_from}
use Rattle.qm_postings.specs.SegmentPostings.{IsPostings, postings_limits}
use Rattle.qm_postings.specs.StoredFacts.{AreEntries-stored}
use Rattle.qm_postings.specs.TermArrays.{stored}
use Rattle.qm_postings.specs.declared.segment_postings.SegmentPostings.{SegmentPostings}
use Rattle.qm_postings.proofs.BlockLemmas.{stands_looking, stands_valid}
use Rattle.qm_postings.proofs.PostingsLeft.{named}
use Rattle.qm_postings.proofs.segment_postings.SegmentPostings.seek_in_block.Goals as goal

-- a place up to which all documents of the block are below the target is in the block, unless it is the last
module _ (s : SegmentPostings) (h : IsPostings s) (t place : ℕ) (start : s.cursor < s.block_end) (reached : t ≤ s.last_doc)
    (from : s.cursor ≤ place) (within : place ≤ length (take s.block_end s.arrays.documents.now))
    (passed : (k : ℕ) → s.cursor ≤ k → k < place → get_or (take s.block_end s.arrays.documents.now) k 0 < t) where
  up_to : length (take s.block_end s.arrays.documents.now) ≡ s.block_end
  up_to = length-take-le s.block_end s.arrays.documents.now (h.block_end.1)

  below : (k : ℕ) → s.cursor ≤ k → k < place → get_or s.arrays.documents.now k 0 < t
  below k up lt = omega (arith, passed k up lt, get_or-take s.block_end s.arrays.documents.now k 0 (omega (arith, up_to)))

  inside : place < length s.arrays.documents.now → place < s.block_end
  inside more = elim (cases_lt place s.block_end) [
    | inl less ↦ less
    | inr end ↦ absurd (omega (arith, up_to, h.last_doc start (omega (arith, up_to)), below (s.block_end - 1) (omega arith) (omega arith)))
  ]

pub gallop-place-requires : goal.gallop-place-requires
gallop-place-requires c =
    let s = c.args.self.now in
    let v = c.requires.valid in
    record {
      ascending = increases_in_part s.arrays.documents.now 0 s.block_end v.arrays.documents.ascending (omega (arith, v.block_end));
      within = omega (arith, length-take-le s.block_end s.arrays.documents.now (v.block_end.1), c.requires.within);
    }

pub doc-requires-clause-valid : goal.doc-requires-clause-valid
doc-requires-clause-valid c =
    let s = c.args.self.now in
    let r = c.requires in
    let found = c.gallop-place.ensures in
    stands_valid s r.valid c.gallop-place.result found.from_start r.within
    (omega (arith, found.within, length-take-le s.block_end s.arrays.documents.now (r.valid.block_end.1)))
    (inside s r.valid c.args.target c.gallop-place.result r.within r.reached found.from_start found.within found.passed)

pub returns-clause-entries : goal.returns-clause-entries
returns-clause-entries c =
    let s = c.args.self.now in
    let a = s.arrays in
    let r = c.requires in
    let found = c.gallop-place.ensures in
    let place = c.gallop-place.result in
    let long = length-take-le s.block_end a.documents.now (r.valid.block_end.1) in
    let kept = r.valid.arrays in
    let entries = AreEntries-stored s.reading a.max_term_freq a.documents.now (listed a.frequencies) a.positions.now kept.documents kept.room in
    left_from c.args.target s.cursor place (postings_limits s) (stored s.reading a) a.documents.now
    (named s) entries found.from_start (omega (arith, found.within, long, r.valid.block_end))
    (below s r.valid c.args.target place r.within r.reached found.from_start found.within found.passed)
    (λ more.
    let here = inside s r.valid c.args.target place r.within r.reached found.from_start found.within found.passed more in
    omega (arith, found.reached (omega (arith, long, here)), get_or-take s.block_end a.documents.now place 0 here))

pub returns-clause-valid : goal.returns-clause-valid
returns-clause-valid c =
    let s = c.args.self.now in
    let r = c.requires in
    let found = c.gallop-place.ensures in
    stands_valid s r.valid c.gallop-place.result found.from_start r.within
    (omega (arith, found.within, length-take-le s.block_end s.arrays.documents.now (r.valid.block_end.1)))
    (inside s r.valid c.args.target c.gallop-place.result r.within r.reached found.from_start found.within found.passed)

pub returns-clause-looked : goal.returns-clause-looked
returns-clause-looked c =
    let s = c.args.self.now in
    let r = c.requires in
    let found = c.gallop-place.ensures in
    stands_looking s r.valid c.gallop-place.result found.from_start r.within
    (omega (arith, found.within, length-take-le s.block_end s.arrays.documents.now (r.valid.block_end.1)))
    (inside s r.valid c.args.target c.gallop-place.result r.within r.reached found.from_start found.within found.passed)
