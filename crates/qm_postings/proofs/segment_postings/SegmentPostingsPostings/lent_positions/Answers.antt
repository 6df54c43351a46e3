-- As many positions as the frequency says, from where those of the marked posting begin.
use Rattle.std.proofs.Common.{◌≡◌, ◌<◌, ◌+◌, ◌-◌, length, sum, get_or, take, drop, ap, sym, arith, ◌∙◌, rules}
use Rattle.qm_postings.specs.Frequencies.{listed}
use Rattle.qm_postings.proofs.ArrayEntries.{positions_at}
use Rattle.qm_postings.proofs.PostingsLeft.{end_inside, inside}
use Rattle.qm_postings.proofs.segment_postings.SegmentPostingsPostings.lent_positions.Goals as goal

pub at-requires : goal.at-requires
at-requires c =
    let s = c.args.self.now in
    omega (arith, inside s c.requires.valid c.requires.here, c.requires.valid.arrays.frequencies)

pub slice_bounds-result-end : goal.slice_bounds-result-end
slice_bounds-result-end c =
    let s = c.args.self.now in
    let some : 0 < length s.arrays.positions.now = search rules in
    let start : s.mark_start ≡ sum (take s.cursor (listed s.arrays.frequencies)) =
    c.requires.valid.mark_start some ∙ ap (λ n. sum (take n (listed s.arrays.frequencies))) c.if-self.false in
    omega (arith, end_inside s s.mark_start c.requires.valid c.requires.here some start, c.at.ensures)

pub returns : goal.returns
returns c =
    let s = c.args.self.now in
    let a = s.arrays in
    let some : 0 < length a.positions.now = search rules in
    let start : s.mark_start ≡ sum (take s.cursor (listed a.frequencies)) =
    c.requires.valid.mark_start some ∙ ap (λ n. sum (take n (listed a.frequencies))) c.if-self.false in
    let f = get_or (listed a.frequencies) s.cursor 0 in
    let width : s.mark_start + c.at.result - s.mark_start ≡ f = omega (arith, c.at.ensures) in
    ap (λ n. take n (drop s.mark_start a.positions.now)) width
    ∙ ap (λ n. take f (drop n a.positions.now)) start
    ∙ sym (positions_at s.reading s.cursor a.documents.now (listed a.frequencies) a.positions.now (inside s c.requires.valid c.requires.here))
