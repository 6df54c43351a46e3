-- As many positions as the frequency says, from where those of the posting begin.
use Rattle.qm_postings.specs.Frequencies.{listed}
use Rattle.std.proofs.Common.{◌≡◌, ◌<◌, ◌+◌, ◌-◌, length, get_or, take, drop, ap, refl, sym, arith, ◌∙◌, rules}
use Rattle.qm_postings.specs.SegmentPostings.{looked_block}
use Rattle.qm_postings.proofs.ArrayEntries.{no_positions, positions_at}
use Rattle.qm_postings.proofs.PostingsLeft.{end_inside, inside}
use Rattle.qm_postings.proofs.segment_postings.SegmentPostings.positions_here.Goals as goal

pub returns-then-is_empty-clause-positions : goal.returns-then-is_empty-clause-positions
returns-then-is_empty-clause-positions c =
    let s = c.args.self.now in
    let a = s.arrays in
    let none : length a.positions.now ≡ 0 = search rules in
    no_positions s.reading s.cursor a.documents.now (listed a.frequencies) a.positions.now none (inside s c.requires.valid c.requires.here)

pub returns-then-is_empty-clause-valid : goal.returns-then-is_empty-clause-valid
returns-then-is_empty-clause-valid c = c.requires.valid

pub returns-then-is_empty-clause-entries : goal.returns-then-is_empty-clause-entries
returns-then-is_empty-clause-entries c = refl

pub returns-then-is_empty-clause-limits : goal.returns-then-is_empty-clause-limits
returns-then-is_empty-clause-limits c = refl

pub positions_start-start-requires : goal.positions_start-start-requires
positions_start-start-requires c =
    let s = c.args.self.now in
    let some : 0 < length s.arrays.positions.now = search rules in
    let valid = c.requires.valid in
    record {
      arrays = (s.reading, valid.arrays);
      some = some;
      within = omega (arith, inside s valid c.requires.here, valid.arrays.frequencies);
      block = c.block_here-block.ensures;
      mark = c.requires.valid.mark;
      start = c.requires.valid.mark_start some;
    }

pub at-requires : goal.at-requires
at-requires c =
    let s = c.args.self.now in
    omega (arith, inside s c.requires.valid c.requires.here, c.requires.valid.arrays.frequencies)

pub overflow_add-end : goal.overflow_add-end
overflow_add-end c = omega (
  arith,
  end_inside c.args.self.now c.positions_start-start.result c.requires.valid c.requires.here (search rules) c.positions_start-start.ensures,
  c.at.ensures,
  c.fits-self,
)

pub slice_bounds-result-count : goal.slice_bounds-result-count
slice_bounds-result-count c = omega arith

pub slice_bounds-result-end : goal.slice_bounds-result-end
slice_bounds-result-end c = omega (
  arith,
  end_inside c.args.self.now c.positions_start-start.result c.requires.valid c.requires.here (search rules) c.positions_start-start.ensures,
  c.at.ensures,
)

pub returns-clause-positions : goal.returns-clause-positions
returns-clause-positions c =
    let s = c.args.self.now in
    let a = s.arrays in
    let start = c.positions_start-start in
    let f = get_or (listed a.frequencies) s.cursor 0 in
    let width : start.result + c.at.result - start.result ≡ f = omega (arith, c.at.ensures) in
    ap (λ n. take n (drop start.result a.positions.now)) width
    ∙ ap (λ n. take f (drop n a.positions.now)) start.ensures
    ∙ sym (positions_at s.reading s.cursor a.documents.now (listed a.frequencies) a.positions.now (inside s c.requires.valid c.requires.here))

pub returns-clause-entries : goal.returns-clause-entries
returns-clause-entries c = refl

pub returns-clause-limits : goal.returns-clause-limits
returns-clause-limits c = refl

pub returns-clause-valid : goal.returns-clause-valid
returns-clause-valid c =
    let valid = c.requires.valid in
    record {
      arrays = valid.arrays;
      place = valid.place;
      mark = omega arith;
      mark_start = λ _. c.positions_start-start.ensures;
      block = valid.block;
      block_end = valid.block_end;
      last_doc = valid.last_doc;
      look_from = valid.look_from;
      look = valid.look;
    }

pub returns-clause-stays : goal.returns-clause-stays
unfolding looked_block
returns-clause-stays c = refl

pub returns-then-is_empty-clause-stays : goal.returns-then-is_empty-clause-stays
returns-then-is_empty-clause-stays c = refl

pub block_here-block-requires-clause-here : goal.block_here-block-requires-clause-here
block_here-block-requires-clause-here c = inside c.args.self.now c.requires.valid c.requires.here
