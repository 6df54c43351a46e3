-- What stands before the block ends below the target.
use Rattle.std.proofs.Common.{◌≡◌, ◌∙◌, ℕ, ◌+◌, ◌-◌, ◌*◌, ◌/◌, ◌<◌, ◌≤◌, ap, drop, get_or, length, sym, arith, inl, inr}
use Rattle.std.proofs.Math.Nat.{div-mul-le_self, mul-le-mul_right}
use Rattle.std.proofs.lemmas.Bool.{cases_lt}
use Rattle.qm_docset.specs.Entry.{from}
use Rattle.qm_docset.proofs.PlacesLeft.{few}
use Rattle.qm_postings.specs.Blocks.{Block, no_block}
use Rattle.qm_postings.specs.SegmentPostings.{IsPostings, postings_blocks}
use Rattle.qm_postings.specs.TermArrays.{stored}
use Rattle.qm_postings.specs.declared.segment_postings.SegmentPostings.{SegmentPostings}
use Rattle.qm_postings.proofs.BlockLemmas.{block_last, blocks_small, end_inside, end_reaches, ends_behind, last_read, more_block, place_below, place_from}
use Rattle.qm_postings.proofs.PostingsLeft.{from_behind, named}
use Rattle.qm_postings.proofs.segment_postings.SegmentPostings.enter_block.Goals as goal

-- all documents from the cursor's to a block that is behind it are below the target, where the ends of the
-- blocks before it are
passed_blocks : (s : SegmentPostings) (t b : ℕ) → IsPostings s → b < length s.arrays.blocks.now
    → ((k : ℕ) (d : Block) → s.cursor / s.arrays.block_len ≤ k → k < b → (get_or (postings_blocks s) k d).last < t)
    → (k : ℕ) → s.cursor ≤ k → k < b * s.arrays.block_len → k < length s.arrays.documents.now → get_or s.arrays.documents.now k 0 < t
passed_blocks s t b h within ends k up before inside =
    let bl = s.arrays.block_len in
    let some = h.arrays.block_len in
    let own : k < (k / bl + 1) * bl = place_below k (k / bl) bl some (omega arith) in
    let number : s.cursor / bl ≤ k / bl =
    elim (cases_lt (k / bl) (s.cursor / bl)) [ inl less ↦ absurd (omega (arith, place_from s.cursor (k / bl) bl less)) | inr more ↦ more ] in
    let earlier : k / bl < b = elim (cases_lt (k / bl) b) [ inl less ↦ less | inr more ↦ absurd (omega (arith, block_up bl more)) ] in
    omega (
      arith,
      ends (k / bl) no_block number earlier,
      block_last s.reading s.arrays h.arrays (k / bl) no_block (omega arith),
      end_reaches bl s.arrays.documents.now h.arrays.documents some (k / bl) k inside own,
    )
  where
    block_up : (bl : ℕ) → b ≤ k / bl → b * bl ≤ k
    block_up bl le =
        let up : b * bl ≤ k / bl * bl = mul-le-mul_right bl le in
        omega (arith, up, div-mul-le_self k bl)

pub overflow_mul-block : goal.overflow_mul-block
overflow_mul-block c =
    let s = c.args.self.now in
    let first = c.block_from-block.ensures in
    omega (
      arith,
      ends_behind s c.block_from-block.result c.requires.valid c.requires.here first.from first.within,
      few 0 s.arrays.documents.now c.requires.valid.arrays.documents,
    )

pub offset_bounds-blocks-block : goal.offset_bounds-blocks-block
offset_bounds-blocks-block c =
    omega (arith, c.block_from-block.ensures.within, blocks_small c.args.self.now.reading c.args.self.now.arrays c.requires.valid.arrays)

pub returns-clause-entries : goal.returns-clause-entries
returns-clause-entries c =
    let s = c.args.self.now in
    let v = c.requires.valid in
    let first = c.block_from-block.ensures in
    let b = c.block_from-block.result in
    let behind = ends_behind s b v c.requires.here first.from first.within in
    let gap = c.max-self.result - s.cursor in
    let on : s.cursor + gap ≡ c.max-self.result = omega arith in
    ap (λ m. from c.args.target (drop m (stored s.reading s.arrays))) (sym on)
    ∙ from_behind c.args.target s.cursor gap (stored s.reading s.arrays) s.arrays.documents.now (named s) c.requires.target (omega (arith, behind, on))
    (λ k up lt. passed_blocks s c.args.target b v first.within first.passed k up (omega (arith, on)) (omega (arith, behind, on)))

pub returns-clause-valid : goal.returns-clause-valid
returns-clause-valid c =
    let s = c.args.self.now in
    let v = c.requires.valid in
    let a = s.arrays in
    let first = c.block_from-block.ensures in
    let b = c.block_from-block.result in
    let behind = ends_behind s b v c.requires.here first.from first.within in
    let more = more_block b a.block_len in
    record {
      arrays = v.arrays;
      place = omega (arith, behind);
      mark = omega (arith, v.mark);
      mark_start = v.mark_start;
      block = omega arith;
      block_end = (omega (arith, c.end_of-end.ensures), omega (arith, c.end_of-end.ensures));
      last_doc = λ inside short.
          let whole : (b + 1) * a.block_len ≡ c.end_of-end.result = omega (arith, c.end_of-end.ensures) in
          omega (
            arith,
            last_read s.reading a.blocks.now b no_block first.within,
            block_last s.reading a v.arrays b no_block first.within,
            end_inside a.block_len a.documents.now b (omega arith),
            ap (λ n. get_or a.documents.now (n - 1) 0) whole,
          );
      look_from = omega (arith, v.look_from);
      look = λ at inside.
          let stays : c.max-self.result ≡ s.cursor = omega (arith, v.look_from) in
          let looked = v.look (omega arith) c.requires.here in
          (omega (arith, looked, ap (λ n. n / a.block_len) stays), looked.1);
    }

pub returns-clause-within : goal.returns-clause-within
returns-clause-within c =
    let s = c.args.self.now in
    let first = c.block_from-block.ensures in
    omega (
      arith,
      c.end_of-end.ensures,
      ends_behind s c.block_from-block.result c.requires.valid c.requires.here first.from first.within,
      more_block c.block_from-block.result s.arrays.block_len,
      c.requires.valid.arrays.block_len,
    )

pub returns-clause-reached : goal.returns-clause-reached
returns-clause-reached c =
    let s = c.args.self.now in
    let first = c.block_from-block.ensures in
    omega (arith, first.reached no_block, last_read s.reading s.arrays.blocks.now c.block_from-block.result no_block first.within)
