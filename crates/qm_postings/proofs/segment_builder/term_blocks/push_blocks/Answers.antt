use Rattle.std.proofs.Common.{◌≡◌, ◌∙◌, ◌+◌, ◌-◌, ◌*◌, ◌<◌, ◌++◌, ◌∷◌, [], ap, cond, drop, get_or, length, map, min, refl, sum, sym, take, arith}
use Rattle.std.specs.Prelude.{nat_lt}
use Rattle.std.specs.Int.{div_ceil}
use Rattle.std.specs.List.{range_with_len}
use Rattle.std.proofs.lemmas.List.{append_assoc}
use Rattle.std.proofs.lemmas.List.FromFn.{map-range_with_len_more}
use Rattle.qm_docset.specs.declared.numbers.TheConstants.{TERMINATED}
use Rattle.qm_postings.specs.Kept.{all_infos, block_info, end_of, greatest, least_id, piece}
use Rattle.qm_postings.specs.Frequencies.{listed}
use Rattle.qm_postings.proofs.BlockLemmas.{block_start, more_block}
use Rattle.qm_postings.proofs.BoundLemmas.{end_before_place, part-piece, sum-fits-more, sum-more}
use Rattle.qm_postings.proofs.segment_builder.term_blocks.push_blocks.Goals as goal

pub sum-positions_start-requires : goal.sum-positions_start-requires
sum-positions_start-requires c =
    let b = c.loop-block.block in
    let bl = c.args.block_len in
    let ds = c.args.documents.now in
    let inside : b * bl < length ds =
    block_start b (length ds) bl c.requires.block_len (omega (arith, c.loop-block-test.true, c.loop-block.auto.block-end, c.div_ceil-block-end.ensures)) in
    omega (
      arith,
      sum-fits-more c.loop-block.positions_start (b * bl) (b * bl + c.min.result) (listed c.args.frequencies) (listed c.part-part.result)
          c.loop-block.invariant.fits c.part-part.ensures (omega arith) (omega (arith, c.requires.paired, inside)) (omega (arith, c.greatest.ensures)),
      c.requires.few,
      c.requires.paired,
    )

pub overflow_add-positions_start : goal.overflow_add-positions_start
overflow_add-positions_start c =
    let b = c.loop-block.block in
    let bl = c.args.block_len in
    let ds = c.args.documents.now in
    let inside : b * bl < length ds =
    block_start b (length ds) bl c.requires.block_len (omega (arith, c.loop-block-test.true, c.loop-block.auto.block-end, c.div_ceil-block-end.ensures)) in
    omega (
      arith,
      sum-fits-more c.loop-block.positions_start (b * bl) (b * bl + c.min.result) (listed c.args.frequencies) (listed c.part-part.result)
          c.loop-block.invariant.fits c.part-part.ensures (omega arith) (omega (arith, c.requires.paired, inside)) (omega (arith, c.greatest.ensures)),
      c.requires.few,
      c.requires.paired,
      c.sum-positions_start.ensures,
    )

pub loop-block-preserved : goal.loop-block-preserved
loop-block-preserved c =
    let bl = c.args.block_len in
    let b = c.loop-block.block in
    let ds = c.args.documents.now in
    let fs = listed c.args.frequencies in
    let ids = c.args.ids.now in
    let own = block_info bl ids ds fs in
    let had = c.loop-block.invariant in
    let inside : b * bl < length ds =
    block_start b (length ds) bl c.requires.block_len (omega (arith, c.loop-block-test.true, c.loop-block.auto.block-end, c.div_ceil-block-end.ensures)) in
    let count : c.min.result ≡ min bl (length ds - b * bl) = omega arith in
    let last : c.end_of.result ≡ end_of bl ds b = c.end_of.ensures
    ∙ ap (λ n. cond (nat_lt (b * bl + n) (length ds)) (get_or ds (b * bl + n - 1) 0) TERMINATED) count ∙ end_before_place bl b ds in
    let part : take (b * bl + c.min.result - b * bl) (drop (b * bl) fs) ≡ piece bl b fs = ap (λ n. take (b * bl + n - b * bl) (drop (b * bl) fs)) count
    ∙ part-piece bl b (length ds) fs c.requires.paired in
    let most : c.greatest.result ≡ greatest (piece bl b fs) = c.greatest.ensures ∙ ap greatest (c.part-part.ensures ∙ part) in
    let least : c.least_id.result ≡ least_id ids (piece bl b ds) = c.least_id.ensures
    ∙ ap (λ n. least_id ids (take (b * bl + n - b * bl) (drop (b * bl) ds))) count ∙ ap (least_id ids) (part-piece bl b (length ds) ds refl) in
    let info : record {
      last_doc = c.end_of.result;
      max_term_freq = c.greatest.result;
      least_fieldnorm_id = c.least_id.result;
      positions_start = c.loop-block.positions_start;
    } ≡ own b =
    λ i. record { last_doc = last i; max_term_freq = most i; least_fieldnorm_id = least i; positions_start = had.start i } in
    record {
      pushed = c.in_ok-push.ensures.items ∙ (λ i. had.pushed i ++ info i ∷ [])
          ∙ append_assoc c.args.infos.now.items (map own (range_with_len 0 b)) (own b ∷ [])
          ∙ ap (λ xs. c.args.infos.now.items ++ xs) (sym (map-range_with_len_more own 0 b b (omega arith)));
      fits = omega (
        arith,
        sum-fits-more c.loop-block.positions_start (b * bl) (b * bl + c.min.result) fs (listed c.part-part.result) had.fits c.part-part.ensures
            (omega arith) (omega (arith, c.requires.paired, inside)) (omega (arith, c.greatest.ensures)),
        c.sum-positions_start.ensures,
        more_block b bl,
      );
      start = (λ i. had.start i + (c.sum-positions_start.ensures ∙ ap sum (c.part-part.ensures ∙ part)) i) ∙ sum-more bl b fs (omega (arith, c.requires.paired, inside));
    }

pub returns-clause-pushed : goal.returns-clause-pushed
unfolding all_infos
returns-clause-pushed c =
    let own = block_info c.args.block_len c.args.ids.now c.args.documents.now (listed c.args.frequencies) in
    let end : c.loop-block.block ≡ div_ceil (length c.args.documents.now) c.args.block_len =
    omega (arith, c.loop-block-test.false, c.loop-block.auto.block-end, c.div_ceil-block-end.ensures) in
    c.loop-block.invariant.pushed ∙ ap (λ n. c.args.infos.now.items ++ map own (range_with_len 0 n)) end
