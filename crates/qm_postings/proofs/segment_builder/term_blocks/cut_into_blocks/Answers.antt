use Rattle.std.proofs.Common.{◌≡◌, ◌∙◌, ◌+◌, ◌-◌, ◌++◌, [], ◌∷◌, ℕ, ap, arith, drop, get_or, length, map, sym, take, take_all}
use Rattle.std.specs.List.{flat_map, range_with_len}
use Rattle.std.proofs.lemmas.List.FromFn.{map-range_with_len_more}
use Rattle.qm_postings.specs.Kept.{PostingsRange, all_infos, range_infos}
use Rattle.qm_postings.proofs.BoundLemmas.{flat-more}
use Rattle.qm_postings.proofs.segment_builder.term_blocks.cut_into_blocks.Goals as goal

pub loop-entry-preserved : goal.loop-entry-preserved
loop-entry-preserved c =
    let bl = c.args.block_len in
    let terms = c.args.terms.now in
    let ds = c.args.documents.now in
    let fs = c.args.frequencies.now in
    let columns = map (λ c. c.items) c.args.columns.now in
    let own = range_infos bl columns ds fs in
    let at : ℕ → ℕ = λ i. length (flat_map own (take i terms)) in
    let index = c.loop-entry.entry-index in
    let had = c.loop-entry.invariant in
    let entry = c.entry.inside in
    let r : PostingsRange = c.entry-item.result in
    let width : entry.start + entry.doc_freq - entry.start ≡ entry.doc_freq = omega arith in
    let column : c.column_of.result.now ≡ get_or columns entry.term.field [] = c.column_of.ensures
    ∙ ap (λ n. get_or columns n []) (c.field_id.ensures ∙ c.field.ensures) in
    let mine = (λ i. all_infos bl (column i) (take (width i) (drop entry.start ds)) (c.part.ensures i))
    ∙ ap own (c.entry.view_is ∙ c.entry-item.is) in
    record {
      places = c.in_ok-push.ensures.items ∙ ap (λ n. c.loop-entry.starts.items ++ n ∷ []) (c.len.ensures ∙ c.loop-entry.infos.ok.0)
          ∙ (λ i. had.places i ++ ap length had.all i ∷ []) ∙ sym (map-range_with_len_more at 0 index index (omega arith));
      all = c.in_ok-push_blocks.ensures.pushed ∙ (λ i. had.all i ++ mine i) ∙ sym (flat-more own terms index r c.loop-entry-test.true);
    }

pub returns-clause-cut : goal.returns-clause-cut
returns-clause-cut c =
    let terms = c.args.terms.now in
    let own = range_infos c.args.block_len (map (λ c. c.items) c.args.columns.now) c.args.documents.now c.args.frequencies.now in
    let end : c.loop-entry.entry-index ≡ length terms = omega (arith, c.loop-entry-test.false, c.loop-entry.auto.entry-index-end) in
    record {
      all = c.loop-entry.invariant.all ∙ ap (flat_map own) (take_all c.loop-entry.entry-index terms (omega arith));
      places = c.loop-entry.invariant.places ∙ ap (λ n. map (λ i. length (flat_map own (take i terms))) (range_with_len 0 n)) end;
    }
