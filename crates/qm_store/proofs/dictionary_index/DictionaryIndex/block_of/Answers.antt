use Rattle.std.proofs.Common.{◌≡◌, suc, ◌-◌, arith, ap, sym, ◌∙◌, map, option_map, take}
use Rattle.qm_store.specs.Dictionary.{block_for, last_of, start_of}
use Rattle.qm_store.proofs.BlockOrder.{last-taken}
use Rattle.qm_store.proofs.dictionary_index.DictionaryIndex.block_of.Goals as goal

pub returns : goal.returns
returns c =
    let ss = c.as_slice-starts.result.now in
    let n = c.blocks_until-behind.result in
    let e : suc (n - 1) ≡ n = omega (arith, c.if-behind-eq0.false) in
    sym (ap (option_map (λ b. b.piece)) (
    ap (λ xs. block_for c.args.term.now (map start_of xs)) (sym c.as_slice-starts.ensures.value)
    ∙ c.blocks_until-behind.ensures.before
    ∙ ap (λ k. last_of (take k (map start_of ss))) (sym e)
    ∙ last-taken ss (n - 1) c.index-starts-behind.result (omega (arith, e, c.blocks_until-behind.ensures.within))))
