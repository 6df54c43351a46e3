use Rattle.std.proofs.Common.{◌+◌, ◌-◌, ◌++◌, None, Some, ap, arith, drop, filter, length, map, option_to_list, sym, ◌∙◌, take, take_all}
use Rattle.std.proofs.lemmas.List.{drop-map, length-drop, length-map, take-map}
use Rattle.qm_store.specs.Dictionary.{ascend, block_for, blocks_behind, start_of}
use Rattle.qm_store.specs.Wanted.{is_meant}
use Rattle.qm_store.proofs.BlocksOf.{behind-ascends, spanned}
use Rattle.qm_store.proofs.dictionary_index.DictionaryIndex.blocks_of.Goals as goal

pub blocks_meant-requires : goal.blocks_meant-requires
blocks_meant-requires c =
    let ss = c.as_slice-starts.result.now in
    let n = c.blocks_until-behind.result in
    let t = c.args.wanted.now.term in
    let all = take_all (length ss - n) (drop n ss) (omega (arith, length-drop n ss)) in
    let up = ap (λ xs. ascend None (map start_of xs)) c.as_slice-starts.ensures.value ∙ c.args.self.now.ascending in
    ap (λ xs. ascend (Some t) (map start_of xs)) all
    ∙ ap (ascend (Some t)) (sym (drop-map start_of n ss) ∙ sym c.blocks_until-behind.ensures.behind)
    ∙ behind-ascends t None (map start_of ss) up

pub returns : goal.returns
returns c =
    let ss = c.as_slice-starts.result.now in
    let bs = map start_of ss in
    let n = c.blocks_until-behind.result in
    let m = c.blocks_meant.result in
    let low = c.saturating_sub.result in
    let w = c.args.wanted.now in
    let all = ap (map start_of) (take_all (length ss - n) (drop n ss) (omega (arith, length-drop n ss))) in
    let behind = c.blocks_until-behind.ensures.behind ∙ drop-map start_of n ss ∙ sym all in
    let meant = ap (filter (λ b. is_meant w b.first)) behind ∙ c.blocks_meant.ensures.meant ∙ ap (take m) (all ∙ sym (drop-map start_of n ss)) in
    sym (take-map start_of (n + m - low) (drop low ss))
    ∙ ap (take (n + m - low)) (sym (drop-map start_of low ss))
    ∙ spanned bs n m low (omega (arith, length-map ss start_of, c.blocks_until-behind.ensures.within)) c.saturating_sub.ensures
    ∙ (λ i. option_to_list (sym c.blocks_until-behind.ensures.before i) ++ sym meant i)
    ∙ ap (λ xs. option_to_list (block_for w.term (map start_of xs)) ++ filter (λ b. is_meant w b.first) (blocks_behind w.term (map start_of xs))) c.as_slice-starts.ensures.value
