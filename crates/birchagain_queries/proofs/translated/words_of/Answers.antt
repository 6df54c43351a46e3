use Rattle.std.proofs.Common.{◌==◌, ◌∙◌, ap, filter, length, lit<, not}
use Rattle.std.proofs.lemmas.Iterator.Consumers.{YieldsList-end}
use Rattle.std.proofs.lemmas.Iterator.Splits.{YieldsList-from_str_split}
use Rattle.std.specs.Str.Iter.{split_has_more, split_pattern, split_text}
use Rattle.qm_postings.specs.Document.{words_of}
use Rattle.birchagain_queries.proofs.translated.words_of.Goals as goal

pub returns : goal.returns
returns c =
    let same = c.into_iter-piece-iterator.ensures.into_iter_gives in
    let from = c.split-piece-items.ensures in
    let cut = YieldsList-from_str_split 32 c.as_str.result.now (lit< tt) (ap split_text same ∙ from.text)
    (ap split_has_more same ∙ from.has_more) (ap split_pattern same ∙ from.pattern) in
    let all = YieldsList-end cut c.loop-piece.yielded _ c.loop-piece.yielded_by _ _ c.in-None.is c.next.ensures.steps in
    c.loop-piece.invariant ∙ ap (λ pieces. filter (λ w. not (length w == 0)) pieces) all.0 ∙ ap words_of c.as_str.ensures.value
