use Rattle.std.proofs.Common.{get_or, subst}
use Rattle.std.proofs.lemmas.List.{drop_more}
use Rattle.std.proofs.lemmas.Result.{err_from_is_err_and}
use Rattle.birchagain.specs.CutWords.{AreWords, IsWord}
use Rattle.birchagain.proofs.WordRefusals.{cut-refused}
use Rattle.birchagain.proofs.cut_words.cut_words.Goals as goal

pub returns-in_err-word-clause-refused : goal.returns-in_err-word-clause-refused
returns-in_err-word-clause-refused c =
    let p = err_from_is_err_and c.from_residual-in_err-word.result c.from_residual-in_err-word.ensures.1 in
    let bytes = c.args.bytes.now in
    let ends = c.args.ends.now in
    let end = get_or ends c.loop-end.end-index 0 in
    let first : AreWords 0 ends bytes → IsWord c.loop-end.start end bytes =
    λ all. (subst (λ l. AreWords c.loop-end.start l bytes) (drop_more ends c.loop-end.end-index 0 c.loop-end-test.true) (c.loop-end.invariant.left all)).0 in
    rw (p.1, p.2) (cut-refused c.in_err-word.field-0.0 (IsWord c.loop-end.start end bytes) (AreWords 0 ends bytes) first c.in_err-word.ensures.refused)
