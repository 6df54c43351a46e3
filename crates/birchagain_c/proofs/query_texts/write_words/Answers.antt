use Rattle.std.proofs.Common.{length, subst, sym}
use Rattle.std.proofs.lemmas.Result.{IfErr-weaker, on_ok_weaker}
use Rattle.birchagain_c.specs.QueryTexts.{IsWordsRefusal}
use Rattle.birchagain_c.proofs.query_texts.write_words.Goals as goal

pub returns-clause-told : goal.returns-clause-told
returns-clause-told c =
    on_ok_weaker c.write_laid.result (λ has. (c.in_ok-laid.laid, (c.in_ok-laid.ensures.words, c.write_laid.ensures.told), has)) c.write_laid.ensures.written

pub returns-clause-room : goal.returns-clause-room
returns-clause-room c = λ why. (c.in_ok-laid.laid, (c.in_ok-laid.ensures.words, c.write_laid.ensures.told))

pub returns-clause-refused : goal.returns-clause-refused
returns-clause-refused c =
    let IsRefusal = IsWordsRefusal c.args.language c.args.text.now (length c.args.bytes.now) (length c.args.ends.now) in
    IfErr-weaker c.write_laid.result _ IsRefusal
    (λ e why. subst IsRefusal (sym why.0) (c.in_ok-laid.laid, c.in_ok-laid.ensures.words, why.1)) c.write_laid.ensures.refused
