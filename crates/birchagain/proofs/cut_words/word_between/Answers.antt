use Rattle.std.proofs.Common.{◌≡◌, ◌==◌, false, ◌∙◌, lit<, sym, subst}
use Rattle.std.proofs.lemmas.Bool.{false≢true}
use Rattle.std.proofs.lemmas.Str.Pattern.{contains_char}
use Rattle.std.specs.List.{AllByRecursion}
use Rattle.birchagain.specs.CutWords.{bytes_between}
use Rattle.birchagain.proofs.Spaces.{none-spaces}
use Rattle.birchagain.proofs.cut_words.word_between.Goals as goal

pub returns-clause-good : goal.returns-clause-good
returns-clause-good c =
    let word = c.in_ok-word.word.now in
    let found = contains_char 32 word c.contains.result c.contains.ensures.cases (lit< tt) in
    let same : word ≡ bytes_between c.args.start c.args.end c.args.bytes.now = c.in_ok-word.ensures.text in record {
      text = c.in_ok-word.ensures.good;
      no_space = subst (AllByRecursion (λ b. (b == 32) ≡ false)) same (none-spaces word (λ k below is. false≢true (sym c.if-contains.false ∙ found.1 k below is)));
    }
