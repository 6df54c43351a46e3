-- One document more is a bit in its word, and the last.
use Rattle.std.proofs.Common.{◌≡◌, ◌+◌, ◌-◌, ◌==◌, ◌||◌, ◌++◌, ◌∷◌, [], ap, sym, get_or, take, ◌∙◌}
use Rattle.std.specs.List.{list_any}
use Rattle.std.proofs.lemmas.List.{take_more}
use Rattle.std.proofs.lemmas.List.Folds.{list_any-append}
use Rattle.qm_docset.specs.Words.{words_have}
use Rattle.qm_combine.specs.WindowStates.{last_or}
use Rattle.qm_combine.proofs.Marking.{last_or-push, or_turned}
use Rattle.qm_combine.proofs.Windows.{or_false}
use Rattle.qm_combine.proofs.union.window.mark_row.Goals as goal

pub loop-doc-preserved : goal.loop-doc-preserved
loop-doc-preserved c =
    let inv = c.loop-doc.invariant in
    let docs = c.args.documents.now in
    let i = c.loop-doc.doc-index in
    let doc = get_or docs i 0 in
    let start = c.args.start in
    let had = words_have c.args.buckets.now in
    let more : take (i + 1) docs ≡ take i docs ++ doc ∷ [] = take_more docs i 0 c.loop-doc-test.true in
    record {
      long = c.mark_place.auto.buckets ∙ inv.long;
      last = sym (ap (last_or c.args.last) more ∙ last_or-push c.args.last (take i docs) doc);
      added = λ x.
          c.mark_place.ensures.documents x ∙ ap (λ b. x == doc - start || b) (inv.added x)
          ∙ sym (or_turned (list_any (λ d. x == d - start) (take i docs)) (x == doc - start) (had x))
          ∙ sym (ap (λ b. (list_any (λ d. x == d - start) (take i docs) || b) || had x) (or_false (x == doc - start)))
          ∙ sym (ap (λ b. b || had x) (ap (list_any (λ d. x == d - start)) more ∙ list_any-append (λ d. x == d - start) (take i docs) (doc ∷ [])));
    }
