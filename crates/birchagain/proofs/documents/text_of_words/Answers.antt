use Rattle.std.proofs.Common.{◌++◌, ◌+◌, Bor, List, [], ℕ, ap, ◌∙◌, drop, get_or, lit<, map, refl, string_bytes}
use Rattle.birchagain.specs.Adding.{spaced}
use Rattle.birchagain.proofs.Spaces.{spaced-more}
use Rattle.birchagain.proofs.documents.text_of_words.Goals as goal

pub loop-word-preserved : goal.loop-word-preserved
loop-word-preserved c =
    let words = c.args.words.now in
    let none : Bor (List ℕ) = record { ref_ptr = (0, 0); now = [] } in
    let text = c.in_ok-push.ensures.bytes ∙ (λ i. c.in_ok-push_str.ensures.bytes i ++ c.in_ok-push.ensures.ascii (lit< tt) i) in
    ap (λ l. l ++ spaced (drop (c.loop-word.word-index + 1) (map (λ w. w.now) words))) text
    ∙ spaced-more (λ w. w.now) words c.loop-word.word-index (get_or words c.loop-word.word-index none) none (string_bytes c.loop-word.text)
    (spaced (map (λ w. w.now) words)) c.loop-word-test.true refl c.loop-word.invariant
