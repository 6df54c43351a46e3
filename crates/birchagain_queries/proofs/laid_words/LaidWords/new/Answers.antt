use Rattle.std.proofs.Common.{◌≡◌, ◌+◌, ◌++◌, ◌∷◌, [], ◌∙◌, ℕ, List, ap, arith, get_or, length, map, sym, take}
use Rattle.std.proofs.lemmas.List.{map_push, take_more}
use Rattle.std.specs.Borrow.{Bor}
use Rattle.birchagain_queries.specs.QueryWords.{bytes_of, ends_from}
use Rattle.birchagain_queries.proofs.Words.{bytes-more, ends-more}
use Rattle.birchagain_queries.proofs.laid_words.LaidWords.new.Goals as goal

pub loop-word-preserved : goal.loop-word-preserved
loop-word-preserved c =
    let nothing : Bor (List ℕ) = record { ref_ptr = (0, 0); now = [] } in
    let at = c.loop-word.word-index in
    let words = c.args.words.now in
    let before = map (λ (w : Bor (List ℕ)). w.now) (take at words) in
    let word = (get_or words at nothing).now in
    let more : map (λ (w : Bor (List ℕ)). w.now) (take (at + 1) words) ≡ before ++ word ∷ [] =
    ap (map (λ (w : Bor (List ℕ)). w.now)) (take_more words at nothing c.loop-word-test.true)
    ∙ map_push (λ (w : Bor (List ℕ)). w.now) (take at words) (get_or words at nothing) in
    let laid : c.extend_from_slice.new.self.items ≡ bytes_of before ++ word =
    c.in_ok-extend_from_slice.ensures.items ∙ (λ j. c.loop-word.invariant.bytes j ++ c.as_bytes.ensures.value j) in
    let end : c.len.result ≡ 0 + length (bytes_of before ++ word) =
    omega (arith, c.len.ensures ∙ c.extend_from_slice.new.self.ok.0 ∙ ap length laid) in
    record {
      bytes = laid ∙ sym (bytes-more before word) ∙ ap bytes_of (sym more);
      ends = c.in_ok-push.ensures.items ∙ (λ j. c.loop-word.invariant.ends j ++ end j ∷ [])
          ∙ sym (ends-more 0 before word) ∙ ap (ends_from 0) (sym more);
    }
