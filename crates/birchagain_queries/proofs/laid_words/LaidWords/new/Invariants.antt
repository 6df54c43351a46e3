-- The words before this one stand there.
use Rattle.std.proofs.Common.{◌≡◌, map, take}
use Rattle.birchagain_queries.specs.QueryWords.{bytes_of, ends_from}
use Rattle.birchagain_queries.proofs.laid_words.LaidWords.new.Given as goal

abbrev pub invariant-loop-word : goal.invariant-loop-word
invariant-loop-word l = record {
  bytes : l.bytes.items ≡ bytes_of (map (λ w. w.now) (take l.word-index l.words));
  ends : l.ends.items ≡ ends_from 0 (map (λ w. w.now) (take l.word-index l.words));
}
