-- The words that end before `start` are there, and good.
use Rattle.std.proofs.Common.{◌≡◌, ◌++◌, drop, map}
use Rattle.birchagain.specs.CutWords.{AreWords, words_from}
use Rattle.birchagain.proofs.cut_words.cut_words.Given as goal

abbrev pub invariant-loop-end : goal.invariant-loop-end
invariant-loop-end l = record {
  words : map (λ w. w.now) l.words.items ++ words_from l.start (drop l.end-index l.ends) l.fn.bytes ≡ words_from 0 l.ends l.fn.bytes;
  good : AreWords l.start (drop l.end-index l.ends) l.fn.bytes → AreWords 0 l.ends l.fn.bytes;
  left : AreWords 0 l.ends l.fn.bytes → AreWords l.start (drop l.end-index l.ends) l.fn.bytes;
}
