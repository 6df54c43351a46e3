use Rattle.std.proofs.Common.{◌≡◌, ℕ, ◌-◌, ◌==◌, ◌||◌, length, take}
use Rattle.std.specs.List.{list_any}
use Rattle.qm_docset.specs.Words.{words_have}
use Rattle.qm_combine.specs.WindowStates.{last_or}
use Rattle.qm_combine.proofs.union.window.mark_row.Given as goal

abbrev pub invariant-loop-doc : goal.invariant-loop-doc
invariant-loop-doc l = record {
  long : length l.buckets ≡ 64;
  last : l.latest ≡ last_or l.fn.last (take l.doc-index l.fn.documents);
  added : (x : ℕ) → words_have l.buckets x ≡ (list_any (λ d. x == d - l.fn.start) (take l.doc-index l.fn.documents) || words_have l.fn.buckets x);
}
