-- The scorer of a phrase prefix is placed where the weight's is.
use Rattle.std.proofs.Common.{rules}
use Rattle.cases_given.proofs.phrase_counts.write_counts.Goals as goal

pub count_prefix-requires : goal.count_prefix-requires
count_prefix-requires g c =
    let placed = c.in-Ok-PhrasePrefix.ensures.scorer.placed in
    search rules
