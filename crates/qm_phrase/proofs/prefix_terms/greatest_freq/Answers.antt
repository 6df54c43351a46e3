use Rattle.std.proofs.Common.{arith}
use Rattle.std.proofs.lemmas.Grind.{common_steps}
use Rattle.qm_phrase.proofs.prefix_terms.greatest_freq.Goals as goal

pub loop-member-preserved : goal.loop-member-preserved
loop-member-preserved g c = grind (arith, common_steps)

pub max_term_freq-requires : goal.max_term_freq-requires
max_term_freq-requires g c = grind (arith, common_steps)

pub max-greatest-requires : goal.max-greatest-requires
max-greatest-requires g c = grind (arith, common_steps)
