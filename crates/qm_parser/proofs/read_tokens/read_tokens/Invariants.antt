use Rattle.std.proofs.Common.{map}
use Rattle.std.specs.Vec.Iter.{into_iter_items, into_iter_len}
use Rattle.qm_parser.proofs.StepLemmas.{Stepping}
use Rattle.qm_parser.specs.LevelViews.{state_of}
use Rattle.qm_parser.specs.Views.{token_of}
use Rattle.qm_parser.proofs.read_tokens.read_tokens.Given as goal

abbrev pub invariant-loop-token : goal.invariant-loop-token
invariant-loop-token l = Stepping (state_of l.text) (map token_of (into_iter_items l.token-iterator)) (into_iter_len l.token-iterator) (map token_of l.fn.tokens.items)
