use Rattle.std.proofs.lemmas.Str.{IsCharBoundary-start}
use Rattle.qm_script.proofs.words.Words.new.Goals as goal

pub invariant_of-result : goal.invariant_of-result
invariant_of-result c = record { boundary = IsCharBoundary-start c.args.line.now c.utf8.line }
