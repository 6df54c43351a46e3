use Rattle.qm_script.specs.ScriptSegments.{script}
use Rattle.qm_script.proofs.SegmentTexts.{ended-taken}
use Rattle.qm_script.proofs.corpus.Corpus.end_segment.Goals as goal

pub returns-clause-taken : goal.returns-clause-taken
returns-clause-taken c = ended-taken c.end_segment.result (script c.args.self.now) c.end_segment.ensures.many.1
