use Rattle.std.proofs.Common.{sym, subst}
use Rattle.qm_store.specs.StoredSegment.{GivesReader, opened_of}
use Rattle.qm_store.proofs.stored_segment.StoredSegment.whole.Goals as goal

pub returns-clause-given : goal.returns-clause-given
returns-clause-given g c = λ file known.
    subst (GivesReader c.args.schema.now (opened_of c.args.self.now) c.made_of.result) (sym (c.in_ok-rows.ensures file known)) c.made_of.ensures.given
