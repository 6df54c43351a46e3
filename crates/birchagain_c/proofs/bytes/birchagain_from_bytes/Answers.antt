use Rattle.std.proofs.Common.{◌∙◌, ap, inr}
use Rattle.birchagain_bytes.specs.Statuses.{status_of}
use Rattle.birchagain_c.proofs.bytes.birchagain_from_bytes.Goals as goal

pub returns-in-Err-clause-whole : goal.returns-in-Err-clause-whole
returns-in-Err-clause-whole c = λ saved are norms. inr (c.status.ensures ∙ ap status_of (c.in-Err.ensures.whole saved are norms))
