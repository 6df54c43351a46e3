-- Every document that a cursor lists is below the end.
use Rattle.std.proofs.Common.{ℕ, ◌+◌, ◌<◌, List, [], ◌∷◌, All}
use Rattle.std.proofs.lemmas.List.Elements.{All-cons, All-nil}
use Rattle.qm_docset.specs.Entry.{Entry, Limits, AreEntries}
use Rattle.qm_docset.specs.declared.numbers.TheConstants.{TERMINATED}

pub all-below_end : (low : ℕ) (limits : Limits) (es : List Entry) → AreEntries low limits es → All (λ e. e.document < TERMINATED) es
all-below_end low limits [] a = All-nil (λ e. e.document < TERMINATED)
all-below_end low limits (e ∷ es) a = All-cons (λ e. e.document < TERMINATED) e es a.here.below_end (all-below_end (e.document + 1) limits es a.others)
