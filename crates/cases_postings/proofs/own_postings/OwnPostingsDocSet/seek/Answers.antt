-- The documents go on; what each has stays.
use Rattle.std.proofs.Common.{ℕ, ap, refl, ◌∙◌}
use Rattle.qm_docset.specs.Entry.{Entry}
use Rattle.qm_docset.specs.VecDocSet.{remaining_documents}
use Rattle.qm_phrase.specs.PostingUnions.{described}
use Rattle.qm_phrase.proofs.UnitedOver.{from-described}
use Rattle.cases_postings.proofs.own_postings.OwnPostingsDocSet.seek.Goals as goal

pub returns-clause-entries : goal.returns-clause-entries
returns-clause-entries c =
    let s = c.args.self.now in
    let made : ℕ → Entry = λ d. record { document = d; score = 0; frequency = s.frequency; positions = s.positions.items } in
    ap (described made) c.seek.ensures.left.entries ∙ from-described made (λ d. refl) c.args.target (remaining_documents s.documents)
