-- Each document has the same frequency.
use Rattle.std.proofs.Common.{ℕ, arith, refl, sym}
use Rattle.qm_docset.specs.Entry.{Entry}
use Rattle.qm_docset.specs.VecDocSet.{remaining_documents}
use Rattle.qm_phrase.proofs.UnitedOver.{head_document-described, head_frequency-described}
use Rattle.cases_postings.proofs.own_postings.OwnPostingsPostings.term_freq.Goals as goal

pub returns : goal.returns
returns c =
    let s = c.args.self.now in
    let made : ℕ → Entry = λ d. record { document = d; score = 0; frequency = s.frequency; positions = s.positions.items } in
    let set = remaining_documents s.documents in
    sym (head_frequency-described made (λ d. refl) set (omega (arith, c.requires.here, head_document-described made (λ d. refl) set)))
