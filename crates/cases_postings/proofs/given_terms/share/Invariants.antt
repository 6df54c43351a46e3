use Rattle.std.proofs.Common.{◌≡◌, ◌≤◌, All, length}
use Rattle.cases_postings.specs.GivenTerms.{IsGiven}
use Rattle.cases_postings.specs.contracts.own_postings.OwnPostingsDocSet.TheImpl as own
use Rattle.qm_phrase.specs.PhraseTerms.{members_of, offsets_of}
use Rattle.cases_postings.proofs.given_terms.share.Given as goal

abbrev pub invariant-loop-term : goal.invariant-loop-term
invariant-loop-term l = record {
  valid : All IsGiven l.yielded → All own.ghosts.valid (members_of l.made);
  offsets : All IsGiven l.yielded → All (λ offset. offset ≤ 4294967295) (offsets_of l.made);
  count : length (offsets_of l.made) ≡ length l.yielded;
}
