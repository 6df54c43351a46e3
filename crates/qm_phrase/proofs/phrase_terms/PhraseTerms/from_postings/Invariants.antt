use Rattle.std.proofs.Common.{◌≡◌, map}
use Rattle.qm_phrase.specs.PhraseTerms.{lists_given, members_of, offsets_of}
use Rattle.qm_phrase.proofs.phrase_terms.PhraseTerms.from_postings.Given as goal

abbrev pub invariant-loop-offset : goal.invariant-loop-offset
invariant-loop-offset g l = record {
  offsets : offsets_of l.made ≡ map (λ pair. pair.0) l.yielded;
  lists : lists_given g.P.DocSet l.made ≡ map (λ pair. g.P.DocSet.entries pair.1) l.yielded;
  members : members_of l.made ≡ map (λ pair. pair.1) l.yielded;
}
