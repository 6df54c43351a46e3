-- Each full term has postings of its own.
use Rattle.std.proofs.Common.{arith}
use Rattle.qm_postings.specs.FieldNorms.{norm_ids}
use Rattle.qm_phrase.proofs.HandedIn.{covered-own, length-own, offsets-own, valid-own}
use Rattle.qm_phrase.proofs.phrase_prefix_scorer.PhrasePrefixScorer.new.Goals as goal

pub over_terms-requires : goal.over_terms-requires
over_terms-requires g c =
    let items = c.args.term_postings.items in
    let made = c.in_ok-terms.terms in
    record {
      some = omega (arith, length-own g.P.DocSet items made c.in_ok-terms.ensures.offsets, c.requires.some, c.args.term_postings.ok.0);
      valid = valid-own g.P.DocSet items made c.in_ok-terms.ensures.members c.requires.valid;
      suffixes = c.requires.suffixes;
      offsets = offsets-own g.P.DocSet items made c.in_ok-terms.ensures.offsets c.requires.offsets;
      suffix_pos = c.requires.suffix_pos;
      covered = covered-own g.P.DocSet items made (norm_ids c.args.fieldnorm_reader) c.in_ok-terms.ensures.lists c.requires.covered;
    }

pub returns-clause-lists : goal.returns-clause-lists
returns-clause-lists g c = rw (c.in_ok-terms.ensures.offsets, c.in_ok-terms.ensures.lists) at c.over_terms.ensures.lists

pub returns-clause-counts : goal.returns-clause-counts
returns-clause-counts g c = rw (c.in_ok-terms.ensures.offsets, c.in_ok-terms.ensures.lists) at c.over_terms.ensures.counts
