-- Where one term is at its end, no document is left.
use Rattle.std.proofs.Common.{refl, arith}
use Rattle.qm_docset.specs.declared.numbers.TheConstants.{TERMINATED}
use Rattle.qm_phrase.specs.declared.prefix_terms.PrefixTerms.{PrefixTerms}
use Rattle.qm_phrase.proofs.FullTerms.{IsCommonBuffer-kept}
use Rattle.qm_phrase.proofs.PrefixMoves.{HaveGoneOn-terms}
use Rattle.qm_phrase.proofs.prefix_terms.PrefixTerms.go_to_end.Goals as goal

pub returns-clause-moved : goal.returns-clause-moved
returns-clause-moved g c =
    let self = c.args.self.now in
    let new : PrefixTerms g.row.P.Denot = record {
      full = c.go_to_end.new.self;
      common = self.common;
      suffixes = self.suffixes;
      suffix_places = self.suffix_places;
    } in
    HaveGoneOn-terms g.P.DocSet TERMINATED self new (c.go_to_end.ensures.moved 0) refl refl

pub returns-clause-valid : goal.returns-clause-valid
returns-clause-valid g c =
    let self = c.args.self.now in
    let moved = c.go_to_end.ensures.moved 0 in
    record {
      full = moved.valid;
      common = IsCommonBuffer-kept g.P.DocSet self.full c.go_to_end.new.self self.common self.common c.requires.valid.common
          c.go_to_end.ensures.limits moved.terms refl (omega arith);
      suffixes = c.requires.valid.suffixes;
      shift = c.requires.valid.shift;
    }
