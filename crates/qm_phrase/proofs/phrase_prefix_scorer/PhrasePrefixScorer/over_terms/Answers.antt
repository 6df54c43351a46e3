-- The terms as they are handed in, moved to the first document that counts.
use Rattle.std.proofs.Common.{◌<◌, ap, refl, subst, ◌∙◌, arith}
use Rattle.qm_docset.specs.EntryFacts.{from-all}
use Rattle.qm_postings.specs.FieldNorms.{norm_ids}
use Rattle.qm_docset.specs.Lists.{lists}
use Rattle.qm_phrase.specs.PhrasePrefix.{has_several, lists_over, prefix_count, prefix_entries, prefix_limits}
use Rattle.qm_phrase.specs.PhrasePrefixFacts.{AreEntries-prefix}
use Rattle.qm_phrase.specs.PhrasePrefixScorer.{PrefixAlike}
use Rattle.qm_phrase.specs.PhraseTerms.{lists_given, offsets_of}
use Rattle.qm_phrase.specs.PrefixTerms.{lists_of}
use Rattle.qm_phrase.specs.declared.phrase_prefix_scorer.PhrasePrefixScorer.{PhrasePrefixScorer}
use Rattle.qm_docset.specs.declared.docset.DocSet.{Ghosts}
use Rattle.qm_phrase.proofs.HandedIn.{paired-given, some-given}
use Rattle.qm_phrase.proofs.PrefixMoves.{prefix-covered}
use Rattle.std.proofs.lemmas.Grind.{common_steps}
use Rattle.qm_phrase.proofs.phrase_prefix_scorer.PhrasePrefixScorer.over_terms.Goals as goal

alike : {P : Type 0} (D : Ghosts P) {s t : PhrasePrefixScorer P} → ((u : PhrasePrefixScorer P) → PrefixAlike D u s → PrefixAlike D u t) → PrefixAlike D s t
alike D {s} keeps = keeps s (record { counts = λ d some. refl })

pub seek-requires-clause-valid : goal.seek-requires-clause-valid
seek-requires-clause-valid g c =
    let t = lists_over (offsets_of c.args.terms) (lists_given g.P.DocSet c.args.terms) c.args.suffix_pos (lists g.P.DocSet c.args.suffixes.items) in
    record {
      terms = c.in_ok-terms.ensures.valid;
      covered = λ d some. prefix-covered (norm_ids c.args.fieldnorm_reader) d t (some-given g.P.DocSet c.args.terms c.requires.some)
          (paired-given g.P.DocSet c.args.terms c.args.suffix_pos) c.requires.covered
          (subst (λ t. 0 < prefix_count t d) c.in_ok-terms.ensures.lists some);
    }

pub returns-clause-lists : goal.returns-clause-lists
returns-clause-lists g c =
    let weight = c.args.similarity_weight in
    let ids = norm_ids c.args.fieldnorm_reader in
    let t = lists_of g.P.DocSet c.in_ok-terms.terms in
    record {
      entries = c.seek.ensures.entries ∙ from-all 0 0 (prefix_limits weight (has_several t)) (prefix_entries weight ids t)
          (omega arith) (AreEntries-prefix weight ids t) ∙ ap (prefix_entries weight ids) c.in_ok-terms.ensures.lists;
      limits = c.seek.ensures.limits ∙ ap (λ u. prefix_limits weight (has_several u)) c.in_ok-terms.ensures.lists;
      valid = c.seek.ensures.valid;
      placed = c.seek.ensures.placed;
    }

pub returns-clause-counts : goal.returns-clause-counts
returns-clause-counts g c d some =
    (alike g.P.DocSet c.seek.ensures.kept).counts d some ∙ ap (λ u. prefix_count u d) c.in_ok-terms.ensures.lists

pub seek-requires-clause-target : goal.seek-requires-clause-target
seek-requires-clause-target g c = grind (arith, common_steps)

pub returns-in_err-terms-clause-memory : goal.returns-in_err-terms-clause-memory
returns-in_err-terms-clause-memory g c = grind (arith, common_steps)
