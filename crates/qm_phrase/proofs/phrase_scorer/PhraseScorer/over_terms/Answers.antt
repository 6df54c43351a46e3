-- The terms as they are handed in, moved to the first document with a start.
use Rattle.std.proofs.Common.{◌≡◌, ◌-◌, fold, map, max, ap, refl, ◌∙◌, arith, subst, sym, All}
use Rattle.qm_docset.specs.EntryFacts.{from-all}
use Rattle.qm_docset.specs.declared.docset.DocSet.{Ghosts}
use Rattle.qm_postings.specs.FieldNorms.{norm_ids}
use Rattle.qm_term.specs.TermScorer.{AreCovered}
use Rattle.qm_phrase.specs.Phrase.{phrase_entries, phrase_limits, phrase_points, shifts_of, starts_at}
use Rattle.qm_phrase.specs.PhraseFacts.{AreEntries-phrase}
use Rattle.qm_phrase.specs.PhraseScorer.{CountsAlike}
use Rattle.qm_phrase.specs.PhraseTerms.{offsets_of}
use Rattle.qm_phrase.specs.Terms.{shifts_in, term_lists}
use Rattle.qm_phrase.specs.declared.phrase_scorer.PhraseScorer.{PhraseScorer}
use Rattle.qm_phrase.proofs.HandedIn.{covered-starts, greatest-le}
use Rattle.qm_phrase.proofs.TermMoves.{paired, some-lists}
use Rattle.qm_phrase.proofs.phrase_scorer.PhraseScorer.over_terms.Goals as goal

alike : {P : Type 0} (D : Ghosts P) {s t : PhraseScorer P} → ((u : PhraseScorer P) → CountsAlike D u s → CountsAlike D u t) → CountsAlike D s t
alike D {s} keeps = keeps s (record { weighted = refl; counts = λ d some. refl })

pub new-requires-clause-greatest : goal.new-requires-clause-greatest
new-requires-clause-greatest g c = omega (
  arith,
  c.greatest_offset-greatest.ensures,
  ap (λ r. fold max 0 (map (λ t. t.0) r)) c.deref.ensures.value,
  greatest-le (offsets_of c.args.terms) c.requires.offsets,
)

pub seek-requires-clause-valid : goal.seek-requires-clause-valid
seek-requires-clause-valid g c =
    let made = c.in_ok-terms.terms in
    let ids = norm_ids c.args.fieldnorm_reader in
    record {
      terms = c.in_ok-terms.ensures.valid;
      covered = λ d some. covered-starts ids c.args.slop d (shifts_in made) (term_lists g.P.DocSet made)
          (some-lists g.P.DocSet made c.in_ok-terms.ensures.valid) (paired g.P.DocSet made)
          (subst (All (AreCovered ids)) (sym c.in_ok-terms.ensures.lists) c.requires.covered) some;
    }

pub returns-clause-lists : goal.returns-clause-lists
returns-clause-lists g c =
    let made = c.in_ok-terms.terms in
    let weight = c.args.similarity_weight in
    let points = phrase_points weight (norm_ids c.args.fieldnorm_reader) in
    let offsets = offsets_of c.args.terms in
    let greatest : c.greatest_offset-greatest.result ≡ fold max 0 offsets = c.greatest_offset-greatest.ensures
    ∙ ap (λ r. fold max 0 (map (λ t. t.0) r)) c.deref.ensures.value in
    let shifts : shifts_in made ≡ shifts_of offsets = c.in_ok-terms.ensures.shifts ∙ ap (λ n. map (λ offset. n - offset) offsets) greatest in
    let ascending = AreEntries-phrase weight (norm_ids c.args.fieldnorm_reader) c.args.slop (shifts_in made) (term_lists g.P.DocSet made) in
    record {
      entries = c.seek.ensures.entries ∙ from-all 0 0 (phrase_limits weight)
          (phrase_entries points c.args.slop (shifts_in made) (term_lists g.P.DocSet made)) (omega arith) ascending
          ∙ ap (λ s. phrase_entries points c.args.slop s (term_lists g.P.DocSet made)) shifts
          ∙ ap (phrase_entries points c.args.slop (shifts_of offsets)) c.in_ok-terms.ensures.lists;
      limits = c.seek.ensures.limits;
      valid = c.seek.ensures.valid;
      placed = c.seek.ensures.placed;
    }

pub returns-clause-counts : goal.returns-clause-counts
returns-clause-counts g c =
    let made = c.in_ok-terms.terms in
    let offsets = offsets_of c.args.terms in
    let greatest : c.greatest_offset-greatest.result ≡ fold max 0 offsets = c.greatest_offset-greatest.ensures
    ∙ ap (λ r. fold max 0 (map (λ t. t.0) r)) c.deref.ensures.value in
    let shifts : shifts_in made ≡ shifts_of offsets = c.in_ok-terms.ensures.shifts ∙ ap (λ n. map (λ offset. n - offset) offsets) greatest in
    let kept = alike g.P.DocSet c.seek.ensures.kept in
    record {
      weighted = kept.weighted;
      counts = λ d some. kept.counts d some ∙ ap (λ s. starts_at c.args.slop s (term_lists g.P.DocSet made) d) shifts
          ∙ ap (λ ess. starts_at c.args.slop (shifts_of offsets) ess d) c.in_ok-terms.ensures.lists;
    }
