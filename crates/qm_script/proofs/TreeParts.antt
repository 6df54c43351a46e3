-- What a query's tree matches and scores over the parts of a segment is what it does over the segment.
use Rattle.std.proofs.Common.{◌≡◌, ℕ, true, refl, ap, sym, ◌∙◌}
use Rattle.qm_postings.specs.Segment.{Segment}
use Rattle.qm_weight.specs.Looking.{AreAlike, IsAlike}
use Rattle.qm_weight.specs.LookingFacts.{matches-alike, score-alike}
use Rattle.qm_weight.specs.Tree.{Tree, Clauses, all, none, term, phrase, phrase_prefix, boolean, boost, constant, clause, no_clause, matches, score}
use Rattle.qm_script.specs.PrefixFree.{PrefixTest, all_prefixes, clauses_all_prefixes}
use Rattle.qm_script.specs.Reached.{Reaches}
use Rattle.qm_script.proofs.PrefixDocuments.{alone, document_at, prefix_matches-alone}
use Rattle.qm_script.proofs.ReachedParts.{both-left, both-right}

-- ---- one document decides, where each prefix is expanded to all terms that begin with it

-- both halves of what is true

module _ (test : PrefixTest) (s : Segment) (d : ℕ) (reach : Reaches test s) where
  abbrev one : Segment
  one = alone s.schema (document_at s d)

  mutual
    alike-alone : (tree : Tree) → all_prefixes test tree ≡ true → IsAlike s d one 0 tree
    alike-alone all pass = tt
    alike-alone none pass = tt
    alike-alone (term t option weight) pass = record { held = refl; often = λ option. refl }
    alike-alone (phrase terms slop weight) pass = λ k t within. refl
    alike-alone (phrase_prefix full prefix most weight) pass =
        (λ k t within. refl, prefix_matches-alone s d full prefix most (reach prefix.term most pass))
    alike-alone (boolean scoring minimum combiner clauses) pass = clauses_alike-alone clauses pass
    alike-alone (boost k inside) pass = alike-alone inside pass
    alike-alone (constant k inside) pass = alike-alone inside pass

    clauses_alike-alone : (clauses : Clauses) → clauses_all_prefixes test clauses ≡ true → AreAlike s d one 0 clauses
    clauses_alike-alone no_clause pass = tt
    clauses_alike-alone (clause occur inside clauses) pass = (
      alike-alone inside (both-left (all_prefixes test inside) (clauses_all_prefixes test clauses) pass),
      clauses_alike-alone clauses (both-right (all_prefixes test inside) (clauses_all_prefixes test clauses) pass),
    )

  matches-alone : (tree : Tree) → all_prefixes test tree ≡ true → matches tree s d ≡ matches tree one 0
  matches-alone tree pass = matches-alike s d one 0 tree (alike-alone tree pass)

  score-alone : (tree : Tree) (b : ℕ) → all_prefixes test tree ≡ true → score tree b s d ≡ score tree b one 0
  score-alone tree b pass = score-alike s d one 0 (λ field. refl) tree b (alike-alone tree pass)

-- two segments of one schema, which have the same document here and there

module _ (test : PrefixTest) (tree : Tree) (pass : all_prefixes test tree ≡ true) (s t : Segment) (reach : Reaches test s) (reach_too : Reaches test t)
    (d e : ℕ) (schema : s.schema ≡ t.schema) (document : document_at s d ≡ document_at t e) where
  same : alone s.schema (document_at s d) ≡ alone t.schema (document_at t e)
  same = ap (λ f. alone f (document_at s d)) schema ∙ ap (λ x. alone t.schema x) document

  pub matches-same : matches tree s d ≡ matches tree t e
  matches-same = matches-alone test s d reach tree pass ∙ ap (λ a. matches tree a 0) same ∙ sym (matches-alone test t e reach_too tree pass)

  pub score-same : (b : ℕ) → score tree b s d ≡ score tree b t e
  score-same b = score-alone test s d reach tree b pass ∙ ap (λ a. score tree b a 0) same ∙ sym (score-alone test t e reach_too tree b pass)
