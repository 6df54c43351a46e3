-- What the scorer's document scores is its share times the boost.
use Rattle.std.proofs.Common.{◌≡◌, ◌*◌, arith}
use Rattle.qm_docset.specs.Entry.{head_score}
use Rattle.qm_term.specs.Bm25.{share_of}
use Rattle.qm_term.specs.Bm25Weight.{weighing}
use Rattle.qm_term.specs.TermScorer.{boost_of, scored_left}
use Rattle.qm_term.specs.TermScorerFacts.{scoring}
use Rattle.qm_term.proofs.term_scorer.TermScorer.earns_less.Goals as goal

pub returns-clause-yes : goal.returns-clause-yes
returns-clause-yes g c = λ is.
    let s = c.args.self.now in
    let part = share_of (weighing s.similarity_weight) c.fieldnorm_id.result c.term_freq.result in
    let score : head_score (scored_left s) ≡ boost_of s * part = grind (arith, scoring) in
    (part, c.earns_less.ensures.yes is, score)

pub returns-clause-no : goal.returns-clause-no
returns-clause-no g c = λ is some.
    let s = c.args.self.now in
    let part = share_of (weighing s.similarity_weight) c.fieldnorm_id.result c.term_freq.result in
    let score : head_score (scored_left s) ≡ boost_of s * part = grind (arith, scoring) in
    (part, c.earns_less.ensures.no is (omega (arith, some, c.term_freq.ensures)), score)
