-- What a query with words, clauses or disjuncts stands for in the language.
use Rattle.std.proofs.Common.{◌≡◌, ◌∙◌, ℕ, Vec, String, map, subst, sym}
use Rattle.std.specs.Global.{Global}
use Rattle.qm_schema.specs.declared.occur.Occur.{Occur}
use Rattle.qm_script.specs.Script.{boolean, as_clauses, disjunction_max, phrase, queries_of, Query}
use Rattle.qm_script.specs.Spelled.{spelled_clause, layer_of, query_of, texts}
use Rattle.qm_script.specs.declared.spelled_query.SpelledQuery.{SpelledQuery}
use Rattle.qm_script.specs.declared.spelled_query.SpelledQuery.TheFolds.{fold-roll-SpelledQuery, fold_out-SpelledQuery}
use Rattle.qm_script.specs.declared.spelled_query.SpelledQuery.TheOpen as open_query
use Rattle.qm_script.specs.declared.spelled_query.SpelledQuery.TheOpen.{SpelledQuery-F}
use Rattle.qm_script.specs.declared.spelled_query.SpelledQuery.TheViews.{out-SpelledQuery, roll-SpelledQuery}

rolled : (q : SpelledQuery) (o : SpelledQuery-F SpelledQuery) → out-SpelledQuery q ≡ o → query_of q ≡ query_of (roll-SpelledQuery o)
rolled q o is = subst (λ o. query_of q ≡ query_of (roll-SpelledQuery o)) is
    (fold_out-SpelledQuery Query layer_of q ∙ sym (fold-roll-SpelledQuery Query layer_of (out-SpelledQuery q)))

pub query_of-phrase : (q : SpelledQuery) (slop : ℕ) (words : Vec (String Global) Global) →
    out-SpelledQuery q ≡ open_query.Phrase slop words → query_of q ≡ phrase slop (texts words.items)
query_of-phrase q slop words is = rolled q (open_query.Phrase slop words) is ∙ fold-roll-SpelledQuery Query layer_of (open_query.Phrase slop words)

pub query_of-boolean : (q : SpelledQuery) (minimum : ℕ) (clauses : Vec (Occur × SpelledQuery) Global) →
    out-SpelledQuery q ≡ open_query.Boolean minimum clauses → query_of q ≡ boolean minimum (as_clauses (map spelled_clause clauses.items))
query_of-boolean q minimum clauses is = rolled q (open_query.Boolean minimum clauses) is
    ∙ fold-roll-SpelledQuery Query layer_of (open_query.Boolean minimum clauses)

pub query_of-disjunction_max : (q : SpelledQuery) (tie_breaker : ℕ) (disjuncts : Vec SpelledQuery Global) →
    out-SpelledQuery q ≡ open_query.DisjunctionMax tie_breaker disjuncts → query_of q ≡ disjunction_max tie_breaker (queries_of (map query_of disjuncts.items))
query_of-disjunction_max q tie_breaker disjuncts is = rolled q (open_query.DisjunctionMax tie_breaker disjuncts) is
    ∙ fold-roll-SpelledQuery Query layer_of (open_query.DisjunctionMax tie_breaker disjuncts)
