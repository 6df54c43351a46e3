-- What is spelled is read back.
use Rattle.std.proofs.Common.{◌≡◌, ◌<◌, ◌≤◌, ◌+◌, ◌^◌, ℕ, zero, suc, ℤ, pos, negsuc, List, [], ◌∷◌, ◌++◌, codes, Option, Some, length, refl, ap, sym, ◌∙◌}
use Rattle.std.proofs.Common.{append_assoc, arith}
use Rattle.std.proofs.lemmas.Fmt.{decimal_is_IsNumeral}
use Rattle.std.specs.Fmt.{decimal, signed_decimal}
use Rattle.qm_schema.specs.declared.occur.Occur.{Occur}
use Rattle.qm_schema.specs.declared.occur.Occur.TheVariants.{Should, Must, MustNot}
use Rattle.qm_script.specs.Script.{Clauses, Queries, Query, QueryReader, WordsReader, all, behind_form, boolean, boolean_at, boost, boost_at, clause, clause_at}
use Rattle.qm_script.specs.Script.{clause_list, as_clauses, constant, constant_at, count_word_at, disjunction_max, disjunction_max_at, document_at, form_at}
use Rattle.qm_script.specs.Script.{form_named, many_at, no_clause, no_query, none, number_below, occur_named, phrase, phrase_at, phrase_prefix}
use Rattle.qm_script.specs.Script.{phrase_prefix_at, queries_of, query, query_at, score_at, sign_at, term, term_query_at, threshold_at, word_at, ◌>>=◌}
use Rattle.qm_script.specs.Spelling.{CanBeSpelled, ClausesCanBeSpelled, IsCount, IsDocumentNumber, IsScore, IsSpelledThreshold, QueriesCanBeSpelled, clause_count}
use Rattle.qm_script.specs.Spelling.{clauses_depth, queries_depth, query_count, query_depth, sign, spelled, spelled_clauses, spelled_queries}
use Rattle.qm_script.specs.declared.form.QueryForm.{QueryForm}
use Rattle.qm_script.specs.declared.form.QueryForm.TheVariants.{All, Empty, Term, Phrase, PhrasePrefix, Boolean, Boost, Const, DisjunctionMax}
use Rattle.qm_script.proofs.Numbers.{number-below, threshold-minus, threshold-plain}

-- a step that reads, and the one behind it
pub read-then : {A B : Type 0} (o : Option A) (a : A) (f : A → Option B) (r : Option B) → o ≡ Some a → f a ≡ r → (o >>= f) ≡ r
read-then o a f r e k = ap (λ x. x >>= f) e ∙ k

-- ---- words, numbers and signs

number-read : (limit n : ℕ) → n < limit → limit ≤ 2 ^ 64 → number_below limit (decimal n) ≡ Some n
number-read limit n below wide =
    let k = decimal_is_IsNumeral n (omega arith) in
    sym (number-below limit (decimal n) (Some n) ((k.0, omega (arith, k.1)), sym k.1))

pub count-read : (n : ℕ) (words : List (List ℕ)) → IsCount n → count_word_at (decimal n ∷ words) ≡ Some (n, words)
unfolding count_word_at
count-read n words h = ap (λ o. o >>= λ m. Some (m, words)) (number-read (2 ^ 32) n h (omega arith))

pub score-read : (s : ℤ) (words : List (List ℕ)) → IsScore s → score_at (signed_decimal s ∷ words) ≡ Some (s, words)
unfolding score_at
score-read (pos n) words h = ap (λ o. o >>= λ m. Some (pos m, words)) (number-read (2 ^ 63) n h (omega arith))
score-read (negsuc n) words h = absurd h

pub document-read : (n : ℕ) (words : List (List ℕ)) → IsDocumentNumber n → document_at (decimal n ∷ words) ≡ Some (n, words)
unfolding document_at
document-read n words h = ap (λ o. o >>= λ m. Some (m, words)) (number-read (2 ^ 64) n h (omega arith))

pub threshold-read : (t : ℤ) (words : List (List ℕ)) → IsSpelledThreshold t → threshold_at (signed_decimal t ∷ words) ≡ Some (t, words)
unfolding threshold_at
threshold-read (pos n) words h =
    let numeral = decimal_is_IsNumeral n (omega arith) in
    ap (λ o. o >>= λ t. Some (t, words)) (threshold-plain (decimal n) n numeral.0 (number-read (2 ^ 63) n h (omega arith)))
threshold-read (negsuc n) words h =
    ap (λ o. o >>= λ t. Some (t, words)) (threshold-minus (decimal (suc n)) (suc n) (number-read (2 ^ 63 + 1) (suc n) (omega arith) (omega arith)))

sign-read : (occur : Occur) (words : List (List ℕ)) → sign_at (sign occur ∷ words) ≡ Some (occur, words)
unfolding sign_at occur_named
sign-read Must words = refl
sign-read Should words = refl
sign-read MustNot words = refl

-- one thing more of a row
many-read : {X : Type 0} (one : WordsReader X) (count : ℕ) (x : X) (xs : List X) (words between rest : List (List ℕ)) →
    one words ≡ Some (x, between) → many_at one count between ≡ Some (xs, rest) → many_at one (suc count) words ≡ Some (x ∷ xs, rest)
unfolding many_at
many-read one count x xs words between rest first others =
    read-then (one words) (x, between) _ _ first (read-then (many_at one count between) (xs, rest) _ _ others refl)

none-read : {X : Type 0} (one : WordsReader X) (words : List (List ℕ)) → many_at one zero words ≡ Some ([], words)
unfolding many_at
none-read one words = refl

words-read : (words rest : List (List ℕ)) → many_at word_at (length words) (words ++ rest) ≡ Some (words, rest)
words-read [] rest = none-read word_at rest
words-read (w ∷ words) rest = many-read word_at (length words) w words (w ∷ (words ++ rest)) (words ++ rest) rest refl (words-read words rest)

-- ---- what stands behind the first word

form-read : (depth : ℕ) (w : List ℕ) (words : List (List ℕ)) (form : QueryForm) (r : Option (Query × List (List ℕ))) →
    form_named w ≡ Some form → behind_form (query_at depth) form words ≡ r → query_at (suc depth) (w ∷ words) ≡ r
unfolding query_at form_at
form-read depth w words form r named behind = read-then (form_named w) form _ r named behind

all-read : (depth : ℕ) (words : List (List ℕ)) → query_at (suc depth) (codes "all" ∷ words) ≡ Some (all, words)
unfolding form_named behind_form
all-read depth words = form-read depth (codes "all") words All _ refl refl

none-query-read : (depth : ℕ) (words : List (List ℕ)) → query_at (suc depth) (codes "none" ∷ words) ≡ Some (none, words)
unfolding form_named behind_form
none-query-read depth words = form-read depth (codes "none") words Empty _ refl refl

term-read : (depth : ℕ) (word : List ℕ) (words : List (List ℕ)) → query_at (suc depth) (codes "term" ∷ word ∷ words) ≡ Some (term word, words)
unfolding form_named behind_form term_query_at
term-read depth word words = form-read depth (codes "term") (word ∷ words) Term _ refl refl

phrase-read : (depth slop : ℕ) (words rest : List (List ℕ)) → IsCount slop → IsCount (length words) →
    query_at (suc depth) (codes "phrase" ∷ decimal slop ∷ decimal (length words) ∷ (words ++ rest)) ≡ Some (phrase slop words, rest)
unfolding form_named behind_form phrase_at
phrase-read depth slop words rest in_range few =
    let behind = decimal slop ∷ decimal (length words) ∷ (words ++ rest) in
    form-read depth (codes "phrase") behind Phrase _ refl
    (read-then (count_word_at behind) (slop, decimal (length words) ∷ (words ++ rest)) _ _ (count-read slop (decimal (length words) ∷ (words ++ rest)) in_range)
    (read-then (count_word_at (decimal (length words) ∷ (words ++ rest))) (length words, words ++ rest) _ _ (count-read (length words) (words ++ rest) few)
    (read-then (many_at word_at (length words) (words ++ rest)) (words, rest) _ _ (words-read words rest) refl)))

phrase_prefix-read : (depth most : ℕ) (words rest : List (List ℕ)) → IsCount most → IsCount (length words) →
    query_at (suc depth) (codes "prefix" ∷ decimal most ∷ decimal (length words) ∷ (words ++ rest)) ≡ Some (phrase_prefix most words, rest)
unfolding form_named behind_form phrase_prefix_at
phrase_prefix-read depth most words rest in_range few =
    let behind = decimal most ∷ decimal (length words) ∷ (words ++ rest) in
    form-read depth (codes "prefix") behind PhrasePrefix _ refl
    (read-then (count_word_at behind) (most, decimal (length words) ∷ (words ++ rest)) _ _ (count-read most (decimal (length words) ∷ (words ++ rest)) in_range)
    (read-then (count_word_at (decimal (length words) ∷ (words ++ rest))) (length words, words ++ rest) _ _ (count-read (length words) (words ++ rest) few)
    (read-then (many_at word_at (length words) (words ++ rest)) (words, rest) _ _ (words-read words rest) refl)))

boolean-read : (depth minimum : ℕ) (clauses : Clauses) (words rest : List (List ℕ)) → IsCount minimum → IsCount (clause_count clauses) →
    many_at (clause_at (query_at depth)) (clause_count clauses) words ≡ Some (clause_list clauses, rest) → as_clauses (clause_list clauses) ≡ clauses →
    query_at (suc depth) (codes "bool" ∷ decimal minimum ∷ decimal (clause_count clauses) ∷ words) ≡ Some (boolean minimum clauses, rest)
unfolding form_named behind_form boolean_at
boolean-read depth minimum clauses words rest in_range few inner same =
    let count = clause_count clauses in
    form-read depth (codes "bool") (decimal minimum ∷ decimal count ∷ words) Boolean _ refl
    (read-then (count_word_at (decimal minimum ∷ decimal count ∷ words)) (minimum, decimal count ∷ words) _ _ (count-read minimum (decimal count ∷ words) in_range)
    (read-then (count_word_at (decimal count ∷ words)) (count, words) _ _ (count-read count words few)
    (read-then (many_at (clause_at (query_at depth)) count words) (clause_list clauses, rest) _ _ inner (ap (λ cs. Some (boolean minimum cs, rest)) same))))

disjunction_max-read : (depth tie_breaker : ℕ) (queries : Queries) (list : List Query) (words rest : List (List ℕ)) → IsCount tie_breaker →
    IsCount (query_count queries) → many_at (query_at depth) (query_count queries) words ≡ Some (list, rest) → queries_of list ≡ queries →
    query_at (suc depth) (codes "max" ∷ decimal tie_breaker ∷ decimal (query_count queries) ∷ words) ≡ Some (disjunction_max tie_breaker queries, rest)
unfolding form_named behind_form disjunction_max_at
disjunction_max-read depth tie_breaker queries list words rest in_range few inner same =
    let count = query_count queries in
    form-read depth (codes "max") (decimal tie_breaker ∷ decimal count ∷ words) DisjunctionMax _ refl
    (read-then (count_word_at (decimal tie_breaker ∷ decimal count ∷ words))
    (tie_breaker, decimal count ∷ words) _ _ (count-read tie_breaker (decimal count ∷ words) in_range)
    (read-then (count_word_at (decimal count ∷ words)) (count, words) _ _ (count-read count words few)
    (read-then (many_at (query_at depth) count words) (list, rest) _ _ inner (ap (λ qs. Some (disjunction_max tie_breaker qs, rest)) same))))

boost-read : (depth : ℕ) (factor : ℤ) (q : Query) (words rest : List (List ℕ)) → IsScore factor → query_at depth words ≡ Some (q, rest) →
    query_at (suc depth) (codes "boost" ∷ signed_decimal factor ∷ words) ≡ Some (boost factor q, rest)
unfolding form_named behind_form boost_at
boost-read depth factor q words rest in_range inner =
    form-read depth (codes "boost") (signed_decimal factor ∷ words) Boost _ refl
    (read-then (score_at (signed_decimal factor ∷ words)) (factor, words) _ _ (score-read factor words in_range)
    (read-then (query_at depth words) (q, rest) _ _ inner refl))

constant-read : (depth : ℕ) (score : ℤ) (q : Query) (words rest : List (List ℕ)) → IsScore score → query_at depth words ≡ Some (q, rest) →
    query_at (suc depth) (codes "const" ∷ signed_decimal score ∷ words) ≡ Some (constant score q, rest)
unfolding form_named behind_form constant_at
constant-read depth score q words rest in_range inner =
    form-read depth (codes "const") (signed_decimal score ∷ words) Const _ refl
    (read-then (score_at (signed_decimal score ∷ words)) (score, words) _ _ (score-read score words in_range)
    (read-then (query_at depth words) (q, rest) _ _ inner refl))

clause-read : (inner : QueryReader) (occur : Occur) (q : Query) (words rest : List (List ℕ)) →
    inner words ≡ Some (q, rest) → clause_at inner (sign occur ∷ words) ≡ Some ((occur, q), rest)
unfolding clause_at
clause-read inner occur q words rest inside =
    read-then (sign_at (sign occur ∷ words)) (occur, words) _ _ (sign-read occur words)
    (read-then (inner words) (q, rest) _ _ inside refl)

-- ---- queries

clauses-same : (clauses : Clauses) → as_clauses (clause_list clauses) ≡ clauses
clauses-same no_clause = refl
clauses-same (clause occur q clauses) = ap (clause occur q) (clauses-same clauses)

query_list : Queries → List Query
query_list no_query = []
query_list (query q queries) = q ∷ query_list queries

queries-same : (queries : Queries) → queries_of (query_list queries) ≡ queries
unfolding query_list
queries-same no_query = refl
queries-same (query q queries) = ap (query q) (queries-same queries)

mutual
  unfolding query_list

  -- from the words of a query, and any behind them, the query is read, and those behind it are left
  pub query-read : (q : Query) (depth : ℕ) (rest : List (List ℕ)) → query_depth q ≤ depth → CanBeSpelled q → query_at depth (spelled q ++ rest) ≡ Some (q, rest)
  query-read all zero rest deep h = absurd (omega arith)
  query-read all (suc depth) rest deep h = all-read depth rest
  query-read none zero rest deep h = absurd (omega arith)
  query-read none (suc depth) rest deep h = none-query-read depth rest
  query-read (term word) zero rest deep h = absurd (omega arith)
  query-read (term word) (suc depth) rest deep h = term-read depth word rest
  query-read (phrase slop words) zero rest deep h = absurd (omega arith)
  query-read (phrase slop words) (suc depth) rest deep h = phrase-read depth slop words rest h.0 h.1
  query-read (phrase_prefix most words) zero rest deep h = absurd (omega arith)
  query-read (phrase_prefix most words) (suc depth) rest deep h = phrase_prefix-read depth most words rest h.0 h.1
  query-read (boolean minimum clauses) zero rest deep h = absurd (omega arith)
  query-read (boolean minimum clauses) (suc depth) rest deep h =
      boolean-read depth minimum clauses (spelled_clauses clauses ++ rest) rest h.0 h.1
      (clauses-read clauses depth rest (omega arith) h.2) (clauses-same clauses)
  query-read (boost factor q) zero rest deep h = absurd (omega arith)
  query-read (boost factor q) (suc depth) rest deep h = boost-read depth factor q (spelled q ++ rest) rest h.0 (query-read q depth rest (omega arith) h.1)
  query-read (constant score q) zero rest deep h = absurd (omega arith)
  query-read (constant score q) (suc depth) rest deep h = constant-read depth score q (spelled q ++ rest) rest h.0 (query-read q depth rest (omega arith) h.1)
  query-read (disjunction_max tie_breaker queries) zero rest deep h = absurd (omega arith)
  query-read (disjunction_max tie_breaker queries) (suc depth) rest deep h =
      disjunction_max-read depth tie_breaker queries (query_list queries) (spelled_queries queries ++ rest) rest h.0 h.1
      (queries-read queries depth rest (omega arith) h.2) (queries-same queries)

  clauses-read : (clauses : Clauses) (depth : ℕ) (rest : List (List ℕ)) → clauses_depth clauses ≤ depth → ClausesCanBeSpelled clauses →
      many_at (clause_at (query_at depth)) (clause_count clauses) (spelled_clauses clauses ++ rest) ≡ Some (clause_list clauses, rest)
  clauses-read no_clause depth rest deep h = none-read (clause_at (query_at depth)) rest
  clauses-read (clause occur q clauses) depth rest deep h =
      let behind = spelled_clauses clauses ++ rest in
      let first = clause-read (query_at depth) occur q (spelled q ++ behind) behind (query-read q depth behind (omega arith) h.0) in
      ap (λ words. many_at (clause_at (query_at depth)) (suc (clause_count clauses)) (sign occur ∷ words))
      (append_assoc (spelled q) (spelled_clauses clauses) rest)
      ∙ many-read (clause_at (query_at depth)) (clause_count clauses) (occur, q) (clause_list clauses)
      (sign occur ∷ (spelled q ++ behind)) behind rest first (clauses-read clauses depth rest (omega arith) h.1)

  queries-read : (queries : Queries) (depth : ℕ) (rest : List (List ℕ)) → queries_depth queries ≤ depth → QueriesCanBeSpelled queries →
      many_at (query_at depth) (query_count queries) (spelled_queries queries ++ rest) ≡ Some (query_list queries, rest)
  queries-read no_query depth rest deep h = none-read (query_at depth) rest
  queries-read (query q queries) depth rest deep h =
      let behind = spelled_queries queries ++ rest in
      ap (many_at (query_at depth) (suc (query_count queries))) (append_assoc (spelled q) (spelled_queries queries) rest)
      ∙ many-read (query_at depth) (query_count queries) q (query_list queries) (spelled q ++ behind) behind rest
      (query-read q depth behind (omega arith) h.0) (queries-read queries depth rest (omega arith) h.1)
