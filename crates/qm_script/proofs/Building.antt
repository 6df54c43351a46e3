-- What builders of queries answer: where a constructor was refused, and row by row.
use Rattle.std.proofs.Common.{◌≡◌, ◌⊎◌, inl, inr, ℕ, ◌+◌, ◌<◌, ◌≤◌, Bool, true, false, ◌||◌, List, [], ◌∷◌, ◌++◌, Option, None, Some, Result, Ok, Err, map}
use Rattle.std.proofs.Common.{length, drop, get_or, refl, ap, sym, ◌∙◌, arith, append_assoc, append-nil, length-append, subst, if◌then◌else◌}
use Rattle.std.proofs.lemmas.Bool.{le-ltb}
use Rattle.std.specs.List.{enumerate_from}
use Rattle.qm_query.specs.Offsets.{row_refusal, with_one, with_two}
use Rattle.qm_query.specs.Parts.{PrefixParts}
use Rattle.qm_query.specs.Query as query
use Rattle.qm_query.specs.Query.{Disjuncts, Query}
use Rattle.qm_query.specs.Refusals.{IsRefusedFor}
use Rattle.qm_schema.specs.Term.{TermKey}
use Rattle.qm_schema.specs.declared.error.QueryError.{QueryError}
use Rattle.qm_schema.specs.declared.error.QueryError.TheVariants.{EmptyPrefix, Memory, TieBreaker}
use Rattle.qm_schema.specs.declared.occur.Occur.{Occur}
use Rattle.birchagain.specs.Body.{body_term}
use Rattle.qm_script.specs.Asked.{asked, clauses_asked, disjuncts_asked, disjunction_max_asked, phrase_asked, phrase_prefix_asked, prefix_parts}
use Rattle.qm_script.specs.Asked.{unless, ◌>>=◌}
use Rattle.qm_script.specs.PrefixFree.{PrefixTest}
use Rattle.qm_script.specs.Prefixes.{has_failing, have_clauses_failing, have_queries_failing}
use Rattle.qm_script.specs.Script as language
use Rattle.qm_script.specs.Script.{as_clauses, queries_of}
use Rattle.qm_script.specs.Spelled.{spelled_clause, query_of}
use Rattle.qm_script.specs.declared.spelled_query.SpelledQuery.{SpelledQuery}
use Rattle.birchagain.proofs.LeftWords.{left-mapped}
use Rattle.qm_script.proofs.WordLemmas.{none_left}

abbrev made : {X : Type 0} → X → Result X QueryError
made x = Ok x

abbrev refused : {X : Type 0} → QueryError → Result X QueryError
refused e = Err e

-- what a constructor made that nothing was due for
unless-made : {X T : Type 0} (due : Option QueryError) (r : X) (x : T) → IsRefusedFor due (made r) → unless due x ≡ Ok x
unless-made None r x h = refl
unless-made (Some d) r x h = absurd (cc)

-- what it was refused for
unless-refused : {X T : Type 0} (due : Option QueryError) (r : Result X QueryError) (e : QueryError) (x : T) →
    r ≡ Err e → IsRefusedFor due r → (e ≡ Memory) ⊎ (unless due x ≡ Err e)
unless-refused None (Ok y) e x was h = absurd (cc)
unless-refused None (Err k) e x was h = let same : e ≡ k = cc in inl (same ∙ h)
unless-refused (Some d) (Ok y) e x was h = absurd (cc)
unless-refused (Some d) (Err k) e x was h = let same : d ≡ e = cc in inr (ap refused same)

pub phrase-refused : {X : Type 0} (slop : ℕ) (words : List (List ℕ)) (items : List TermKey) → items ≡ map body_term words → (r : Result X QueryError)
    (e : QueryError) → r ≡ Err e → IsRefusedFor (with_two items (row_refusal items)) r → (e ≡ Memory) ⊎ (phrase_asked slop words ≡ Err e)
phrase-refused slop words items same r e was h =
    unless-refused (with_two (map body_term words) (row_refusal (map body_term words))) r e (query.phrase
    (record { terms = enumerate_from 0 (map body_term words); slop = slop })) was (subst (λ ts. IsRefusedFor (with_two ts (row_refusal ts)) r) same h)

pub through : (wanted : Result Query QueryError) (x y : Query) → wanted ≡ Ok x → y ≡ x → wanted ≡ Ok y
through wanted x y is same = is ∙ ap (λ q. let r : Result Query QueryError = Ok q in r) (sym same)

pub within-tie_breaker : (tie_breaker : ℕ) (disjuncts : Disjuncts) → (1000 < tie_breaker → ⊥) →
    disjunction_max_asked tie_breaker disjuncts ≡ Ok (query.disjunction_max tie_breaker disjuncts)
within-tie_breaker tie_breaker disjuncts few =
    let most : tie_breaker ≤ 1000 = omega (arith, few) in
    ap (λ b. let r : Result Query QueryError = if b then Err TieBreaker else Ok (query.disjunction_max tie_breaker disjuncts) in r)
    (le-ltb 1000 tie_breaker most)

-- ---- the last of some terms is the prefix

prefix_parts-last : (most : ℕ) (t : ℕ × TermKey) (ts terms : List (ℕ × TermKey)) (prefix : ℕ × TermKey) →
    terms ++ prefix ∷ [] ≡ t ∷ ts → prefix_parts most t ts ≡ record { terms = terms; prefix = prefix; max_expansions = most }
prefix_parts-last most t [] [] prefix e = let same : t ≡ prefix = cc in λ i. record { terms = []; prefix = same i; max_expansions = most }
prefix_parts-last most t [] (v ∷ []) prefix e = absurd (omega (arith, ap length e))
prefix_parts-last most t [] (v ∷ w ∷ terms) prefix e = absurd (omega (arith, ap length e))
prefix_parts-last most t (u ∷ us) [] prefix e = absurd (omega (arith, ap length e))
prefix_parts-last most t (u ∷ us) (v ∷ terms) prefix e =
    let first : t ≡ v = cc in
    let rest : terms ++ prefix ∷ [] ≡ u ∷ us = cc in
    let inner = prefix_parts-last most u us terms prefix rest in
    λ i. record (inner i) { terms = first i ∷ (inner i).terms }

abbrev terms_of : List (List ℕ) → List TermKey
terms_of words = map body_term words

with_one-some : (t : TermKey) (ts : List TermKey) (otherwise : Option QueryError) → with_one (t ∷ ts) otherwise ≡ otherwise
with_one-some t ts otherwise = ap (λ b. if b then Some EmptyPrefix else otherwise) (le-ltb (length (t ∷ ts)) 1 (omega arith))

prefix-made-of : {X : Type 0} (most : ℕ) (words : List (List ℕ)) (r : X) (terms : List (ℕ × TermKey)) (prefix : ℕ × TermKey) →
    IsRefusedFor (with_one (terms_of words) (row_refusal (terms_of words))) (made r) → terms ++ prefix ∷ [] ≡ enumerate_from 0 (terms_of words) →
    phrase_prefix_asked most words ≡ Ok (query.phrase_prefix (record { terms = terms; prefix = prefix; max_expansions = most }))
prefix-made-of most [] r terms prefix h e = absurd (omega (arith, ap length e, length-append terms (prefix ∷ [])))
prefix-made-of most (w ∷ words) r terms prefix h e =
    let due = row_refusal (terms_of (w ∷ words)) in
    unless-made due r (query.phrase_prefix (prefix_parts most (0, body_term w) (enumerate_from 1 (terms_of words))))
    (subst (λ o. IsRefusedFor o (made r)) (with_one-some (body_term w) (terms_of words) due) h)
    ∙ ap (λ (p : PrefixParts). let a : Result Query QueryError = Ok (query.phrase_prefix p) in a)
    (prefix_parts-last most (0, body_term w) (enumerate_from 1 (terms_of words)) terms prefix e)

pub prefix-made : {X : Type 0} (most : ℕ) (words : List (List ℕ)) (items : List TermKey) → items ≡ map body_term words →
    (r : X) (terms : List (ℕ × TermKey)) (prefix : ℕ × TermKey) → IsRefusedFor (with_one items (row_refusal items)) (made r) → terms ++ prefix ∷ []
    ≡ enumerate_from 0 items → phrase_prefix_asked most words ≡ Ok (query.phrase_prefix (record { terms = terms; prefix = prefix; max_expansions = most }))
prefix-made most words items same r terms prefix h e =
    prefix-made-of most words r terms prefix (subst (λ ts. IsRefusedFor (with_one ts (row_refusal ts)) (made r)) same h) (e ∙ ap (enumerate_from 0) same)

-- ---- what is asked of clauses and of disjuncts

pub boolean-refused : (q : language.Query) (minimum : ℕ) (cs : language.Clauses) (e : QueryError) →
    q ≡ language.boolean minimum cs → clauses_asked cs ≡ Err e → asked q ≡ Err e
boolean-refused q minimum cs e is h = ap asked is ∙ ap (λ r. r >>= λ qs. Ok (query.boolean minimum (query.subqueries qs))) h

pub boolean-made : (q : language.Query) (minimum : ℕ) (cs : language.Clauses) (qs : List (Occur × Query)) →
    q ≡ language.boolean minimum cs → clauses_asked cs ≡ Ok qs → asked q ≡ Ok (query.boolean minimum (query.subqueries qs))
boolean-made q minimum cs qs is h = ap asked is ∙ ap (λ r. r >>= λ qs. Ok (query.boolean minimum (query.subqueries qs))) h

pub disjunction_max-refused : (q : language.Query) (tie_breaker : ℕ) (ds : language.Queries) (e : QueryError) →
    q ≡ language.disjunction_max tie_breaker ds → disjuncts_asked ds ≡ Err e → asked q ≡ Err e
disjunction_max-refused q tie_breaker ds e is h = ap asked is ∙ ap (λ r. r >>= λ qs. disjunction_max_asked tie_breaker (query.disjuncts qs)) h

pub disjunction_max-made : (q : language.Query) (tie_breaker : ℕ) (ds : language.Queries) (qs : List Query) →
    q ≡ language.disjunction_max tie_breaker ds → disjuncts_asked ds ≡ Ok qs → asked q ≡ disjunction_max_asked tie_breaker (query.disjuncts qs)
disjunction_max-made q tie_breaker ds qs is h = ap asked is ∙ ap (λ r. r >>= λ qs. disjunction_max_asked tie_breaker (query.disjuncts qs)) h

-- ---- clauses and disjuncts, one after another

-- these, and those behind them
abbrev pub with_front : {X : Type 0} → List X → Result (List X) QueryError → Result (List X) QueryError
with_front front (Ok xs) = Ok (front ++ xs)
with_front front (Err e) = Err e

pub with_front-none : {X : Type 0} (r : Result (List X) QueryError) → with_front [] r ≡ r
with_front-none (Ok xs) = refl
with_front-none (Err e) = refl

with_front-push : {X : Type 0} (front : List X) (x : X) (r : Result (List X) QueryError) →
    with_front front (r >>= λ xs. Ok (x ∷ xs)) ≡ with_front (front ++ x ∷ []) r
with_front-push front x (Ok xs) = ap made (sym (append_assoc front (x ∷ []) xs))
with_front-push front x (Err e) = refl

module _ (xs : List (Occur × SpelledQuery)) (i : ℕ) (x : Occur × SpelledQuery) (below : i < length xs) (is : x ≡ get_or xs i x) where
  clause-next : drop i (map spelled_clause xs) ≡ spelled_clause x ∷ drop (i + 1) (map spelled_clause xs)
  clause-next = left-mapped spelled_clause xs i x x below is

  pub clauses-step : (front : List (Occur × Query)) (q : Query) (whole : Result (List (Occur × Query)) QueryError) →
      asked (query_of x.1) ≡ Ok q → with_front front (clauses_asked (as_clauses (drop i (map spelled_clause xs)))) ≡ whole →
      with_front (front ++ (x.0, q) ∷ []) (clauses_asked (as_clauses (drop (i + 1) (map spelled_clause xs)))) ≡ whole
  clauses-step front q whole e kept =
      let rest = clauses_asked (as_clauses (drop (i + 1) (map spelled_clause xs))) in
      sym (with_front-push front (x.0, q) rest)
      ∙ ap (λ r. with_front front (r >>= λ p. rest >>= λ cs. Ok ((x.0, p) ∷ cs))) (sym e)
      ∙ ap (λ l. with_front front (clauses_asked (as_clauses l))) (sym clause-next)
      ∙ kept

  pub clauses-stopped : (front : List (Occur × Query)) (e : QueryError) (whole : Result (List (Occur × Query)) QueryError) →
      asked (query_of x.1) ≡ Err e → with_front front (clauses_asked (as_clauses (drop i (map spelled_clause xs)))) ≡ whole → whole ≡ Err e
  clauses-stopped front e whole is_refused kept =
      let rest = clauses_asked (as_clauses (drop (i + 1) (map spelled_clause xs))) in
      sym kept
      ∙ ap (λ l. with_front front (clauses_asked (as_clauses l))) clause-next
      ∙ ap (λ r. with_front front (r >>= λ p. rest >>= λ cs. Ok ((x.0, p) ∷ cs))) is_refused

  pub clauses-prefix-step : (test : PrefixTest) (whole : Bool) → has_failing test (query_of x.1) ≡ false → have_clauses_failing test (as_clauses (drop i (map spelled_clause xs))) ≡ whole →
      have_clauses_failing test (as_clauses (drop (i + 1) (map spelled_clause xs))) ≡ whole
  clauses-prefix-step test whole fails kept =
      ap (λ b. b || have_clauses_failing test (as_clauses (drop (i + 1) (map spelled_clause xs)))) (sym fails)
      ∙ ap (λ l. have_clauses_failing test (as_clauses l)) (sym clause-next) ∙ kept

  pub clauses-prefix-found : (test : PrefixTest) (whole : Bool) → has_failing test (query_of x.1) ≡ true →
      have_clauses_failing test (as_clauses (drop i (map spelled_clause xs))) ≡ whole → whole ≡ true
  clauses-prefix-found test whole holds kept =
      sym kept ∙ ap (λ l. have_clauses_failing test (as_clauses l)) clause-next
      ∙ ap (λ b. b || have_clauses_failing test (as_clauses (drop (i + 1) (map spelled_clause xs)))) holds

pub clauses-done : (xs : List (Occur × SpelledQuery)) (i : ℕ) (front : List (Occur × Query)) (whole : Result (List (Occur × Query)) QueryError) →
    length xs ≤ i → with_front front (clauses_asked (as_clauses (drop i (map spelled_clause xs)))) ≡ whole → whole ≡ Ok front
clauses-done xs i front whole past kept =
    sym kept ∙ ap (λ l. with_front front (clauses_asked (as_clauses l))) (none_left spelled_clause xs i past) ∙ ap made (append-nil front)

pub clauses-prefix-done : (test : PrefixTest) (xs : List (Occur × SpelledQuery)) (i : ℕ) (whole : Bool) → length xs ≤ i →
    have_clauses_failing test (as_clauses (drop i (map spelled_clause xs))) ≡ whole → whole ≡ false
clauses-prefix-done test xs i whole past kept = sym kept ∙ ap (λ l. have_clauses_failing test (as_clauses l)) (none_left spelled_clause xs i past)

module _ (xs : List SpelledQuery) (i : ℕ) (x : SpelledQuery) (below : i < length xs) (is : x ≡ get_or xs i x) where
  disjunct-next : drop i (map query_of xs) ≡ query_of x ∷ drop (i + 1) (map query_of xs)
  disjunct-next = left-mapped query_of xs i x x below is

  pub disjuncts-step : (front : List Query) (q : Query) (whole : Result (List Query) QueryError) → asked (query_of x) ≡ Ok q → with_front front (disjuncts_asked
      (queries_of (drop i (map query_of xs)))) ≡ whole → with_front (front ++ q ∷ []) (disjuncts_asked (queries_of (drop (i + 1) (map query_of xs)))) ≡ whole
  disjuncts-step front q whole e kept =
      let rest = disjuncts_asked (queries_of (drop (i + 1) (map query_of xs))) in
      sym (with_front-push front q rest)
      ∙ ap (λ r. with_front front (r >>= λ p. rest >>= λ qs. Ok (p ∷ qs))) (sym e)
      ∙ ap (λ l. with_front front (disjuncts_asked (queries_of l))) (sym disjunct-next)
      ∙ kept

  pub disjuncts-stopped : (front : List Query) (e : QueryError) (whole : Result (List Query) QueryError) →
      asked (query_of x) ≡ Err e → with_front front (disjuncts_asked (queries_of (drop i (map query_of xs)))) ≡ whole → whole ≡ Err e
  disjuncts-stopped front e whole is_refused kept =
      let rest = disjuncts_asked (queries_of (drop (i + 1) (map query_of xs))) in
      sym kept
      ∙ ap (λ l. with_front front (disjuncts_asked (queries_of l))) disjunct-next
      ∙ ap (λ r. with_front front (r >>= λ p. rest >>= λ qs. Ok (p ∷ qs))) is_refused

  pub queries-prefix-step : (test : PrefixTest) (whole : Bool) → has_failing test (query_of x) ≡ false → have_queries_failing test (queries_of (drop i (map query_of xs))) ≡ whole →
      have_queries_failing test (queries_of (drop (i + 1) (map query_of xs))) ≡ whole
  queries-prefix-step test whole fails kept =
      ap (λ b. b || have_queries_failing test (queries_of (drop (i + 1) (map query_of xs)))) (sym fails)
      ∙ ap (λ l. have_queries_failing test (queries_of l)) (sym disjunct-next) ∙ kept

  pub queries-prefix-found : (test : PrefixTest) (whole : Bool) → has_failing test (query_of x) ≡ true →
      have_queries_failing test (queries_of (drop i (map query_of xs))) ≡ whole → whole ≡ true
  queries-prefix-found test whole holds kept =
      sym kept ∙ ap (λ l. have_queries_failing test (queries_of l)) disjunct-next
      ∙ ap (λ b. b || have_queries_failing test (queries_of (drop (i + 1) (map query_of xs)))) holds

pub disjuncts-done : (xs : List SpelledQuery) (i : ℕ) (front : List Query) (whole : Result (List Query) QueryError) →
    length xs ≤ i → with_front front (disjuncts_asked (queries_of (drop i (map query_of xs)))) ≡ whole → whole ≡ Ok front
disjuncts-done xs i front whole past kept =
    sym kept ∙ ap (λ l. with_front front (disjuncts_asked (queries_of l))) (none_left query_of xs i past) ∙ ap made (append-nil front)

pub queries-prefix-done : (test : PrefixTest) (xs : List SpelledQuery) (i : ℕ) (whole : Bool) → length xs ≤ i →
    have_queries_failing test (queries_of (drop i (map query_of xs))) ≡ whole → whole ≡ false
queries-prefix-done test xs i whole past kept = sym kept ∙ ap (λ l. have_queries_failing test (queries_of l)) (none_left query_of xs i past)
