-- The terms that the clauses of a query ask for, clause by clause; and those of its last word.
use Rattle.std.proofs.Common.{◌≡◌, ℕ, ◌+◌, ◌-◌, ◌<◌, ◌≤◌, List, [], ◌∷◌, ◌++◌, length, drop, get_or, map, String, string_bytes, Some, slice_get, suc, ap, sym, ◌∙◌, arith, append_assoc, append-nil}
use Rattle.std.specs.Global.{Global}
use Rattle.qm_postings.specs.Segment.{Segment}
use Rattle.qm_schema.specs.Term.{TermKey}
use Rattle.qm_schema.specs.declared.occur.Occur.{Occur}
use Rattle.birchagain.specs.Body.{body_term}
use Rattle.qm_script.specs.AskedTerms.{all_expansions, asked_terms, clauses_terms, last_expansions, queries_terms}
use Rattle.qm_script.specs.Script.{as_clauses, queries_of}
use Rattle.qm_script.specs.Spelled.{spelled_clause, query_of, texts}
use Rattle.qm_script.specs.declared.spelled_query.SpelledQuery.{SpelledQuery}
use Rattle.birchagain.proofs.LeftWords.{left-mapped}
use Rattle.qm_script.proofs.WordLemmas.{none_left}

module _ (segments : List Segment) (all : List TermKey) where
  module _ (xs : List (Occur × SpelledQuery)) (i : ℕ) where
    abbrev clauses_left : List TermKey
    clauses_left = clauses_terms segments (as_clauses (drop i (map spelled_clause xs)))

    pub clause-pushed : (x : Occur × SpelledQuery) → i < length xs → x ≡ get_or xs i x → (front pushed : List TermKey) →
        pushed ≡ front ++ asked_terms segments (query_of x.1) → front ++ clauses_left ≡ all →
        pushed ++ clauses_terms segments (as_clauses (drop (i + 1) (map spelled_clause xs))) ≡ all
    clause-pushed x below is front pushed added kept =
        let rest = clauses_terms segments (as_clauses (drop (i + 1) (map spelled_clause xs))) in
        ap (λ l. l ++ rest) added ∙ append_assoc front (asked_terms segments (query_of x.1)) rest
        ∙ ap (λ l. front ++ clauses_terms segments (as_clauses l)) (sym (left-mapped spelled_clause xs i x x below is)) ∙ kept

    pub clauses-pushed : (front : List TermKey) → length xs ≤ i → front ++ clauses_left ≡ all → front ≡ all
    clauses-pushed front past kept =
        sym (append-nil front) ∙ ap (λ l. front ++ clauses_terms segments (as_clauses l)) (sym (none_left spelled_clause xs i past)) ∙ kept

  module _ (xs : List SpelledQuery) (i : ℕ) where
    abbrev queries_left : List TermKey
    queries_left = queries_terms segments (queries_of (drop i (map query_of xs)))

    pub disjunct-pushed : (x : SpelledQuery) → i < length xs → x ≡ get_or xs i x → (front pushed : List TermKey) →
        pushed ≡ front ++ asked_terms segments (query_of x) → front ++ queries_left ≡ all →
        pushed ++ queries_terms segments (queries_of (drop (i + 1) (map query_of xs))) ≡ all
    disjunct-pushed x below is front pushed added kept =
        let rest = queries_terms segments (queries_of (drop (i + 1) (map query_of xs))) in
        ap (λ l. l ++ rest) added ∙ append_assoc front (asked_terms segments (query_of x)) rest
        ∙ ap (λ l. front ++ queries_terms segments (queries_of l)) (sym (left-mapped query_of xs i x x below is)) ∙ kept

    pub disjuncts-pushed : (front : List TermKey) → length xs ≤ i → front ++ queries_left ≡ all → front ≡ all
    disjuncts-pushed front past kept =
        sym (append-nil front) ∙ ap (λ l. front ++ queries_terms segments (queries_of l)) (sym (none_left query_of xs i past)) ∙ kept

-- ---- the last word

pub last_expansions-some : (segments : List Segment) (most : ℕ) (words : List (String Global)) (w : String Global) →
    slice_get words (length words - 1) ≡ Some w → last_expansions segments most (texts words) ≡ all_expansions segments (body_term (string_bytes w)) most
last_expansions-some segments most [] w e = cc
last_expansions-some segments most (x ∷ []) w e = let same : x ≡ w = cc in ap (λ v. all_expansions segments (body_term (string_bytes v)) most) same
last_expansions-some segments most (x ∷ y ∷ words) w e =
    let place : suc (length (y ∷ words) - 1) ≡ length (x ∷ y ∷ words) - 1 = omega arith in
    last_expansions-some segments most (y ∷ words) w (ap (slice_get (x ∷ y ∷ words)) place ∙ e)
