-- The words of a query, one after another.
use Rattle.std.proofs.Common.{◌≡◌, ◌∙◌, ◌<◌, ◌≤◌, ◌+◌, ◌++◌, ℕ, List, [], ◌∷◌, ap, append_assoc, append-nil, arith, drop, get_or, length, length-append, map, refl, sym}
use Rattle.qm_schema.specs.declared.occur.Occur.{Occur}
use Rattle.qm_script.specs.Script.{as_clauses, queries_of}
use Rattle.qm_script.specs.Spelled.{spelled_clause, query_of}
use Rattle.qm_script.specs.declared.spelled_query.SpelledQuery.{SpelledQuery}
use Rattle.birchagain_queries.specs.QueryWords.{bytes_of, ends_from, full_words, weighing_words, words_of_clauses, words_of_queries}
use Rattle.birchagain_queries.proofs.Clauses.{drop_mapped, none_left}

module _ (all : List (List ℕ)) where
  module _ (xs : List (Occur × SpelledQuery)) (i : ℕ) where
    pub clause-pushed : (x : Occur × SpelledQuery) → i < length xs → x ≡ get_or xs i x → (front pushed : List (List ℕ)) →
        pushed ≡ front ++ weighing_words (query_of x.1) → front ++ words_of_clauses (as_clauses (drop i (map spelled_clause xs))) ≡ all →
        pushed ++ words_of_clauses (as_clauses (drop (i + 1) (map spelled_clause xs))) ≡ all
    clause-pushed x below is front pushed added kept =
        let rest = words_of_clauses (as_clauses (drop (i + 1) (map spelled_clause xs))) in
        ap (λ l. l ++ rest) added ∙ append_assoc front (weighing_words (query_of x.1)) rest
        ∙ ap (λ l. front ++ words_of_clauses (as_clauses l)) (sym (drop_mapped spelled_clause xs i x x below is)) ∙ kept

    pub clauses-pushed : (front : List (List ℕ)) → length xs ≤ i → front ++ words_of_clauses (as_clauses (drop i (map spelled_clause xs))) ≡ all → front ≡ all
    clauses-pushed front past kept =
        sym (append-nil front) ∙ ap (λ l. front ++ words_of_clauses (as_clauses l)) (sym (none_left spelled_clause xs i past)) ∙ kept

  module _ (xs : List SpelledQuery) (i : ℕ) where
    pub disjunct-pushed : (x : SpelledQuery) → i < length xs → x ≡ get_or xs i x → (front pushed : List (List ℕ)) →
        pushed ≡ front ++ weighing_words (query_of x) → front ++ words_of_queries (queries_of (drop i (map query_of xs))) ≡ all →
        pushed ++ words_of_queries (queries_of (drop (i + 1) (map query_of xs))) ≡ all
    disjunct-pushed x below is front pushed added kept =
        let rest = words_of_queries (queries_of (drop (i + 1) (map query_of xs))) in
        ap (λ l. l ++ rest) added ∙ append_assoc front (weighing_words (query_of x)) rest
        ∙ ap (λ l. front ++ words_of_queries (queries_of l)) (sym (drop_mapped query_of xs i x x below is)) ∙ kept

    pub disjuncts-pushed : (front : List (List ℕ)) → length xs ≤ i → front ++ words_of_queries (queries_of (drop i (map query_of xs))) ≡ all → front ≡ all
    disjuncts-pushed front past kept =
        sym (append-nil front) ∙ ap (λ l. front ++ words_of_queries (queries_of l)) (sym (none_left query_of xs i past)) ∙ kept

-- ---- all but the last

pub full-push : (words : List (List ℕ)) (w : List ℕ) → full_words (words ++ w ∷ []) ≡ words
full-push [] w = refl
full-push (v ∷ []) w = refl
full-push (v ∷ u ∷ words) w = ap (λ l. v ∷ l) (full-push (u ∷ words) w)

-- ---- words in bytes

pub bytes-more : (words : List (List ℕ)) (w : List ℕ) → bytes_of (words ++ w ∷ []) ≡ bytes_of words ++ w
bytes-more [] w = append-nil w
bytes-more (v ∷ words) w = ap (λ l. v ++ l) (bytes-more words w) ∙ sym (append_assoc v (bytes_of words) w)

pub ends-more : (start : ℕ) (words : List (List ℕ)) (w : List ℕ) →
    ends_from start (words ++ w ∷ []) ≡ ends_from start words ++ (start + length (bytes_of words ++ w)) ∷ []
ends-more start [] w = refl
ends-more start (v ∷ words) w =
    let same : (start + length v) + length (bytes_of words ++ w) ≡ start + length ((v ++ bytes_of words) ++ w) = omega (
      arith,
      length-append (bytes_of words) w,
      length-append v (bytes_of words),
      length-append (v ++ bytes_of words) w,
    ) in
    ap (λ l. (start + length v) ∷ l) (ends-more (start + length v) words w ∙ ap (λ n. ends_from (start + length v) words ++ n ∷ []) same)
