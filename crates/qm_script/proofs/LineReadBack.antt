-- What a line spells is read back from it.
use Rattle.std.proofs.Common.{◌≡◌, ◌<◌, ◌^◌, false, ℕ, zero, suc, ℤ, pos, negsuc, List, [], ◌∷◌, ◌++◌, Some, length, refl}
use Rattle.std.proofs.Common.{ap, sym, ◌∙◌, append-nil, arith, option_map}
use Rattle.std.proofs.lemmas.Fmt.{decimal_is_IsNumeral}
use Rattle.std.proofs.lemmas.List.Splits.{slice_split_at, slice_split_none}
use Rattle.std.proofs.lemmas.Str.Parse.{digit_from_value}
use Rattle.std.specs.Fmt.{decimal, signed_decimal}
use Rattle.std.specs.List.{All, AllByRecursion, join_with_byte, slice_split}
use Rattle.std.specs.Str.Parse.{AllDigits}
use Rattle.qm_schema.specs.declared.occur.Occur.{Occur}
use Rattle.qm_schema.specs.declared.occur.Occur.TheVariants.{Should, Must, MustNot}
use Rattle.qm_script.specs.Script.{Clauses, Queries, Query, Request, add_document, all, behind_line_form, boolean, boost, clause, constant, count_matches}
use Rattle.qm_script.specs.Script.{delete_at, delete_document, disjunction_max, document_at, end_segment, is_blank, line_form_named, line_request}
use Rattle.qm_script.specs.Script.{line_words, list_above, list_best, list_documents, list_scores, no_clause, no_query, non_empty, none, nothing, phrase}
use Rattle.qm_script.specs.Script.{phrase_prefix}
use Rattle.qm_script.specs.Script.{count_word_at, prune_at, query, query_at, score_at, set_weight, term, threshold_at, top_at, weight_at, whole_query, words_request}
use Rattle.qm_script.specs.Spelling.{AreLineWords, CanBeAsked, CanBeSpelled, ClausesCanBeSpelled, IsAskable, IsCount, IsDocumentNumber, IsLineWord, IsScore}
use Rattle.qm_script.specs.Spelling.{IsSpelledThreshold, QueriesCanBeSpelled, clause_count, line_text, query_count, request_words, sign, spelled, spelled_clauses}
use Rattle.qm_script.specs.Spelling.{spelled_queries}
use Rattle.qm_script.specs.ProgramNumbers.{most_depth}
use Rattle.qm_script.proofs.ReadBack.{count-read, document-read, query-read, read-then, score-read, threshold-read}
use Rattle.qm_script.proofs.BlankLemmas.{above-blanks}
use Rattle.qm_script.proofs.WordLemmas.{non_empty-cons}

-- ---- the words of a line are cut where they were joined

no-blanks : (word : List ℕ) → AllByRecursion (λ b. is_blank b ≡ false) word → All (λ b. is_blank b ≡ false) word
no-blanks [] h k d within = absurd (omega arith)
no-blanks (b ∷ word) h zero d within = h.0
no-blanks (b ∷ word) h (suc k) d within = no-blanks word h.1 k d (omega arith)

cut-joined : (word : List ℕ) (words : List (List ℕ)) → AreLineWords (word ∷ words) →
    slice_split is_blank (join_with_byte 32 (word ∷ words)) ≡ word ∷ words
cut-joined word [] h = slice_split_none is_blank word (no-blanks word h.0.no_blank)
cut-joined word (next ∷ words) h =
    slice_split_at is_blank word 32 (join_with_byte 32 (next ∷ words)) (no-blanks word h.0.no_blank) refl
    ∙ ap (λ l. word ∷ l) (cut-joined next words h.1)

none-empty : (words : List (List ℕ)) → AreLineWords words → non_empty words ≡ words
none-empty [] h = refl
none-empty (word ∷ words) h = non_empty-cons word words h.0.some ∙ ap (λ l. word ∷ l) (none-empty words h.1)

words-of-joined : (words : List (List ℕ)) → AreLineWords words → line_words (join_with_byte 32 words) ≡ words
words-of-joined [] h = refl
words-of-joined (word ∷ words) h = ap non_empty (cut-joined word words h) ∙ none-empty (word ∷ words) h

-- ---- what is spelled is words

digits-no-blank : (digits : List ℕ) → AllDigits 10 digits → AllByRecursion (λ b. is_blank b ≡ false) digits
digits-no-blank [] h = tt
digits-no-blank (b ∷ digits) h = (above-blanks b (omega (arith, digit_from_value b h.0)), digits-no-blank digits h.1)

number-word : (n : ℕ) → n < 2 ^ 64 → IsLineWord (decimal n)
number-word n h = let k = decimal_is_IsNumeral n h in record { some = k.0.0; no_blank = digits-no-blank (decimal n) k.0.1 }

count-word : (n : ℕ) → IsCount n → IsLineWord (decimal n)
count-word n h = number-word n (omega arith)

score-word : (s : ℤ) → IsScore s → IsLineWord (signed_decimal s)
score-word (pos n) h = number-word n (omega arith)
score-word (negsuc n) h = absurd h

threshold-word : (t : ℤ) → IsSpelledThreshold t → IsLineWord (signed_decimal t)
threshold-word (pos n) h = number-word n (omega arith)
threshold-word (negsuc n) h = let digits = number-word (suc n) (omega arith) in record { some = omega arith; no_blank = (refl, digits.no_blank) }

sign-word : (occur : Occur) → IsLineWord (sign occur)
sign-word Must = record { some = omega arith; no_blank = (refl, tt) }
sign-word Should = record { some = omega arith; no_blank = (refl, tt) }
sign-word MustNot = record { some = omega arith; no_blank = (refl, tt) }

words-append : (xs ys : List (List ℕ)) → AreLineWords xs → AreLineWords ys → AreLineWords (xs ++ ys)
words-append [] ys h k = k
words-append (x ∷ xs) ys h k = (h.0, words-append xs ys h.1 k)

mutual
  query-words : (q : Query) → CanBeSpelled q → AreLineWords (spelled q)
  query-words all h = (record { some = omega arith; no_blank = (refl, (refl, (refl, tt))) }, tt)
  query-words none h = (record { some = omega arith; no_blank = (refl, (refl, (refl, (refl, tt)))) }, tt)
  query-words (term word) h = (record { some = omega arith; no_blank = (refl, (refl, (refl, (refl, tt)))) }, (h, tt))
  query-words (phrase slop words) h = (
    record { some = omega arith; no_blank = (refl, (refl, (refl, (refl, (refl, (refl, tt)))))) },
    (count-word slop h.0, (count-word (length words) h.1, h.2)),
  )
  query-words (phrase_prefix most words) h = (
    record { some = omega arith; no_blank = (refl, (refl, (refl, (refl, (refl, (refl, tt)))))) },
    (count-word most h.0, (count-word (length words) h.1, h.2)),
  )
  query-words (boolean minimum clauses) h = (
    record { some = omega arith; no_blank = (refl, (refl, (refl, (refl, tt)))) },
    (count-word minimum h.0, (count-word (clause_count clauses) h.1, clauses-words clauses h.2)),
  )
  query-words (boost factor q) h =
      (record { some = omega arith; no_blank = (refl, (refl, (refl, (refl, (refl, tt))))) }, (score-word factor h.0, query-words q h.1))
  query-words (constant score q) h =
      (record { some = omega arith; no_blank = (refl, (refl, (refl, (refl, (refl, tt))))) }, (score-word score h.0, query-words q h.1))
  query-words (disjunction_max tie_breaker queries) h = (
    record { some = omega arith; no_blank = (refl, (refl, (refl, tt))) },
    (count-word tie_breaker h.0, (count-word (query_count queries) h.1, queries-words queries h.2)),
  )

  clauses-words : (clauses : Clauses) → ClausesCanBeSpelled clauses → AreLineWords (spelled_clauses clauses)
  clauses-words no_clause h = tt
  clauses-words (clause occur q clauses) h =
      (sign-word occur, words-append (spelled q) (spelled_clauses clauses) (query-words q h.0) (clauses-words clauses h.1))

  queries-words : (queries : Queries) → QueriesCanBeSpelled queries → AreLineWords (spelled_queries queries)
  queries-words no_query h = tt
  queries-words (query q queries) h = words-append (spelled q) (spelled_queries queries) (query-words q h.0) (queries-words queries h.1)

askable-words : (request : Request) → IsAskable request → AreLineWords (request_words request)
askable-words nothing h = tt
askable-words (add_document words) h = (record { some = omega arith; no_blank = (refl, (refl, (refl, tt))) }, h)
askable-words (set_weight word weight) h =
    (record { some = omega arith; no_blank = (refl, (refl, (refl, (refl, (refl, (refl, tt)))))) }, (h.0, (score-word weight h.1, tt)))
askable-words end_segment h = (record { some = omega arith; no_blank = (refl, (refl, (refl, (refl, (refl, (refl, (refl, tt))))))) }, tt)
askable-words (delete_document number) h =
    (record { some = omega arith; no_blank = (refl, (refl, (refl, (refl, (refl, (refl, tt)))))) }, (number-word number h, tt))
askable-words (list_documents q) h = (record { some = omega arith; no_blank = (refl, (refl, (refl, (refl, tt)))) }, query-words q h.1)
askable-words (list_scores q) h = (record { some = omega arith; no_blank = (refl, (refl, (refl, (refl, (refl, (refl, tt)))))) }, query-words q h.1)
askable-words (count_matches q) h = (record { some = omega arith; no_blank = (refl, (refl, (refl, (refl, (refl, tt))))) }, query-words q h.1)
askable-words (list_above threshold q) h =
    (record { some = omega arith; no_blank = (refl, (refl, (refl, (refl, (refl, tt))))) }, (threshold-word threshold h.0, query-words q h.1.1))
askable-words (list_best count q) h =
    (record { some = omega arith; no_blank = (refl, (refl, (refl, tt))) }, (count-word count h.0, query-words q h.1.1))

-- ---- what the words ask for

whole-read : (q : Query) → CanBeAsked q → whole_query (spelled q) ≡ Some q
unfolding whole_query
whole-read q h =
    read-then (query_at most_depth (spelled q)) (q, []) _ _ (ap (query_at most_depth) (sym (append-nil (spelled q))) ∙ query-read q most_depth [] h.0 h.1) refl

weight-read : (word : List ℕ) (weight : ℤ) → IsScore weight → weight_at (word ∷ signed_decimal weight ∷ []) ≡ Some (set_weight word weight)
unfolding weight_at
weight-read word weight h = read-then (score_at (signed_decimal weight ∷ [])) (weight, []) _ _ (score-read weight [] h) refl

delete-read : (number : ℕ) → IsDocumentNumber number → delete_at (decimal number ∷ []) ≡ Some (delete_document number)
unfolding delete_at
delete-read number h = read-then (document_at (decimal number ∷ [])) (number, []) _ _ (document-read number [] h) refl

prune-read : (threshold : ℤ) (q : Query) → IsSpelledThreshold threshold → CanBeAsked q →
    prune_at (signed_decimal threshold ∷ spelled q) ≡ Some (list_above threshold q)
unfolding prune_at
prune-read threshold q in_range h =
    read-then (threshold_at (signed_decimal threshold ∷ spelled q)) (threshold, spelled q) _ _ (threshold-read threshold (spelled q) in_range)
    (read-then (whole_query (spelled q)) q _ _ (whole-read q h) refl)

top-read : (count : ℕ) (q : Query) → IsCount count → CanBeAsked q → top_at (decimal count ∷ spelled q) ≡ Some (list_best count q)
unfolding top_at
top-read count q few h =
    read-then (count_word_at (decimal count ∷ spelled q)) (count, spelled q) _ _ (count-read count (spelled q) few)
    (read-then (whole_query (spelled q)) q _ _ (whole-read q h) refl)

words-read : (request : Request) → IsAskable request → words_request (request_words request) ≡ Some request
unfolding words_request line_form_named behind_line_form
words-read nothing h = refl
words-read (add_document words) h = refl
words-read (set_weight word weight) h = weight-read word weight h.1
words-read end_segment h = refl
words-read (delete_document number) h = delete-read number h
words-read (list_documents q) h = ap (option_map list_documents) (whole-read q h)
words-read (list_scores q) h = ap (option_map list_scores) (whole-read q h)
words-read (count_matches q) h = ap (option_map count_matches) (whole-read q h)
words-read (list_above threshold q) h = prune-read threshold q h.0 h.1
words-read (list_best count q) h = top-read count q h.0 h.1

-- what a line spells is what it asks for
pub request-read : (request : Request) → IsAskable request → line_request (line_text request) ≡ Some request
request-read request h = ap words_request (words-of-joined (request_words request) (askable-words request h)) ∙ words-read request h
