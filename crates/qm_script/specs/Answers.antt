-- What the program answers to a line, what it leaves, and the text of each answer.
use Rattle.std.specs.Prelude.{◌≡◌, ℕ, true, false, ◌⊎◌, ℤ, Option, None, Some, Result, Ok, Err, List, [], ◌∷◌, ◌++◌, codes, IfErr, OnOk, length, nat_abs, string_bytes}
use Rattle.std.specs.Fmt.{decimal}
use Rattle.qm_postings.specs.Statistics.{Searched}
use Rattle.qm_query.specs.Query.{Query}
use Rattle.qm_query.specs.declared.enable_scoring.EnableScoring.{EnableScoring}
use Rattle.qm_schema.specs.Refusals.{refusal_number}
use Rattle.qm_schema.specs.declared.error.QueryError.{QueryError}
use Rattle.qm_schema.specs.declared.error.QueryError.TheVariants.{Memory, TooManySegments}
use Rattle.qm_script.specs.Asked.{asked}
use Rattle.qm_script.specs.Found.{found_above, found_alive, found_best, found_matches}
use Rattle.qm_script.specs.Script as language
use Rattle.qm_index.specs.Indexed.{Deletes, all_segments, with_segment_ended}
use Rattle.qm_script.specs.ScriptSegments.{Script, with_document_of}
use Rattle.qm_script.specs.Spelled.{query_of}
use Rattle.qm_script.specs.State.{State, with_documents, with_word_weight}
use Rattle.qm_script.specs.Text.{listing_text}
use Rattle.qm_script.specs.TextSegments.{IsTextRefusal}
use Rattle.qm_script.specs.Under.{IsForDocuments, IsForScores, IsScoreRefusal, IsWithinBest, IsWithinScores}
use Rattle.qm_script.specs.declared.answer.Answer.{Answer}
use Rattle.qm_script.specs.declared.answer.Answer.TheVariants.{Silence, Listing, Refused, NotUnderstood}
use Rattle.qm_script.specs.ProgramNumbers.{most_segments}
use Rattle.qm_script.specs.declared.parse.Command.{Command}
use Rattle.qm_script.specs.declared.parse.Command.TheVariants.{Nothing, AddDocument, SetWeight, EndSegment, DeleteDocument, Ask}
use Rattle.qm_script.specs.declared.question.Question.{Question}
use Rattle.qm_script.specs.declared.question.Question.TheVariants.{Documents, Scores, Count, Above, Best}

-- a refusal of this number that is due
abbrev pub IsRefusedBy : (QueryError → Type 0) → ℕ → Type 0
IsRefusedBy is_due number = (error : QueryError) × (number ≡ refusal_number error) × is_due error

-- none of these refusals is due
abbrev pub IsNotRefused : (QueryError → Type 0) → Type 0
IsNotRefused is_due = (error : QueryError) → ¬ is_due error

-- a line that adds a document: its answer, and what it leaves
abbrev pub AddsDocument : List ℕ → State → Answer → State → Type 0
AddsDocument text s Silence t = (t ≡ with_documents s (with_document_of s.documents text)) × IsNotRefused (IsTextRefusal s.documents.current text)
AddsDocument text s (Refused number) t = (t ≡ s) × IsRefusedBy (IsTextRefusal s.documents.current text) number
AddsDocument text s answer t = ⊥

-- a line that deletes a document: its answer, and what it leaves
abbrev pub DeletesDocument : ℕ → State → Answer → State → Type 0
DeletesDocument number s Silence t = Deletes number s.documents true t.documents × (t.weights ≡ s.weights)
DeletesDocument number s NotUnderstood t = Deletes number s.documents false t.documents × (t.weights ≡ s.weights)
DeletesDocument number s answer t = ⊥

-- why the open segment may not be ended: there are as many segments as can be searched at once
pub record IsLastSegment (s : Script) (error : QueryError) : Type 0 where
  pub error_is : error ≡ TooManySegments
  pub number : length (all_segments s) ≡ most_segments

-- a line that ends it: its answer, and what it leaves
abbrev pub EndsSegment : State → Answer → State → Type 0
EndsSegment s Silence t = (t ≡ with_documents s (with_segment_ended s.documents)) × IsNotRefused (IsLastSegment s.documents)
EndsSegment s (Refused number) t = (t ≡ s) × IsRefusedBy (IsLastSegment s.documents) number
EndsSegment s answer t = ⊥

-- Why a line that lists what a query matches is refused: the query can't be built, its scores don't fit, which
-- are due wherever they hold; or want of memory. The one field of a script's documents serves every query.
abbrev pub IsLineRefusal : (Query → Type 0) → language.Query → QueryError → Type 0
IsLineRefusal Fits q error =
    (error ≡ Memory) ⊎ ((asked q ≡ Err error) ⊎ ((query : Query) × (asked q ≡ Ok query) × IsScoreRefusal Fits query error))

-- the query can be built, its scores fit, and it makes this text
pub record ListsQuery (text_of : Query → List ℕ) (Fits : Query → Type 0) (q : language.Query) (text : List ℕ) : Type 0 where
  pub query : Query
  pub built : asked q ≡ Ok query
  pub within : Fits query
  pub written : text ≡ text_of query

-- a line that lists something of a query: its answer, and the text, which the query makes
abbrev pub AnswersQuery : (Query → List ℕ) → (Query → Type 0) → language.Query → Answer → List ℕ → Type 0
AnswersQuery text_of Fits q Listing text = ListsQuery text_of Fits q text
AnswersQuery text_of Fits q (Refused number) text = IsRefusedBy (IsLineRefusal Fits q) number
AnswersQuery text_of Fits q answer text = ⊥

-- the documents that a query matches, with their scores where these are wanted
abbrev pub listed_text : EnableScoring Searched → Script → Query → List ℕ
listed_text enable s query = listing_text (found_matches enable query (all_segments s))

-- how many of them weren't deleted, in decimal digits
abbrev pub count_text : EnableScoring Searched → Script → Query → List ℕ
count_text enable s query = decimal (found_alive enable query (all_segments s))

-- those for which a pruned run calls, with their scores, where each segment begins at this threshold
abbrev pub pruned_text : ℤ → EnableScoring Searched → Script → Query → List ℕ
pruned_text threshold enable s query = listing_text (found_above threshold enable query (all_segments s))

-- the best of those that weren't deleted, at most so many, with their scores
abbrev pub best_text : ℕ → EnableScoring Searched → Script → Query → List ℕ
best_text count enable s query = listing_text (found_best count enable query (all_segments s))

-- what is made of a query, by what is asked of it
abbrev pub asked_text : Question → EnableScoring Searched → Script → Query → List ℕ
asked_text Documents enable s query = listed_text enable s query
asked_text Scores enable s query = listed_text enable s query
asked_text Count enable s query = count_text enable s query
asked_text (Above threshold) enable s query = pruned_text threshold enable s query
asked_text (Best count) enable s query = best_text count enable s query

-- what has to fit: where none of the best is wanted, only that what its leaves weigh is a score
abbrev pub FitsAsked : Question → EnableScoring Searched → Query → Type 0
FitsAsked (Best count) enable query = IsWithinBest count enable query
FitsAsked question enable query = IsWithinScores enable query

-- what it is asked under: what scores are, by what the script says that words weigh
abbrev pub IsAskedUnder : Question → State → EnableScoring Searched → Type 0
IsAskedUnder Documents s enable = IsForDocuments s.documents enable
IsAskedUnder Count s enable = IsForDocuments s.documents enable
IsAskedUnder question s enable = (searched : Searched) × IsForScores s searched enable

-- a line that asks this of a query
abbrev pub AnswersQuestion : Question → language.Query → State → Answer → List ℕ → Type 0
AnswersQuestion question q s answer text =
    (enable : EnableScoring Searched) × IsAskedUnder question s enable ×
    AnswersQuery (asked_text question enable s.documents) (FitsAsked question enable) q answer text

-- What was asked of a query is written, or refused.
pub record WritesAsked (question : Question) (query : Query) (s : State) (result : Result (Unit {0}) QueryError) (text : List ℕ) : Type 0 where
  pub enable : EnableScoring Searched
  pub under : IsAskedUnder question s enable
  pub written : OnOk result (text ≡ asked_text question enable s.documents query)
  pub within : OnOk result (FitsAsked question enable query)
  pub refused : IfErr result (λ e. (e ≡ Memory) ⊎ IsScoreRefusal (FitsAsked question enable) query e)

-- what is answered where a change of the documents or the weights came to this
abbrev pub IsChangeAnswer : Result (Unit {0}) QueryError → Answer → Type 0
IsChangeAnswer (Ok done) answer = answer ≡ Silence
IsChangeAnswer (Err error) answer = (answer ≡ Refused (refusal_number error)) × (¬ (error ≡ Memory))

-- what is answered where a listing came to this
abbrev pub IsListingAnswer : Result (Unit {0}) QueryError → Answer → Type 0
IsListingAnswer (Ok done) answer = answer ≡ Listing
IsListingAnswer (Err error) answer = answer ≡ Refused (refusal_number error)

-- A line's answer, what it lists, and what it leaves, by what stood before it and what it asks for: None
-- where it isn't understood.
abbrev pub Step : State → Option Command → Answer → List ℕ → State → Type 0
Step s None answer text t = (answer ≡ NotUnderstood) × (t ≡ s)
Step s (Some Nothing) answer text t = (answer ≡ Silence) × (t ≡ s)
Step s (Some (AddDocument words)) answer text t = AddsDocument (string_bytes words) s answer t
Step s (Some (SetWeight word weight)) answer text t = (answer ≡ Silence) × (t ≡ with_word_weight s (string_bytes word) (nat_abs weight.score))
Step s (Some EndSegment) answer text t = EndsSegment s answer t
Step s (Some (DeleteDocument number)) answer text t = DeletesDocument number s answer t
Step s (Some (Ask question q)) answer text t = AnswersQuestion question (query_of q) s answer text × (t ≡ s)

-- the exit status of a script in which no other line is answered worse than this
abbrev pub status_of : Answer → ℕ
status_of Silence = 0
status_of Listing = 0
status_of (Refused number) = 1
status_of NotUnderstood = 2

-- what is written where a line has this number, this answer, and what it lists; each line ends at
-- byte 10
abbrev pub answer_text : ℕ → Answer → List ℕ → List ℕ
answer_text line Silence listing = []
answer_text line Listing listing = listing ++ 10 ∷ []
answer_text line (Refused number) listing = codes "line " ++ (decimal line ++ (codes ": refused " ++ (decimal number ++ 10 ∷ [])))
answer_text line NotUnderstood listing = codes "line " ++ (decimal line ++ (codes ": not understood" ++ 10 ∷ []))
