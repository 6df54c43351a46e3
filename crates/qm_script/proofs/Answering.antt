-- What is answered where a query was listed, or was not.
use Rattle.std.proofs.Common.{◌≡◌, ◌⊎◌, inl, inr, ℕ, ℤ, Bool, true, List, [], ◌∷◌, ◌++◌, filter, length, map, nat_le, arith, Option, None, Result, Ok, Err, IfOk, IfErr, OnOk}
use Rattle.std.proofs.Common.{refl, sym, subst, ap, ◌∙◌, ◌+◌, ◌≤◌, length-append}
use Rattle.std.proofs.lemmas.List.{length-map}
use Rattle.std.specs.Borrow.{Bor}
use Rattle.std.specs.List.{range_with_len}
use Rattle.qm_index.specs.Indexed.{AreSearched, all_segments}
use Rattle.qm_index.specs.Parts.{segments_of}
use Rattle.qm_postings.specs.Reading.{Reader}
use Rattle.qm_postings.specs.Restriction.{restricted}
use Rattle.qm_postings.specs.Statistics.{Searched}
use Rattle.qm_query.specs.EnableScoring.{is_enabled}
use Rattle.qm_query.specs.Query.{Query}
use Rattle.qm_query.specs.declared.any_query.AnyQuery.{AnyQuery}
use Rattle.qm_query.specs.declared.enable_scoring.EnableScoring.{EnableScoring}
use Rattle.qm_query.specs.declared.enable_scoring.EnableScoring.TheVariants.{Enabled, Disabled}
use Rattle.qm_schema.specs.Refusals.{refusal_number}
use Rattle.qm_schema.specs.declared.error.QueryError.{QueryError}
use Rattle.qm_schema.specs.declared.error.QueryError.TheVariants.{Memory}
use Rattle.qm_script.specs.AllSegments.{all_listed}
use Rattle.qm_script.specs.Answers.{AnswersQuery, IsAskedUnder, IsLineRefusal, IsListingAnswer, listed_text}
use Rattle.qm_script.specs.Asked.{Builds, asked}
use Rattle.qm_script.specs.BestListed.{alive_listed_from, scored_item}
use Rattle.qm_script.specs.Counts.{alive_in_all}
use Rattle.qm_script.specs.Found.{found_above, found_above_in_parts, found_alive, found_best, found_from, found_matches}
use Rattle.qm_script.specs.Narrowed.{AreNarrowed, narrowed}
use Rattle.qm_script.specs.PrefixFree.{all_prefixes}
use Rattle.qm_script.specs.ProgramNumbers.{ungiven_weight}
use Rattle.qm_script.specs.Pruned.{all_pruned}
use Rattle.qm_script.specs.Reached.{is_reached}
use Rattle.qm_script.specs.Script as language
use Rattle.qm_script.specs.ScriptSegments.{Script}
use Rattle.qm_script.specs.Served.{AreReached, Serve}
use Rattle.qm_script.specs.State.{State}
use Rattle.qm_script.specs.Text.{IsListing, listing_text}
use Rattle.qm_script.specs.Under.{IsForDocuments, IsForScores, IsScoreRefusal, tree_of}
use Rattle.qm_script.specs.declared.answer.Answer.{Answer}
use Rattle.qm_script.specs.declared.answer.Answer.TheVariants.{Refused}
use Rattle.qm_script.specs.declared.question.Question.{Question}
use Rattle.qm_script.specs.declared.question.Question.TheVariants.{Documents, Scores, Count, Above, Best}
use Rattle.qm_weight.specs.Best.{best}
use Rattle.qm_weight.specs.Tree.{Tree}
use Rattle.qm_script.proofs.AskedNames.{all-named}
use Rattle.qm_script.proofs.AskedTrees.{asked-passes}
use Rattle.qm_script.proofs.BestListings.{alive-one_part, alive-segments}
use Rattle.qm_script.proofs.CountLemmas.{counted-one_part, counted-segments}
use Rattle.qm_script.proofs.NarrowedListings.{AllName, alive-narrowed, counted-narrowed, listed-narrowed, pruned-narrowed}
use Rattle.qm_script.proofs.NarrowedScripts.{narrowed-all}
use Rattle.qm_script.proofs.OverParts.{listed-few_parts, listed-one_part, listed-parts, listed-segments}
use Rattle.qm_script.proofs.PrunedParts.{pruned-segments}

abbrev lent : {X : Type 0} → X → Bor X
lent x = record { ref_ptr = (0, 0); now = x }

-- documents alone, of nothing that is searched
abbrev for_documents : Script → EnableScoring Searched
for_documents s = Disabled (lent s.current.schema) None

IsForDocuments-refused : (s : Script) → IsForDocuments s (for_documents s)
IsForDocuments-refused s = record { fields = refl; scores = refl }

abbrev nothing_searched : State → Searched
nothing_searched s =
    record { schema = s.documents.current.schema; segments = []; weights = s.weights; default_weight = ungiven_weight; norms = range_with_len 0 256 }

abbrev for_scores : State → EnableScoring Searched
for_scores s = Enabled (lent (nothing_searched s)) (lent (nothing_searched s))

IsForScores-refused : (s : State) → IsForScores s (nothing_searched s) (for_scores s)
IsForScores-refused s = record { fields = refl; scores = refl; weights = record { given = λ q. refl; others = refl; norms = refl } }

-- what a refused line would have been asked under
pub refused-under : (question : Question) (s : State) → (enable : EnableScoring Searched) × IsAskedUnder question s enable
refused-under Documents s = (for_documents s.documents, IsForDocuments-refused s.documents)
refused-under Count s = (for_documents s.documents, IsForDocuments-refused s.documents)
refused-under Scores s = (for_scores s, (nothing_searched s, IsForScores-refused s))
refused-under (Above threshold) s = (for_scores s, (nothing_searched s, IsForScores-refused s))
refused-under (Best count) s = (for_scores s, (nothing_searched s, IsForScores-refused s))

-- a line that lists something of a query, by what is to fit of it
module _ (text_of : Query → List ℕ) (Fits : Query → Type 0) (q : language.Query) (text : List ℕ) where
  -- the query could not be built
  pub unbuilt-answer : (e : QueryError) (number : ℕ) → number ≡ refusal_number e →
      Builds (asked q) (let r : Result AnyQuery QueryError = Err e in r) → AnswersQuery text_of Fits q (Refused number) text
  unbuilt-answer e number is (inl memory) = (e, is, inl memory)
  unbuilt-answer e number is (inr due) = (e, is, inr (inl due))

  module _ (query : Query) (Refusal : QueryError → Type 0) (built : asked q ≡ Ok query)
      (of_scores : (e : QueryError) → Refusal e → (e ≡ Memory) ⊎ IsScoreRefusal Fits query e) where
    -- it was built, and refused where it was listed
    line-refusal : (e : QueryError) → Refusal e → IsLineRefusal Fits q e
    line-refusal e refused = elim (of_scores e refused) [ inl memory ↦ inl memory | inr past ↦ inr (inr (query, built, past)) ]

    -- its text was written, or refused
    pub text-answer : (r : Result (Unit {0}) QueryError) (answer : Answer) → OnOk r (text ≡ text_of query) → OnOk r (Fits query) →
        IfErr r Refusal → IsListingAnswer r answer → AnswersQuery text_of Fits q answer text
    text-answer (Ok done) answer written within refused is =
        subst (λ a. AnswersQuery text_of Fits q a text) (sym is) (record { query = query; built = built; within = within; written = written })
    text-answer (Err e) answer written within refused is =
        subst (λ a. AnswersQuery text_of Fits q a text) (sym is) (e, refl, line-refusal e refused)

-- a listing's text
pub listing-written : (items : List (ℕ × Option ℤ)) (text wanted : List ℕ) (r : Result (Unit {0}) QueryError) →
    listing_text items ≡ wanted → OnOk r (IsListing items text) → OnOk r (text ≡ wanted)
listing-written items text wanted (Ok done) same lists = lists.listed ∙ same
listing-written items text wanted (Err e) same lists = tt

-- why it was refused
pub refused-as : {P Q : QueryError → Type 0} (r : Result (Unit {0}) QueryError) → ((e : QueryError) → P e → Q e) → IfErr r P → IfErr r Q
refused-as (Ok done) weaker is = tt
refused-as (Err e) weaker is = weaker e is

-- what is written behind nothing
pub behind_nothing : (text more : List ℕ) → length text ≡ 0 → text ++ more ≡ more
behind_nothing [] more empty = refl
behind_nothing (b ∷ text) more empty = absurd (omega (arith, empty))

-- the first segments are the ended ones
ended-length : (s : Script) (ended : ℕ) → length (all_segments s) ≡ ended + 1 → ended ≡ length s.ended
ended-length s ended number = let whole = length-append s.ended (s.current ∷ []) in omega (arith, number)

-- ---- over what serves a query

searched-within : (s : Script) (readers : List Reader) → AreSearched s readers → length s.ended ≤ length readers
searched-within s readers are =
    omega (arith, length-map readers (λ (r : Reader). r.segment), ap length are.all, length-append s.ended are.parts)

-- the segments that were ended are among what serves it
pub ended-served : (q : language.Query) (s : Script) (readers : List Reader) → Serve q s readers → (ended : ℕ) →
    length (all_segments s) ≡ ended + 1 → ended ≤ length readers
ended-served q s readers (inl one) ended number = omega (arith, ended-length s ended number, searched-within s readers one.searched)
ended-served q s readers (inr (inl are)) ended number = omega (arith, ended-length s ended number, searched-within s readers are.searched)
ended-served q s readers (inr (inr are)) ended number = omega (
  arith,
  ended-length s ended number,
  length-map s.ended (restricted are.wanted),
  searched-within (narrowed are.wanted s) readers are.merged.searched,
)

module _ (enable : EnableScoring Searched) (s : Script) (q : language.Query) (query : Query) (readers : List Reader) (built : asked q ≡ Ok query) where
  abbrev own : Tree
  own = tree_of enable query

  -- the prefixes of its tree are expanded to all terms of the parts
  all-expanded : (are : AreReached q s readers) → all_prefixes (is_reached are.searched.parts) own ≡ true
  all-expanded are = subst (λ r. IfOk r (λ p. all_prefixes (is_reached are.searched.parts) (tree_of enable p) ≡ true)) built
      (asked-passes (is_reached are.searched.parts) enable q are.reached)

  -- or it names wanted terms alone
  names-all : (are : AreNarrowed q s readers) → AllName own are.wanted (all_segments s)
  names-all are = all-named are.wanted enable q query built (all_segments s) are.asked

  parts-same : (scored : Bool) → Serve q s readers → all_listed scored own (segments_of readers) ≡ all_listed scored own (all_segments s)
  parts-same scored (inl one) = listed-one_part own scored s readers one
  parts-same scored (inr (inl are)) = listed-segments own scored s readers are.searched (all-expanded are)
  parts-same scored (inr (inr are)) =
      listed-one_part own scored (narrowed are.wanted s) readers are.merged
      ∙ ap (all_listed scored own) (narrowed-all are.wanted s) ∙ listed-narrowed own are.wanted (all_segments s) (names-all are) scored

  pub matches-written : (slice : List Reader) (text : List ℕ) (r : Result (Unit {0}) QueryError) → Serve q s readers → slice ≡ readers →
      OnOk r (IsListing (found_matches enable query (segments_of slice)) text) → OnOk r (text ≡ listed_text enable s query)
  matches-written slice text r serve same lists =
      listing-written (found_matches enable query (segments_of slice)) text (listed_text enable s query) r
      (ap (λ rs. listing_text (found_matches enable query (segments_of rs))) same ∙ ap listing_text (parts-same (is_enabled enable) serve)) lists

  -- a pruned run
  pub above-same : (threshold : ℤ) (ended : ℕ) → length (all_segments s) ≡ ended + 1 → Serve q s readers →
      found_above_in_parts threshold enable query ended (segments_of readers) ≡ found_above threshold enable query (all_segments s)
  above-same threshold ended number (inl one) =
      pruned-segments own threshold s readers one.searched
      (listed-few_parts own true s.current one.searched.parts one.one one.searched.of_current) ended (ended-length s ended number)
  above-same threshold ended number (inr (inl are)) =
      pruned-segments own threshold s readers are.searched
      (listed-parts own true s.current are.searched.parts (all-expanded are) are.searched.of_current) ended (ended-length s ended number)
  above-same threshold ended number (inr (inr are)) =
      let t = narrowed are.wanted s in
      let one = are.merged in
      let same : ended ≡ length t.ended = ended-length s ended number ∙ sym (length-map s.ended (restricted are.wanted)) in
      pruned-segments own threshold t readers one.searched
      (listed-few_parts own true t.current one.searched.parts one.one one.searched.of_current) ended same
      ∙ ap (all_pruned threshold own) (narrowed-all are.wanted s) ∙ pruned-narrowed own are.wanted threshold (all_segments s) (names-all are)

  -- a count
  pub counted-same : Serve q s readers → found_alive enable query (segments_of readers) ≡ found_alive enable query (all_segments s)
  counted-same (inl one) = counted-one_part own s readers one
  counted-same (inr (inl are)) = counted-segments own s readers are.searched (all-expanded are)
  counted-same (inr (inr are)) =
      counted-one_part own (narrowed are.wanted s) readers are.merged
      ∙ ap (alive_in_all own) (narrowed-all are.wanted s) ∙ counted-narrowed own are.wanted (all_segments s) (names-all are)

  -- the documents that weren't deleted, each with its score
  pub alive-same : Serve q s readers → alive_listed_from own 0 (segments_of readers) ≡ alive_listed_from own 0 (all_segments s)
  alive-same (inl one) = alive-one_part own s readers one
  alive-same (inr (inl are)) = alive-segments own s readers are.searched (all-expanded are)
  alive-same (inr (inr are)) =
      alive-one_part own (narrowed are.wanted s) readers are.merged
      ∙ ap (alive_listed_from own 0) (narrowed-all are.wanted s) ∙ alive-narrowed own are.wanted (all_segments s) (names-all are)

  -- the best of them
  pub best-same : (count : ℕ) → Serve q s readers → found_best count enable query (segments_of readers) ≡ found_best count enable query (all_segments s)
  best-same count serve = ap (λ l. map scored_item (best count l)) (alive-same serve)

  -- those from a number on
  pub page-same : (first : ℕ) → Serve q s readers → found_from first enable query (segments_of readers) ≡ found_from first enable query (all_segments s)
  page-same first serve = ap (λ l. filter (nat_le first) (map (λ i. i.0) l)) (alive-same serve)
