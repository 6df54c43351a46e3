-- Two Must clauses of terms match where a document holds both.
use Rattle.std.proofs.Common.{◌≡◌, Bool, true, false, ◌&&◌, [], ◌∷◌, None, length, refl}
use Rattle.std.specs.List.{range_with_len}
use Rattle.std.proofs.lemmas.List.Elements.{filter_agree}
use Rattle.qm_postings.specs.Segment.{Segment, holds}
use Rattle.qm_schema.specs.Term.{TermKey}
use Rattle.qm_schema.specs.declared.occur.Occur.TheVariants.{Must}
use Rattle.qm_schema.specs.declared.schema.option.IndexRecordOption.TheVariants.{Basic}
use Rattle.qm_weight.specs.Tree.{Combiner, Tree, boolean, boolean_matches, clause, matching, no_clause, term}
use Rattle.example_callers.specs.Found.{holders_of_both}

both : (a b : Bool) → boolean_matches 0 (a ∷ b ∷ []) [] [] ≡ (a && b)
both true true = refl
both true false = refl
both false b = refl

abbrev pub term_pair : Combiner → TermKey → TermKey → Tree
term_pair combiner t u = boolean false 0 combiner (clause Must (term t Basic None) (clause Must (term u Basic None) no_clause))

pub matching-pair : (segment : Segment) (combiner : Combiner) (t u : TermKey) → matching (term_pair combiner t u) segment ≡ holders_of_both segment t u
matching-pair segment combiner t u = filter_agree _ _ (λ d. both (holds segment t d) (holds segment u d)) (range_with_len 0 (length segment.documents))
