-- What a tree looks at in a document of a segment: of a term whether the document holds it, and how often; of the terms of
-- a phrase where they stand; of a prefix whether it matches; and the length ids. Where two documents of two segments are
-- alike in these, the tree says the same of both.
use Rattle.std.specs.Prelude.{◌≡◌, ℕ, List, All}
use Rattle.qm_postings.specs.Segment.{Segment, frequency, holds, length_id, positions}
use Rattle.qm_schema.specs.Term.{TermKey}
use Rattle.qm_schema.specs.declared.schema.option.IndexRecordOption.{IndexRecordOption}
use Rattle.qm_schema.specs.declared.schema.option.IndexRecordOption.TheVariants.{WithFreqsAndPositions}
use Rattle.qm_weight.specs.Tree.{Tree, Clauses, Placed, all, none, term, phrase, phrase_prefix, boolean, boost, constant, clause, no_clause, prefix_matches}

-- a term in document d of a segment, and in document e of another
pub record LooksAlike (s : Segment) (d : ℕ) (u : Segment) (e : ℕ) (t : TermKey) : Type 0 where
  pub held : holds s t d ≡ holds u t e
  pub often : (option : IndexRecordOption) → frequency s option t d ≡ frequency u option t e

-- where it stands there
abbrev pub StandsAlike : Segment → ℕ → Segment → ℕ → TermKey → Type 0
StandsAlike s d u e t = positions s WithFreqsAndPositions t d ≡ positions u WithFreqsAndPositions t e

-- where the terms of a phrase do
abbrev pub StandAlike : Segment → ℕ → Segment → ℕ → List Placed → Type 0
StandAlike s d u e terms = All (λ t. StandsAlike s d u e t.term) terms

-- the length ids of both documents
abbrev pub HaveAlikeLengths : Segment → ℕ → Segment → ℕ → Type 0
HaveAlikeLengths s d u e = (field : ℕ) → length_id s field d ≡ length_id u field e

abbrev mutual
  -- all that a tree looks at is alike
  pub IsAlike : Segment → ℕ → Segment → ℕ → Tree → Type 0
  IsAlike s d u e all = Unit {0}
  IsAlike s d u e none = Unit {0}
  IsAlike s d u e (term t option weight) = LooksAlike s d u e t
  IsAlike s d u e (phrase terms slop weight) = StandAlike s d u e terms
  IsAlike s d u e (phrase_prefix full prefix most weight) =
      StandAlike s d u e full × (prefix_matches s full prefix most d ≡ prefix_matches u full prefix most e)
  IsAlike s d u e (boolean scoring minimum combiner clauses) = AreAlike s d u e clauses
  IsAlike s d u e (boost k inside) = IsAlike s d u e inside
  IsAlike s d u e (constant k inside) = IsAlike s d u e inside

  pub AreAlike : Segment → ℕ → Segment → ℕ → Clauses → Type 0
  AreAlike s d u e no_clause = Unit {0}
  AreAlike s d u e (clause occur inside clauses) = IsAlike s d u e inside × AreAlike s d u e clauses
