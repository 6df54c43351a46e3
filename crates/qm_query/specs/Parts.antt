-- What the queries at the leaves of a tree are made of, as contracts see them.
use Rattle.std.specs.Prelude.{ℕ, List}
use Rattle.qm_schema.specs.Term.{TermKey}
use Rattle.qm_schema.specs.declared.schema.option.IndexRecordOption.{IndexRecordOption}

-- a term, and what is read of its postings
pub record TermParts : Type 0 where
  pub term : TermKey
  pub option : IndexRecordOption

-- terms by their offsets in the phrase, and how far each may stand from where it belongs
pub record PhraseParts : Type 0 where
  pub terms : List (ℕ × TermKey)
  pub slop : ℕ

-- the full terms by their offsets, the prefix behind them, and the most terms that it is expanded to
pub record PrefixParts : Type 0 where
  pub terms : List (ℕ × TermKey)
  pub prefix : ℕ × TermKey
  pub max_expansions : ℕ
