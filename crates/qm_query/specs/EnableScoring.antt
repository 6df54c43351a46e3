-- What a weight is built under.
use Rattle.std.specs.Prelude.{Bool, true, false, List, Option, Some, None}
use Rattle.std.specs.Option.{option_copied}
use Rattle.qm_postings.specs.Statistics.{Searched}
use Rattle.qm_schema.specs.Schema.{FieldFacts}
use Rattle.qm_query.specs.declared.enable_scoring.EnableScoring.{EnableScoring}
use Rattle.qm_query.specs.declared.enable_scoring.EnableScoring.TheVariants.{Enabled, Disabled}

module _ {P : Type 0} where
  -- of what a weight is built under: whether scores are wanted
  abbrev pub is_enabled : EnableScoring P → Bool
  is_enabled (Enabled searcher provider) = true
  is_enabled (Disabled schema searcher) = false

  -- the fields of the documents
  abbrev pub schema_of : EnableScoring P → List FieldFacts
  schema_of (Enabled searcher provider) = searcher.now.schema
  schema_of (Disabled schema searcher) = schema.now

  -- the segments, where they are known
  abbrev pub searcher_of : EnableScoring P → Option Searched
  searcher_of (Enabled searcher provider) = Some searcher.now
  searcher_of (Disabled schema searcher) = option_copied searcher

  -- what answers the weights of terms, where scoring is on
  abbrev pub provider_of : EnableScoring P → Option P
  provider_of (Enabled searcher provider) = Some provider.now
  provider_of (Disabled schema searcher) = None
