-- What the query for both terms answers.
use Rattle.std.specs.Prelude.{ℕ, ℤ, List, [], ◌∷◌, map, pos}
use Rattle.qm_combine.specs.HeldSum.{held_sum}
use Rattle.qm_docset.specs.Entry.{Entry}
use Rattle.qm_docset.specs.Gather.{common_entries}
use Rattle.qm_postings.specs.Segment.{Segment}
use Rattle.qm_schema.specs.Term.{TermKey}
use Rattle.qm_schema.specs.declared.schema.option.IndexRecordOption.TheVariants.{WithFreqs}
use Rattle.qm_term.specs.Bm25.{Weighing}
use Rattle.qm_term.specs.TermEntries.{term_entries}

-- the documents of a segment that hold both terms, each with the sum of what they score there
abbrev pub in_both : Segment → Weighing → TermKey → TermKey → List Entry
in_both segment weighing first second =
    common_entries held_sum (term_entries segment WithFreqs first weighing ∷ term_entries segment WithFreqs second weighing ∷ [])

-- the documents of some entries, with their scores
abbrev pub with_scores : List Entry → List (ℕ × ℤ)
with_scores es = map (λ e. (e.document, pos e.score)) es
