-- The list of a phrase is that of a scorer.
use Rattle.std.specs.Prelude.{ℕ, ◌≤◌, nat_lt, List, slice_index_or}
use Rattle.std.specs.declared.option.Option.{Option}
use Rattle.std.specs.declared.option.Option.TheVariants.{None, Some}
use Rattle.std.proofs.Common.{arith, refl}
use Rattle.qm_docset.specs.Entry.{Entry, AreEntries}
use Rattle.qm_docset.specs.Gather.{scored}
use Rattle.qm_docset.specs.ListedFacts.{AreEntries-listed}
use Rattle.qm_term.specs.Bm25Facts.{bm25-le}
use Rattle.qm_term.specs.Bm25Weight.{weighing}
use Rattle.qm_term.specs.OwnNorms.{OwnWeight}
use Rattle.qm_phrase.specs.Phrase.{count_at, phrase_entries, phrase_limits, phrase_points}

-- no points are above the limit
pub phrase_points-le : (weight : Option OwnWeight) (ids : List ℕ) (d count : ℕ) → phrase_points weight ids d count ≤ (phrase_limits weight).top
phrase_points-le None ids d count = omega arith
phrase_points-le (Some weight) ids d count = bm25-le (weighing weight) (slice_index_or ids d 0) count

no_positions : (weight : Option OwnWeight) → 0 ≤ (phrase_limits weight).room
no_positions weight = omega arith

pub AreEntries-phrase : (weight : Option OwnWeight) (ids : List ℕ) (slop : ℕ) (shifts : List ℕ) (ess : List (List Entry)) →
    AreEntries 0 (phrase_limits weight) (phrase_entries (phrase_points weight ids) slop shifts ess)
AreEntries-phrase weight ids slop shifts ess =
    AreEntries-listed (phrase_limits weight) (λ d. nat_lt 0 (count_at slop shifts ess d)) (λ d. scored d (phrase_points weight ids d
    (count_at slop shifts ess d))) (λ d. refl) (λ d here. (phrase_points-le weight ids d (count_at slop shifts ess d), no_positions weight))
