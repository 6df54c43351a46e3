-- The list of a phrase prefix is that of a scorer.
use Rattle.std.specs.Prelude.{ℕ, ◌≤◌, nat_lt, Bool, true, false, List}
use Rattle.std.specs.declared.option.Option.{Option}
use Rattle.std.specs.declared.option.Option.TheVariants.{None, Some}
use Rattle.std.proofs.Common.{arith, refl}
use Rattle.qm_docset.specs.Entry.{AreEntries}
use Rattle.qm_docset.specs.Gather.{scored}
use Rattle.qm_docset.specs.ListedFacts.{AreEntries-listed}
use Rattle.qm_term.specs.OwnNorms.{OwnWeight}
use Rattle.qm_phrase.specs.PhraseFacts.{phrase_points-le}
use Rattle.qm_phrase.specs.PhrasePrefix.{PrefixLists, full_count, has_several, held_count, prefix_count, prefix_entries, prefix_limits, prefix_points}

-- no points are above the limit
prefix_points-le : (weight : Option OwnWeight) (several : Bool) (ids : List ℕ) (d count : ℕ) →
    prefix_points weight several ids d count ≤ (prefix_limits weight several).top
prefix_points-le weight true ids d count = phrase_points-le weight ids d count
prefix_points-le None false ids d count = omega arith
prefix_points-le (Some weight) false ids d count = omega arith

no_positions : (weight : Option OwnWeight) (several : Bool) → 0 ≤ (prefix_limits weight several).room
no_positions weight several = omega arith

pub AreEntries-prefix : (weight : Option OwnWeight) (ids : List ℕ) (t : PrefixLists) →
    AreEntries 0 (prefix_limits weight (has_several t)) (prefix_entries weight ids t)
AreEntries-prefix weight ids t =
    AreEntries-listed (prefix_limits weight (has_several t)) (λ d. nat_lt 0 (held_count (prefix_count t d)))
    (λ d. scored d (prefix_points weight (has_several t) ids d (held_count (full_count t d)))) (λ d. refl)
    (λ d here. (prefix_points-le weight (has_several t) ids d (held_count (full_count t d)), no_positions weight (has_several t)))
