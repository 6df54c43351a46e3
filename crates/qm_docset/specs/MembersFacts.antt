-- The members of a set are the entries of a cursor.
use Rattle.std.specs.Prelude.{◌≡◌, ℕ, ◌+◌, ◌-◌, ◌≤◌, Bool, filter, map}
use Rattle.std.specs.List.{range_with_len}
use Rattle.std.proofs.Common.{zero, suc, arith, inl, inr}
use Rattle.std.proofs.lemmas.Bool.{cases_Bool, cases_lt}
use Rattle.qm_docset.specs.Entry.{AreEntries, no_limits, plain}
use Rattle.qm_docset.specs.EntryFacts.{AreEntries-below}
use Rattle.qm_docset.specs.Members.{members_between}
use Rattle.qm_docset.specs.declared.numbers.TheConstants.{TERMINATED}

counted : (has : ℕ → Bool) (low n : ℕ) → low + n ≤ TERMINATED → AreEntries low no_limits (map plain (filter has (range_with_len low n)))
counted has low zero fits = tt
counted has low (suc n) fits =
    let rest = counted has (low + 1) n (omega arith) in
    elim (cases_Bool (has low)) [
      | inl has_it ↦
          rw has_it (record { here = record { from_low = omega arith; below_end = omega arith; score = omega arith; positions = omega arith }; others = rest })
      | inr lacks ↦ rw lacks (AreEntries-below (low + 1) low no_limits (map plain (filter has (range_with_len (low + 1) n))) (omega arith) rest)
    ]

pub AreEntries-members_between : (has : ℕ → Bool) (low high : ℕ) → high ≤ TERMINATED → AreEntries 0 no_limits (map plain (members_between has low high))
unfolding members_between
AreEntries-members_between has low high fits =
    elim (cases_lt high low) [
      | inl past ↦ let none : high - low ≡ 0 = omega arith in rw none tt
      | inr within ↦
          AreEntries-below low 0 no_limits (map plain (filter has (range_with_len low (high - low)))) (omega arith) (counted has low (high - low) (omega arith))
    ]
