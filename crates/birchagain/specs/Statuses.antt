-- The statuses of refused calls.
use Rattle.std.specs.Prelude.{ℕ}
use Rattle.qm_schema.specs.Refusals.{refusal_number}
use Rattle.birchagain.specs.declared.refusal.Refusal.{Refusal}
use Rattle.birchagain.specs.declared.refusal.Refusal.TheVariants.{NegativeWeight, NoDocument, NotText, NotUnderstood, NotWords, Query, UnevenRows}

-- from 1 on the number of what the index refuses, and from 65 on what a call refuses by itself
abbrev pub status_of : Refusal → ℕ
status_of (Query error) = refusal_number error
status_of NotUnderstood = 65
status_of NotText = 66
status_of NoDocument = 67
status_of NotWords = 68
status_of NegativeWeight = 69
status_of UnevenRows = 70
