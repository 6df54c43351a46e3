-- Why frequencies may not be told.
use Rattle.std.specs.Prelude.{◌≢◌, ℕ, List, length}
use Rattle.birchagain.specs.CutWords.{AreWords, IsCutRefusal}
use Rattle.birchagain.specs.declared.refusal.Refusal.{Refusal}
use Rattle.birchagain.specs.declared.refusal.Refusal.TheVariants.{UnevenRows}

-- there is not a number for each word, or these are no words, or there is no memory
abbrev pub IsFrequencyRefusal : List ℕ → List ℕ → List ℕ → Refusal → Type 0
IsFrequencyRefusal ends bytes out UnevenRows = length out ≢ length ends
IsFrequencyRefusal ends bytes out refusal = IsCutRefusal (AreWords 0 ends bytes) refusal
