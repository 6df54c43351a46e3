-- Words that stand in some bytes, one behind the other, of which each ends where its number says.
use Rattle.std.specs.Prelude.{◌≡◌, ◌<◌, ◌≤◌, ◌-◌, ℕ, List, [], ◌∷◌, ◌==◌, false, IsUtf8, drop, length, take}
use Rattle.std.specs.List.{AllByRecursion}
use Rattle.qm_schema.specs.declared.error.QueryError.TheVariants.{Memory}
use Rattle.birchagain.specs.declared.refusal.Refusal.{Refusal}
use Rattle.birchagain.specs.declared.refusal.Refusal.TheVariants.{NotText, NotWords, Query}

-- the bytes from one place to another
abbrev pub bytes_between : ℕ → ℕ → List ℕ → List ℕ
bytes_between start end bytes = take (end - start) (drop start bytes)

-- the words from a place on
abbrev pub words_from : ℕ → List ℕ → List ℕ → List (List ℕ)
words_from start [] bytes = []
words_from start (end ∷ ends) bytes = bytes_between start end bytes ∷ words_from end ends bytes

-- The bytes from one place to another are a text: one at least, of UTF-8.
pub record IsTextBetween (start end : ℕ) (bytes : List ℕ) : Type 0 where
  pub some : start < end
  pub within : end ≤ length bytes
  pub utf8 : IsUtf8 (bytes_between start end bytes)

-- They are a word: a text that has no space.
pub record IsWord (start end : ℕ) (bytes : List ℕ) : Type 0 where
  pub text : IsTextBetween start end bytes
  pub no_space : AllByRecursion (λ b. (b == 32) ≡ false) (bytes_between start end bytes)

-- each of those from a place on is a word
abbrev pub AreWords : ℕ → List ℕ → List ℕ → Type 0
AreWords start [] bytes = Unit {0}
AreWords start (end ∷ ends) bytes = IsWord start end bytes × AreWords end ends bytes

-- why they may not be cut: for want of memory, or because they are none
abbrev pub IsCutRefusal : Type 0 → Refusal → Type 0
IsCutRefusal are (Query error) = error ≡ Memory
IsCutRefusal are NotText = ¬ are
IsCutRefusal are NotWords = ¬ are
IsCutRefusal are refusal = ⊥
