-- The states that are kept beside words of 64: that of a place that the words lack counts as cleared.
use Rattle.std.specs.Prelude.{ℕ, cond, List, [], ◌∷◌, slice_index_or}
use Rattle.qm_docset.specs.declared.tiny_set.TinySet.{TinySet}
use Rattle.qm_docset.specs.Words.{words_have}

-- the state of a place among states that stand beside words of 64; cleared where the words lack the place
abbrev pub place_state : {C : Type 0} → List TinySet → List C → C → ℕ → C
place_state words states cleared x = cond (words_have words x) (slice_index_or states x cleared) cleared

-- the last of some documents, or what stands for it where there are none
abbrev pub last_or : ℕ → List ℕ → ℕ
last_or last [] = last
last_or last (d ∷ ds) = last_or d ds
