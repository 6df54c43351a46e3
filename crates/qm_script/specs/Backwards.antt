-- What a text that is written from its end to its front holds.
use Rattle.std.specs.Prelude.{ℕ, List, drop}
use Rattle.qm_script.specs.declared.decimal.Backwards.{Backwards}

-- what is written
abbrev pub written_in : Backwards → List ℕ
written_in b = drop b.from b.text

-- how much more can be
abbrev pub room_in : Backwards → ℕ
room_in b = b.from
