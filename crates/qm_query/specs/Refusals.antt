-- What a call is refused for.
use Rattle.std.specs.Prelude.{Option, None, Some, Result, IsErrOf, IsOkUnless}
use Rattle.qm_schema.specs.declared.error.QueryError.{QueryError}
use Rattle.qm_schema.specs.declared.error.QueryError.TheVariants.{Memory}

-- it is refused with what is due, and where nothing is, by want of memory alone
abbrev pub IsRefusedFor : {T : Type 0} → Option QueryError → Result T QueryError → Type 0
IsRefusedFor (Some due) result = IsErrOf result due
IsRefusedFor None result = IsOkUnless result Memory
