-- Where a script begins.
use Rattle.qm_script.specs.Fields.{script_fields}
use Rattle.qm_script.specs.ScriptSegments.{Script, empty_script}

-- no segment was ended, and the open one has no document
abbrev pub start_script : Script
start_script = empty_script script_fields
