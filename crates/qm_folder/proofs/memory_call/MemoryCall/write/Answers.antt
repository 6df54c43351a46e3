use Rattle.std.proofs.Common.{◌≡◌, refl, rules}
use Rattle.qm_folder.proofs.memory_call.MemoryCall.write.Goals as goal

pub returns : goal.returns
returns c =
    let same : c.in_ok-to_vec.field-0.items ≡ c.args.bytes.now = search rules in
    (c.in_ok-name.name, c.in_ok-to_vec.field-0, refl, c.in_ok-name.ensures.ok, same)
