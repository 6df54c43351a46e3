-- The bytes are ASCII, so they are a text.
use Rattle.std.proofs.Common.{subst}
use Rattle.std.specs.Prelude.{IsOk}
use Rattle.std.proofs.lemmas.Bool.{false≢true}
use Rattle.std.proofs.lemmas.Str.{IsUtf8-from_ascii}
use Rattle.qm_script.proofs.item_writer.ItemWriter.finish.Goals as goal

pub unreachable-requires : goal.unreachable-requires
unreachable-requires c =
    let utf8 = IsUtf8-from_ascii c.args.self.bytes.items c.args.self.ascii in
    false≢true (subst IsOk c.in-Err.is (c.from_utf8.ensures.succeeds utf8))
