use Rattle.qm_folder.specs.Memory.{disk_after}
use Rattle.qm_folder.specs.MemoryFolder.{calls_of}
use Rattle.qm_index.proofs.KeptOn.{unsaved-kept}
use Rattle.example_callers.proofs.saved_callers.index_through_folder.Goals as goal

pub returns : goal.returns
returns c =
    c.in_ok-opened.ensures.opened tt c.save.new.self
    (c.in_ok-save.ensures.saved tt (unsaved-kept c.args.index.now (disk_after (calls_of c.new-folder.result)).seen c.requires.unsaved))
