use Rattle.std.proofs.Common.{rules}
use Rattle.qm_index.specs.FileNames.{deletions_name}
use Rattle.birchagain_bytes.proofs.index_files.deletions_name.Goals as goal

pub returns : goal.returns
unfolding deletions_name
returns c = search rules
