use Rattle.std.proofs.Common.{rules}
use Rattle.qm_index.specs.FileNames.{segment_name}
use Rattle.birchagain_bytes.proofs.index_files.segment_name.Goals as goal

pub returns : goal.returns
unfolding segment_name
returns c = search rules
