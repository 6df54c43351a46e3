use Rattle.std.proofs.Common.{rules}
use Rattle.std.proofs.lemmas.List.Sorted.{IsPartitionPoint-from_clause}
use Rattle.qm_store.specs.Dictionary.{start_of}
use Rattle.qm_store.specs.Wanted.{is_meant}
use Rattle.qm_store.proofs.BlocksOf.{meant-parted, taken}
use Rattle.qm_store.proofs.dictionary_index.blocks_meant.Goals as goal

pub returns-clause-meant : goal.returns-clause-meant
returns-clause-meant c =
    let ss = c.args.starts.now in
    let w = c.args.wanted.now in
    let n = c.partition_point.result in
    taken (λ b. is_meant w b.first) start_of ss n c.partition_point.ensures.bound
    (IsPartitionPoint-from_clause (λ s. is_meant w (start_of s).first) ss n c.partition_point.ensures.partitioned
    (meant-parted w ss c.requires) (λ a r f called. search rules))
