use Rattle.std.proofs.Common.{rules, not}
use Rattle.std.specs.Ordering.{is_gt}
use Rattle.std.proofs.lemmas.List.Sorted.{IsPartitionPoint-from_clause}
use Rattle.qm_schema.specs.Term.{term_cmp}
use Rattle.qm_store.specs.Dictionary.{start_of}
use Rattle.qm_store.proofs.BlockOrder.{last-of-these, parted}
use Rattle.qm_store.proofs.BlocksOf.{left}
use Rattle.qm_store.proofs.dictionary_index.blocks_until.Goals as goal

pub returns-clause-before : goal.returns-clause-before
returns-clause-before c =
    let ss = c.args.starts.now in
    let t = c.args.term.now in
    let n = c.partition_point.result in
    last-of-these ss t n c.partition_point.ensures.bound
    (IsPartitionPoint-from_clause (λ s. not (is_gt (term_cmp (start_of s).first t))) ss n c.partition_point.ensures.partitioned
    (parted ss t c.requires) (λ a r f called. search rules))

pub returns-clause-behind : goal.returns-clause-behind
returns-clause-behind c =
    let ss = c.args.starts.now in
    let t = c.args.term.now in
    let n = c.partition_point.result in
    left (λ b. is_gt (term_cmp b.first t)) start_of ss n c.partition_point.ensures.bound
    (IsPartitionPoint-from_clause (λ s. not (is_gt (term_cmp (start_of s).first t))) ss n c.partition_point.ensures.partitioned
    (parted ss t c.requires) (λ a r f called. search rules))
