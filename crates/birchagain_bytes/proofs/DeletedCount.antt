-- Of a segment's documents those that are alive and those that were deleted are all.
use Rattle.std.proofs.Common.{◌≡◌, ◌+◌, ◌-◌, ◌&&◌, not, length, refl, ap, arith}
use Rattle.std.specs.List.{range_with_len}
use Rattle.std.proofs.lemmas.Bool.{lt-ltb}
use Rattle.std.proofs.lemmas.List.Filters.{length-filter_both}
use Rattle.std.proofs.lemmas.List.FromFn.{length-range_with_len}
use Rattle.qm_docset.specs.Members.{members_between}
use Rattle.qm_docset.proofs.MembersLemmas.{members_between-same}
use Rattle.qm_postings.specs.Segment.{Segment, alive_documents, deleted_documents, is_alive, is_deleted}

others : (s : Segment) → alive_documents s ≡ members_between (λ d. not (is_deleted s d)) 0 (length s.documents)
others s =
    members_between-same (is_alive s) (λ d. not (is_deleted s d)) 0 (length s.documents)
    (λ d above below. ap (λ b. b && not (is_deleted s d)) (lt-ltb d (length s.documents) below))

pub alive-or-deleted : (s : Segment) → s.deleted ≡ deleted_documents s → length (alive_documents s) + length s.deleted ≡ length s.documents
unfolding members_between
alive-or-deleted s own =
    let n = length s.documents in
    let both = length-filter_both (is_deleted s) (λ d. not (is_deleted s d)) (λ d. refl) (range_with_len 0 (n - 0)) in
    omega (arith, ap length (others s), ap length own, both, length-range_with_len 0 (n - 0))
