-- Documents that are kept among the best: their order, in which the worst is the greatest, and the threshold while
-- they are kept.
use Rattle.std.specs.Prelude.{◌≡◌, ◌⊎◌, ℕ, ◌<◌, ℤ, negsuc, List, length}
use Rattle.std.specs.BinaryHeap.{IsUpperBound}
use Rattle.std.specs.Cmp.{IsTotalOrder, back_total, int_cmp_total, nat_cmp_total, on_total, then_total}
use Rattle.std.specs.Ordering.{flip_args, int_cmp, on, then_cmp}
use Rattle.std.specs.declared.cmp.Ordering.{Ordering}
use Rattle.qm_postings.specs.Address.{address_cmp}
use Rattle.qm_postings.specs.declared.address.DocAddress.{DocAddress}
use Rattle.qm_query.specs.Ranking.{ranking}
use Rattle.qm_query.specs.declared.top_docs.kept_document.KeptDocument.{KeptDocument}

-- the order of documents that are kept: the worst is the greatest, which scores least, and of those with one score
-- the last by address
abbrev pub worst_last : KeptDocument → KeptDocument → Ordering
worst_last = then_cmp (flip_args (on (λ d. d.score) int_cmp)) (on (λ d. d.address) address_cmp)

-- this is an order
pub address_total : IsTotalOrder address_cmp
address_total = then_total (on_total (λ (a : DocAddress). a.segment_ord) nat_cmp_total) (on_total (λ (a : DocAddress). a.doc_id) nat_cmp_total)

pub worst_last-total : IsTotalOrder worst_last
worst_last-total = then_total (back_total (on_total (λ (d : KeptDocument). d.score) int_cmp_total)) (on_total (λ (d : KeptDocument). d.address) address_total)

-- documents from the best to the worst
abbrev pub ranked : List KeptDocument → List KeptDocument
ranked documents = ranking worst_last documents

-- a document and its score, as it is kept; and as it is answered
abbrev pub kept_of : DocAddress × ℤ → KeptDocument
kept_of d = record { score = d.1; address = d.0 }

abbrev pub answer_of : KeptDocument → ℤ × DocAddress
answer_of d = (d.score, d.address)

-- The threshold while these are kept: -1 while there are fewer than there may be, and then the score of the worst.
abbrev pub IsThreshold : ℕ → List KeptDocument → ℤ → Type 0
IsThreshold limit kept threshold =
    ((threshold ≡ negsuc 0) × (0 < limit → length kept < limit))
    ⊎ ((worst : KeptDocument) × (length kept ≡ limit) × IsUpperBound worst_last worst kept × (threshold ≡ worst.score))
