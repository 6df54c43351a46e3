-- A document of the open segment stands behind those of all others.
use Rattle.std.proofs.Common.{◌≡◌, ◌+◌, ◌-◌, ◌<◌, length, take, ap, sym, ◌∙◌, arith}
use Rattle.std.proofs.lemmas.List.{length-map}
use Rattle.qm_index.specs.Indexed.{Indexed, all_segments, indexed}
use Rattle.qm_index.specs.Numbers.{deleted_among, document_count}
use Rattle.qm_index.specs.OpenDocuments.{kept_of, segment_of}
use Rattle.qm_index.proofs.KeptOn.{kept-still}
use Rattle.qm_index.proofs.Numbering.{count_of-readers, deleted_among-past}
use Rattle.qm_index.proofs.index.Index.delete.Goals as goal

pub returns-in_ok-delete_built-clause-deleted : goal.returns-in_ok-delete_built-clause-deleted
returns-in_ok-delete_built-clause-deleted c =
    let self = c.args.self.now in
    let ended = take self.ended self.searcher.segments in
    let current = segment_of self.searcher.schema self.block_len self.documents.items in
    let place = c.args.number - self.ended_documents in
    let long = length-map self.documents.items (kept_of self.searcher.schema) in
    let inside : place < length current.documents = omega (arith, long, self.documents.ok.0, c.len.ensures, c.if-place-len.false) in
    let number : document_count ended + place ≡ c.args.number = omega (arith, self.counted, c.if-number-self.false) in (
      omega (arith, count_of-readers ended current, inside, number),
      ap all_segments c.in_ok-delete_built.ensures.deleted ∙ sym (deleted_among-past ended current place inside)
          ∙ ap (deleted_among (all_segments (indexed self))) number,
    )

pub returns-else-place-self-clause-deleted : goal.returns-else-place-self-clause-deleted
returns-else-place-self-clause-deleted c =
    let self = c.args.self.now in
    let ended = take self.ended self.searcher.segments in
    let current = segment_of self.searcher.schema self.block_len self.documents.items in
    let place = c.args.number - self.ended_documents in
    let long = length-map self.documents.items (kept_of self.searcher.schema) in
    let inside : place < length current.documents = omega (arith, long, self.documents.ok.0, c.len.ensures, c.if-place-len.false) in
    let number : document_count ended + place ≡ c.args.number = omega (arith, self.counted, c.if-number-self.false) in (
      omega (arith, count_of-readers ended current, inside, number),
      ap all_segments c.mark_waiting.ensures.deleted ∙ sym (deleted_among-past ended current place inside)
          ∙ ap (deleted_among (all_segments (indexed self))) number,
    )

pub returns-in_ok-delete_built-clause-kept : goal.returns-in_ok-delete_built-clause-kept
returns-in_ok-delete_built-clause-kept c = λ c'.
    kept-still c.args.self.now c.delete_built.new.self c' c.delete_built.ensures.saved (ap (λ (s : Indexed). s.ended) c.in_ok-delete_built.ensures.deleted)

pub returns-in_err-delete_built-clause-kept : goal.returns-in_err-delete_built-clause-kept
returns-in_err-delete_built-clause-kept c = λ c'.
    kept-still c.args.self.now c.delete_built.new.self c' c.delete_built.ensures.saved (ap (λ (s : Indexed). s.ended) c.in_err-delete_built.ensures.unchanged)

pub returns-else-place-self-clause-kept : goal.returns-else-place-self-clause-kept
returns-else-place-self-clause-kept c = λ c'.
    kept-still c.args.self.now c.mark_waiting.new.self c' c.mark_waiting.ensures.saved (ap (λ (s : Indexed). s.ended) c.mark_waiting.ensures.deleted)
