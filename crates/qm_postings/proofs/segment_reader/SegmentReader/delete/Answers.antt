-- One document more is left out, and nothing else of the reader changes.
use Rattle.std.proofs.Common.{◌==◌, ◌||◌, ℕ, List, Some, length, map, ap, sym, subst, ◌∙◌, arith}
use Rattle.std.specs.List.{list_any}
use Rattle.qm_docset.specs.Members.{members_between}
use Rattle.qm_postings.specs.Deletions.{HasSameAlive, is_left_out, left_out}
use Rattle.qm_postings.specs.Kept.{posted_of, segment_from}
use Rattle.qm_postings.specs.Reading.{Reader, deleting}
use Rattle.qm_postings.specs.Rows.{rows_in}
use Rattle.qm_postings.specs.Segment.{without}
use Rattle.qm_postings.proofs.DeletedDocuments.{passing_too, removed_leaves_out, removed_too}
use Rattle.qm_postings.proofs.LengthsKept.{count_of_documents}
use Rattle.qm_postings.proofs.segment_reader.SegmentReader.delete.Goals as goal

pub remove-requires : goal.remove-requires
remove-requires c =
    let inside = c.self.inside in
    let counted = count_of_documents inside.schema inside.block_len (posted_of inside.terms.items inside.documents.items
    inside.frequencies inside.positions.items) (map (λ c. c.items) inside.lengths.items) inside.max_doc in
    let here = ap (λ r. length r.segment.documents) c.self.view_is in
    omega (arith, c.requires.exists, counted, here, c.in_ok-alive.ensures.same.max_value)

pub invariant_of-self-2 : goal.invariant_of-self-2
invariant_of-self-2 c =
    let inside = c.self.inside in
    let counted = count_of_documents inside.schema inside.block_len (posted_of inside.terms.items inside.documents.items
    inside.frequencies inside.positions.items) (map (λ c. c.items) inside.lengths.items) inside.max_doc in
    let here = ap (λ r. length r.segment.documents) c.self.view_is in (
      c.self.invariant.0,
      removed_leaves_out c.in_ok-alive.alive c.remove.new.self inside.max_doc c.args.doc (omega (arith, c.requires.exists, counted, here))
          (c.remove.ensures.max_value ∙ c.in_ok-alive.ensures.same.max_value) c.remove.ensures.alive,
    )

pub returns-clause-deleted : goal.returns-clause-deleted
returns-clause-deleted c =
    let inside = c.self.inside in
    let n = inside.max_doc in
    let doc = c.args.doc in
    let posted = posted_of inside.terms.items inside.documents.items inside.frequencies inside.positions.items in
    let columns = map (λ c. c.items) inside.lengths.items in
    let kept = segment_from inside.schema inside.block_len posted columns n in
    let terms = map (λ e. e.term) inside.terms.items in
    let rows = rows_in inside.terms.items inside.documents.items inside.frequencies inside.positions.items in
    let before = left_out inside.alive n in
    let same : HasSameAlive n inside.alive c.in_ok-alive.alive =
    subst (λ a. HasSameAlive n a c.in_ok-alive.alive) c.take.ensures.value c.in_ok-alive.ensures.same in
    let reader : List ℕ → Reader = λ numbers. record { segment = without numbers kept; terms = terms; rows = rows } in
    ap reader (passing_too (is_left_out inside.alive) (is_left_out (Some c.remove.new.self)) doc n
    (removed_too inside.alive c.in_ok-alive.alive c.remove.new.self n doc same c.remove.ensures.alive))
    ∙ ap (λ count. reader (members_between (λ x. x == doc || list_any (λ y. y == x) before) 0 count))
    (sym (count_of_documents inside.schema inside.block_len posted columns n))
    ∙ ap (λ r. deleting r doc) c.self.view_is
