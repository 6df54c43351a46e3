use Rattle.std.proofs.Common.{◌≡◌, ◌+◌, ◌-◌, ◌++◌, ap, sym, ◌∙◌, append_assoc, arith, length}
use Rattle.std.proofs.lemmas.List.{length-append}
use Rattle.qm_postings.specs.Rows.{Row}
use Rattle.qm_store.specs.Numbers.{spelled}
use Rattle.qm_store.specs.Pieces.{piece_bytes}
use Rattle.qm_store.specs.Stored.{all_apart, block_bytes, entries_bytes, first_row, named}
use Rattle.qm_store.specs.TermBytes.{term_bytes}
use Rattle.qm_store.proofs.StoredSteps.{between, first_of_group, length-between}
use Rattle.qm_store.proofs.stored_bytes.push_group.Goals as goal

pub push_number-requires : goal.push_number-requires
push_number-requires c = record { fits = omega (arith, c.requires.few) }

pub returns-clause-index : goal.returns-clause-index
returns-clause-index c =
    let rows = c.args.segment.now.rows in
    let g = between rows c.args.start c.args.end in
    let out = c.args.out.now.items in
    let index = c.args.index.now.items in
    let key = c.args.key in
    let term = c.term.ensures ∙ ap (λ (r : Row). r.term) (c.row.ensures ∙ sym (first_of_group rows c.args.start c.args.end c.requires.order c.requires.within)) in
    let at : length c.push_entries.new.out.items ≡ length out + length (all_apart g) =
    ap length c.in_ok-push_entries.ensures.out ∙ length-append out (all_apart g)
    in
    let block : c.deref.result.now ≡ block_bytes key (length out) g =
    c.deref.ensures.value ∙ c.in_ok-push_entries.ensures.block
    ∙ ap (λ l. l ++ entries_bytes key (length out) g) (c.in_ok-push_number.ensures.added ∙ ap (λ l. l ++ spelled (c.args.end - c.args.start)) c.new-block.ensures.items
    ∙ ap (λ n. spelled n) (sym (length-between rows c.args.start c.args.end c.requires.within)))
    in
    let piece = c.in_ok-piece.ensures.named ∙ (λ i. named key (at i) (block i)) in
    c.in_ok-push_piece.ensures.added
    ∙ (λ i. c.push_term.new.out.items ++ piece_bytes (piece i))
    ∙ ap (λ l. l ++ piece_bytes (named key (length out + length (all_apart g)) (block_bytes key (length out) g)))
    (c.in_ok-push_term.ensures.added ∙ ap (λ t. index ++ term_bytes t) term)
    ∙ append_assoc index (term_bytes (first_row g).term) (piece_bytes (named key (length out + length (all_apart g)) (block_bytes key (length out) g)))
