use Rattle.std.proofs.Common.{◌≡◌, ◌+◌, ◌++◌, ◌∷◌, arith, ap, sym, ◌∙◌, List, ℕ, Option, Some, drop, map, option_map}
use Rattle.std.specs.Prelude.{option_and_then}
use Rattle.std.proofs.lemmas.List.{drop_more}
use Rattle.std.proofs.lemmas.Result.{err_from_is_err_and}
use Rattle.qm_postings.specs.Rows.{Row}
use Rattle.qm_store.specs.Dictionary.{start_of}
use Rattle.qm_store.specs.Pieces.{piece_in}
use Rattle.qm_store.specs.StoredSegment.{rows_by, rows_of_blocks}
use Rattle.qm_store.specs.declared.dictionary_index.BlockStart.{BlockStart}
use Rattle.qm_store.proofs.RowsThen.{plain, stops, tells, unread}
use Rattle.qm_store.proofs.stored_segment.StoredSegment.push_rows.Goals as goal

pub returns-in_err-read_piece : goal.returns-in_err-read_piece
returns-in_err-read_piece g c = λ file known.
    let at = c.loop-block in
    let i = at.block-index in
    let bs = c.args.blocks.now in
    let b = c.block-item.result in
    let key = c.args.self.now.key in
    let schema = c.args.schema.now in
    let chosen = option_map (λ w. w.now) c.args.chosen in
    let cut : drop i bs ≡ b ∷ drop (i + 1) bs = drop_more bs i b (omega (arith, c.loop-block-test.true, at.auto.block-index-end))
    ∙ ap (λ (x : BlockStart). x ∷ drop (i + 1) bs) (sym c.block-item.is)
    in
    let own = option_and_then (rows_by key file schema chosen) (piece_in key file b.piece) in
    let rest = rows_of_blocks key file schema chosen (map start_of (drop (i + 1) bs)) in
    let all = option_map (λ (more : List Row). c.args.rows.now.rows ++ more) (rows_of_blocks key file schema chosen (map start_of bs)) in
    let told = ap (λ (l : List BlockStart). option_map (λ (more : List Row). at.rows.rows ++ more) (rows_of_blocks key file schema chosen (map start_of l))) (sym cut)
    ∙ at.invariant.whole file known
    in
    let p = err_from_is_err_and c.from_residual.result c.from_residual.ensures.1 in
    rw (p.1, p.2) (tells c.in_err-read_piece.field-0.0 (option_map (λ (part : List ℕ). c.clear.new.self.items ++ part) (piece_in key file b.piece)) all
    (c.in_err-read_piece.ensures file known)
    (λ none. stops at.rows.rows own rest all told
    (unread (piece_in key file b.piece) (λ (part : List ℕ). c.clear.new.self.items ++ part) (rows_by key file schema chosen) at.rows.rows none)))

pub returns-in_err-push_rows_of : goal.returns-in_err-push_rows_of
returns-in_err-push_rows_of g c = λ file known.
    let at = c.loop-block in
    let i = at.block-index in
    let bs = c.args.blocks.now in
    let b = c.block-item.result in
    let key = c.args.self.now.key in
    let schema = c.args.schema.now in
    let chosen = option_map (λ w. w.now) c.args.chosen in
    let cut : drop i bs ≡ b ∷ drop (i + 1) bs = drop_more bs i b (omega (arith, c.loop-block-test.true, at.auto.block-index-end))
    ∙ ap (λ (x : BlockStart). x ∷ drop (i + 1) bs) (sym c.block-item.is)
    in
    let own = option_and_then (rows_by key file schema chosen) (piece_in key file b.piece) in
    let rest = rows_of_blocks key file schema chosen (map start_of (drop (i + 1) bs)) in
    let all = option_map (λ (more : List Row). c.args.rows.now.rows ++ more) (rows_of_blocks key file schema chosen (map start_of bs)) in
    let told = ap (λ (l : List BlockStart). option_map (λ (more : List Row). at.rows.rows ++ more) (rows_of_blocks key file schema chosen (map start_of l))) (sym cut)
    ∙ at.invariant.whole file known
    in
    let read = sym (plain (piece_in key file b.piece))
    ∙ ap (λ (l : List ℕ). option_map (λ (part : List ℕ). l ++ part) (piece_in key file b.piece)) (sym c.clear.ensures.items)
    ∙ c.in_ok-read_piece.ensures file known ∙ ap Some (sym c.deref.ensures.value)
    in
    let p = err_from_is_err_and c.from_residual-in_err-push_rows_of.result c.from_residual-in_err-push_rows_of.ensures.1 in
    rw (p.1, p.2) (tells c.in_err-push_rows_of.field-0.0 (option_map (λ (more : List Row). at.rows.rows ++ more) (rows_by key file schema chosen c.deref.result.now)) all
    (c.in_err-push_rows_of.ensures file known)
    (λ none. stops at.rows.rows own rest all told
    (ap (λ (x : Option (List ℕ)). option_map (λ (more : List Row). at.rows.rows ++ more) (option_and_then (rows_by key file schema chosen) x)) read ∙ none)))
