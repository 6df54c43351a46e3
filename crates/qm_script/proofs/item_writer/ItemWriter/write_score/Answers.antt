-- The score stands behind a colon, with its sign.
use Rattle.std.proofs.Common.{ap, append-nil, arith, int_lt, nat_abs, pos, subst, sym, ◌∷◌, ◌++◌, ◌≡◌, ◌∙◌, false, true, w64, Some}
use Rattle.std.proofs.lemmas.Int.{to_z-of_z}
use Rattle.std.specs.Prelude.{IsAscii}
use Rattle.std.specs.Fmt.{decimal, signed_decimal}
use Rattle.qm_script.specs.Backwards.{written_in}
use Rattle.qm_script.specs.Text.{score_text}
use Rattle.qm_script.proofs.Written.{IsAscii-score, signed-above, signed-below}
use Rattle.qm_script.proofs.item_writer.ItemWriter.write_score.Goals as goal
use Rattle.qm_script.proofs.item_writer.ItemWriter.write_score.Goals.{then-score-lt0, else-score-lt0}

-- what stands behind the document
score-written : (c : goal.After-write_before-arg-1) → written_in c.put_byte-2.new.self ≡ score_text (Some c.args.score)
score-written c =
    let score = c.args.score in
    let same = to_z-of_z w64 score c.ranges.score in
    let digits : written_in c.put_number.new.self ≡ decimal (nat_abs score) =
    c.put_number.ensures.written ∙ ap (λ t. decimal c.unsigned_abs.result ++ t) c.new-behind.ensures.written
    ∙ append-nil (decimal c.unsigned_abs.result) ∙ ap decimal (c.unsigned_abs.ensures.value ∙ ap nat_abs same) in
    let signed : written_in c.if-score-lt0.behind ≡ signed_decimal score = elim c.if-score-lt0.branch [
      | then-score-lt0 w ↦ ap written_in w.behind-is ∙ w.put_byte.ensures.written ∙ ap (λ ds. 45 ∷ ds) digits
          ∙ sym (signed-below score (subst (λ z. int_lt z (pos 0) ≡ true) same w.if-score-lt0.true))
      | else-score-lt0 w ↦ ap written_in w.behind-is ∙ digits
          ∙ sym (signed-above score (subst (λ z. int_lt z (pos 0) ≡ false) same w.if-score-lt0.false))
    ] in
    c.put_byte-2.ensures.written ∙ ap (λ ds. 58 ∷ ds) signed

pub write_before-requires-clause-ascii : goal.write_before-requires-clause-ascii
write_before-requires-clause-ascii c =
    let number = c.unsigned_abs.ensures.value ∙ ap nat_abs (to_z-of_z w64 c.args.score c.ranges.score) in
    subst IsAscii (sym (score-written c)) (IsAscii-score c.args.score (omega (arith, c.unsigned_abs.type_inv, number)))
