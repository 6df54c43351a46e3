-- The first document stands alone, and each further one behind a space.
use Rattle.std.proofs.Common.{ap, arith, refl, subst, sym, ◌<◌, ◌∷◌, ◌++◌, ◌^◌, ◌∙◌}
use Rattle.std.specs.Prelude.{IsAscii}
use Rattle.std.specs.Fmt.{decimal}
use Rattle.std.proofs.lemmas.Fmt.{IsAscii-decimal}
use Rattle.std.proofs.lemmas.Str.{IsAscii-append}
use Rattle.std.proofs.lemmas.Str.Ascii.{IsAscii-cons}
use Rattle.qm_script.specs.Backwards.{written_in}
use Rattle.qm_script.proofs.Written.{listed-first, listed-next}
use Rattle.qm_script.proofs.item_writer.ItemWriter.write_before.Goals as goal
use Rattle.qm_script.proofs.item_writer.ItemWriter.write_before.Goals.{then-self, else-self}

pub invariant_of-self-2 : goal.invariant_of-self-2
invariant_of-self-2 c =
    let number = IsAscii-append (decimal c.args.document) (written_in c.args.behind)
    (IsAscii-decimal c.args.document (omega (arith, c.ranges.document.fits))) c.requires.ascii in
    let text : IsAscii (written_in c.if-self.item) = elim c.if-self.branch [
      | then-self w ↦ subst IsAscii (sym (ap written_in w.item-is ∙ w.put_byte.ensures.written ∙ ap (λ ds. 32 ∷ ds) c.put_number.ensures.written))
          (IsAscii-cons 32 _ (omega arith) number)
      | else-self w ↦ subst IsAscii (sym (ap written_in w.item-is ∙ c.put_number.ensures.written)) number
    ] in
    let old = c.args.self.now.bytes.items in
    record {
      ascii = subst IsAscii (sym (c.in_ok-extend_from_slice.ensures.items ∙ ap (λ t. old ++ t) c.written.ensures))
          (IsAscii-append old (written_in c.if-self.item) c.args.self.now.ascii text);
    }

pub returns : goal.returns
returns c = λ score behind items is.
    let small : c.args.document < 2 ^ 64 = omega (arith, c.ranges.document.fits) in
    let old = c.args.self.now.bytes.items in
    let digits = c.put_number.ensures.written ∙ ap (λ t. decimal c.args.document ++ t) behind in
    let new = c.in_ok-extend_from_slice.ensures.items ∙ ap (λ t. old ++ t) c.written.ensures in
    elim c.if-self.branch [
      | then-self w ↦ listed-next items c.args.self.now _ is c.args.document score small refl w.if-self.true
          (new ∙ ap (λ t. old ++ t) (ap written_in w.item-is ∙ w.put_byte.ensures.written ∙ ap (λ ds. 32 ∷ ds) digits))
      | else-self w ↦ listed-first items c.args.self.now _ is c.args.document score small refl w.if-self.false
          (new ∙ ap (λ t. old ++ t) (ap written_in w.item-is ∙ digits))
    ]
