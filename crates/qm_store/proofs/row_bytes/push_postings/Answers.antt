use Rattle.std.proofs.Common.{◌≡◌, ◌<◌, ◌≤◌, ℕ, List, ◌++◌, arith, get_or, length, subst, sym, ◌∙◌, take, take_all, ap}
use Rattle.std.specs.Prelude.{All}
use Rattle.std.proofs.lemmas.List.{take_more}
use Rattle.std.proofs.lemmas.List.Elements.{All-push}
use Rattle.qm_postings.specs.LentRow.{lent_row}
use Rattle.qm_store.specs.RowBytes.{posting_bytes}
use Rattle.qm_store.proofs.RowsRead.{ascend-next, postings-next}
use Rattle.qm_store.proofs.row_bytes.push_postings.Goals as goal

pub loop-place-preserved : goal.loop-place-preserved
loop-place-preserved c =
    let fs = (lent_row c.args.row.now).frequencies in
    let place = c.loop-place.place in
    let within : place < length fs = omega (arith, c.loop-place-test.true, c.loop-place.auto.place-end, c.requires.paired, ap length c.documents-place-end.ensures) in
    let ds = (lent_row c.args.row.now).documents in
    let there : place < length ds = omega (arith, within, c.requires.paired) in
    let own : get_or c.documents.result.now place 0 ≡ get_or ds place 0 = ap (λ (xs : List ℕ). get_or xs place 0) c.documents.ensures in
    record {
      added = postings-next c.loop-place.out.items c.push_posting.new.out.items _ c.loop-place.low place _ _ ds fs there within own c.frequency.ensures
          (c.in_ok-push_posting.ensures ∙ ap (λ (g : ℕ). c.loop-place.out.items ++ posting_bytes g c.frequency.result) c.from.ensures)
          c.loop-place.invariant.added;
      ascending = ascend-next c.loop-place.low place _ ds there own c.loop-place.invariant.ascending;
      small = subst (All (λ f. f ≤ 4294967295)) (sym (take_more fs place 0 within))
          (All-push (λ f. f ≤ 4294967295) (take place fs) (get_or fs place 0) c.loop-place.invariant.small (omega (arith, c.frequency.ensures)));
    }

pub returns-clause-small : goal.returns-clause-small
returns-clause-small c =
    let fs = (lent_row c.args.row.now).frequencies in
    subst (All (λ f. f ≤ 4294967295))
    (take_all c.loop-place.place fs (omega (arith, c.loop-place-test.false, c.loop-place.auto.place-end, c.requires.paired, ap length c.documents-place-end.ensures)))
    c.loop-place.invariant.small
