use Rattle.std.proofs.Common.{◌+◌, ◌^◌, ◌≤◌, ◌++◌, ap, ◌∙◌, append_assoc, arith, drop, length, subst, take}
use Rattle.std.proofs.lemmas.List.{length-append}
use Rattle.std.proofs.Math.Seq.{drop-append_seam, take-append_seam}
use Rattle.qm_postings.specs.LentRow.{lent_row}
use Rattle.qm_store.specs.Pieces.{IsMakeRefusal}
use Rattle.qm_store.specs.RowBytes.{places_part, postings_part}
use Rattle.qm_store.specs.Stored.{apart, entry_bytes, parts_apart, parts_bytes}
use Rattle.qm_store.specs.TermBytes.{IsSomeTerm, term_bytes}
use Rattle.qm_store.proofs.StoredSteps.{handed-on}
use Rattle.qm_store.proofs.entry_bytes.push_entry.Goals as goal

pub push_parts-requires : goal.push_parts-requires
push_parts-requires c =
    let r = lent_row c.args.row.now in
    let long = ap length (c.deref.ensures.value ∙ c.in_ok-postings.ensures.row) ∙ length-append (postings_part r) (places_part r) in
    omega (arith, long, c.in_ok-postings.ensures.postings)

pub returns-clause-out : goal.returns-clause-out
unfolding apart
returns-clause-out c =
    let r = lent_row c.args.row.now in
    let whole = c.deref.ensures.value ∙ c.in_ok-postings.ensures.row in
    let n = c.in_ok-postings.ensures.postings in
    let front = (λ i. take (n i) (whole i)) ∙ take-append_seam (postings_part r) (places_part r) in
    let back = (λ i. drop (n i) (whole i)) ∙ drop-append_seam (postings_part r) (places_part r) in
    c.in_ok-push_parts.ensures.out ∙ (λ i. c.args.out.now.items ++ parts_apart (front i) (back i))

pub returns-clause-block : goal.returns-clause-block
unfolding entry_bytes
returns-clause-block c =
    let r = lent_row c.args.row.now in
    let whole = c.deref.ensures.value ∙ c.in_ok-postings.ensures.row in
    let n = c.in_ok-postings.ensures.postings in
    let front = (λ i. take (n i) (whole i)) ∙ take-append_seam (postings_part r) (places_part r) in
    let back = (λ i. drop (n i) (whole i)) ∙ drop-append_seam (postings_part r) (places_part r) in
    let at = length c.args.out.now.items in
    let parts = parts_bytes c.args.key at (postings_part r) (places_part r) in
    c.in_ok-push_parts.ensures.block
    ∙ (λ i. c.push_term.new.out.items ++ parts_bytes c.args.key at (front i) (back i))
    ∙ ap (λ l. l ++ parts) (c.in_ok-push_term.ensures.added ∙ ap (λ t. c.args.block.now.items ++ term_bytes t) c.term.ensures)
    ∙ append_assoc c.args.block.now.items (term_bytes r.term) parts

pub returns-clause-storable : goal.returns-clause-storable
returns-clause-storable c =
    let r = lent_row c.args.row.now in
    let whole = c.deref.ensures.value ∙ c.in_ok-postings.ensures.row in
    let n = c.in_ok-postings.ensures.postings in
    let front = (λ i. take (n i) (whole i)) ∙ take-append_seam (postings_part r) (places_part r) in
    let back = (λ i. drop (n i) (whole i)) ∙ drop-append_seam (postings_part r) (places_part r) in
    let few = c.in_ok-push_parts.ensures.few in
    record {
      term = subst IsSomeTerm c.term.ensures c.in_ok-push_term.ensures.some;
      frequencies = c.in_ok-postings.ensures.small;
      parts = record {
        in_front = subst (λ bs. length bs ≤ 2 ^ 60) front few.in_front;
        behind = subst (λ bs. length bs ≤ 2 ^ 60) back few.behind;
      };
    }

pub returns-in_err-push_parts-clause-refused : goal.returns-in_err-push_parts-clause-refused
unfolding apart
returns-in_err-push_parts-clause-refused c =
    let r = lent_row c.args.row.now in
    let whole = c.deref.ensures.value ∙ c.in_ok-postings.ensures.row in
    let n = c.in_ok-postings.ensures.postings in
    let front = (λ i. take (n i) (whole i)) ∙ take-append_seam (postings_part r) (places_part r) in
    let back = (λ i. drop (n i) (whole i)) ∙ drop-append_seam (postings_part r) (places_part r) in
    let e = c.in_err-push_parts.field-0.0 in
    let at = length c.args.out.now.items in
    let refused : IsMakeRefusal (at + length (apart r)) e =
    subst (λ bs. IsMakeRefusal (at + length bs) e) (λ i. parts_apart (front i) (back i)) c.in_err-push_parts.ensures.refused
    in
    handed-on c.from_residual-in_err-push_parts.result e (IsMakeRefusal (at + length (apart r))) c.from_residual-in_err-push_parts.ensures.1 refused
