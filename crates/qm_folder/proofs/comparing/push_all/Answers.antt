use Rattle.std.proofs.Common.{◌+◌, ◌-◌, ◌∷◌, ◌++◌, [], List, ℕ, sym, ◌∙◌, ap, arith}
use Rattle.std.specs.List.{range_with_len}
use Rattle.std.proofs.lemmas.List.{append_assoc}
use Rattle.qm_folder.proofs.ComparedFiles.{range_next}
use Rattle.qm_folder.proofs.comparing.push_all.Goals as goal

pub loop-place-preserved : goal.loop-place-preserved
loop-place-preserved c =
    let place = c.loop-place.place in
    let end = c.args.end in
    let before = c.loop-place.places.items in
    let rest = range_with_len (place + 1) (end - (place + 1)) in
    ap (λ (xs : List ℕ). xs ++ rest) c.in_ok-push.ensures.items
    ∙ append_assoc before (place ∷ []) rest
    ∙ ap (λ (xs : List ℕ). before ++ xs) (sym (range_next place end (omega arith)))
    ∙ c.loop-place.invariant
