-- What was listed, and what the run still calls with, is all that the weight lists, unless memory was refused.
use Rattle.std.proofs.Common.{◌≡◌, ◌+◌, ◌++◌, ◌∷◌, [], ℕ, ℤ, List, Option, Some, true, append_assoc, append-nil, ap, sym, ◌∙◌, refl, rules, map, pos, subst}
use Rattle.qm_docset.specs.Entry.{Entry}
use Rattle.qm_script.specs.AllSegments.{listed}
use Rattle.qm_script.specs.Pruned.{entry_item}
use Rattle.qm_script.specs.Text.{numbered}
use Rattle.qm_script.specs.Written.{ListsMore, ListsSoFar}
use Rattle.qm_term.specs.RunsFacts.{CallsEach-keeps, MayCallEach-always}
use Rattle.qm_weight.specs.Weights.{tree_of}
use Rattle.qm_script.proofs.ListingTexts.{listing-append}
use Rattle.qm_script.proofs.PrunedParts.{entries-listed}
use Rattle.qm_script.proofs.Written.{on_ok_then}
use Rattle.qm_script.proofs.matching.list_scored.Goals as goal

pub for_each-requires : goal.for_each-requires
for_each-requires c = record { allowed = λ es is. search (rules, MayCallEach-always) }

pub returns-clause-listed : goal.returns-clause-listed
returns-clause-listed c = on_ok_then c.for_each.result c.for_each.ensures.calls (λ run.
    let es = run.0 in
    let old = c.args.listing.now in
    let n = old.first in
    let s = c.args.segment.now.segment in
    let tree = tree_of c.args.weight.now in
    let kept = CallsEach-keeps _ (λ first f left. ((done : List Entry) × ((items : List (ℕ × Option ℤ)) → ListsSoFar items old →
    ListsSoFar (items ++ numbered n (map entry_item done)) f.0.now) × (done ++ left ≡ es)) × (f.0.now.first ≡ n) × (f.0.ghost_name ≡ first.0.ghost_name)) _
    (λ f h e left now made.
    let adds : ListsMore ((f.0.now.first + e.document, Some (pos e.score)) ∷ []) f.0.now h.0.now = search rules in
    let so_far = now.0 in
    let first : h.0.now.first ≡ f.0.now.first = search rules in
    let same : h.0.ghost_name ≡ f.0.ghost_name = search rules in (
      (
        so_far.0 ++ e ∷ [],
        λ items is.
            let before = items ++ numbered n (map entry_item so_far.0) in
            let more = adds before (so_far.1 items is) in
            subst (λ l. ListsSoFar l h.0.now) (ap (λ k. before ++ (k + e.document, Some (pos e.score)) ∷ []) now.1
            ∙ listing-append entry_item items n so_far.0 (e ∷ [])) more,
        append_assoc so_far.0 (e ∷ []) left ∙ so_far.2,
      ),
      first ∙ now.1,
      same ∙ now.2,
    ))
    es _ (([], λ items is. subst (λ t. ListsSoFar t old) (sym (append-nil items)) is, refl), refl, refl) run.2 in
    let callback = c.for_each.new.callback in
    let done = kept.0 in
    let found = ap (λ ds. numbered n (map entry_item ds)) (sym (append-nil done.0) ∙ done.2 ∙ run.1.scores c.requires.scoring) ∙ entries-listed tree n s in
    let same = kept.2 in
    λ items is.
    let all : ListsSoFar (items ++ listed true tree n s) callback.0.now = subst (λ l. ListsSoFar (items ++ l) callback.0.now) found (done.1 items is) in
    search (rules, all))
