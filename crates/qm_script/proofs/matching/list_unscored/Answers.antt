-- What was listed, and the slices that are still to come, are all documents that the weight lists, unless memory was refused.
use Rattle.std.proofs.Common.{◌≡◌, ◌++◌, [], ℕ, List, append_assoc, append-nil, ap, false, sym, ◌∙◌, refl, rules, map, subst}
use Rattle.std.specs.List.{concat}
use Rattle.qm_script.specs.AllSegments.{listed}
use Rattle.qm_script.specs.Text.{numbered}
use Rattle.qm_script.specs.Written.{ListsSoFar}
use Rattle.qm_term.specs.RunsFacts.{CallsEach-keeps, MayCallEach-always}
use Rattle.qm_weight.specs.TreeRuns.{tree_slices}
use Rattle.qm_weight.specs.Tree.{matching}
use Rattle.qm_weight.specs.Weights.{tree_of}
use Rattle.qm_weight.specs.CallerFacts.{concat-tree_slices}
use Rattle.qm_script.proofs.ListedSegments.{documents-listed, plain_item}
use Rattle.qm_script.proofs.ListingTexts.{listing-append}
use Rattle.qm_script.proofs.Written.{on_ok_then}
use Rattle.qm_script.proofs.matching.list_unscored.Goals as goal

pub for_each_no_score-requires : goal.for_each_no_score-requires
for_each_no_score-requires c = record { allowed = search (rules, MayCallEach-always) }

pub returns-clause-listed : goal.returns-clause-listed
returns-clause-listed c = on_ok_then c.for_each_no_score.result c.for_each_no_score.ensures.calls (λ run. λ items is.
    let n = c.args.listing.now.first in
    let s = c.args.segment.now.segment in
    let tree = tree_of c.args.weight.now in
    let ds = matching tree s in
    let kept = CallsEach-keeps _ (λ first f left. ((done : List ℕ) × ListsSoFar (items ++ numbered n (map plain_item done)) f.0.now × (done ++ concat left ≡ ds))
    × (f.0.now.first ≡ n) × (f.0.ghost_name ≡ first.0.ghost_name)) _
    (λ f h slice left now made.
    let so_far = now.0 in
    let first : h.0.now.first ≡ f.0.now.first = search rules in
    let more : ListsSoFar ((items ++ numbered n (map plain_item so_far.0)) ++ numbered f.0.now.first (map plain_item slice)) h.0.now =
    search (rules, so_far.1) in
    let same : h.0.ghost_name ≡ f.0.ghost_name = search rules in (
      (
        so_far.0 ++ slice,
        subst (λ l. ListsSoFar l h.0.now) (ap (λ k. (items ++ numbered n (map plain_item so_far.0)) ++ numbered k (map plain_item slice)) now.1
            ∙ listing-append plain_item items n so_far.0 slice) more,
        append_assoc so_far.0 slice (concat left) ∙ so_far.2,
      ),
      first ∙ now.1,
      same ∙ now.2,
    ))
    (tree_slices tree s) _ (
      ([], subst (λ t. ListsSoFar t c.args.listing.now) (sym (append-nil items)) is, concat-tree_slices tree s),
      refl,
      refl,
    ) run in
    let callback = c.for_each_no_score.new.callback in
    let done = kept.0 in
    let all : ListsSoFar (items ++ listed false tree n s) callback.0.now =
    subst (λ l. ListsSoFar (items ++ l) callback.0.now) (documents-listed tree n s done.0 (sym (append-nil done.0) ∙ done.2)) done.1 in
    let same = kept.2 in
    search (rules, all))
