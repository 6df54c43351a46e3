use Rattle.std.proofs.Common.{◌≡◌, ◌+◌, ◌<◌, ◌∷◌, ◌++◌, List, Bool, ℕ, Vec, cond, map, take, drop, length, get_or, rules, refl, sym, ◌∙◌, ap, subst}
use Rattle.std.proofs.lemmas.List.{append-nil, drop_all, drop_more}
use Rattle.std.specs.declared.alloc.Global.{Global}
use Rattle.std.specs.List.{filter}
use Rattle.std.specs.List.Sorted.{IsPermutation}
use Rattle.qm_folder.specs.Afresh.{as_found, as_kept, files_after, files_left, files_read}
use Rattle.qm_folder.specs.Changes.{gone, is_kept, places_left, stays, to_read}
use Rattle.qm_folder.specs.declared.found_file.FoundFile.{FoundFile}
use Rattle.qm_folder.specs.declared.kept_file.KeptFile.{KeptFile}
use Rattle.std.proofs.lemmas.Bool.{both_ways}
use Rattle.qm_folder.proofs.ComputedAfresh.{computed-afresh}
use Rattle.example_search.proofs.ListedPlaces.{elements_at, elements_left, one_more, place_listed, place_passed, place_in_range}
use Rattle.example_search.specs.Places.{Begins}
use Rattle.example_search.proofs.changed_files.files_after.Goals as goal
use Rattle.example_search.proofs.changed_files.files_after.Goals.{then-begins, else-begins+in_ok-copied+in_ok-push}

pub loop-place-init : goal.loop-place-init
unfolding gone files_left
loop-place-init c = record {
  places = c.in_ok-changed.ensures.gone;
  left = ap (λ (files : List KeptFile). map as_kept files ++ map as_kept (filter (stays c.args.found.now) c.args.kept.now)) c.new-files.ensures.items;
}

pub loop-place-preserved : goal.loop-place-preserved
loop-place-preserved c =
    let kept = c.args.kept.now in
    let p = stays c.args.found.now in
    let place = c.loop-place.place in
    let k = c.index-kept-place.result in
    let rest = drop (place + 1) kept in
    let all = c.in_ok-changed.changed.gone.items in
    let total = map as_kept (files_left kept c.args.found.now) in
    let next : drop place kept ≡ k ∷ rest = drop_more kept place k c.loop-place-test.true ∙ ap (λ (x : KeptFile). x ∷ rest) (sym c.index-kept-place.is) in
    let places : drop c.loop-place.next all ≡ places_left p place (k ∷ rest) = c.loop-place.invariant.places ∙ ap (places_left p place) next in
    let left : map as_kept c.loop-place.files.items ++ map as_kept (filter p (k ∷ rest)) ≡ total = ap (λ (ks : List KeptFile). map as_kept c.loop-place.files.items ++ map as_kept (filter p ks)) (sym next) ∙ c.loop-place.invariant.left in
    elim c.if-begins.branch [
      | then-begins w ↦
          let here = place_listed p place k rest c.loop-place.next all places (subst (λ (ms : List ℕ). Begins place (drop c.loop-place.next ms)) c.deref.ensures.value (c.begins.ensures.0 w.if-begins.true)) in
          record {
            places = ap (λ (n : ℕ). drop n all) w.next-is ∙ here.1;
            left =
                ap (λ (v : Vec KeptFile Global). map as_kept v.items ++ map as_kept (filter p rest)) w.files-is
                ∙ ap (λ (b : Bool). map as_kept c.loop-place.files.items ++ map as_kept (cond b (k ∷ filter p rest) (filter p rest))) (sym here.0)
                ∙ left;
          }
      | else-begins+in_ok-copied+in_ok-push w ↦
          let not_here : Begins place (drop c.loop-place.next all) → ⊥ =
          λ it. both_ways c.begins.result w.if-begins.false (c.begins.ensures.1 (subst (λ (ms : List ℕ). Begins place (drop c.loop-place.next ms)) (sym c.deref.ensures.value) it)) in
          let here = place_passed p place k rest c.loop-place.next all places not_here in
          record {
            places = ap (λ (n : ℕ). drop n all) w.next-is ∙ here.1;
            left = one_more c.loop-place.files.items c.if-begins.files.items w.in_ok-copied.field-0 (map as_kept (filter p rest)) total (ap (λ (v : Vec KeptFile Global). v.items) w.files-is ∙ w.in_ok-push.ensures.items)
                ((λ i. map as_kept c.loop-place.files.items ++ w.in_ok-copied.ensures i ∷ map as_kept (filter p rest))
                ∙ ap (λ (b : Bool). map as_kept c.loop-place.files.items ++ map as_kept (cond b (k ∷ filter p rest) (filter p rest))) (sym here.0)
                ∙ left);
          }
    ]

pub loop-place-2-init : goal.loop-place-2-init
unfolding to_read files_read
loop-place-2-init c =
    let kept = c.args.kept.now in
    let found = c.args.found.now in
    let files = c.loop-place.files.items in
    let left : map as_kept files ≡ map as_kept (files_left kept found) =
    sym (append-nil (map as_kept files)) ∙ ap (λ (ks : List KeptFile). map as_kept files ++ map as_kept (filter (stays found) ks)) (sym (drop_all c.loop-place.place kept c.loop-place-test.false)) ∙ c.loop-place.invariant.left in
    let read : elements_at c.deref-place-items.result.now found ≡ files_read kept found =
    ap (λ (ms : List ℕ). elements_at ms found) (c.deref-place-items.ensures.value ∙ c.in_ok-changed.ensures.to_read) ∙ elements_left (is_kept kept found) found 0 found refl in
    λ i. left i ++ map as_found (read i)

pub bounds-found-place : goal.bounds-found-place
unfolding to_read
bounds-found-place c =
    place_in_range (is_kept c.args.kept.now c.args.found.now) c.args.found.now c.deref-place-items.result.now c.loop-place-2.place-index (c.deref-place-items.ensures.value ∙ c.in_ok-changed.ensures.to_read) c.loop-place-2-test.true

pub offset_bounds-found-place : goal.offset_bounds-found-place
offset_bounds-found-place c = let within = bounds-found-place c in search rules

pub loop-place-2-preserved : goal.loop-place-2-preserved
unfolding to_read
loop-place-2-preserved c =
    let found = c.args.found.now in
    let ns = c.deref-place-items.result.now in
    let i = c.loop-place-2.place-index in
    let n = get_or ns i 0 in
    let f = c.index-found-place.result in
    let files = c.loop-place-2.files.items in
    let rest = drop (i + 1) ns in
    let within : n < length found = place_in_range (is_kept c.args.kept.now found) found ns i (c.deref-place-items.ensures.value ∙ c.in_ok-changed.ensures.to_read) c.loop-place-2-test.true in
    let ns_next : drop i ns ≡ n ∷ rest = drop_more ns i 0 c.loop-place-2-test.true in
    let found_next : drop n found ≡ f ∷ drop (n + 1) found = drop_more found n f within ∙ ap (λ (x : FoundFile). x ∷ drop (n + 1) found) (sym c.index-found-place.is) in
    one_more files c.push-in-loop-place-2.new.self.items c.in_ok-read_now.field-0 (map as_found (elements_at rest found)) (files_after c.args.kept.now found) c.in_ok-push-2.ensures.items
    ((λ t. map as_kept files ++ c.in_ok-read_now.ensures t ∷ map as_found (elements_at rest found))
    ∙ ap (λ (fs : List FoundFile). map as_kept files ++ map as_found (take 1 fs ++ elements_at rest found)) (sym found_next)
    ∙ ap (λ (ms : List ℕ). map as_kept files ++ map as_found (elements_at ms found)) (sym ns_next)
    ∙ c.loop-place-2.invariant)

pub returns : goal.returns
returns c =
    let kept = c.args.kept.now in
    let found = c.args.found.now in
    let ns = c.deref-place-items.result.now in
    let files = c.loop-place-2.files.items in
    let all : map as_kept files ≡ files_after kept found =
    sym (append-nil (map as_kept files)) ∙ ap (λ (ms : List ℕ). map as_kept files ++ map as_found (elements_at ms found)) (sym (drop_all c.loop-place-2.place-index ns c.loop-place-2-test.false)) ∙ c.loop-place-2.invariant in
    subst (IsPermutation (map as_found found)) (sym all) (computed-afresh kept found c.requires.kept_ascend c.requires.found_ascend).files
