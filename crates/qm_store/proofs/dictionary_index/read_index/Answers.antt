use Rattle.std.proofs.Common.{◌≡◌, ◌+◌, ◌-◌, ◌++◌, [], ◌∷◌, arith, ap, sym, ◌∙◌, None, false, true, map, option_map, List, ℕ, Option}
use Rattle.std.proofs.lemmas.List.{map_push}
use Rattle.qm_store.specs.Dictionary.{ascend, is_behind, last_of, start_of, starts_at}
use Rattle.qm_store.specs.RowBytes.{followed_by}
use Rattle.qm_store.proofs.BlockOrder.{after-none, ascend-pushed, last-pushed}
use Rattle.qm_store.proofs.ReadingOn.{index-goes-on, index-stops, index-turns, last_first}
use Rattle.qm_store.proofs.dictionary_index.read_index.Goals as goal

pub returns-in_default-2 : goal.returns-in_default-2
returns-in_default-2 c =
    let at = c.loop in
    index-stops (map start_of at.starts.items) (c.in-Some.count - at.counter) (last_first at.starts.items) at.rest.now _ at.invariant.whole
    (omega (arith, c.loop-test.true)) (sym c.in_ok-start.ensures ∙ ap (option_map _) c.in_default-2.is)
    ∙ ap (λ (r : Option (ℕ × List ℕ)). followed_by r (λ count rest. starts_at count None rest)) c.in-Some.ensures.read

pub returns-then-not-is_behind : goal.returns-then-not-is_behind
returns-then-not-is_behind c =
    let at = c.loop in
    let early : is_behind (last_first at.starts.items) (start_of c.in-Some-2.start).first ≡ false =
    ap (λ xs. is_behind (last_first xs) (start_of c.in-Some-2.start).first) (sym c.deref.ensures.value) ∙ sym c.if-not-is_behind.ensures
    in
    index-turns (map start_of at.starts.items) (c.in-Some.count - at.counter) (last_first at.starts.items) at.rest.now _ at.invariant.whole
    (omega (arith, c.loop-test.true)) (start_of c.in-Some-2.start) c.in-Some-2.left.now (sym c.in_ok-start.ensures ∙ ap (option_map _) c.in-Some-2.is) early
    ∙ ap (λ (r : Option (ℕ × List ℕ)). followed_by r (λ count rest. starts_at count None rest)) c.in-Some.ensures.read

pub loop-preserved : goal.loop-preserved
loop-preserved c =
    let at = c.loop in
    let late : is_behind (last_first at.starts.items) (start_of c.in-Some-2.start).first ≡ true =
    ap (λ xs. is_behind (last_first xs) (start_of c.in-Some-2.start).first) (sym c.deref.ensures.value) ∙ sym c.if-not-is_behind.ensures
    in
    let start = start_of c.in-Some-2.start in
    let left = c.in-Some.count - at.counter in
    let e : c.in-Some.count - (at.counter + 1) ≡ left - 1 = omega arith in
    let pushed = ap (map start_of) c.in_ok-push.ensures.items ∙ map_push start_of at.starts.items c.in-Some-2.start in
    record {
      whole =
          (λ i. option_map (λ back. pushed i ++ back) (starts_at (e i) (option_map (λ b. b.first) (last_of (pushed i))) c.in-Some-2.left.now))
          ∙ ap (λ t. option_map (λ back. (map start_of at.starts.items ++ start ∷ []) ++ back) (starts_at (left - 1) (option_map (λ b. b.first) t) c.in-Some-2.left.now))
          (last-pushed (map start_of at.starts.items) start)
          ∙ index-goes-on (map start_of at.starts.items) left (last_first at.starts.items) at.rest.now _ at.invariant.whole
          (omega (arith, c.loop-test.true)) start c.in-Some-2.left.now (sym c.in_ok-start.ensures ∙ ap (option_map _) c.in-Some-2.is) late;
      up = ap (ascend None) pushed ∙ ascend-pushed None (map start_of at.starts.items) start at.invariant.up
          (ap (λ t. is_behind t start.first) (after-none (last_of (map start_of at.starts.items))) ∙ late);
    }
