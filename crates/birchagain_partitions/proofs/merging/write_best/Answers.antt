use Rattle.std.proofs.Common.{◌≡◌, ◌⊎◌, ℕ, ◌+◌, ◌<◌, ◌≤◌, ℤ, List, [], ◌++◌, ◌∙◌, ap, arith, drop, get_or, inl, inr, length, map, sym, take}
use Rattle.std.proofs.Math.ListN.{set}
use Rattle.std.proofs.lemmas.Bool.{cases_lt}
use Rattle.std.proofs.lemmas.List.{drop_all, length-map, length-take-le, take-append-drop}
use Rattle.birchagain_partitions.specs.BestOfParts.{best-of_ranked}
use Rattle.qm_script.specs.declared.searching.Hit.{Hit}
use Rattle.birchagain_partitions.specs.Merging.{item, items, moved, moved_hit}
use Rattle.birchagain_partitions.proofs.MergeSteps.{IsRanked-moved, left, left-step_first, left-step_second, no_hit, one-behind, one-written, take-written}
use Rattle.birchagain_partitions.proofs.merging.write_best.Goals as goal
use Rattle.birchagain_partitions.proofs.merging.write_best.Goals.{then-is_first_next, else-is_first_next}

pub loop-count-preserved : goal.loop-count-preserved
loop-count-preserved c =
    let xs = c.args.first.now in
    let ys = c.args.second.now in
    let out = c.loop-count.out in
    let n = c.loop-count.count in
    let i = c.loop-count.i in
    let j = c.loop-count.j in
    let kept = c.loop-count.invariant in
    let all = left c.args.offset xs ys in
    let within : n < length out = omega (arith, c.loop-count-test.true, c.min-room.ensures, kept.length) in
    let so_far : List (ℕ × ℤ) → List (ℕ × ℤ) = λ l. items (take n out) ++ l in elim c.if-is_first_next.branch [
      | then-is_first_next w ↦
          let next = c.is_first_next.ensures.first w.if-is_first_next.true in
          let hit = get_or xs i no_hit in
          let step = left-step_first c.args.offset xs ys i j c.requires.ranked.second next in
          let best = one-written out n hit (left c.args.offset (drop (i + 1) xs) (drop j ys)) all within (ap so_far (sym step) ∙ kept.best) in record {
            first = omega (arith, w.i-is, next.there);
            second = omega (arith, w.j-is, kept.second);
            count = omega (arith, w.i-is, w.j-is, kept.count);
            room = omega (arith, c.loop-count-test.true);
            length = c.if-is_first_next.auto.out ∙ kept.length;
            behind = ap (drop (n + 1)) w.out-is ∙ one-behind out c.args.out.now n hit kept.behind;
            best = (λ k. items (take (n + 1) (w.out-is k)) ++ left c.args.offset (drop (w.i-is k) xs) (drop (w.j-is k) ys)) ∙ best;
          }
      | else-is_first_next w ↦
          let next = c.is_first_next.ensures.second w.if-is_first_next.false in
          let hit = moved_hit c.args.offset (get_or ys j no_hit) in
          let out_is : c.if-is_first_next.out ≡ set out n hit = w.out-is ∙ ap (set out n) w.renumbered.ensures in
          let step = left-step_second c.args.offset xs ys i j c.requires.ranked.second next in
          let best = one-written out n hit (left c.args.offset (drop i xs) (drop (j + 1) ys)) all within (ap so_far (sym step) ∙ kept.best) in record {
            first = omega (arith, w.i-is, kept.first);
            second = omega (arith, w.j-is, next.there);
            count = omega (arith, w.i-is, w.j-is, kept.count);
            room = omega (arith, c.loop-count-test.true);
            length = c.if-is_first_next.auto.out ∙ kept.length;
            behind = ap (drop (n + 1)) out_is ∙ one-behind out c.args.out.now n hit kept.behind;
            best = (λ k. items (take (n + 1) (out_is k)) ++ left c.args.offset (drop (w.i-is k) xs) (drop (w.j-is k) ys)) ∙ best;
          }
    ]

pub returns : goal.returns
returns c =
    let xs = c.args.first.now in
    let ys = c.args.second.now in
    let before = c.args.out.now in
    let n = c.loop-count.count in
    let out = c.loop-count.out in
    let kept = c.loop-count.invariant in
    let few : n ≤ length out = omega (arith, kept.room, c.min-room.ensures, kept.length) in
    let second = IsRanked-moved c.args.offset (items ys) c.requires.ranked.second in
    let length-hits : length (items (take n out)) ≡ n = length-map (take n out) item ∙ length-take-le n out few in
    let ends : (n ≡ length before) ⊎ (left c.args.offset (drop c.loop-count.i xs) (drop c.loop-count.j ys) ≡ []) = elim (cases_lt n (length before)) [
      | inl less ↦
          let first_over : length xs ≤ c.loop-count.i = omega (arith, less, c.loop-count-test.false, c.min-room.ensures, kept.count, kept.first, kept.second) in
          let second_over : length ys ≤ c.loop-count.j = omega (arith, less, c.loop-count-test.false, c.min-room.ensures, kept.count, kept.first, kept.second) in
          inr (λ k. left c.args.offset (drop_all c.loop-count.i xs first_over k) (drop_all c.loop-count.j ys second_over k))
      | inr past ↦ inl (omega (arith, past, few, kept.length))
    ] in
    record {
      hits = take n out;
      best = sym (
          best-of_ranked (length before) (items xs) (map (moved c.args.offset) (items ys)) c.requires.ranked.first second
          ∙ ap (take (length before)) (sym kept.best)
          ∙ take-written (length before) n (items (take n out)) (left c.args.offset (drop c.loop-count.i xs) (drop c.loop-count.j ys)) length-hits
          (omega (arith, few, kept.length)) ends);
      counted = length-take-le n out few;
      front = sym (take-append-drop n out) ∙ ap (λ l. take n out ++ l) kept.behind;
    }
