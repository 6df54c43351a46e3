use Rattle.std.proofs.Common.{◌≡◌, ◌⊎◌, inl, inr, ◌≤◌, ◌++◌, List, ℕ, length, rules, arith, sym, ◌∙◌, ap}
use Rattle.std.specs.Cmp.Lexicographic.{slice_cmp}
use Rattle.std.specs.Ordering.{nat_cmp}
use Rattle.std.specs.declared.cmp.Ordering.TheVariants.{Less, Equal, Greater}
use Rattle.qm_folder.proofs.ComparedFiles.{after_both, after_greater, after_lesser, gone_at_end, none_listed, read_at_end}
use Rattle.qm_folder.proofs.comparing.changes.Goals as goal
use Rattle.qm_folder.proofs.comparing.changes.Goals.{then-loop-at-test+else-place-found, else-loop-at-test}

pub loop-at-init : goal.loop-at-init
loop-at-init c = record { at = omega arith; place = omega arith; listed = none_listed c.args.kept.now c.args.found.now _ _ c.new-gone.ensures.items c.new-to_read.ensures.items }

pub loop-at-preserved-in-Less : goal.loop-at-preserved-in-Less
loop-at-preserved-in-Less c =
    let k = c.index-kept-at.result in
    let f = c.index-found-place.result in
    let order : slice_cmp nat_cmp k.path.items f.path.items ≡ Less = search rules in
    record {
      at = omega arith;
      place = c.loop-at.invariant.place;
      listed =
          after_lesser c.args.kept.now c.args.found.now c.loop-at.at c.loop-at.place c.loop-at.gone.items c.loop-at.to_read.items k f c.requires.kept_ascend c.requires.found_ascend c.loop-at.invariant.listed
          c.loop-at-test.true c.if-place-found.true c.index-kept-at.is c.index-found-place.is _ order c.in_ok-push-in-Less.ensures.items;
    }

pub loop-at-preserved-in-Greater : goal.loop-at-preserved-in-Greater
loop-at-preserved-in-Greater c =
    let k = c.index-kept-at.result in
    let f = c.index-found-place.result in
    let order : slice_cmp nat_cmp k.path.items f.path.items ≡ Greater = search rules in
    record {
      at = c.loop-at.invariant.at;
      place = omega arith;
      listed =
          after_greater c.args.kept.now c.args.found.now c.loop-at.at c.loop-at.place c.loop-at.gone.items c.loop-at.to_read.items k f c.requires.kept_ascend c.requires.found_ascend c.loop-at.invariant.listed
          c.loop-at-test.true c.if-place-found.true c.index-kept-at.is c.index-found-place.is _ order c.in_ok-push-in-Greater.ensures.items;
    }

pub loop-at-preserved : goal.loop-at-preserved
loop-at-preserved c =
    let k = c.index-kept-at.result in
    let f = c.index-found-place.result in
    let order : slice_cmp nat_cmp k.path.items f.path.items ≡ Equal = search rules in
    record {
      at = omega arith;
      place = omega arith;
      listed =
          after_both c.args.kept.now c.args.found.now c.loop-at.at c.loop-at.place c.loop-at.gone.items c.loop-at.to_read.items k f c.requires.kept_ascend c.requires.found_ascend c.loop-at.invariant.listed
          c.loop-at-test.true c.if-place-found.true c.index-kept-at.is c.index-found-place.is _ _ c.is_unchanged-stays.result order c.is_unchanged-stays.ensures c.in_ok-push_unless-in-Equal.ensures.added c.in_ok-push_unless-in-Equal-2.ensures.added;
    }

pub returns-clause-gone : goal.returns-clause-gone
returns-clause-gone c =
    let i = c.loop-at.at in
    let j = c.loop-at.place in
    let kept = c.args.kept.now in
    let found = c.args.found.now in
    let through : (length kept ≤ i) ⊎ (length found ≤ j) = elim c.loop-at-test.branch [ then-loop-at-test+else-place-found w ↦ inr (omega arith) | else-loop-at-test w ↦ inl (omega arith) ] in
    c.in_ok-push_all.ensures.added ∙ ap (λ (ms : List ℕ). c.loop-at.gone.items ++ ms) (sym (gone_at_end kept found i j through)) ∙ c.loop-at.invariant.listed.gone

pub returns-clause-to_read : goal.returns-clause-to_read
returns-clause-to_read c =
    let i = c.loop-at.at in
    let j = c.loop-at.place in
    let kept = c.args.kept.now in
    let found = c.args.found.now in
    let through : (length kept ≤ i) ⊎ (length found ≤ j) = elim c.loop-at-test.branch [ then-loop-at-test+else-place-found w ↦ inr (omega arith) | else-loop-at-test w ↦ inl (omega arith) ] in
    c.in_ok-push_all-2.ensures.added ∙ ap (λ (ms : List ℕ). c.loop-at.to_read.items ++ ms) (sym (read_at_end kept found i j through)) ∙ c.loop-at.invariant.listed.read
