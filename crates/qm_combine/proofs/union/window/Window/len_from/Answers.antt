-- Word by word the documents are counted.
use Rattle.std.proofs.Common.{◌≡◌, ℕ, ◌+◌, ◌-◌, ◌*◌, ◌/◌, ◌<◌, ◌++◌, List, [], length, length-append, map, ap, sym, arith, ◌∙◌}
use Rattle.std.proofs.lemmas.List.{length-map}
use Rattle.qm_docset.specs.Members.{members_between}
use Rattle.qm_docset.specs.TinySet.{tiny_members}
use Rattle.qm_docset.proofs.MembersLemmas.{length-members_between, members_between-none}
use Rattle.qm_combine.specs.Window.{window_has}
use Rattle.qm_combine.proofs.Filled.{none-yet, word-more}
use Rattle.qm_combine.proofs.WindowCounts.{window_from-until}
use Rattle.qm_combine.proofs.WindowWords.{has_at, intersected, unmasked}
use Rattle.qm_combine.proofs.union.window.Window.len_from.Goals as goal
use Rattle.qm_combine.proofs.union.window.Window.len_from.Goals.{After-len-count-in-loop-bucket}
use Rattle.qm_combine.proofs.union.window.Window.len_from.Given.{Over}

-- one word more
more : (f : ℕ → ℕ) (before after word : List ℕ) → after ≡ before ++ map f word → length after ≡ length before + length word
more f before after word grown = ap length grown ∙ length-append before (map f word) ∙ ap (λ n. length before + n) (length-map word f)

pub returns-then-from-ge-HORIZON : goal.returns-then-from-ge-HORIZON
unfolding window_has
returns-then-from-ge-HORIZON g c =
    let w = c.args.self.now in
    let none : members_between (has_at w.start w.buckets.items) c.args.doc (w.start + 4096) ≡ [] =
    members_between-none (has_at w.start w.buckets.items) c.args.doc (w.start + 4096)
    (λ d past below. absurd (omega (arith, c.if-from-ge-HORIZON.true, c.saturating_sub-from.ensures))) in
    sym (ap length none)

pub loop-bucket-init : goal.loop-bucket-init
unfolding window_has
loop-bucket-init g c =
    let w = c.args.self.now in
    let from = c.saturating_sub-from.result in
    let words = w.buckets.items in
    let word = c.intersect-word.result in
    let inside : from / 64 < length words = omega (arith, c.if-from-ge-HORIZON.false, w.sixty_four, w.buckets.ok.0) in
    let is = intersected words from c.index.result.now c.range_greater_or_equal.result word inside c.index.ensures c.intersect-word.ensures
    c.range_greater_or_equal.ensures in
    let place : from ≡ c.args.doc - w.start = c.saturating_sub-from.ensures in
    let none = none-yet w.start words c.args.doc from place in
    let grown = word-more w.start words c.args.doc from (from / 64) word place is in
    omega (arith, more _ _ _ (tiny_members word) grown, ap length none, c.len-count.ensures)

counted : (g : Over) (c : After-len-count-in-loop-bucket g) → c.loop-bucket.count + c.len-count-in-loop-bucket.result
    ≡ length (members_between (window_has c.args.self.now) c.args.doc (c.args.self.now.start + 64 * (c.loop-bucket.bucket + 1)))
unfolding window_has
counted g c =
    let w = c.args.self.now in
    let words = w.buckets.items in
    let from = c.saturating_sub-from.result in
    let b = c.loop-bucket.bucket in
    let word = c.index-in-loop-bucket.result.now in
    let is : (x : ℕ) → x < 64
    → _ = λ x small. unmasked words from b x word (omega (arith, w.sixty_four, w.buckets.ok.0, c.loop-bucket-test.true))
    c.index-in-loop-bucket.ensures (omega (arith, c.loop-bucket.auto.bucket)) small in
    let grown = word-more w.start words c.args.doc from b word c.saturating_sub-from.ensures is in
    omega (arith, more _ _ _ (tiny_members word) grown, c.len-count-in-loop-bucket.ensures, c.loop-bucket.invariant)

pub overflow_add-count : goal.overflow_add-count
overflow_add-count g c =
    let w = c.args.self.now in
    omega (
      arith,
      counted g (goal.at.overflow_add-count g c).After-len-count-in-loop-bucket,
      length-members_between (window_has w) c.args.doc (w.start + 64 * (c.loop-bucket.bucket + 1)),
      w.within,
    )

pub loop-bucket-preserved : goal.loop-bucket-preserved
loop-bucket-preserved g c = counted g (goal.at.loop-bucket-preserved g c).After-len-count-in-loop-bucket

pub returns : goal.returns
returns g c =
    let w = c.args.self.now in
    let reach : ℕ = w.start + 64 * c.loop-bucket.bucket in
    let all = window_from-until w c.args.doc reach c.requires.until (omega (arith, c.words-bucket-end.ensures.last, c.loop-bucket-test.false)) in
    c.loop-bucket.invariant ∙ sym (ap length all)
