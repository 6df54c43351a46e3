use Rattle.std.proofs.Common.{◌≡◌, ◌+◌, ◌-◌, ◌<◌, ◌∙◌, ℕ, List, Option, [], None, Some, true, false, cond, ap, arith, rules, sym}
use Rattle.qm_schema.specs.Term.{TermKey}
use Rattle.qm_store.specs.Items.{items_at}
use Rattle.qm_store.specs.Numbers.{number_at}
use Rattle.qm_store.specs.Pieces.{TellsOf}
use Rattle.qm_store.specs.RowBytes.{followed_by}
use Rattle.qm_store.specs.Weights.{is_last, last_by, pair_at, weight_at, weights_at}
use Rattle.qm_store.proofs.ItemSteps.{put-last}
use Rattle.qm_store.proofs.ItemsRead.{items-end, items-go_on, items-stop, tells-on}
use Rattle.qm_store.proofs.weight_bytes.read_weights.Goals as goal

-- what the bytes tell, behind the number of weights
counted : (bytes behind : List ℕ) (count : ℕ) → Some (count, behind) ≡ number_at 8 bytes → weights_at bytes ≡ items_at weight_at count [] behind
unfolding weights_at
counted bytes behind count read = ap (λ (r : Option (ℕ × List ℕ)). followed_by r (λ count rest. items_at weight_at count [] rest)) (sym read)

pub returns-in_err-term : goal.returns-in_err-term
returns-in_err-term c =
    let at = c.loop in
    let front = at.weights.entries in
    let left = c.in-Some.count - at.counter in
    let some : 0 < left = omega (arith, c.loop-test.true) in
    let stops = λ (none : pair_at at.rest.now ≡ None).
    counted c.args.bytes.now c.in-Some.behind.now c.in-Some.count c.in-Some.ensures.read
    ∙ sym (items-stop weight_at left front at.rest.now _ at.invariant some (ap (λ (r : Option ((TermKey × ℕ) × List ℕ)). followed_by r (last_by front)) none)) in
    let tells : TellsOf c.in_err-term.field-0.0 (weights_at c.args.bytes.now) = tells-on c.in_err-term.field-0.0 (pair_at at.rest.now) _ stops c.in_err-term.ensures in
    search (rules, tells)

pub returns-then-not-is_last : goal.returns-then-not-is_last
returns-then-not-is_last c =
    let at = c.loop in
    let front = at.weights.entries in
    let left = c.in-Some.count - at.counter in
    let w : TermKey × ℕ = (c.in_ok-term.term, c.in_ok-term.weight) in
    let early : is_last front w.0 ≡ false = sym c.is_last.ensures ∙ c.if-not-is_last.true in
    counted c.args.bytes.now c.in-Some.behind.now c.in-Some.count c.in-Some.ensures.read
    ∙ sym (items-stop weight_at left front at.rest.now _ at.invariant (omega (arith, c.loop-test.true))
    (ap (λ (r : Option ((TermKey × ℕ) × List ℕ)). followed_by r (last_by front)) c.in_ok-term.ensures
    ∙ ap (λ b. cond b (Some (w, c.in_ok-term.left.now)) None) early))

pub loop-preserved : goal.loop-preserved
loop-preserved c =
    let at = c.loop in
    let front = at.weights.entries in
    let left = c.in-Some.count - at.counter in
    let e : c.in-Some.count - (at.counter + 1) ≡ left - 1 = omega arith in
    let w : TermKey × ℕ = (c.in_ok-term.term, c.in_ok-term.weight) in
    let late : is_last front w.0 ≡ true = sym c.is_last.ensures ∙ c.if-not-is_last.false in
    let added = c.in_ok-insert.ensures.entries ∙ put-last front w.0 w.1 late in
    (λ i. items_at weight_at (e i) (added i) c.in_ok-term.left.now)
    ∙ items-go_on weight_at left front at.rest.now _ at.invariant (omega (arith, c.loop-test.true)) w c.in_ok-term.left.now
    (ap (λ (r : Option ((TermKey × ℕ) × List ℕ)). followed_by r (last_by front)) c.in_ok-term.ensures
    ∙ ap (λ b. cond b (Some (w, c.in_ok-term.left.now)) None) late)

pub returns : goal.returns
returns c =
    let at = c.loop in
    counted c.args.bytes.now c.in-Some.behind.now c.in-Some.count c.in-Some.ensures.read
    ∙ sym (items-end weight_at (c.in-Some.count - at.counter) at.weights.entries at.rest.now _ at.invariant (omega (arith, c.loop-test.false, at.auto.counter-end)))
