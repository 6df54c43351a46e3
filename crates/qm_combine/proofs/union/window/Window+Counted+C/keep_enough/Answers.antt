-- Word by word those documents stay that have enough scores.
use Rattle.std.proofs.Common.{◌≡◌, ℕ, ◌+◌, ◌-◌, ◌*◌, ◌/◌, ◌%◌, ◌<◌, ◌&&◌, ◌||◌, Bool, true, false, List, cond, nat_le, get_or, length, set, ap, ap₂}
use Rattle.std.proofs.Common.{sym, arith, ◌∙◌, inl, inr}
use Rattle.std.proofs.lemmas.Bool.{and_parts, cases_Bool, cases_eq, cases_lt, le-leb, lt-leb}
use Rattle.std.proofs.lemmas.List.{get_or-set_same, length-set}
use Rattle.qm_docset.proofs.MembersLemmas.{and_true}
use Rattle.qm_docset.specs.Words.{words_have}
use Rattle.qm_docset.specs.declared.tiny_set.TinySet.{TinySet}
use Rattle.qm_combine.specs.Window.{window_has, window_state}
use Rattle.qm_combine.specs.declared.counted.Counted.{Counted}
use Rattle.qm_combine.proofs.Refilled.{window_has-before_end}
use Rattle.qm_combine.proofs.WindowWords.{has_at, has_at-before, has_at-from, state_at-same, words_have-other, words_have-was}
use Rattle.qm_combine.proofs.union.window.Window+Counted+C.keep_enough.Goals as goal
use Rattle.qm_combine.proofs.union.window.Window+Counted+C.keep_enough.Goals.{After-loop-bucket}
use Rattle.qm_combine.proofs.union.window.Window+Counted+C.keep_enough.Given.{Over}

-- whether a place has enough scores
abbrev enough : {C : Type 0} → ℕ → List (Counted C) → Counted C → ℕ → Bool
enough minimum states cleared x = nat_le minimum (get_or states x cleared).count

pub loop-bucket-preserved : goal.loop-bucket-preserved
loop-bucket-preserved g c =
    let old = c.args.self.now in
    let l = c.loop-bucket.self in
    let inv = c.loop-bucket.invariant in
    let words = l.buckets.items in
    let i = c.loop-bucket.bucket in
    let was : TinySet = c.index.result.now in
    let word : TinySet = c.keep_counted.result in
    let has : ℕ → Bool = words_have old.buckets.items in
    let asked : ℕ → Bool = enough c.args.minimum old.states.items old.combiner in
    let inside : i < length words = omega (arith, l.sixty_four, l.buckets.ok.0, c.loop-bucket-test.true, c.words-bucket-end.ensures.within) in
    record {
      start = inv.start;
      last = inv.last;
      combiner = inv.combiner;
      states = inv.states;
      kept = λ x. elim (cases_eq (x / 64) i) [
        | inl here ↦
            let place : i * 64 + x % 64 ≡ x = omega arith in
            let set_word : word ≡ get_or (set words i word) (x / 64) word = sym (ap (λ n. get_or (set words i word) n word) here
            ∙ get_or-set_same words i word word inside) in
            let now = words_have-was (set words i word) x word (omega (arith, length-set words i word)) set_word in
            let then_ = words_have-was words x was (omega arith) (c.index.ensures ∙ ap (λ n. get_or words n was) (sym here)) in
            let before = inv.kept x ∙ ap (λ t. has x && (t || asked x)) (le-leb (64 * i) x (omega arith)) ∙ and_true (has x) in
            let states = c.deref.ensures.value ∙ ap (λ (v : _). v.items) inv.states in
            let state : nat_le c.args.minimum (get_or c.deref.result.now (i * 64 + x % 64) l.combiner).count ≡ asked x =
            ap (λ n. nat_le c.args.minimum (get_or c.deref.result.now n l.combiner).count) place
            ∙ ap (λ ss. nat_le c.args.minimum (get_or ss x l.combiner).count) states
            ∙ ap (λ k. nat_le c.args.minimum (get_or old.states.items x k).count) inv.combiner in
            sym now ∙ c.keep_counted.ensures (x % 64) ∙ ap₂ (λ (a b : Bool). a && b) (then_ ∙ before) state
            ∙ sym (ap (λ t. has x && (t || asked x)) (lt-leb (64 * (i + 1)) x (omega arith)))
        | inr other ↦
            let same : nat_le (64 * i) x ≡ nat_le (64 * (i + 1)) x = elim (cases_lt x (64 * i)) [
              | inl below ↦ lt-leb (64 * i) x below ∙ sym (lt-leb (64 * (i + 1)) x (omega arith))
              | inr past ↦ le-leb (64 * i) x past ∙ sym (le-leb (64 * (i + 1)) x (omega arith))
            ] in
            words_have-other words i word x other ∙ inv.kept x ∙ ap (λ t. has x && (t || asked x)) same
      ];
    }

-- the documents that stay; no word behind that of the last has one
left : (g : Over) (c : After-loop-bucket g) → (d : ℕ)
    → window_has c.loop-bucket.self d ≡ (window_has c.args.self.now d && nat_le c.args.minimum (window_state c.args.self.now d).count)
unfolding window_has window_state
left g c d =
    let old = c.args.self.now in
    let l = c.loop-bucket.self in
    let inv = c.loop-bucket.invariant in
    let x : ℕ = d - old.start in
    let asked : ℕ → Bool = enough c.args.minimum old.states.items old.combiner in
    let kept : Bool → Bool = λ b. b && nat_le c.args.minimum (cond b (get_or old.states.items x old.combiner) old.combiner).count in
    ap (λ s. has_at s l.buckets.items d) inv.start ∙ elim (cases_lt d old.start) [
      | inl before ↦ has_at-before old.start l.buckets.items d before ∙ sym (ap kept (has_at-before old.start old.buckets.items d before))
      | inr past ↦
          let same = sym (has_at-from old.start old.buckets.items d past) in
          has_at-from old.start l.buckets.items d past ∙ inv.kept x ∙ elim (cases_Bool (has_at old.start old.buckets.items d)) [
            | inl here ↦
                let low = c.requires.until d here in
                let inside = window_has-before_end old d here in
                let reached : nat_le (64 * c.loop-bucket.bucket) x ≡ false = lt-leb (64 * c.loop-bucket.bucket) x
                (omega (arith, low, inside, past, c.words-bucket-end.ensures.last, c.loop-bucket-test.false)) in
                ap₂ (λ (a b : Bool). a && (b || asked x)) (same ∙ here) reached ∙ sym (ap kept here)
            | inr none ↦ ap (λ a. a && (nat_le (64 * c.loop-bucket.bucket) x || asked x)) (same ∙ none) ∙ sym (ap kept none)
          ]
    ]

pub returns-clause-documents : goal.returns-clause-documents
returns-clause-documents g c d = left g (goal.at.returns-clause-documents g c).After-loop-bucket d

pub returns-clause-states : goal.returns-clause-states
unfolding window_has window_state
returns-clause-states g c d here =
    let old = c.args.self.now in
    let l = c.loop-bucket.self in
    let inv = c.loop-bucket.invariant in
    let had = (and_parts (window_has c.args.self.now d) _ (sym (left g (goal.at.returns-clause-states g c).After-loop-bucket d) ∙ here)).0 in
    state_at-same old.start l.start old.buckets.items l.buckets.items old.states.items l.states.items old.combiner l.combiner d inv.start
    (ap (λ (v : _). v.items) inv.states) inv.combiner (here ∙ sym had)

pub returns-clause-until : goal.returns-clause-until
returns-clause-until g c d here =
    let had = (and_parts (window_has c.args.self.now d) _ (sym (left g (goal.at.returns-clause-until g c).After-loop-bucket d) ∙ here)).0 in
    omega (arith, c.requires.until d had, c.loop-bucket.invariant.last)
