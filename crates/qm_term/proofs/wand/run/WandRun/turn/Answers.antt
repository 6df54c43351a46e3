use Rattle.std.proofs.Common.{◌≡◌, ◌∙◌, ℕ, ℤ, ◌+◌, ◌<◌, ◌≤◌, ◌++◌, Bool, List, ap, arith, cond, drop, false, length, refl, rules, subst, sym, take, true, to_z}
use Rattle.std.proofs.Common.{of_z, w64, ◌^◌}
use Rattle.std.specs.List.Sorted.{IsPermutation}
use mir.Val.{SFits, bool_byte}
use Rattle.std.proofs.lemmas.Int.{to_z-of_z}
use Rattle.qm_term.specs.HeadRow.{IsRow, row_lists}
use Rattle.qm_term.specs.Runs.{InRange, MayPrune}
use Rattle.qm_term.specs.Members.{Member, united}
use Rattle.qm_term.specs.Pivot.{IsPivot, NoPivot, postings, total_top}
use Rattle.qm_term.specs.declared.wand.front.TermScorerWithMaxScore.{TermScorerWithMaxScore}
use Rattle.qm_term.specs.declared.wand.heads.Head.{Head}
use Rattle.std.proofs.lemmas.Bool.{true≢false}
use Rattle.qm_term.proofs.RowRecords.{row_members}
use Rattle.qm_term.proofs.WandSteps.{whole}
use Rattle.qm_term.proofs.WandTurns.{counted, no_pivot_above, turn_at}
use Rattle.qm_term.specs.contracts.wand.run.WandRun.turn.F-FnMut as fnmut
use Rattle.qm_term.proofs.wand.run.WandRun.turn.Goals as goal

room_after : (found : Bool) (b t n m : ℕ) → t + n < b → (found ≡ true → m < n) → (found ≡ false → m ≡ n) → t + bool_byte found + m < b
room_after true b t n m h more less = omega (arith, more refl)
room_after false b t n m h more less = omega (arith, less refl)

ticks_after : (found ticked : Bool) (a b : ℕ) → a ≤ b → (found ≡ false → ticked ≡ false) → a + cond ticked 1 0 ≤ b + bool_byte found
ticks_after true true a b h n = omega arith
ticks_after true false a b h n = omega arith
ticks_after false false a b h n = omega arith
ticks_after false true a b h n = absurd (true≢false (n refl))

pub turn_row-turned-requires-clause-row : goal.turn_row-turned-requires-clause-row
turn_row-turned-requires-clause-row g c =
    subst (λ (xs : List (TermScorerWithMaxScore _ _)). IsRow xs c.deref_mut.result.now) (sym c.deref_mut-2.ensures.value)
    (subst (λ (ys : List Head). IsRow c.args.self.now.scorers.items ys) (sym c.deref_mut.ensures.value) c.requires.valid.row)

pub turn_row-turned-requires-clause-callable : goal.turn_row-turned-requires-clause-callable
turn_row-turned-requires-clause-callable g c =
    let w = fnmut.words g.row.C g.row.N g.row.F g.F.FnMut in
    let self = c.args.self.now in
    let hs = self.heads.items in
    let ss = self.scorers.items in
    let hd = c.deref_mut.result.now in
    let sd = c.deref_mut-2.result.now in
    let th = self.threshold in
    let fits : SFits w64 th = search rules in
    let is : to_z w64 (of_z w64 th) ≡ th = to_z-of_z w64 th fits in
    let same : row_lists sd hd ≡ row_lists ss hs = ap (λ (xs : List (TermScorerWithMaxScore _ _)). row_lists xs hd) c.deref_mut-2.ensures.value
    ∙ ap (row_lists ss) c.deref_mut.ensures.value in
    rw is (subst (λ (ms : List Member). MayPrune (InRange w.step) w.pre th c.args.callback.now (united (g.C.ScoreCombiner.combined self.combiner) ms))
    (sym same) c.requires.callable)

pub returns-clause-valid : goal.returns-clause-valid
returns-clause-valid g c =
    let self = c.args.self.now in
    let hs = self.heads.items in
    let ss = self.scorers.items in
    let hd = c.deref_mut.result.now in
    let sd = c.deref_mut-2.result.now in
    let gs = c.turn_row-turned.new.heads in
    let ts = c.turn_row-turned.new.scorers in
    let th = self.threshold in
    let fits : SFits w64 th = search rules in
    let is : to_z w64 (of_z w64 th) ≡ th = to_z-of_z w64 th fits in
    let bar = c.turn_row-turned.result.threshold in
    let fits_bar : SFits w64 bar = search rules in
    let is_bar : to_z w64 (of_z w64 bar) ≡ bar = to_z-of_z w64 bar fits_bar in
    let same : row_lists sd hd ≡ row_lists ss hs = ap (λ (xs : List (TermScorerWithMaxScore _ _)). row_lists xs hd) c.deref_mut-2.ensures.value
    ∙ ap (row_lists ss) c.deref_mut.ensures.value in
    let hw = take self.heads.len (gs ++ drop (length gs) hs) in
    let sw = take self.scorers.len (ts ++ drop (length ts) ss) in
    let wg : hw ≡ gs = whole _ hs gs self.heads.ok.0 (omega (arith, c.turn_row-turned.auto.heads, ap length c.deref_mut.ensures.value)) in
    let wt : sw ≡ ts = whole _ ss ts self.scorers.ok.0 (omega (arith, c.turn_row-turned.auto.scorers, ap length c.deref_mut-2.ensures.value)) in
    let after : row_lists sw hw ≡ row_lists ts gs = ap (λ (xs : List (TermScorerWithMaxScore _ _)). row_lists xs hw) wt ∙ ap (row_lists ts) wg in
    let valid = c.requires.valid in
    record {
      row = subst (λ (xs : List (TermScorerWithMaxScore _ _)). IsRow xs hw) (sym wt) (subst (λ (ys : List Head). IsRow ts ys) (sym wg) c.turn_row-turned.ensures.row);
      fits = omega (arith, ap total_top after, c.turn_row-turned.ensures.fits, ap total_top same, valid.fits);
      room = room_after c.turn_row-turned.result.found (2 ^ 127) self.turns (postings (row_lists ss hs)) (postings (row_lists sw hw)) valid.room
          (λ e. omega (arith, (c.turn_row-turned.ensures.turn e).fewer, ap postings after, ap postings same))
          (λ e. ap postings after ∙ ap postings (c.turn_row-turned.ensures.none e).lists ∙ ap postings same);
      ticks = omega (
        arith,
        c.turn_row-turned.ensures.ticks,
        ticks_after c.turn_row-turned.result.found c.turn_row-turned.result.ticked self.ticks.count self.turns valid.ticks c.turn_row-turned.ensures.no_tick,
      );
    }

pub returns-clause-none : goal.returns-clause-none
returns-clause-none g c =
    let self = c.args.self.now in
    let hs = self.heads.items in
    let ss = self.scorers.items in
    let hd = c.deref_mut.result.now in
    let sd = c.deref_mut-2.result.now in
    let gs = c.turn_row-turned.new.heads in
    let ts = c.turn_row-turned.new.scorers in
    let th = self.threshold in
    let fits : SFits w64 th = search rules in
    let is : to_z w64 (of_z w64 th) ≡ th = to_z-of_z w64 th fits in
    let bar = c.turn_row-turned.result.threshold in
    let fits_bar : SFits w64 bar = search rules in
    let is_bar : to_z w64 (of_z w64 bar) ≡ bar = to_z-of_z w64 bar fits_bar in
    let same : row_lists sd hd ≡ row_lists ss hs = ap (λ (xs : List (TermScorerWithMaxScore _ _)). row_lists xs hd) c.deref_mut-2.ensures.value
    ∙ ap (row_lists ss) c.deref_mut.ensures.value in
    let hw = take self.heads.len (gs ++ drop (length gs) hs) in
    let sw = take self.scorers.len (ts ++ drop (length ts) ss) in
    let wg : hw ≡ gs = whole _ hs gs self.heads.ok.0 (omega (arith, c.turn_row-turned.auto.heads, ap length c.deref_mut.ensures.value)) in
    let wt : sw ≡ ts = whole _ ss ts self.scorers.ok.0 (omega (arith, c.turn_row-turned.auto.scorers, ap length c.deref_mut-2.ensures.value)) in
    let after : row_lists sw hw ≡ row_lists ts gs = ap (λ (xs : List (TermScorerWithMaxScore _ _)). row_lists xs hw) wt ∙ ap (row_lists ts) wg in
    λ e.
    let r = c.turn_row-turned.ensures.none e in record {
      none = subst (λ (ms : List Member). NoPivot th ms) same (subst (λ (t : ℤ). NoPivot t (row_lists sd hd)) is r.none);
      lists = after ∙ r.lists ∙ same;
      threshold = is_bar ∙ r.threshold ∙ is;
      callback = r.callback;
    }

pub returns-clause-done : goal.returns-clause-done
returns-clause-done g c =
    let self = c.args.self.now in
    let hs = self.heads.items in
    let ss = self.scorers.items in
    let hd = c.deref_mut.result.now in
    let sd = c.deref_mut-2.result.now in
    let th = self.threshold in
    let fits : SFits w64 th = search rules in
    let is : to_z w64 (of_z w64 th) ≡ th = to_z-of_z w64 th fits in
    let same : row_lists sd hd ≡ row_lists ss hs = ap (λ (xs : List (TermScorerWithMaxScore _ _)). row_lists xs hd) c.deref_mut-2.ensures.value
    ∙ ap (row_lists ss) c.deref_mut.ensures.value in
    λ e.
    let none = (c.turn_row-turned.ensures.none e).none in
    no_pivot_above (g.C.ScoreCombiner.combined self.combiner) (g.met.C.BoundedBySum.within_sum self.combiner) th (row_lists ss hs)
    (row_members ss hs c.requires.valid.row.heads)
    (subst (λ (ms : List Member). NoPivot th ms) same (subst (λ (t : ℤ). NoPivot t (row_lists sd hd)) is none))

pub returns-clause-turns : goal.returns-clause-turns
returns-clause-turns g c = omega (arith, counted c.turn_row-turned.result.found)

pub returns-clause-no_tick : goal.returns-clause-no_tick
returns-clause-no_tick g c = λ e.
    let ticks : ◌≡◌ {A = ℕ} (cond c.turn_row-turned.result.ticked 1 0) 0 =
    ap (λ (b : Bool). cond b 1 0) (c.turn_row-turned.ensures.no_tick e) in
    omega (arith, ticks, c.turn_row-turned.ensures.ticks)

pub returns-clause-turn : goal.returns-clause-turn
returns-clause-turn g c =
    let self = c.args.self.now in
    let hs = self.heads.items in
    let ss = self.scorers.items in
    let hd = c.deref_mut.result.now in
    let sd = c.deref_mut-2.result.now in
    let gs = c.turn_row-turned.new.heads in
    let ts = c.turn_row-turned.new.scorers in
    let th = self.threshold in
    let fits : SFits w64 th = search rules in
    let is : to_z w64 (of_z w64 th) ≡ th = to_z-of_z w64 th fits in
    let bar = c.turn_row-turned.result.threshold in
    let fits_bar : SFits w64 bar = search rules in
    let is_bar : to_z w64 (of_z w64 bar) ≡ bar = to_z-of_z w64 bar fits_bar in
    let same : row_lists sd hd ≡ row_lists ss hs = ap (λ (xs : List (TermScorerWithMaxScore _ _)). row_lists xs hd) c.deref_mut-2.ensures.value
    ∙ ap (row_lists ss) c.deref_mut.ensures.value in
    let hw = take self.heads.len (gs ++ drop (length gs) hs) in
    let sw = take self.scorers.len (ts ++ drop (length ts) ss) in
    let wg : hw ≡ gs = whole _ hs gs self.heads.ok.0 (omega (arith, c.turn_row-turned.auto.heads, ap length c.deref_mut.ensures.value)) in
    let wt : sw ≡ ts = whole _ ss ts self.scorers.ok.0 (omega (arith, c.turn_row-turned.auto.scorers, ap length c.deref_mut-2.ensures.value)) in
    let after : row_lists sw hw ≡ row_lists ts gs = ap (λ (xs : List (TermScorerWithMaxScore _ _)). row_lists xs hw) wt ∙ ap (row_lists ts) wg in
    let call = InRange (fnmut.words g.row.C g.row.N g.row.F g.F.FnMut).step in
    λ e.
    let r = c.turn_row-turned.ensures.turn e in
    let combined = g.C.ScoreCombiner.combined self.combiner in
    let within = g.met.C.BoundedBySum.within_sum self.combiner in
    let f = c.args.callback.now in
    let z = c.turn_row-turned.new.callback in
    let ticked = c.turn_row-turned.result.ticked in record {
      ticked = ticked;
      ticks = omega (arith, c.turn_row-turned.ensures.ticks);
      turn = record {
        pivot = r.pivot;
        lists = r.lists;
        found = subst (λ (ms : List Member). IsPivot th ms r.pivot) same (subst (λ (t : ℤ). IsPivot t (row_lists sd hd) r.pivot) is r.found);
        fewer = omega (arith, r.fewer, ap postings after, ap postings same);
        order = subst (λ (ns : List Member). IsPermutation r.lists ns) (sym after) r.order;
        turn = turn_at call combined within th _ bar _ f z (row_lists ss hs) _ r.lists r.lists ticked r.pivot is same is_bar refl r.turn;
      };
    }
