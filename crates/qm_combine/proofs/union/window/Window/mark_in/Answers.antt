-- The documents of a buffer are marked, and the cursor stands behind them.
use Rattle.std.proofs.Common.{ℕ, ◌+◌, ◌<◌, ◌≤◌, ◌||◌, ◌==◌, ◌-◌, All, drop, length, min, ap, subst, sym, refl, arith, ◌∙◌}
use Rattle.std.specs.List.{list_any}
use Rattle.std.proofs.lemmas.List.Elements.{All-weaker}
use Rattle.qm_docset.specs.BelowFacts.{documents-below, drop-below, from-dropped, length-below-most}
use Rattle.qm_docset.specs.Entry.{AreEntries, below, from, head_document}
use Rattle.qm_docset.specs.EntryFacts.{AreEntries-from_low, AreEntries-head, from-reached}
use Rattle.qm_docset.specs.Words.{words_have}
use Rattle.qm_combine.specs.Window.{window_has}
use Rattle.qm_combine.specs.WindowStates.{last_or}
use Rattle.qm_combine.proofs.Leading.{whole}
use Rattle.qm_combine.proofs.Marking.{IsMarking, marked-below, marked-beyond, marked-until, marking-first, marking-row}
use Rattle.qm_combine.proofs.TakenIn.{from-all_passed, from-passed, left-dropped}
use Rattle.qm_combine.proofs.WindowWords.{has_at}
use Rattle.qm_combine.proofs.union.window.Window.mark_in.Goals as goal
use Rattle.qm_combine.proofs.union.window.Window.mark_in.Goals.{After-fill_buffer_below-taken, After-loop-taken}
use Rattle.qm_combine.proofs.union.window.Window.mark_in.Given.{Over}

pub loop-taken-init : goal.loop-taken-init
loop-taken-init g c =
    let w = c.args.self.now in
    let es = g.D.DocSet.entries c.args.docset.now in
    let ascends = g.met.D.DocSet.ascending c.args.docset.now c.requires.docset.valid in
    record {
      few = omega arith;
      left = sym (from-reached (head_document es) 0 _ es (omega arith) ascends);
      kept = refl;
      all = λ less. absurd (omega (arith, less));
      limits = refl;
      valid = c.requires.docset.valid;
      placed = c.requires.docset.placed;
      long = omega (arith, ap length c.as_mut_slice-buckets.ensures.value, w.sixty_four, w.buckets.ok.0);
      marks = marking-first _ es ascends w.start (head_document es) w.buckets.items _ refl c.requires.first c.as_mut_slice-buckets.ensures.value;
    }

-- so many documents are before the bound, and from where it stood on
module _ (g : Over) (c : After-fill_buffer_below-taken g) where
  own : AreEntries 0 (g.D.DocSet.limits c.args.docset.now) (g.D.DocSet.entries c.loop-taken.docset)
  own =
      let es = g.D.DocSet.entries c.args.docset.now in
      let ascends = g.met.D.DocSet.ascending c.args.docset.now c.requires.docset.valid in
      subst (AreEntries 0 (g.D.DocSet.limits c.args.docset.now)) (sym c.loop-taken.invariant.left)
      (AreEntries-from_low (head_document (g.D.DocSet.entries c.loop-taken.docset)) 0 _ es ascends)

  few : c.fill_buffer_below-taken.result ≤ length (below c.args.bound (g.D.DocSet.entries c.loop-taken.docset))
  few = omega (arith, c.fill_buffer_below-taken.ensures.count)

pub mark_row-last-requires-clause-span : goal.mark_row-last-requires-clause-span
mark_row-last-requires-clause-span g c =
    let at = (goal.at.mark_row-last-requires-clause-span g c).After-fill_buffer_below-taken in
    let start = c.args.self.now.start in
    let rest = g.D.DocSet.entries c.loop-taken.docset in
    let Inside : ℕ → Type 0 = λ d. (start ≤ d) × (d < start + 4096) in
    let within = documents-below c.args.bound _ c.fill_buffer_below-taken.result (head_document rest) rest
    (AreEntries-head 0 _ rest (own g at)) (few g at) in
    subst (All Inside) (sym c.fill_buffer_below-taken.ensures.documents)
    (All-weaker (λ d. (head_document rest ≤ d) × (d < c.args.bound)) Inside
    (λ d l. (omega (arith, l.0, c.loop-taken.invariant.marks.low), omega (arith, l.1, c.requires.bound))) _ within)

pub loop-taken-preserved : goal.loop-taken-preserved
loop-taken-preserved g c =
    let at = (goal.at.loop-taken-preserved g c).After-fill_buffer_below-taken in
    let es = g.D.DocSet.entries c.args.docset.now in
    let ascends = g.met.D.DocSet.ascending c.args.docset.now c.requires.docset.valid in
    let inv = c.loop-taken.invariant in
    let filled = c.fill_buffer_below-taken.ensures in
    let n = c.fill_buffer_below-taken.result in
    let rest = g.D.DocSet.entries c.loop-taken.docset in
    let start = c.args.self.now.start in
    let old = words_have c.args.self.now.buckets.items in
    let more = words_have c.mark_row-last.new.buckets in
    let marked : IsMarking start (head_document (drop n rest)) c.mark_row-last.result old more es =
    subst (λ l. IsMarking start (head_document (drop n rest)) l old more es)
    (sym (c.mark_row-last.ensures.last ∙ ap (last_or c.loop-taken.last) filled.documents))
    (marking-row _ es ascends n start (head_document rest) c.loop-taken.last old (words_have c.loop-taken.buckets) more rest inv.marks inv.left refl
    (omega (arith, few g at, length-below-most c.args.bound rest))
    (λ x. c.mark_row-last.ensures.documents x
    ∙ ap (λ ds. list_any (λ d. x == d - start) ds || words_have c.loop-taken.buckets x) filled.documents)) in
    record {
      few = omega (arith, filled.count);
      left = filled.entries ∙ left-dropped _ es ascends n rest inv.left ∙ ap (λ xs. from (head_document xs) es) (sym filled.entries);
      kept = ap (from c.args.bound) filled.entries ∙ from-dropped c.args.bound _ n 0 rest (own g at) (few g at) ∙ inv.kept;
      all = λ less. filled.entries ∙ ap (λ k. drop k rest) (omega (arith, less, filled.count)) ∙ drop-below c.args.bound _ 0 rest (own g at) ∙ inv.kept;
      limits = filled.limits ∙ inv.limits;
      valid = filled.valid;
      placed = filled.placed;
      long = c.mark_row-last.auto.buckets ∙ inv.long;
      marks = subst (λ xs. IsMarking start (head_document xs) c.mark_row-last.result old more es) (sym filled.entries) marked;
    }

-- all before the bound were taken
module _ (g : Over) (c : After-loop-taken g) where
  passed : min c.args.bound 2147483647 ≤ head_document (g.D.DocSet.entries c.loop-taken.docset)
  passed =
      let es = g.D.DocSet.entries c.args.docset.now in
      let ascends = g.met.D.DocSet.ascending c.args.docset.now c.requires.docset.valid in
      let all = c.loop-taken.invariant.all (omega (arith, c.loop-taken.invariant.few, c.loop-taken-test.false)) in
      omega (arith, from-passed _ es ascends c.args.bound, ap head_document all)

pub returns-clause-documents : goal.returns-clause-documents
unfolding window_has
returns-clause-documents g c = λ d inside.
    let w = c.args.self.now in
    let es = g.D.DocSet.entries c.args.docset.now in
    let ascends = g.met.D.DocSet.ascending c.args.docset.now c.requires.docset.valid in
    let inv = c.loop-taken.invariant in
    let at = (goal.at.returns-clause-documents g c).After-loop-taken in
    let words = whole w.buckets.len c.loop-taken.buckets w.buckets.items (omega (arith, inv.long, w.sixty_four, w.buckets.ok.0)) w.buckets.ok.0 in
    ap (λ ws. has_at w.start ws d) words
    ∙ marked-below _ es ascends w.start (head_document (g.D.DocSet.entries c.loop-taken.docset)) c.loop-taken.last c.args.bound w.buckets.items
    c.loop-taken.buckets inv.marks (passed g at) c.requires.bound c.requires.first d inside

pub returns-clause-beyond : goal.returns-clause-beyond
unfolding window_has
returns-clause-beyond g c = λ d beyond.
    let w = c.args.self.now in
    let es = g.D.DocSet.entries c.args.docset.now in
    let ascends = g.met.D.DocSet.ascending c.args.docset.now c.requires.docset.valid in
    let inv = c.loop-taken.invariant in
    let at = (goal.at.returns-clause-beyond g c).After-loop-taken in
    let all = inv.all (omega (arith, inv.few, c.loop-taken-test.false)) in
    let doc = head_document (g.D.DocSet.entries c.loop-taken.docset) in
    let here = ap head_document (all ∙ sym (from-all_passed _ es ascends doc c.args.bound (passed g at))) in
    let words = whole w.buckets.len c.loop-taken.buckets w.buckets.items (omega (arith, inv.long, w.sixty_four, w.buckets.ok.0)) w.buckets.ok.0 in
    ap (λ ws. has_at w.start ws d) words
    ∙ marked-beyond _ es ascends w.start doc c.loop-taken.last c.args.bound w.buckets.items c.loop-taken.buckets inv.marks (passed g at) c.requires.bound
    (omega (arith, w.sixty_four, w.buckets.ok.0)) inv.long here d beyond

pub returns-clause-until : goal.returns-clause-until
returns-clause-until g c = λ until.
    let w = c.args.self.now in
    let es = g.D.DocSet.entries c.args.docset.now in
    let ascends = g.met.D.DocSet.ascending c.args.docset.now c.requires.docset.valid in
    marked-until _ es ascends w.start (head_document (g.D.DocSet.entries c.loop-taken.docset)) c.loop-taken.last c.args.bound w.buckets.items
    c.loop-taken.buckets c.loop-taken.invariant.marks (passed g (goal.at.returns-clause-until g c).After-loop-taken) c.requires.bound w.last
    c.max-self.result (window_has w) _ until (omega (arith, c.max-self.ensures)) (omega (arith, c.max-self.ensures)) (returns-clause-documents g c)
    (returns-clause-beyond g c)
