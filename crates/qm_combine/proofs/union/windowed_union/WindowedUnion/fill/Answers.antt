-- The buffer takes what one window has after another, until it is full or the union is at its end.
use Rattle.std.proofs.Common.{◌≡◌, List, ◌+◌, ◌-◌, ◌≤◌, drop, length, length-drop, take, refl, arith, ap, sym, ◌∙◌}
use Rattle.std.proofs.lemmas.List.{drop-drop, drop_all, take_all}
use Rattle.std.proofs.lemmas.Slice.{take-put_mid}
use Rattle.qm_docset.specs.Entry.{Entry, documents, head_document}
use Rattle.qm_docset.proofs.Buffers.{length-ended}
use Rattle.qm_combine.specs.United.{shown_list}
use Rattle.qm_combine.proofs.WindowTaken.{buffer-more, length-part, length-put}
use Rattle.qm_combine.proofs.union.windowed_union.WindowedUnion.fill.Goals as goal
use Rattle.qm_combine.proofs.union.windowed_union.WindowedUnion.fill.Goals.{Else-document-lt-TERMINATED}
use Rattle.qm_combine.proofs.union.windowed_union.WindowedUnion.fill.Given.{Over}

-- at its end it listed as many as were taken
ended : (g : Over) (c : Else-document-lt-TERMINATED g)
    → length (shown_list g.C.ScoreCombiner.combined g.C.ScoreCombiner.value (g.Self.WindowedUnion.shown c.args.self.now)) ≡ c.loop-taken.taken
ended g c =
    let inv = c.loop-taken.invariant in
    let was = g.met.Self.WindowedUnion.going c.args.self.now c.requires.standing in
    let is = g.met.Self.WindowedUnion.going c.loop-taken.self inv.standing in
    let here = is.standing.first ∙ ap head_document inv.left in
    let most = length-ended c.loop-taken.taken 0 _ _ was.standing.ascending
    (omega (arith, here, c.document.ensures, c.if-document-lt-TERMINATED.false)) in
    omega (arith, most, inv.within)

pub returns-else-document-lt-TERMINATED-clause-count : goal.returns-else-document-lt-TERMINATED-clause-count
returns-else-document-lt-TERMINATED-clause-count g c =
    let all = ended g (goal.at.returns-else-document-lt-TERMINATED-clause-count g c).Else-document-lt-TERMINATED in
    omega (arith, all, c.loop-taken.invariant.room)

pub returns-else-document-lt-TERMINATED-clause-documents : goal.returns-else-document-lt-TERMINATED-clause-documents
returns-else-document-lt-TERMINATED-clause-documents g c =
    let all = ended g (goal.at.returns-else-document-lt-TERMINATED-clause-documents g c).Else-document-lt-TERMINATED in
    c.loop-taken.invariant.filled
    ∙ ap documents (take_all c.loop-taken.taken _ (omega (arith, all)) ∙ sym (take_all 64 _ (omega (arith, all, c.loop-taken.invariant.room))))

pub returns-else-document-lt-TERMINATED-clause-entries : goal.returns-else-document-lt-TERMINATED-clause-entries
returns-else-document-lt-TERMINATED-clause-entries g c =
    let all = ended g (goal.at.returns-else-document-lt-TERMINATED-clause-entries g c).Else-document-lt-TERMINATED in
    let es : List Entry = shown_list g.C.ScoreCombiner.combined g.C.ScoreCombiner.value (g.Self.WindowedUnion.shown c.args.self.now) in
    c.loop-taken.invariant.left ∙ drop_all c.loop-taken.taken es (omega (arith, all)) ∙ sym (drop_all 64 es (omega (arith, all, c.loop-taken.invariant.room)))

pub loop-taken-preserved : goal.loop-taken-preserved
loop-taken-preserved g c =
    let inv = c.loop-taken.invariant in
    let e = c.take_window-taken.ensures in
    let r = c.take_window-taken.result in
    let t = c.loop-taken.taken in
    let es : List Entry = shown_list g.C.ScoreCombiner.combined g.C.ScoreCombiner.value (g.Self.WindowedUnion.shown c.args.self.now) in
    let xs = c.loop-taken.buffer in
    let new = c.take_window-taken.new.places in
    let rest : t + (64 - t) ≡ length xs = omega (arith, inv.room, inv.long) in
    let part = length-part t (64 - t) xs rest in
    let same : length new ≡ 64 - t = c.take_window-taken.auto.places ∙ part in
    let few : r ≤ 64 - t = omega (arith, e.some.1, part) in
    record {
      long = length-put t (64 - t) xs new rest same ∙ inv.long;
      room = omega (arith, few, inv.room);
      within = omega (arith, e.within, ap length inv.left, length-drop t es, inv.within);
      filled = buffer-more es _ xs new t r (take-put_mid t (64 - t) xs new (t + length new) refl (omega (arith, rest))) (omega (arith, rest))
          (omega (arith, few, same)) inv.filled (e.documents ∙ ap (λ ys. documents (take r ys)) inv.left);
      left = e.entries ∙ ap (drop r) inv.left ∙ drop-drop r t es;
      members = record { least = e.members.least ∙ inv.members.least; bounds = e.members.bounds ∙ inv.members.bounds };
      standing = e.standing;
    }
