use Rattle.std.proofs.Common.{◌≡◌, ℕ, ◌<◌, ◌&&◌, Bool, true, false, not, ap, arith, length, lt-ltb, sym, ◌∙◌}
use Rattle.qm_postings.specs.Reading.{Reader}
use Rattle.qm_postings.specs.Segment.{Segment, is_alive, is_deleted}
use Rattle.qm_merge.proofs.DeletedOfBoth.{delete-next, delete-none, delete-start}
use Rattle.qm_script.proofs.terms_alone.delete_as_in.Goals as goal
use Rattle.qm_script.proofs.terms_alone.delete_as_in.Goals.{else-not-is_alive, then-not-is_alive+in_ok-delete}

-- whether one is deleted, by whether it is alive
deleted-by : (s : Segment) (d : ℕ) (b : Bool) → d < length s.documents → is_alive s d ≡ not b → is_deleted s d ≡ b
deleted-by s d b below is = turned (is_deleted s d) b (sym (ap (λ a. a && not (is_deleted s d)) (lt-ltb d (length s.documents) below)) ∙ is)
  where
    turned : (a b : Bool) → not a ≡ not b → a ≡ b
    turned true true same = λ i. true
    turned true false same = cc
    turned false true same = cc
    turned false false same = λ i. false

pub loop-doc-init : goal.loop-doc-init
loop-doc-init c = delete-start (is_deleted c.args.other.now.segment) c.args.segment.now.segment c.requires.none

pub loop-doc-preserved : goal.loop-doc-preserved
loop-doc-preserved c =
    let other = c.args.other.now.segment in
    let base = c.args.segment.now.segment in
    let doc = c.loop-doc.doc in
    let below : doc < length base.documents = omega (arith, c.loop-doc-test.true, c.max_doc-doc-end.ensures.number) in
    let alive = sym (c.in-Some.ensures.alive doc) ∙ sym c.is_alive.ensures.member in
    let there : doc < length other.documents = omega (arith, below, c.requires.same) in
    elim c.if-not-is_alive.branch [
      | then-not-is_alive+in_ok-delete w ↦ rw w.segment-is (ap (λ (r : Reader). r.segment) w.in_ok-delete.ensures.deleted
          ∙ delete-next (is_deleted other) c.loop-doc.segment.segment base doc c.loop-doc.invariant below
          (deleted-by other doc true there (alive ∙ w.if-not-is_alive.true)))
      | else-not-is_alive w ↦ rw w.segment-is
          (delete-none (is_deleted other) c.loop-doc.segment.segment base doc c.loop-doc.invariant
          (deleted-by other doc false there (alive ∙ w.if-not-is_alive.false)))
    ]
