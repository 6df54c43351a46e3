-- What is counted are the first: no document is above a later one.
use Rattle.std.proofs.Common.{◌≡◌, arith, inl, inr}
use Rattle.std.proofs.lemmas.Bool.{cases_lt}
use Rattle.qm_docset.proofs.GallopFacts.{rises}
use Rattle.qm_docset.proofs.galloping.count_below.Goals as goal
use Rattle.qm_docset.proofs.galloping.count_below.Goals.{then-doc-target, else-doc-target}

pub loop-doc-preserved : goal.loop-doc-preserved
loop-doc-preserved c =
    let docs = c.args.docs.now in
    let known = c.loop-doc.invariant in
    elim c.if-doc-target.branch [
      | then-doc-target w ↦
          -- so far all were below
          let all : c.loop-doc.below ≡ c.loop-doc.doc-index =
          elim (cases_lt c.loop-doc.below c.loop-doc.doc-index) [
            | inr none ↦ omega arith
            | inl fewer ↦
                let past = known.reached c.loop-doc.below (omega arith) fewer in
                let up = rises docs c.requires c.loop-doc.below c.loop-doc.doc-index (omega arith) (omega arith) in
                absurd (omega (arith, w.if-doc-target.true))
          ] in
          rw w.below-is (record {
            short = omega arith;
            passed = λ k l. elim (cases_lt k c.loop-doc.below) [
              | inl before ↦ known.passed k before
              | inr last ↦ let here : k ≡ c.loop-doc.doc-index = omega arith in rw here w.if-doc-target.true
            ];
            reached = λ k l h. absurd (omega arith);
          })
      | else-doc-target w ↦ rw w.below-is (record {
        short = omega arith;
        passed = known.passed;
        reached = λ k l h. elim (cases_lt k c.loop-doc.doc-index) [
          | inl before ↦ known.reached k l before
          | inr last ↦ let here : k ≡ c.loop-doc.doc-index = omega arith in rw here w.if-doc-target.false
        ];
      })
    ]
