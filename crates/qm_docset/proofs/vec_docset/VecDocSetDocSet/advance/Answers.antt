-- One document fewer is left; none where the cursor was at its end.
use Rattle.std.proofs.Common.{drop, map, arith, ap, refl, sym, ◌∙◌}
use Rattle.std.proofs.lemmas.List.{drop_all}
use Rattle.qm_docset.specs.Entry.{plain}
use Rattle.qm_docset.proofs.Plain.{left_on}
use Rattle.qm_docset.proofs.vec_docset.VecDocSetDocSet.advance.Goals as goal
use Rattle.qm_docset.proofs.vec_docset.VecDocSetDocSet.advance.Goals.{then-self-len, else-self-len}

pub returns-clause-left : goal.returns-clause-left
returns-clause-left c =
    let docs = c.args.self.now.docs.items in
    let at = c.args.self.now.cursor in
    let long = c.args.self.now.docs.ok.0 in
    elim c.if-self-len.branch [
      | then-self-len w ↦
          rw w.self-is (record { entries = left_on 1 at docs; valid = record { within = omega arith; documents = c.requires.documents }; len = refl })
      | else-self-len w ↦
          let ended = drop_all at docs (omega (arith, long)) in
          rw w.self-is (record { entries = ap (map plain) ended ∙ sym (ap (λ es. drop 1 (map plain es)) ended); valid = c.requires; len = refl })
    ]
