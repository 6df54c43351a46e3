use Rattle.std.proofs.Common.{rules, ◌≡◌, ◌+◌, ◌-◌, arith, ap, sym, ◌∙◌, option_map}
use Rattle.qm_store.specs.Dictionary.{entries_at}
use Rattle.qm_store.specs.Entries.{Part, lent_entry, lent_part}
use Rattle.qm_store.specs.declared.entry.PartRef.{PartRef}
use Rattle.qm_store.proofs.ReadingOn.{entry-passes, first-kept, first-taken, found_by, or_else_among, other-passed}
use Rattle.qm_store.proofs.dictionary_block.find_row.Goals as goal
use Rattle.qm_store.proofs.dictionary_block.find_row.Goals.{then-is_none+then-is_term, else-is_none, else-is_none-via-then-is_none+else-is_term, else-is_none-via-else-is_none}

abbrev lent : PartRef × PartRef → Part × Part
lent p = (lent_part p.0, lent_part p.1)

pub loop-preserved : goal.loop-preserved
loop-preserved c =
    let at = c.loop in
    let t = c.args.term.now in
    let e = lent_entry c.in-Some-read_entry.entry in
    let u = e.term in
    let p = e.row in
    let rest = c.in-Some-read_entry.behind.now in
    let left = c.in-Some.count - at.counter in
    let less : c.in-Some.count - (at.counter + 1) ≡ left - 1 = omega arith in
    let same : option_map (λ p. (lent_part p.0, lent_part p.1)) c.if-is_none.found ≡ found_by t (option_map (λ p. (lent_part p.0, lent_part p.1)) at.found) u p =
    elim c.if-is_none.branch [
      | then-is_none+then-is_term w ↦ ap (option_map lent) w.found-is ∙ first-taken lent t at.found u c.in-Some-read_entry.entry.parts w.if-is_none.ensures (search rules)
      | else-is_none w ↦ ap (option_map lent) w.found-is ∙ elim w.else-is_none.branch [
        | else-is_none-via-then-is_none+else-is_term w' ↦ other-passed lent t at.found u p w'.if-is_none.ensures (search rules)
        | else-is_none-via-else-is_none w' ↦ first-kept lent t at.found u p w'.if-is_none.ensures
      ]
    ]
    in
    record {
      whole =
          (λ i. option_map (or_else_among t (same i)) (entries_at (less i) rest))
          ∙ entry-passes t (option_map (λ p. (lent_part p.0, lent_part p.1)) at.found) left at.rest.now e rest
          (omega (arith, c.loop-test.true)) (sym c.in-Some-read_entry.ensures.read)
          ∙ at.invariant.whole;
    }
