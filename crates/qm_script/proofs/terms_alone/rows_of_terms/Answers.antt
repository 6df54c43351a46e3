use Rattle.std.proofs.Common.{[], ◌∷◌, ◌++◌, append-nil, ap, arith, length, sym, take, ◌<◌, ◌∙◌}
use Rattle.std.proofs.lemmas.List.{take_all}
use Rattle.std.specs.Ordering.{eq_by_cmp}
use Rattle.qm_postings.specs.Restriction.{rows_wanted}
use Rattle.qm_schema.specs.Term.{TermKey, term_cmp}
use Rattle.qm_script.specs.Wanted.{is_wanted}
use Rattle.qm_script.proofs.FoundRows.{none-wanted, wanted-next}
use Rattle.qm_script.proofs.terms_alone.rows_of_terms.Goals as goal
use Rattle.qm_script.proofs.terms_alone.rows_of_terms.Goals.{in-Some+in_ok-copy+in_ok-push, in_default}

pub loop-term-init : goal.loop-term-init
loop-term-init c = c.in_ok-rows.ensures.items ∙ sym (none-wanted c.args.segment.now.rows)

pub loop-term-preserved : goal.loop-term-preserved
loop-term-preserved c =
    let rows = c.args.segment.now.rows in
    let terms = c.args.terms.now in
    let i = c.loop-term.term-index in
    let t : TermKey = c.term-item.result in
    let within : i < length terms = omega (arith, c.loop-term-test.true, c.loop-term.auto.term-index-end) in
    let next = wanted-next terms i t rows c.requires.ascending within c.row_count.ensures.whole.made.are_rows.terms in
    let had = rows_wanted (is_wanted (take i terms)) rows in
    let own = ap (λ (u : TermKey). rows_wanted (eq_by_cmp term_cmp u) rows) (sym c.term-item.is) in
    elim c.match-row_place.branch [
      | in-Some+in_ok-copy+in_ok-push w ↦ rw w.rows-is (w.in_ok-push.ensures.items
          ∙ (λ j. c.loop-term.invariant j ++ (w.in_ok-copy.ensures.row ∙ w.row.ensures) j ∷ [])
          ∙ sym (next ∙ ap (λ l. had ++ l) (own ∙ w.in-Some.ensures.row)))
      | in_default w ↦ rw w.rows-is (c.loop-term.invariant ∙ sym (next ∙ ap (λ l. had ++ l) (own ∙ w.in_default.ensures.row) ∙ append-nil had))
    ]

pub returns-clause-rows : goal.returns-clause-rows
returns-clause-rows c =
    c.loop-term.invariant
    ∙ ap (λ ts. rows_wanted (is_wanted ts) c.args.segment.now.rows) (take_all c.loop-term.term-index c.args.terms.now (omega (arith, c.loop-term-test.false)))
