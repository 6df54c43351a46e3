-- One more term has passed the place.
use Rattle.std.proofs.Common.{◌≡◌, ◌+◌, [], length, map, take, get_or, arith, ap, sym, subst, ◌∙◌}
use Rattle.std.proofs.lemmas.List.{get_or-drop, get_or-map, length-map, take_all}
use Rattle.std.proofs.lemmas.List.Elements.{All-get_or}
use Rattle.qm_combine.proofs.EachMember.{map-set_same}
use Rattle.qm_phrase.specs.Places.{Ascends, HavePassed, past}
use Rattle.qm_phrase.specs.TermRows.{AreInside, rows_left, term_left, term_of}
use Rattle.qm_phrase.proofs.TermRows.{inside_at, no_term, passed_more}
use Rattle.qm_phrase.proofs.counting.pass.Goals as goal

pub pass-requires-clause-inside : goal.pass-requires-clause-inside
pass-requires-clause-inside c =
    let positions = c.args.positions.now in
    inside_at (length positions) c.loop-row.rows c.loop-row.row-index
    (subst (AreInside (length positions)) (sym c.loop-row.invariant.terms) c.requires.inside) (omega (
      arith,
      ap length c.loop-row.invariant.terms,
      length-map c.loop-row.rows term_of,
      length-map c.args.rows.now term_of,
    ))

pub pass-requires-clause-ascends : goal.pass-requires-clause-ascends
pass-requires-clause-ascends c =
    let i = c.loop-row.row-index in
    let rows = c.loop-row.rows in
    let was = get_or rows i no_term in
    let positions = c.args.positions.now in
    let left = term_left positions in
    let ys = rows_left positions c.args.rows.now in
    let long = length-map c.args.rows.now left in
    let wide = length-map rows left in
    let many = ap length c.loop-row.invariant.terms in
    let count = length-map rows term_of in
    let counted = length-map c.args.rows.now term_of in
    let level : i + 0 ≡ i = omega arith in
    let here : get_or (map left rows) i [] ≡ get_or ys i [] = ap (λ k. get_or (map left rows) k []) (sym level)
    ∙ sym (get_or-drop i (map left rows) 0 []) ∙ ap (λ r. get_or r 0 []) c.loop-row.invariant.rest ∙ get_or-drop i ys 0 []
    ∙ ap (λ k. get_or ys k []) level in
    let is : left was ≡ get_or ys i [] = sym (get_or-map left rows i no_term [] (omega arith)) ∙ here in
    subst (Ascends 0) (sym is) (All-get_or (Ascends 0) ys i [] (omega arith) c.requires.rows)

pub loop-row-preserved : goal.loop-row-preserved
loop-row-preserved c =
    let i = c.loop-row.row-index in
    let rows = c.loop-row.rows in
    let row = c.pass.new.self in
    let positions = c.args.positions.now in
    let left = term_left positions in
    let ys = rows_left positions c.args.rows.now in
    let many = ap length c.loop-row.invariant.terms in
    let count = length-map rows term_of in
    let counted = length-map c.args.rows.now term_of in
    let long = length-map c.args.rows.now left in
    let more = passed_more left c.args.place c.args.floor rows ys i row no_term (omega arith) (omega arith) c.loop-row.invariant.passed c.loop-row.invariant.rest
    c.pass.ensures.left in
    record {
      passed = more.0;
      rest = more.1;
      terms = map-set_same term_of rows i row no_term (omega arith) c.pass.ensures.term ∙ c.loop-row.invariant.terms;
    }

pub returns-clause-left : goal.returns-clause-left
returns-clause-left c =
    let i = c.loop-row.row-index in
    let positions = c.args.positions.now in
    let left = term_left positions in
    let ys = rows_left positions c.args.rows.now in
    let zs = rows_left positions c.loop-row.rows in
    let many = ap length c.loop-row.invariant.terms in
    let count = length-map c.loop-row.rows term_of in
    let counted = length-map c.args.rows.now term_of in
    let long = length-map c.args.rows.now left in
    let wide = length-map c.loop-row.rows left in
    subst (λ r. HavePassed c.args.floor (map (past c.args.place) r) zs) (take_all i ys (omega arith))
    (subst (λ r. HavePassed c.args.floor (map (past c.args.place) (take i ys)) r) (take_all i zs (omega arith)) c.loop-row.invariant.passed)
