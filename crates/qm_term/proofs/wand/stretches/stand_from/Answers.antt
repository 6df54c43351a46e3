use Rattle.std.proofs.Common.{◌∙◌, ◌<◌, ◌≤◌, ap, arith, get_or, length, map, set, sym}
use Rattle.std.proofs.lemmas.List.{length-map, set-get_or}
use Rattle.qm_term.specs.HeadRow.{row_lists}
use Rattle.qm_term.specs.Heads.{listed, no_member}
use Rattle.qm_term.specs.Pivot.{head}
use Rattle.qm_term.specs.RunScorers.{wand_member}
use Rattle.qm_term.proofs.RowMoves.{row_member}
use Rattle.qm_term.proofs.RowRecords.{doc_at, zeros}
use Rattle.qm_term.proofs.StretchCuts.{cut_all}
use Rattle.qm_term.proofs.wand.stretches.stand_from.Goals as goal

pub returns-else-heads-k-clause-lists : goal.returns-else-heads-k-clause-lists
returns-else-heads-k-clause-lists g c =
    let ss = c.args.scorers.now in
    let hs = c.args.heads.now in
    let k = c.args.k in
    let ls = row_lists ss hs in
    let m = get_or ls k no_member in
    let at = doc_at (map wand_member ss) hs c.requires.heads.records k zeros c.requires.within in
    let past : c.args.low ≤ head m = omega (arith, at, c.if-heads-k.false) in
    let l : k < length ls = omega (arith, c.requires.within, length-map hs (listed (map wand_member ss))) in
    sym (ap (set ls k) (cut_all c.args.low m (row_member ss hs k c.requires.heads c.requires.within) past) ∙ set-get_or ls k no_member)

pub returns-else-heads-k-clause-answer : goal.returns-else-heads-k-clause-answer
returns-else-heads-k-clause-answer g c =
    let ss = c.args.scorers.now in
    let hs = c.args.heads.now in
    let k = c.args.k in
    let m = get_or (row_lists ss hs) k no_member in
    let at = doc_at (map wand_member ss) hs c.requires.heads.records k zeros c.requires.within in
    let past : c.args.low ≤ head m = omega (arith, at, c.if-heads-k.false) in
    omega (arith, at, ap head (cut_all c.args.low m (row_member ss hs k c.requires.heads c.requires.within) past))
