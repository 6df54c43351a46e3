-- One more member is read.
use Rattle.std.proofs.Common.{◌≡◌, ◌<◌, length, map, arith, refl, ap, sym, ◌∙◌, get_or, [], vec_capacity}
use Rattle.std.proofs.lemmas.List.{get_or-map, length-map, length-set}
use Rattle.std.proofs.lemmas.List.Elements.{All-set}
use Rattle.qm_combine.proofs.EachMember.{get_or-map-map, map-set_same}
use Rattle.qm_docset.specs.Entry.{Limits, head_document, head_positions}
use Rattle.qm_docset.specs.Lists.{lists, bounds}
use Rattle.qm_docset.specs.declared.numbers.TheConstants.{TERMINATED}
use Rattle.qm_phrase.specs.TermRows.{member_positions}
use Rattle.qm_phrase.proofs.EachRow.{each_set, each_set_done}
use Rattle.qm_phrase.proofs.TermSteps.{AreRoomy-set, length-roomy, room_at}
use Rattle.qm_phrase.proofs.terms.read_positions.Goals as goal

pub loop-i-init : goal.loop-i-init
loop-i-init g c =
    let members = c.args.members.now in
    let positions = c.args.positions.now in
    record {
      paired = omega (
        arith,
        length-roomy (bounds g.P.DocSet members) (map vec_capacity positions) c.requires.roomy,
        length-map members g.P.DocSet.limits,
        length-map positions vec_capacity,
      );
      read = refl;
      roomy = c.requires.roomy;
      entries = refl;
      limits = refl;
      valid = c.requires.valid;
      here = c.requires.here;
    }

pub positions-requires-clause-room : goal.positions-requires-clause-room
positions-requires-clause-room g c =
    let i = c.loop-i.i in
    let members = c.loop-i.members in
    let member = c.index-members-i.result in
    let buffer = c.index-positions-i.result in
    let below : i < length c.loop-i.positions = omega arith in
    let room = room_at (bounds g.P.DocSet members) (map vec_capacity c.loop-i.positions) i (g.P.DocSet.limits member)
    (vec_capacity buffer) c.loop-i.invariant.roomy (omega (arith, c.loop-i.invariant.paired, length-map members g.P.DocSet.limits)) in
    let limits = get_or-map g.P.DocSet.limits members i member (g.P.DocSet.limits member) (omega (arith, c.loop-i.invariant.paired)) in
    let capacity = get_or-map vec_capacity c.loop-i.positions i buffer (vec_capacity buffer) below in
    omega (arith, room, ap (λ (l : Limits). l.room) limits, capacity)

pub loop-i-preserved : goal.loop-i-preserved
loop-i-preserved g c =
    let i = c.loop-i.i in
    let members = c.loop-i.members in
    let positions = c.loop-i.positions in
    let first = c.args.members.now in
    let member = c.index-members-i.result in
    let buffer = c.index-positions-i.result in
    let read = c.positions.new.output in
    let moved = c.positions.new.self in
    let under : i < length positions = omega arith in
    let below : i < length members = omega (arith, c.loop-i.invariant.paired) in
    let zs = map head_positions (lists g.P.DocSet first) in
    let same_lists = c.loop-i.invariant.entries in
    let long = length-map members g.P.DocSet.entries in
    let long_first = length-map first g.P.DocSet.entries in
    let long_read = length-map (lists g.P.DocSet first) head_positions in
    let wide = length-map c.args.positions.now (λ v. v.items) in
    let same_length = ap length same_lists in
    let at_positions : get_or zs i [] ≡ head_positions (g.P.DocSet.entries (get_or members i member)) =
    ap (λ r. get_or (map head_positions r) i []) (sym same_lists) ∙ get_or-map-map head_positions g.P.DocSet.entries members i member [] below in
    let Here : g.row.P.Denot → Type 0 = λ m. g.P.DocSet.placed m × (head_document (g.P.DocSet.entries m) < TERMINATED) in
    let still : head_document (g.P.DocSet.entries moved) < TERMINATED =
    omega (arith, ap head_document c.positions.ensures.entries, (c.loop-i.invariant.here i member below).1) in
    let bounds_same = map-set_same g.P.DocSet.limits members i moved member below c.positions.ensures.limits in
    record {
      paired = omega (arith, c.loop-i.invariant.paired, length-set members i moved, length-set positions i read);
      read = each_set (λ v. v.items) positions zs (member_positions c.args.positions.now) i read [] under
          (omega (arith, c.loop-i.invariant.paired)) (omega arith) c.loop-i.invariant.read (c.positions.ensures.positions ∙ sym at_positions);
      roomy = rw bounds_same (AreRoomy-set vec_capacity (bounds g.P.DocSet members) positions i read buffer under c.positions.ensures.capacity
          c.loop-i.invariant.roomy);
      entries = map-set_same g.P.DocSet.entries members i moved member below c.positions.ensures.entries ∙ same_lists;
      limits = bounds_same ∙ c.loop-i.invariant.limits;
      valid = All-set g.P.DocSet.valid members i moved c.positions.ensures.valid c.loop-i.invariant.valid;
      here = All-set Here members i moved (c.positions.ensures.placed, still) c.loop-i.invariant.here;
    }

pub returns-clause-positions : goal.returns-clause-positions
returns-clause-positions g c =
    let first = c.args.members.now in
    let i = c.loop-i.i in
    let long = length-map c.loop-i.members g.P.DocSet.entries in
    let long_first = length-map first g.P.DocSet.entries in
    let long_read = length-map (lists g.P.DocSet first) head_positions in
    let wide = length-map c.args.positions.now (λ v. v.items) in
    let same_length = ap length c.loop-i.invariant.entries in
    c.loop-i.invariant.read ∙ each_set_done (map head_positions (lists g.P.DocSet first)) (member_positions c.args.positions.now) i
    (omega (arith, c.loop-i.invariant.paired)) (omega arith)
