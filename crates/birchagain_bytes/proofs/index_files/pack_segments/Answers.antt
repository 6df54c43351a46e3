use Rattle.std.proofs.Common.{◌≡◌, ◌+◌, ◌<◌, ◌++◌, ◌∷◌, [], ap, arith, get_or, length, rules, subst, sym, take, ◌∙◌}
use Rattle.std.proofs.Math.ListN.{get_or-map}
use Rattle.std.proofs.lemmas.List.{length-map, take_more}
use Rattle.qm_index.specs.Parts.{segments_of}
use Rattle.qm_postings.specs.Reading.{Reader}
use Rattle.birchagain_bytes.specs.Bytes.{ArePacked}
use Rattle.birchagain_bytes.proofs.Packs.{none-packed, packed-more}
use Rattle.birchagain_bytes.proofs.index_files.pack_segments.Goals as goal

pub loop-place-init : goal.loop-place-init
loop-place-init c =
    let known = c.args.known.now in
    let out = c.args.out.now.items in
    subst (λ ks. ArePacked known ks [] out out) (sym c.in_ok-kept.ensures.items) (none-packed known out)

pub loop-place-preserved : goal.loop-place-preserved
loop-place-preserved c =
    let known = c.args.known.now in
    let out = c.args.out.now.items in
    let readers = c.args.segments.now in
    let ss = segments_of readers in
    let place = c.loop-place.place in
    let reader = c.index-segments-place.result in
    let after = c.pack_segment.new.out.items in
    let inside : place < length readers = search rules in
    let own : get_or ss place reader.segment ≡ reader.segment = get_or-map (λ (r : Reader). r.segment) readers place reader ∙ ap (λ (r : Reader). r.segment) (sym c.index-segments-place.is) in
    let next : take (place + 1) ss ≡ take place ss ++ reader.segment ∷ [] =
    take_more ss place reader.segment (omega (arith, inside, length-map readers (λ (r : Reader). r.segment))) ∙ ap (λ s. take place ss ++ s ∷ []) own in
    subst (λ l. ArePacked known c.push.new.self.items l out after) (sym next)
    (subst (λ ks. ArePacked known ks (take place ss ++ reader.segment ∷ []) out after) (sym c.in_ok-push.ensures.items)
    (packed-more known c.loop-place.kept.items (take place ss) c.in_ok-it.it reader.segment out c.loop-place.out.items after c.loop-place.invariant c.in_ok-it.ensures.packed))
