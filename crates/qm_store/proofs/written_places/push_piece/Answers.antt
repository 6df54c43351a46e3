use Rattle.std.proofs.Common.{◌≡◌, ◌∙◌, ◌++◌, ℕ, [], ap, append-nil, append_assoc, arith, length, subst, sym}
use Rattle.std.specs.Prelude.{All}
use Rattle.std.specs.Int.{w64, to_le_bytes}
use Rattle.std.specs.List.{flat_map}
use Rattle.std.proofs.Math.Seq.{drop-append_seam}
use Rattle.std.proofs.lemmas.List.{drop_all, length-append, take_all, take_more}
use Rattle.std.proofs.lemmas.List.Elements.{All-append, All-cons, All-nil}
use Rattle.qm_store.specs.Pieces.{digest}
use Rattle.qm_store.specs.Places.{IsPlace, place_bytes}
use Rattle.qm_store.specs.Sealed.{sealed_from}
use Rattle.qm_store.proofs.ItemSteps.{written-next}
use Rattle.qm_store.proofs.written_places.push_piece.Goals as goal

pub loop-place-preserved : goal.loop-place-preserved
loop-place-preserved c =
    let at = c.loop-place in
    let piece = c.args.piece.now in
    record {
      whole = written-next place_bytes at.out.items _ _ piece at.place-index _ (omega arith) c.in_ok-push_place.ensures.added at.invariant.whole;
      long = omega (arith, ap length c.in_ok-push_place.ensures.added, length-append {A = ℕ}, at.invariant.long);
      places =
          subst (All IsPlace) (sym (take_more piece at.place-index _ (omega arith)))
          (All-append IsPlace _ _ at.invariant.places (All-cons IsPlace _ [] c.in_ok-push_place.ensures.place (All-nil IsPlace)));
    }

pub push_digest-requires : goal.push_digest-requires
push_digest-requires c = omega (arith, c.len-start.ensures, c.loop-place.invariant.long, c.args.out.now.ok.0)

pub returns-clause-added : goal.returns-clause-added
returns-clause-added c =
    let at = c.loop-place in
    let key = c.args.key in
    let out = c.args.out.now.items in
    let bs = flat_map place_bytes c.args.piece.now in
    let start : c.len-start.result ≡ length out = omega (arith, c.len-start.ensures, c.args.out.now.ok.0) in
    let whole =
    sym (append-nil at.out.items) ∙ ap (λ ps. at.out.items ++ flat_map place_bytes ps) (sym (drop_all at.place-index c.args.piece.now (omega arith))) ∙ at.invariant.whole
    in
    c.in_ok-push_digest.ensures
    ∙ (λ i. sealed_from key (start i) (whole i))
    ∙ ap (λ l. (out ++ bs) ++ to_le_bytes w64 (digest key (length out) l)) (drop-append_seam out bs)
    ∙ append_assoc out bs (to_le_bytes w64 (digest key (length out) bs))

pub returns-clause-places : goal.returns-clause-places
returns-clause-places c =
    let at = c.loop-place in
    subst (All IsPlace) (take_all at.place-index c.args.piece.now (omega arith)) at.invariant.places
