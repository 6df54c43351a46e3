use Rattle.std.proofs.Common.{◌<◌, ◌≤◌, Some, ap, arith, length, sym, ◌∙◌}
use Rattle.std.proofs.lemmas.Option.{slice_get-get_or, slice_get_past}
use Rattle.qm_store.specs.Places.{place_read, stored_places}
use Rattle.qm_store.proofs.PlacesRead.{places-read}
use Rattle.example_callers.proofs.place_callers.place_through_file.Goals as goal

pub returns-then-doc-max_doc : goal.returns-then-doc-max_doc
returns-then-doc-max_doc c =
    let past : length c.args.places.now ≤ c.args.doc =
    omega (arith, c.in_ok-stored.ensures.of.2, c.max_doc.ensures, c.if-doc-max_doc.true)
    in
    sym (slice_get_past c.args.places.now c.args.doc past)

pub returns : goal.returns
returns c =
    let key = c.args.key in
    let places = c.args.places.now in
    let doc = c.args.doc in
    let place = c.in_ok-place.place in
    let of = c.in_ok-stored.ensures.of in
    let there : doc < length places = omega (arith, of.2, c.max_doc.ensures, c.if-doc-max_doc.false) in
    let law = places-read key places (omega (arith, c.ranges.key.fits)) (omega (arith, c.requires.few)) c.in_ok-bytes.ensures.places in
    let found = c.in_ok-place.ensures (stored_places key places) (ap (λ s. Some s.items) of.0 ∙ ap Some c.in_ok-bytes.ensures.stored) in
    sym found ∙ (λ i. place_read (of.1 i) (of.2 i) doc (stored_places key places)) ∙ law.1 doc place there ∙ sym (slice_get-get_or places doc place there)
