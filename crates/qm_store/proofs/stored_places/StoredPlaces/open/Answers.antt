use Rattle.std.proofs.Common.{◌≡◌, ◌∙◌, ℕ, List, [], ◌++◌, Ok, ap, arith, length, min, rules, subst, sym, take}
use Rattle.std.specs.Prelude.{Some, ok_or, option_map}
use Rattle.std.proofs.lemmas.List.{take_min}
use Rattle.qm_store.specs.Pieces.{Fails, part_at}
use Rattle.qm_store.specs.Places.{documents_in, places_kind, places_opened}
use Rattle.qm_store.specs.Sealed.{body_of, told_by}
use Rattle.qm_store.specs.declared.store_error.StoreError.TheVariants.{Damaged}
use Rattle.qm_store.proofs.SealedRead.{fails-on, head-read}
use Rattle.qm_store.proofs.stored_places.StoredPlaces.open.Goals as goal

-- the bytes that were read are the first forty, or all where they are fewer
front : (file old head : List ℕ) (size count : ℕ) → size ≡ length file → count ≡ min size 40 → old ≡ [] →
    option_map (λ part. old ++ part) (part_at 0 count file) ≡ Some head → head ≡ take 40 file
front file old head size count all few none read =
    let short : count ≡ min 40 (length file) = omega (arith, all, few) in
    head-read count file old head (omega (arith, short)) none read ∙ ap (λ n. take n file) short ∙ take_min 40 file

-- what a file is by its first forty bytes, and how many there are
by-head : (key documents size : ℕ) (file head body : List ℕ) → size ≡ length file → head ≡ take 40 file → body_of places_kind key head ≡ Ok body →
    places_opened key documents file ≡ ok_or (documents_in key documents size body) Damaged
by-head key documents size file head body all is told =
    (λ i. told_by (body_of places_kind key (sym is i)) (documents_in key documents (sym all i)))
    ∙ ap (λ r. told_by r (documents_in key documents size)) told

pub returns-in_err-body-clause-opened : goal.returns-in_err-body-clause-opened
returns-in_err-body-clause-opened g c =
    λ file is.
    let known = c.in_ok-size.ensures.all file is in
    let all : c.in_ok-size.size ≡ length file = cc in
    let head = c.deref.ensures.value ∙ front file _ _ _ _ all c.min.ensures c.new-head.ensures.items (c.in_ok-read_at.ensures.read file is) in
    let e = c.in_err-body.field-0.0 in
    let told = documents_in c.args.key c.args.max_doc (length file) in
    let fails : Fails e (places_opened c.args.key c.args.max_doc file) =
    subst (λ h. Fails e (told_by (body_of places_kind c.args.key h) told)) head (fails-on e _ told c.in_err-body.ensures) in
    search (rules, fails)

pub returns-in-Some-clause-opened : goal.returns-in-Some-clause-opened
returns-in-Some-clause-opened g c =
    λ file is.
    let known = c.in_ok-size.ensures.all file is in
    let all : c.in_ok-size.size ≡ length file = cc in
    let head = c.deref.ensures.value ∙ front file _ _ _ _ all c.min.ensures c.new-head.ensures.items (c.in_ok-read_at.ensures.read file is) in
    by-head c.args.key c.args.max_doc c.in_ok-size.size file c.deref.result.now c.in_ok-body.body.now all head c.in_ok-body.ensures
    ∙ ap (λ o. ok_or o Damaged) (sym c.in-Some.ensures.told)

pub returns-in-None-clause-opened : goal.returns-in-None-clause-opened
returns-in-None-clause-opened g c =
    λ file is.
    let known = c.in_ok-size.ensures.all file is in
    let all : c.in_ok-size.size ≡ length file = cc in
    let head = c.deref.ensures.value ∙ front file _ _ _ _ all c.min.ensures c.new-head.ensures.items (c.in_ok-read_at.ensures.read file is) in
    by-head c.args.key c.args.max_doc c.in_ok-size.size file c.deref.result.now c.in_ok-body.body.now all head c.in_ok-body.ensures
    ∙ ap (λ o. ok_or o Damaged) (sym c.in-None.ensures.told)
