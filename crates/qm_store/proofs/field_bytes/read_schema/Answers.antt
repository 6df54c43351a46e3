use Rattle.std.proofs.Common.{◌≡◌, ◌+◌, ◌-◌, ◌∙◌, ℕ, List, Option, [], ◌∷◌, Some, ap, arith, length, length-append, sym}
use Rattle.qm_schema.specs.Schema.{FieldFacts}
use Rattle.qm_store.specs.Fields.{field_at, schema_at}
use Rattle.qm_store.specs.Items.{each_at, items_at}
use Rattle.qm_store.specs.RowBytes.{followed_by}
use Rattle.qm_store.proofs.ItemsRead.{items-end, items-go_on, items-stop}
use Rattle.qm_store.proofs.field_bytes.read_schema.Goals as goal

abbrev read : List FieldFacts → List ℕ → Option (FieldFacts × List ℕ)
read front rest = field_at rest

pub returns-in_default-read_field : goal.returns-in_default-read_field
unfolding schema_at
returns-in_default-read_field c =
    let at = c.loop-place in
    ap (λ (r : Option (ℕ × List ℕ)). followed_by r (each_at field_at)) (sym c.in-Some.ensures.read)
    ∙ sym (items-stop read (c.in-Some.count - at.place) at.fields at.rest.now _ at.invariant.whole (omega (arith, c.loop-place-test.true))
    (sym c.in_default-read_field.ensures))

pub loop-place-preserved : goal.loop-place-preserved
loop-place-preserved c =
    let at = c.loop-place in
    let left = c.in-Some.count - at.place in
    let e : c.in-Some.count - (at.place + 1) ≡ left - 1 = omega arith in
    let field : FieldFacts = record { name = c.in-Some-read_field.name.now; indexed = c.in-Some-read_field.kept; lengths = c.in-Some-read_field.has_lengths } in
    let added = c.in-Ok.ensures.added in
    record {
      whole =
          (λ i. items_at read (e i) (added i) c.in-Some-read_field.left.now)
          ∙ items-go_on read left at.fields at.rest.now _ at.invariant.whole (omega (arith, c.loop-place-test.true)) field c.in-Some-read_field.left.now
          (sym c.in-Some-read_field.ensures);
      many = omega (arith, ap length added, length-append at.fields (field ∷ []), at.invariant.many);
    }

pub returns : goal.returns
unfolding schema_at
returns c =
    let at = c.loop-place in
    ap (λ (r : Option (ℕ × List ℕ)). followed_by r (each_at field_at)) (sym c.in-Some.ensures.read)
    ∙ sym (items-end read (c.in-Some.count - at.place) at.fields at.rest.now _ at.invariant.whole (omega (arith, c.loop-place-test.false, at.auto.place-end)))
    ∙ ap (λ s. Some (s, at.rest.now)) (sym c.build.ensures)
