use Rattle.std.proofs.Common.{◌≡◌, ◌+◌, ◌<◌, ◌++◌, ◌∙◌, [], ◌∷◌, Some, append_assoc, ap, arith, drop, length, subst, sym, take}
use Rattle.std.specs.Prelude.{All, slice_get}
use Rattle.std.specs.List.{flat_map}
use Rattle.std.proofs.lemmas.List.{take_all}
use Rattle.std.proofs.lemmas.List.Elements.{All-append, All-cons, All-nil}
use Rattle.qm_store.specs.Fields.{IsField, field_bytes}
use Rattle.qm_store.proofs.ItemSteps.{drop-next, take-next, there}
use Rattle.qm_store.proofs.field_bytes.push_schema.Goals as goal
use Rattle.qm_store.proofs.field_bytes.push_schema.Goals.{in-Some+in_ok-push_field, in_default}

pub loop-id-preserved : goal.loop-id-preserved
loop-id-preserved c =
    let at = c.loop-id in
    let schema = c.args.schema.now in
    let inside : at.id < length schema = omega (arith, c.loop-id-test.true, c.field_count-count.ensures) in
    elim c.match-get_field_entry.branch [
      | in-Some+in_ok-push_field w ↦
          let f = w.in-Some.entry.now in
          let found : slice_get schema at.id ≡ Some f = ap (slice_get schema) (sym c.from_field_id.ensures) ∙ sym w.in-Some.ensures in
          record {
            whole =
                ap (λ v. v.items ++ flat_map field_bytes (drop (at.id + 1) schema)) w.out-is
                ∙ ap (λ l. l ++ flat_map field_bytes (drop (at.id + 1) schema)) w.in_ok-push_field.ensures.added
                ∙ append_assoc at.out.items (field_bytes f) (flat_map field_bytes (drop (at.id + 1) schema))
                ∙ ap (λ l. at.out.items ++ flat_map field_bytes l) (sym (drop-next schema at.id f found))
                ∙ at.invariant.whole;
            fields =
                subst (All IsField) (sym (take-next schema at.id f found))
                (All-append IsField (take at.id schema) (f ∷ []) at.invariant.fields (All-cons IsField f [] w.push_field.ensures.field (All-nil IsField)));
          }
      | in_default w ↦ absurd (there schema at.id inside (ap (slice_get schema) (sym c.from_field_id.ensures) ∙ sym w.in_default.ensures))
    ]

pub returns-clause-fields : goal.returns-clause-fields
returns-clause-fields c =
    let at = c.loop-id in
    let schema = c.args.schema.now in
    subst (All IsField) (take_all at.id schema (omega (arith, c.loop-id-test.false, c.field_count-count.ensures))) at.invariant.fields
