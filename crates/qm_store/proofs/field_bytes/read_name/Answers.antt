use Rattle.std.proofs.Common.{◌∙◌, List, ℕ, Option, Some, None, cond, ap, sym, inl, inr}
use Rattle.std.specs.Str.{is_utf8}
use Rattle.std.proofs.lemmas.Bool.{cases_Bool}
use Rattle.std.proofs.lemmas.Str.{IsUtf8-from_is_utf8, is_utf8-from_IsUtf8}
use Rattle.qm_store.specs.Fields.{named_by}
use Rattle.qm_store.specs.RowBytes.{followed_by}
use Rattle.qm_store.proofs.field_bytes.read_name.Goals as goal

pub returns-in-Ok : goal.returns-in-Ok
returns-in-Ok c =
    let name = c.in_ok-name.name.now in
    let rest = c.in_ok-name.rest.now in
    (λ i. Some (c.in-Ok.ensures.cases.0 i, rest))
    ∙ ap (λ b. cond b (Some (name, rest)) None) (sym (is_utf8-from_IsUtf8 name c.in-Ok.ensures.cases.1))
    ∙ ap (λ (r : Option (List ℕ × List ℕ)). followed_by r named_by) c.in_ok-name.ensures.read

pub returns-in-Err : goal.returns-in-Err
returns-in-Err c =
    let name = c.in_ok-name.name.now in
    let rest = c.in_ok-name.rest.now in
    elim (cases_Bool (is_utf8 name)) [
      | inl text ↦ absurd (c.in-Err.ensures.cases.0 (IsUtf8-from_is_utf8 name text))
      | inr other ↦ ap (λ b. cond b (Some (name, rest)) None) (sym other)
          ∙ ap (λ (r : Option (List ℕ × List ℕ)). followed_by r named_by) c.in_ok-name.ensures.read
    ]
