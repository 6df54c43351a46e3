use Rattle.std.proofs.Common.{◌≡◌, ◌<◌, ◌≤◌, ◌^◌, ◌∙◌, ◌++◌, List, ℕ, ap, append_assoc, arith, length, map, subst, sym}
use Rattle.std.specs.Prelude.{All}
use Rattle.std.specs.FinMap.{entries}
use Rattle.std.specs.Int.{w64, to_le_bytes}
use Rattle.std.specs.List.Sorted.{IsStrictlySortedBy}
use Rattle.qm_schema.specs.Term.{TermKey, term_cmp}
use Rattle.qm_store.specs.Fields.{IsField, schema_bytes}
use Rattle.qm_store.specs.Heads.{head_bytes}
use Rattle.qm_store.specs.Items.{counted_bytes}
use Rattle.qm_store.specs.Manifest.{manifest_kind, norms_bytes, segments_bytes}
use Rattle.qm_store.specs.Numbers.{spelled}
use Rattle.qm_store.specs.Sealed.{sealed}
use Rattle.qm_store.specs.Weights.{IsWeight, weights_bytes}
use Rattle.qm_store.proofs.ItemSteps.{own-entries}
use Rattle.qm_store.proofs.written_manifest.manifest_bytes.Goals as goal

regroup : (h a b c d e f g : List ℕ) →
    ((((((h ++ a) ++ b) ++ c) ++ d) ++ e) ++ f) ++ g ≡ h ++ ((a ++ (b ++ (c ++ d))) ++ (e ++ (f ++ g)))
regroup h a b c d e f g = simp append_assoc

pub returns-clause-spelled : goal.returns-clause-spelled
returns-clause-spelled c =
    let s = c.args.searcher.now in
    let head = head_bytes manifest_kind in
    let len = spelled c.args.block_len in
    let told = ap entries (sym c.weights.ensures) ∙ own-entries c.weights.result.now.entries c.push_weights.ensures.ascending in
    let begun = c.in_ok-push_head.ensures.added ∙ ap (λ l. l ++ head) c.new-out.ensures.items in
    let with_len = c.in_ok-push_small.ensures.added ∙ ap (λ l. l ++ len) begun in
    let with_fields = c.in_ok-push_schema.ensures.added ∙ (λ i. with_len i ++ schema_bytes (c.schema.ensures i)) in
    let with_default = c.in_ok-push_word.ensures.added ∙ (λ i. with_fields i ++ to_le_bytes w64 (c.default_weight.ensures i)) in
    let with_norms = c.in_ok-push_norms.ensures.added ∙ (λ i. with_default i ++ norms_bytes (c.norms.ensures.norms i)) in
    let with_weights = c.in_ok-push_weights.ensures.added ∙ (λ i. with_norms i ++ weights_bytes (sym told i)) in
    let with_segments = c.in_ok-push_segments.ensures.added ∙ (λ i. with_weights i ++ segments_bytes c.args.segments.now) in
    let whole = c.in_ok-push_bytes.ensures.added ∙ (λ i. with_segments i ++ counted_bytes c.args.note.now) in
    c.in_ok-push_digest.ensures
    ∙ ap (sealed 0) (whole ∙ regroup head len (schema_bytes s.schema) (to_le_bytes w64 s.default_weight) (norms_bytes s.norms)
    (weights_bytes (entries s.weights)) (segments_bytes c.args.segments.now) (counted_bytes c.args.note.now))

pub returns-clause-whole : goal.returns-clause-whole
returns-clause-whole c =
    let told = ap entries (sym c.weights.ensures) ∙ own-entries c.weights.result.now.entries c.push_weights.ensures.ascending in
    record {
      fields = subst (All IsField) c.schema.ensures c.in_ok-push_schema.ensures.fields;
      few_fields = omega (arith, c.push_schema.ensures.few, ap length c.schema.ensures);
      block_len = c.push_small.ensures.few;
      default_weight = subst (λ n. n < 2 ^ 64) c.default_weight.ensures c.push_word.ensures.fits;
      norms = subst (All (λ n. n ≤ 4294967295)) c.norms.ensures.norms c.push_norms.ensures.norms;
      norm_count = ap length (sym c.norms.ensures.norms) ∙ c.push_norms.ensures.count;
      weights = subst (All IsWeight) (sym told) c.in_ok-push_weights.ensures.weights;
      ascending = subst (λ (es : List (TermKey × ℕ)). IsStrictlySortedBy term_cmp (map (λ w. w.0) es)) (sym told) c.push_weights.ensures.ascending;
      weight_count = subst (λ (es : List (TermKey × ℕ)). length es < 128 ^ 9) (sym told) c.push_weights.ensures.few;
      segments = c.in_ok-push_segments.ensures.segments;
      segment_count = c.push_segments.ensures.few;
      note = c.push_bytes.ensures.short;
    }
