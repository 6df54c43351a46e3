-- Two small segments can be joined.
use Rattle.std.proofs.Common.{◌≡◌, ap, arith, length, refl, sym, ◌∙◌}
use Rattle.qm_postings.specs.Segment.{Segment}
use Rattle.qm_schema.specs.declared.error.QueryError.{QueryError}
use Rattle.qm_schema.specs.declared.error.QueryError.TheVariants.{BadBlockLength, Memory, TooManyDocuments}
use Rattle.qm_index.specs.Indexed.{Indexed}
use Rattle.qm_index.specs.Joining.{HasSmallLast, HasTooManyLast, HasUnlikeLast, IsJoiningRefusal}
use Rattle.qm_index.proofs.LastSegments.{same-first, same-second}

module _ (s : Indexed) (small : HasSmallLast s) where
  not-unlike : HasUnlikeLast s → ⊥
  not-unlike has =
      has.1 (ap (λ (x : Segment). x.block_len) (same-first s.ended has.0 small.last) ∙ small.alike
      ∙ ap (λ (x : Segment). x.block_len) (sym (same-second s.ended has.0 small.last)))

  not-many : HasTooManyLast s → ⊥
  not-many has = absurd (omega (
    arith,
    has.more,
    small.few,
    ap (λ (x : Segment). length x.documents) (same-first s.ended has.last small.last),
    ap (λ (x : Segment). length x.documents) (same-second s.ended has.last small.last),
  ))

  -- so memory alone may be wanting
  pub memory-alone : (e : QueryError) → IsJoiningRefusal e → (e ≡ BadBlockLength → HasUnlikeLast s) → (e ≡ TooManyDocuments → HasTooManyLast s) →
      e ≡ Memory
  memory-alone Memory why unlike many = refl
  memory-alone BadBlockLength why unlike many = absurd (not-unlike (unlike refl))
  memory-alone TooManyDocuments why unlike many = absurd (not-many (many refl))
  memory-alone _ why unlike many = absurd why
