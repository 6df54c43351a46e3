-- What was saved can be read again, unless memory is wanting or the folder fails.
use Rattle.std.proofs.Common.{◌≡◌, ◌⊎◌, ap, inl, inr, List, Option, Ok, Err, Result, Some, refl, subst, sym, ◌∙◌}
use Rattle.std.specs.Prelude.{IfErr, IfSome, IsErrOf, IsOkUnless}
use Rattle.qm_postings.specs.Rows.{MakeSegment, Row}
use Rattle.qm_postings.specs.Statistics.{Searched}
use Rattle.qm_schema.specs.Schema.{FieldFacts}
use Rattle.qm_schema.specs.declared.error.QueryError.{QueryError}
use Rattle.qm_schema.specs.declared.error.QueryError.TheVariants.{BadBlockLength, BadNorms, TooManySegments, Memory as OutOfMemory}
use Rattle.qm_store.specs.Pieces.{Fails}
use Rattle.qm_store.specs.StoredSegment.{MakeNone, Opened, TellsOfRows}
use Rattle.qm_store.specs.declared.store_error.StoreError.{StoreError}
use Rattle.qm_store.specs.declared.store_error.StoreError.TheVariants.{Damaged, Failed, Memory, OtherFile, OtherVersion}
use Rattle.qm_index.specs.Indexed.{IsSegmentsRefusal}
use Rattle.qm_index.specs.declared.index.Index.{Index}
use Rattle.qm_index.specs.Opening.{IsFolderRefusal}

-- what can be read fails for want of memory alone
pub fails-memory : {Y : Type 0} (e : StoreError) (y : Y) (read : Result Y StoreError) → read ≡ Ok y → Fails e read → e ≡ Memory
fails-memory Memory y read is why = refl
fails-memory Failed y read is why = absurd why
fails-memory OtherFile y read is why = absurd (let no = sym is ∙ why in cc)
fails-memory OtherVersion y read is why = absurd (let no = sym is ∙ why in cc)
fails-memory Damaged y read is why = absurd (let no = sym is ∙ why in cc)

-- and so do rows that make a segment
pub tells-memory : (schema : List FieldFacts) (o : Opened) (e : StoreError) (rows : List Row) (found : Option (List Row)) → found ≡ Some rows →
    MakeSegment schema o.block_len o.documents o.columns rows → TellsOfRows schema o e found → e ≡ Memory
tells-memory schema o Memory rows found is make why = refl
tells-memory schema o Damaged rows found is make why = absurd (subst (λ f. IfSome f (MakeNone schema o)) is why make)
tells-memory schema o Failed rows found is make why = absurd why
tells-memory schema o OtherFile rows found is make why = absurd why
tells-memory schema o OtherVersion rows found is make why = absurd why

pub memory-refusal : (e : StoreError) → e ≡ Memory → IsFolderRefusal e
memory-refusal e is = subst IsFolderRefusal (sym is) tt

-- ---- what is made of what is read

-- a searcher whose norms don't fall and that is not too great is made
pub searcher-made : (r : Result Searched QueryError) → (IsErrOf r BadNorms → ⊥) → (IsErrOf r TooManySegments → ⊥) →
    IfErr r (λ e. (e ≡ BadNorms) ⊎ (e ≡ TooManySegments)) → IsOkUnless r OutOfMemory
searcher-made (Ok s) norms many why = tt
searcher-made (Err e) norms many (inl is) = absurd (norms (ap Err is))
searcher-made (Err e) norms many (inr is) = absurd (many (ap Err is))

index-refusal : (e : QueryError) → (e ≡ BadBlockLength → ⊥) → (e ≡ TooManySegments → ⊥) → IsSegmentsRefusal e → e ≡ OutOfMemory
index-refusal OutOfMemory block many why = refl
index-refusal BadBlockLength block many why = absurd (block refl)
index-refusal TooManySegments block many why = absurd (many refl)
index-refusal _ block many why = absurd why

-- and so is an index of it, unless memory is wanting
pub index-made : (r : Result Index QueryError) → (IsErrOf r BadBlockLength → ⊥) → (IsErrOf r TooManySegments → ⊥) → IfErr r IsSegmentsRefusal →
    IsOkUnless r OutOfMemory
index-made (Ok i) block many why = tt
index-made (Err e) block many why = index-refusal e (λ is. block (ap Err is)) (λ is. many (ap Err is)) why
