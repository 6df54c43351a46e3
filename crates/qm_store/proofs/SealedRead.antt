-- What a small file tells that is read whole.
use Rattle.std.proofs.Common.{◌≡◌, ℕ, ◌+◌, ◌-◌, ◌≤◌, ◌==◌, cond, refl, sym, List, [], ◌++◌, drop, length, take, Option, None, Some, Result, Err, ap, ◌∙◌, arith}
use Rattle.std.specs.Prelude.{nat_le, option_map}
use Rattle.std.specs.Int.{w64, to_le_bytes}
use Rattle.std.proofs.lemmas.Bool.{eq-eqb, le-leb, le-ltb}
use Rattle.std.proofs.lemmas.List.{length-append}
use Rattle.std.proofs.lemmas.Nat.{from_le_bytes-to_le_bytes_8}
use Rattle.std.proofs.Math.Seq.{drop-append_seam, take-append_seam}
use Rattle.std.proofs.lemmas.Option.{same_Some}
use Rattle.qm_store.specs.Heads.{headed_as, headed_by}
use Rattle.qm_store.specs.Pieces.{Fails, digest, part_at}
use Rattle.qm_store.specs.Sealed.{body_in, sealed, sealed_at, sealed_by, told_by, unsealed}
use Rattle.qm_store.specs.declared.store_error.StoreError.{StoreError}
use Rattle.qm_store.specs.declared.store_error.StoreError.TheVariants.{Damaged, Failed, Memory, OtherFile, OtherVersion}
use Rattle.qm_store.proofs.DigestFits.{digest-fits}

-- a file that has its first bytes is of the kind that they say
pub headed-long : (kind file : List ℕ) → 16 ≤ length file → headed_as kind file ≡ headed_by kind (take 16 file) file
headed-long kind file long = ap (λ b. cond b (Err OtherFile) (headed_by kind (take 16 file) file)) (le-ltb (length file) 16 long)

-- an error that tells of what was read tells of what that tells
pub fails-on : {A B : Type 0} (e : StoreError) (h : Result A StoreError) (told : A → Option B) → Fails e h → Fails e (told_by h told)
fails-on Memory h told f = tt
fails-on Failed h told f = f
fails-on OtherFile h told f = ap (λ h. told_by h told) f
fails-on OtherVersion h told f = ap (λ h. told_by h told) f
fails-on Damaged h told f = ap (λ h. told_by h told) f

-- the first bytes that were read of a file are those that it has
pub head-read : (count : ℕ) (file old head : List ℕ) → count ≤ length file → old ≡ [] →
    option_map (λ part. old ++ part) (part_at 0 count file) ≡ Some head → head ≡ take count file
head-read count file old head long none read =
    let whole : 0 + count ≡ count = omega arith in
    same_Some head (take count file) (sym read ∙ (λ i. option_map (λ part. none i ++ part) (part_at 0 count file))
    ∙ (λ i. option_map (λ part. [] ++ part) (cond (nat_le (whole i) (length file)) (Some (take count file)) None))
    ∙ ap (λ b. option_map (λ part. [] ++ part) (cond b (Some (take count file)) None)) (le-leb count (length file) long))

-- what stands in front of its digest is read again
pub unsealed-sealed : (key at : ℕ) (bs : List ℕ) → unsealed key at (sealed_at key at bs) ≡ Some bs
unsealed-sealed key at bs =
    let d = digest key at bs in
    let last = to_le_bytes w64 d in
    let size = length-append bs last in
    let back : length (bs ++ last) - 8 ≡ length bs = omega (arith, size) in
    ap (λ b. cond b None (sealed_by key at (drop (length (bs ++ last) - 8) (bs ++ last)) (take (length (bs ++ last) - 8) (bs ++ last))))
    (le-ltb (length (bs ++ last)) 8 (omega (arith, size)))
    ∙ (λ i. sealed_by key at (drop (back i) (bs ++ last)) (take (back i) (bs ++ last)))
    ∙ (λ i. sealed_by key at (drop-append_seam bs last i) (take-append_seam bs last i))
    ∙ ap (λ n. cond (d == n) (Some bs) None) (from_le_bytes-to_le_bytes_8 d (digest-fits key at bs))
    ∙ ap (λ b. cond b (Some bs) None) (eq-eqb d d refl)

-- what stands in a file that was written is read again
pub body-sealed : (key : ℕ) (bs : List ℕ) → 16 ≤ length bs → body_in key (sealed key bs) ≡ Some (drop 16 bs)
body-sealed key bs long =
    ap (λ b. cond b None (option_map (λ bs. drop 16 bs) (unsealed key 0 (sealed key bs))))
    (le-ltb (length (sealed key bs)) 24 (omega (arith, length-append bs (to_le_bytes w64 (digest key 0 bs)), long)))
    ∙ ap (option_map (λ bs. drop 16 bs)) (unsealed-sealed key 0 bs)
