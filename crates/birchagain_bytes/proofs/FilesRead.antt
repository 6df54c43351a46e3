-- Files that were written one behind the other are read again.
use Rattle.std.proofs.Common.{◌≡◌, ◌⊎◌, ℕ, Bool, true, false, not, nat_eq, nat_lt, cond, List, ◌++◌, drop, length, take, Option, None, Some, ap, sym, subst, ◌∙◌, append_assoc, arith, inl, inr}
use Rattle.std.specs.Prelude.{◌==◌, Result, Ok, Err}
use Rattle.std.specs.Cmp.Lexicographic.{pointwise}
use Rattle.std.specs.Int.{w64, from_le_bytes, to_le_bytes}
use Rattle.std.proofs.lemmas.Bool.{le-leb, le-ltb}
use Rattle.std.proofs.lemmas.List.{length-append}
use Rattle.std.proofs.Math.Seq.{drop-append_seam, take-append_seam}
use Rattle.qm_folder.specs.Names.{Name}
use Rattle.qm_store.specs.Heads.{head_bytes}
use Rattle.qm_store.specs.Items.{parted_at}
use Rattle.qm_store.specs.RowBytes.{followed_by}
use Rattle.qm_store.specs.Words.{word_at}
use Rattle.qm_store.proofs.PiecesRead.{word-read}
use Rattle.birchagain_bytes.specs.Packed.{File, IsFile, file_at, file_bytes, head_at, named_bytes, packed_kind, there_of}
use Rattle.birchagain_bytes.specs.Refusals.{IsFilesRefusal}
use Rattle.birchagain_bytes.specs.declared.refusal.BytesRefusal.{BytesRefusal}
use Rattle.birchagain_bytes.specs.declared.refusal.BytesRefusal.TheVariants.{OtherFile, OtherVersion}

-- as many bytes as some in front are these
pub parted-read : (bs rest : List ℕ) → parted_at (length bs) (bs ++ rest) ≡ Some (bs, rest)
parted-read bs rest =
    ap (λ b. cond b (Some (take (length bs) (bs ++ rest), drop (length bs) (bs ++ rest))) None)
    (le-leb (length bs) (length (bs ++ rest)) (omega (arith, length-append bs rest)))
    ∙ (λ i. Some (take-append_seam bs rest i, drop-append_seam bs rest i))

unfoldable pub then_bytes : ℕ → List ℕ → List ℕ → Option ((Name × List ℕ) × List ℕ)
then_bytes size name rest = followed_by (parted_at size rest) (λ bytes rest. Some ((name, bytes), rest))

unfoldable pub then_name : ℕ → ℕ → List ℕ → Option ((Name × List ℕ) × List ℕ)
then_name name_length size rest = followed_by (parted_at name_length rest) (then_bytes size)

unfoldable pub then_size : ℕ → List ℕ → Option ((Name × List ℕ) × List ℕ)
then_size name_length rest = followed_by (word_at rest) (then_name name_length)

-- a file that was written is read again
pub file-read : (f : File) (rest : List ℕ) → IsFile f → file_at (file_bytes f ++ rest) ≡ Some ((f.name, there_of f), rest)
unfolding then_bytes then_name then_size file_at named_bytes
file-read f rest is =
    let name = f.name in
    let bytes = there_of f in
    let first = to_le_bytes w64 (length name) in
    let second = to_le_bytes w64 (length bytes) in
    ap (λ (l : List ℕ). followed_by (word_at l) then_size) (append_assoc first (second ++ (name ++ bytes)) rest)
    ∙ ap (λ (r : Option (ℕ × List ℕ)). followed_by r then_size) (word-read (length name) ((second ++ (name ++ bytes)) ++ rest) is.name_length)
    ∙ ap (λ (l : List ℕ). followed_by (word_at l) (then_name (length name))) (append_assoc second (name ++ bytes) rest)
    ∙ ap (λ (r : Option (ℕ × List ℕ)). followed_by r (then_name (length name))) (word-read (length bytes) ((name ++ bytes) ++ rest) is.length)
    ∙ ap (λ (l : List ℕ). followed_by (parted_at (length name) l) (then_bytes (length bytes))) (append_assoc name bytes rest)
    ∙ ap (λ (r : Option (List ℕ × List ℕ)). followed_by r (then_bytes (length bytes))) (parted-read name (bytes ++ rest))
    ∙ ap (λ (r : Option (List ℕ × List ℕ)). followed_by r (λ bytes rest. Some ((name, bytes), rest))) (parted-read bytes rest)

-- ---- the first bytes

-- what was written behind the first bytes is read behind them
pub head-read : (bs : List ℕ) → head_at (head_bytes packed_kind ++ bs) ≡ Ok bs
head-read bs = ap (λ b. cond b (Err OtherFile) (Ok bs)) (le-ltb (length (head_bytes packed_kind ++ bs)) 16 (omega arith))

-- the first bytes are refused as those of another file, or of another version
pub head-refused : (bs : List ℕ) (e : BytesRefusal) → head_at bs ≡ Err e → IsFilesRefusal e
head-refused bs e is = elim (head-one-of-two bs e is) [
  | inl other ↦ subst IsFilesRefusal (sym other) tt
  | inr version ↦ subst IsFilesRefusal (sym version) tt
]
  where
    err-of : BytesRefusal → Result (List ℕ) BytesRefusal → BytesRefusal
    err-of d (Ok x) = d
    err-of d (Err e) = e

    by-version : (b : Bool) (rest : List ℕ) (e : BytesRefusal) → cond b (Ok rest) (Err OtherVersion) ≡ Err e → (e ≡ OtherFile) ⊎ (e ≡ OtherVersion)
    by-version true rest e is = absurd (cc is)
    by-version false rest e is = inr (sym (ap (err-of OtherFile) is))

    by-kind : (a b : Bool) (rest : List ℕ) (e : BytesRefusal) → cond a (Err OtherFile) (cond b (Ok rest) (Err OtherVersion)) ≡ Err e → (e ≡ OtherFile) ⊎ (e ≡ OtherVersion)
    by-kind true b rest e is = inl (sym (ap (err-of OtherFile) is))
    by-kind false b rest e is = by-version b rest e is

    by-length : (c a b : Bool) (rest : List ℕ) (e : BytesRefusal) → cond c (Err OtherFile) (cond a (Err OtherFile) (cond b (Ok rest) (Err OtherVersion))) ≡ Err e → (e ≡ OtherFile) ⊎ (e ≡ OtherVersion)
    by-length true a b rest e is = inl (sym (ap (err-of OtherFile) is))
    by-length false a b rest e is = by-kind a b rest e is

    head-one-of-two : (bs : List ℕ) (e : BytesRefusal) → head_at bs ≡ Err e → (e ≡ OtherFile) ⊎ (e ≡ OtherVersion)
    head-one-of-two bs e is =
        by-length (nat_lt (length bs) 16) (not (pointwise nat_eq (take 8 bs) packed_kind)) (from_le_bytes w64 (take 8 (drop 8 bs)) == 1) (drop 8 (drop 8 bs)) e is

-- ---- a file that is added in four parts

pub all-pushed : (out a b c d first second name bytes : List ℕ) → a ≡ out ++ first → b ≡ a ++ second → c ≡ b ++ name → d ≡ c ++ bytes →
    d ≡ out ++ (first ++ (second ++ (name ++ bytes)))
all-pushed out a b c d first second name bytes one two three four =
    four
    ∙ ap (λ (l : List ℕ). l ++ bytes) three ∙ append_assoc b name bytes
    ∙ ap (λ (l : List ℕ). l ++ (name ++ bytes)) two ∙ append_assoc a second (name ++ bytes)
    ∙ ap (λ (l : List ℕ). l ++ (second ++ (name ++ bytes))) one ∙ append_assoc out first (second ++ (name ++ bytes))
