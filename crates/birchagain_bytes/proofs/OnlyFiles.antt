-- What is read as files, one behind the other, is files that were written so.
use Rattle.std.proofs.Common.{◌≡◌, ℕ, ◌+◌, ◌<◌, ◌^◌, Bool, true, false, not, cond, nat_eq, nat_lt, nat_le, List, [], ◌∷◌, ◌++◌, All, Option, None, Some, drop, get_or, length, take, append-nil, append_assoc, refl, ap, sym, subst, ◌∙◌, arith, inl, inr}
use Rattle.std.specs.Prelude.{◌==◌, IsUtf8, Result, Ok, Err}
use Rattle.std.specs.Cmp.Lexicographic.{pointwise, same_text}
use Rattle.std.specs.Int.{w64, from_le_bytes, to_le_bytes}
use Rattle.std.proofs.lemmas.Bool.{cases_lt, eqb-true, leb-true, ltb-false}
use Rattle.std.proofs.lemmas.Grind.{flat_map-append}
use Rattle.std.proofs.lemmas.List.{get_or-append-add, get_or-take, get_or_past, length-drop, length-take, length-take-le, nil_from_length, take-append-drop}
use Rattle.std.proofs.lemmas.List.Concat.{flat_map-cons}
use Rattle.std.proofs.lemmas.List.Elements.{All-append, All-cons, All-nil}
use Rattle.std.proofs.lemmas.Nat.{le_bytes_8}
use Rattle.std.proofs.lemmas.Option.{same_Some}
use Rattle.qm_store.specs.Heads.{head_bytes}
use Rattle.qm_store.specs.Items.{parted_at}
use Rattle.qm_store.specs.RowBytes.{followed_by}
use Rattle.qm_store.specs.Words.{word_at}
use Rattle.birchagain_bytes.proofs.FilesRead.{then_bytes, then_name, then_size}
use Rattle.birchagain_bytes.proofs.Taken.{AreTaken, all-distinct, same-bytes, same-name, same-rest}
use Rattle.birchagain_bytes.specs.PackedFolder.{Files}
use Rattle.birchagain_bytes.specs.Packed.{AreFiles, File, IsFile, file_at, file_bytes, files_bytes, head_at, named_bytes, packed, packed_kind}
use Rattle.birchagain_bytes.specs.declared.refusal.BytesRefusal.{BytesRefusal}
use Rattle.birchagain_bytes.specs.declared.refusal.BytesRefusal.TheVariants.{OtherFile, OtherVersion}

-- numbers of a byte
abbrev pub AreSmall : List ℕ → Type 0
AreSmall bs = (i : ℕ) → get_or bs i 0 < 256

small-take : (n : ℕ) (bs : List ℕ) → AreSmall bs → AreSmall (take n bs)
small-take n bs small i = elim (cases_lt i n) [
  | inl inside ↦ omega (arith, get_or-take n bs i 0 inside, small i)
  | inr outside ↦ omega (arith, get_or_past (take n bs) i 0 (omega (arith, length-take n bs, outside)))
]

small-right : (xs ys : List ℕ) → AreSmall (xs ++ ys) → AreSmall ys
small-right xs ys small i = omega (arith, get_or-append-add xs ys i 0, small (length xs + i))

-- ---- parts

-- a number that was read was written
word-back : (bs : List ℕ) (n : ℕ) (rest : List ℕ) → AreSmall bs → word_at bs ≡ Some (n, rest) → bs ≡ to_le_bytes w64 n ++ rest
word-back bs n rest small is = by_length (nat_lt (length bs) 8) refl is
  where
    by_length : (b : Bool) → nat_lt (length bs) 8 ≡ b →
        cond {A = Option (ℕ × List ℕ)} b None (Some (from_le_bytes w64 (take 8 bs), drop 8 bs)) ≡ Some (n, rest) → bs ≡ to_le_bytes w64 n ++ rest
    by_length true short is = absurd (cc is)
    by_length false long is =
        let both : ◌≡◌ {A = ℕ × List ℕ} (from_le_bytes w64 (take 8 bs), drop 8 bs) (n, rest) = same_Some _ _ is in
        let enough = ltb-false (length bs) 8 long in
        let front = le_bytes_8 (take 8 bs) n (length-take-le 8 bs enough) (small-take 8 bs small) (sym (ap (λ (p : ℕ × List ℕ). p.0) both)) in
        sym (take-append-drop 8 bs) ∙ (λ i. sym front i ++ ap (λ (p : ℕ × List ℕ). p.1) both i)

-- So many bytes are in front of others.
pub record IsParted (count : ℕ) (bs front rest : List ℕ) : Type 0 where
  pub whole : bs ≡ front ++ rest
  pub counted : length front ≡ count

parted-back : (count : ℕ) (bs front rest : List ℕ) → parted_at count bs ≡ Some (front, rest) → IsParted count bs front rest
parted-back count bs front rest is = by_length (nat_le count (length bs)) refl is
  where
    by_length : (b : Bool) → nat_le count (length bs) ≡ b →
        cond {A = Option (List ℕ × List ℕ)} b (Some (take count bs, drop count bs)) None ≡ Some (front, rest) → IsParted count bs front rest
    by_length false short is = absurd (cc is)
    by_length true long is =
        let both : ◌≡◌ {A = List ℕ × List ℕ} (take count bs, drop count bs) (front, rest) = same_Some _ _ is in
        let first : take count bs ≡ front = ap (λ (p : List ℕ × List ℕ). p.0) both in
        record {
          whole = sym (take-append-drop count bs) ∙ (λ i. first i ++ ap (λ (p : List ℕ × List ℕ). p.1) both i);
          counted = ap length (sym first) ∙ length-take-le count bs (leb-true count (length bs) long);
        }

-- What was read in front of others, and what they gave.
record IsStepped {A B : Type 0} (o : Option (A × List ℕ)) (next : A → List ℕ → Option B) (y : B) : Type 0 where
  pub first : A
  pub rest : List ℕ
  pub is : o ≡ Some (first, rest)
  pub later : next first rest ≡ Some y

stepped : {A B : Type 0} (o : Option (A × List ℕ)) (next : A → List ℕ → Option B) (y : B) → followed_by o next ≡ Some y → IsStepped o next y
stepped None next y is = absurd (cc is)
stepped (Some p) next y is = record { first = p.0; rest = p.1; is = refl; later = is }

joined : (bs a b c d r1 r2 r3 rest : List ℕ) → bs ≡ a ++ r1 → r1 ≡ b ++ r2 → r2 ≡ c ++ r3 → r3 ≡ d ++ rest → bs ≡ (a ++ (b ++ (c ++ d))) ++ rest
joined bs a b c d r1 r2 r3 rest one two three four =
    one ∙ ap (λ (l : List ℕ). a ++ l) (two ∙ ap (λ (l : List ℕ). b ++ l) (three ∙ ap (λ (l : List ℕ). c ++ l) four ∙ sym (append_assoc c d rest)) ∙ sym (append_assoc b (c ++ d) rest))
    ∙ sym (append_assoc a (b ++ (c ++ d)) rest)

-- lengths in front of a name and of bytes are those of a file
spelled-so : (bs front back behind name bytes rest : List ℕ) (n m : ℕ) → bs ≡ (to_le_bytes w64 n ++ (to_le_bytes w64 m ++ (front ++ back))) ++ behind →
    length front ≡ n → length back ≡ m → front ≡ name → back ≡ bytes → behind ≡ rest → bs ≡ named_bytes name bytes ++ rest
unfolding named_bytes
spelled-so bs front back behind name bytes rest n m is few few_more same_name same_bytes same_rest =
    let P : ℕ → ℕ → Type 0 = λ k l. bs ≡ (to_le_bytes w64 k ++ (to_le_bytes w64 l ++ (front ++ back))) ++ behind in
    let counted : P (length front) (length back) = subst (P (length front)) (sym few_more) (subst (λ k. P k m) (sym few) is) in
    counted ∙ (λ i. named_bytes (same_name i) (same_bytes i) ++ same_rest i)

-- a file that was read was written
pub file-back : (bs name bytes rest : List ℕ) → AreSmall bs → file_at bs ≡ Some ((name, bytes), rest) → bs ≡ named_bytes name bytes ++ rest
unfolding file_at then_bytes then_name then_size
file-back bs name bytes rest small is =
    let one = stepped (word_at bs) then_size ((name, bytes), rest) is in
    let two = stepped (word_at one.rest) (then_name one.first) ((name, bytes), rest) one.later in
    let three = stepped (parted_at one.first two.rest) (then_bytes two.first) ((name, bytes), rest) two.later in
    let four = stepped (parted_at two.first three.rest) (λ bytes rest. Some ((three.first, bytes), rest)) ((name, bytes), rest) three.later in
    let whole = word-back bs one.first one.rest small one.is in
    let behind = word-back one.rest two.first two.rest (small-right (to_le_bytes w64 one.first) one.rest (subst AreSmall whole small)) two.is in
    let named = parted-back one.first two.rest three.first three.rest three.is in
    let filed = parted-back two.first three.rest four.first four.rest four.is in
    let own = joined bs (to_le_bytes w64 one.first) (to_le_bytes w64 two.first) three.first four.first one.rest two.rest three.rest four.rest whole behind named.whole filed.whole in
    spelled-so bs three.first four.first four.rest name bytes rest one.first two.first own named.counted filed.counted
    (same-name _ _ _ _ _ _ four.later) (same-bytes _ _ _ _ _ _ four.later) (same-rest _ _ _ _ _ _ four.later)

ok-of : List ℕ → Result (List ℕ) BytesRefusal → List ℕ
ok-of d (Ok x) = x
ok-of d (Err e) = d

-- what is left is one thing
pub same-left : (x y : List ℕ) → ◌≡◌ {A = Result (List ℕ) BytesRefusal} (Ok x) (Ok y) → x ≡ y
unfolding ok-of
same-left x y is = ap (ok-of []) is

-- the first bytes that were read were written
pub head-back : (bs rest : List ℕ) → AreSmall bs → head_at bs ≡ Ok rest → bs ≡ head_bytes packed_kind ++ rest
head-back bs rest small is =
    by_parts (nat_lt (length bs) 16) (pointwise nat_eq (take 8 bs) packed_kind) (from_le_bytes w64 (take 8 (drop 8 bs)) == 1) refl refl refl is
  where
    by_parts : (a b c : Bool) → nat_lt (length bs) 16 ≡ a → pointwise nat_eq (take 8 bs) packed_kind ≡ b → (from_le_bytes w64 (take 8 (drop 8 bs)) == 1) ≡ c →
        cond {A = Result (List ℕ) BytesRefusal} a (Err OtherFile) (cond (not b) (Err OtherFile) (cond c (Ok (drop 8 (drop 8 bs))) (Err OtherVersion))) ≡ Ok rest → bs ≡ head_bytes packed_kind ++ rest
    by_parts true b c long kind version is = absurd (cc is)
    by_parts false false c long kind version is = absurd (cc is)
    by_parts false true false long kind version is = absurd (cc is)
    by_parts false true true long kind version is =
        let enough = ltb-false (length bs) 16 long in
        let behind = drop 8 bs in
        let own : AreSmall behind = small-right (take 8 bs) behind (subst AreSmall (sym (take-append-drop 8 bs)) small) in
        let number = le_bytes_8 (take 8 behind) 1 (length-take-le 8 behind (omega (arith, length-drop 8 bs, enough))) (small-take 8 behind own)
        (sym (eqb-true (from_le_bytes w64 (take 8 behind)) 1 version)) in
        let kinds = same_text (take 8 bs) packed_kind (sym kind) in
        sym (take-append-drop 8 bs)
        ∙ (λ i. kinds i ++ sym (take-append-drop 8 behind) i)
        ∙ (λ i. packed_kind ++ (sym number i ++ same-left (drop 8 behind) rest is i))

-- ---- the files so far

-- Of some bytes files were read, one behind the other, and these are left.
pub record AreRead (bytes rest : List ℕ) : Type 0 where
  pub done : List File
  pub fit : All IsFile done
  pub spelled : bytes ≡ packed done ++ rest
  pub small : AreSmall rest

pub none-read : (bytes rest : List ℕ) → AreSmall bytes → head_at bytes ≡ Ok rest → AreRead bytes rest
none-read bytes rest small is =
    let whole = head-back bytes rest small is in
    record {
      done = [];
      fit = All-nil IsFile;
      spelled = whole ∙ ap (λ (l : List ℕ). l ++ rest) (sym (append-nil (head_bytes packed_kind)));
      small = small-right (head_bytes packed_kind) rest (subst AreSmall whole small);
    }

-- a file more
pub more-read : (bytes rest name file behind : List ℕ) → AreRead bytes rest → IsUtf8 name → length name < 2 ^ 64 → length file < 2 ^ 64 →
    file_at rest ≡ Some ((name, file), behind) → AreRead bytes behind
more-read bytes rest name file behind are text few_named few is =
    let f : File = record { name = name; bytes = Some file } in
    let own = file-back rest name file behind are.small is in
    let last : files_bytes (are.done ++ f ∷ []) ≡ files_bytes are.done ++ file_bytes f =
    flat_map-append file_bytes are.done (f ∷ []) ∙ ap (λ (l : List ℕ). files_bytes are.done ++ l) (flat_map-cons file_bytes f [] ∙ append-nil (file_bytes f)) in
    record {
      done = are.done ++ f ∷ [];
      fit = All-append IsFile are.done (f ∷ []) are.fit (All-cons IsFile f [] (record { name_length = few_named; length = few; text = text }) (All-nil IsFile));
      spelled =
          are.spelled ∙ ap (λ (l : List ℕ). packed are.done ++ l) own ∙ sym (append_assoc (packed are.done) (file_bytes f) behind)
          ∙ ap (λ (l : List ℕ). l ++ behind) (append_assoc (head_bytes packed_kind) (files_bytes are.done) (file_bytes f) ∙ ap (λ (l : List ℕ). head_bytes packed_kind ++ l) (sym last));
      small = small-right (file_bytes f) behind (subst AreSmall own are.small);
    }

-- all of them
pub only-files : (m : Files) (bytes rest : List ℕ) → AreRead bytes rest → ((fs : List File) → All IsFile fs → bytes ≡ packed fs → AreTaken m rest fs) →
    (length rest == 0) ≡ true → AreFiles bytes
only-files m bytes rest are taken none =
    let whole : bytes ≡ packed are.done =
    are.spelled ∙ ap (λ (l : List ℕ). packed are.done ++ l) (nil_from_length rest (eqb-true (length rest) 0 none)) ∙ append-nil (packed are.done) in
    record { files = are.done; spelled = whole; fit = are.fit; distinct = all-distinct m rest are.done (taken are.done are.fit whole) none }
