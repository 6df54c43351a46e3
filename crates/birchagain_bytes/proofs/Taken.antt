-- Files that lie in bytes are taken one after another, by their names.
use Rattle.std.proofs.Common.{◌≡◌, ℕ, ◌||◌, Bool, true, false, cond, List, [], ◌∷◌, ◌++◌, All, Option, None, Some, String, option_map, is_some, get_or, length, map, append-nil, append_assoc, refl, sym, ap, subst, ◌∙◌, inl, inr}
use Rattle.std.specs.Prelude.{◌==◌, IfSome, unwrap_or}
use Rattle.std.specs.Cmp.Lexicographic.{slice_cmp}
use Rattle.std.specs.Map.{lookup}
use Rattle.std.specs.Ordering.{nat_cmp}
use Rattle.std.specs.BTreeMap.{Updates, get_by_text, is_at}
use Rattle.std.specs.Str.{bytes_eq}
use Rattle.std.specs.String.{string_bytes, string_cmp}
use Rattle.std.specs.declared.alloc.Global.{Global}
use Rattle.std.proofs.lemmas.Bool.{both_ways, cases_Bool, eqb-true, false≢true}
use Rattle.std.proofs.lemmas.List.{map-append, nil_from_length}
use Rattle.std.proofs.lemmas.List.Concat.{flat_map-cons}
use Rattle.std.proofs.lemmas.List.Elements.{All-append, All-cons, All-head, All-nil}
use Rattle.std.proofs.lemmas.Map.Text.{btree_map_updates_text}
use denote.Ref.{Bor}
use Rattle.qm_folder.specs.Names.{AreDistinct, Name, is_among}
use Rattle.qm_folder.proofs.NameLists.{same_itself, same_name}
use Rattle.birchagain_bytes.specs.Packed.{AreThere, File, IsFile, IsThere, file_at, file_bytes, files_bytes, named_bytes, there_of}
use Rattle.birchagain_bytes.proofs.FilesRead.{file-read}
use Rattle.birchagain_bytes.specs.PackedFolder.{Files, contents_in}
use Rattle.birchagain_bytes.proofs.MoreNames.{among_last, distinct_more, not_same}
use Rattle.birchagain_bytes.proofs.Packs.{All-right}

-- the name of a file
abbrev pub name_of : File → Name
name_of f = f.name

-- ---- one file more

cond-mapped : (b : Bool) (v : Bor (List ℕ)) (r : Option (Bor (List ℕ))) → option_map (λ x. x.now) (cond b (Some v) r) ≡ cond b (Some v.now) (option_map (λ x. x.now) r)
cond-mapped true v r = refl
cond-mapped false v r = refl

-- a file was inserted
abbrev pub IsInserted : String Global → Bor (List ℕ) → Files → Files → Type 0
IsInserted key v before after = Updates string_cmp before after key (Some v)

-- what is seen then
pub inserted : (key : String Global) (v : Bor (List ℕ)) (before after : Files) (n : Name) → IsInserted key v before after →
    contents_in after n ≡ cond (bytes_eq (string_bytes key) n) (Some v.now) (contents_in before n)
inserted key v before after n is =
    ap (option_map (λ x. x.now)) (btree_map_updates_text (string_bytes key) before after (Some v) is n)
    ∙ cond-mapped (bytes_eq (string_bytes key) n) v (get_by_text before n)

-- ---- the files so far

-- a file stands there under its name
abbrev pub Stands : Files → File → Type 0
Stands m f = contents_in m f.name ≡ Some (there_of f)

-- Of some files the first are there and no others, each once; what is left of the bytes is those behind them.
pub record AreTaken (m : Files) (rest : List ℕ) (fs : List File) : Type 0 where
  pub done : List File
  pub left : List File
  pub all : fs ≡ done ++ left
  pub rest_is : rest ≡ files_bytes left
  pub stand : All (Stands m) done
  pub names : (n : Name) → is_some (contents_in m n) ≡ is_among (map name_of done) n
  pub distinct : AreDistinct (map name_of done)

pub none-taken : (m : Files) (fs : List File) → m.entries ≡ [] → AreTaken m (files_bytes fs) fs
none-taken m fs none = record {
  done = [];
  left = fs;
  all = refl;
  rest_is = refl;
  stand = All-nil (Stands m);
  names = λ n. ap (λ (es : List (String Global × Bor (List ℕ))). is_some (option_map (λ (b : Bor (List ℕ)). b.now) (lookup (is_at (λ (k : String Global). slice_cmp nat_cmp n (string_bytes k))) es))) none;
  distinct = tt;
}

is_some-cond : (b : Bool) (x : List ℕ) (r : Option (List ℕ)) → is_some (cond b (Some x) r) ≡ (is_some r || b)
is_some-cond true x None = refl
is_some-cond true x (Some y) = refl
is_some-cond false x None = refl
is_some-cond false x (Some y) = refl

some-not-none : (r : Option (List ℕ)) (x : List ℕ) → r ≡ Some x → r ≡ None → ⊥
some-not-none r x some none = absurd (cc (some, none))

eq-swapped : (n m : Name) → bytes_eq n m ≡ bytes_eq m n
eq-swapped n m = elim (cases_Bool (bytes_eq n m)) [
  | inl same ↦ same ∙ sym (ap (λ (x : Name). bytes_eq m x) (same_name n m same) ∙ same_itself m)
  | inr other ↦ other ∙ sym (not_same n m other)
]

module _ (key : String Global) (v : Bor (List ℕ)) (m after : Files) (is : IsInserted key v m after) where
  still-stands : (f : File) → contents_in m (string_bytes key) ≡ None → Stands m f → Stands after f
  still-stands f fresh stands = elim (cases_Bool (bytes_eq (string_bytes key) f.name)) [
    | inl same ↦ absurd (some-not-none (contents_in m f.name) (there_of f) stands (ap (contents_in m) (sym (same_name (string_bytes key) f.name same)) ∙ fresh))
    | inr other ↦ inserted key v m after f.name is ∙ ap (λ (b : Bool). cond b (Some v.now) (contents_in m f.name)) other ∙ stands
  ]

  last-stands : (f : File) → string_bytes key ≡ f.name → v.now ≡ there_of f → Stands after f
  last-stands f name bytes =
      inserted key v m after f.name is
      ∙ ap (λ (b : Bool). cond b (Some v.now) (contents_in m f.name)) (ap (λ (n : Name). bytes_eq n f.name) name ∙ same_itself f.name)
      ∙ ap Some bytes

  -- a file more, whose name is new
  pub taken-more : (rest behind : List ℕ) (fs : List File) (f : File) (others : List File) (are : AreTaken m rest fs) →
      are.left ≡ f ∷ others → behind ≡ files_bytes others → string_bytes key ≡ f.name → v.now ≡ there_of f → contents_in m (string_bytes key) ≡ None →
      AreTaken after behind fs
  taken-more rest behind fs f others are left behind_is name bytes fresh =
      let names : map name_of (are.done ++ f ∷ []) ≡ map name_of are.done ++ f.name ∷ [] = map-append name_of are.done (f ∷ []) in
      let new : is_among (map name_of are.done) f.name ≡ false = sym (are.names f.name) ∙ ap is_some (ap (contents_in m) (sym name) ∙ fresh) in
      record {
        done = are.done ++ f ∷ [];
        left = others;
        all = are.all ∙ ap (λ (l : List File). are.done ++ l) left ∙ sym (append_assoc are.done (f ∷ []) others);
        rest_is = behind_is;
        stand = All-append (Stands after) are.done (f ∷ [])
            (λ i d inside. still-stands (get_or are.done i d) fresh (are.stand i d inside))
            (All-cons (Stands after) f [] (last-stands f name bytes) (All-nil (Stands after)));
        names = λ n.
            ap is_some (inserted key v m after n is) ∙ is_some-cond (bytes_eq (string_bytes key) n) v.now (contents_in m n)
            ∙ (λ i. are.names n i || (eq-swapped (string_bytes key) n ∙ ap (bytes_eq n) name) i) ∙ sym (among_last (map name_of are.done) f.name n)
            ∙ ap (λ (ns : List Name). is_among ns n) (sym names);
        distinct = subst AreDistinct (sym names) (distinct_more (map name_of are.done) f.name are.distinct new);
      }

-- ---- what is left

file-fits : (done left fs : List File) (f : File) (others : List File) → fs ≡ done ++ left → left ≡ f ∷ others → All IsFile fs → IsFile f
file-fits done left fs f others all is fit =
    All-head IsFile f others (All-right IsFile done (f ∷ others) (subst (All IsFile) (all ∙ ap (λ (l : List File). done ++ l) is) fit))

-- The next of some files, with which the bytes begin that are left.
pub record IsNext (m : Files) (rest : List ℕ) (fs : List File) (are : AreTaken m rest fs) : Type 0 where
  pub file : File
  pub others : List File
  pub left : are.left ≡ file ∷ others
  pub fits : IsFile file
  pub read : file_at rest ≡ Some ((file.name, there_of file), files_bytes others)

pub next-file : (m : Files) (rest : List ℕ) (fs : List File) (are : AreTaken m rest fs) → All IsFile fs → (length rest == 0) ≡ false → IsNext m rest fs are
next-file m rest fs are fit some = elim are.left as (λ (left : List File). are.left ≡ left → IsNext m rest fs are) [
  | [] ↦ λ none.
      let empty : rest ≡ [] = are.rest_is ∙ ap files_bytes none in
      absurd (false≢true (sym some ∙ ap (λ (l : List ℕ). length l == 0) empty))
  | file ∷ others ↦ λ is.
      let fits = file-fits are.done are.left fs file others are.all is fit in
      record {
        file = file;
        others = others;
        left = is;
        fits = fits;
        read = ap file_at (are.rest_is ∙ ap files_bytes is ∙ flat_map-cons file_bytes file others) ∙ file-read file (files_bytes others) fits;
      }
] refl

-- what is read: a name, the bytes of its file, and those behind it
abbrev Read : Type 0
Read = Option ((Name × List ℕ) × List ℕ)

abbrev name_in : Read → Name
name_in None = []
name_in (Some p) = p.0.0

abbrev bytes_in : Read → List ℕ
bytes_in None = []
bytes_in (Some p) = p.0.1

abbrev rest_in : Read → List ℕ
rest_in None = []
rest_in (Some p) = p.1

pub same-name : (n n' : Name) (b b' r r' : List ℕ) → ◌≡◌ {A = Read} (Some ((n, b), r)) (Some ((n', b'), r')) → n ≡ n'
same-name n n' b b' r r' is = ap name_in is

pub same-bytes : (n n' : Name) (b b' r r' : List ℕ) → ◌≡◌ {A = Read} (Some ((n, b), r)) (Some ((n', b'), r')) → b ≡ b'
same-bytes n n' b b' r r' is = ap bytes_in is

pub same-rest : (n n' : Name) (b b' r r' : List ℕ) → ◌≡◌ {A = Read} (Some ((n, b), r)) (Some ((n', b'), r')) → r ≡ r'
same-rest n n' b b' r r' is = ap rest_in is

-- ---- whether a name is there

seen-or-not : (r : Option (Bor (List ℕ))) → is_some (option_map (λ x. x.now) r) ≡ is_some r
seen-or-not None = refl
seen-or-not (Some x) = refl

pub seen-there : (m : Files) (n : Name) → is_some (get_by_text m n) ≡ true → is_some (contents_in m n) ≡ true
seen-there m n there = seen-or-not (get_by_text m n) ∙ there

none-mapped : (r : Option (Bor (List ℕ))) → is_some r ≡ false → option_map (λ x. x.now) r ≡ None
none-mapped None none = refl
none-mapped (Some x) none = absurd (false≢true (sym none))

pub none-seen : (m : Files) (n : Name) → is_some (get_by_text m n) ≡ false → contents_in m n ≡ None
none-seen m n none = none-mapped (get_by_text m n) none

-- ---- no name stands twice

among-front : (xs : List Name) (n : Name) (ys : List Name) → is_among (xs ++ n ∷ ys) n ≡ true
among-front [] n ys = ap (λ (b : Bool). b || is_among ys n) (same_itself n)
among-front (x ∷ xs) n ys = elim (cases_Bool (bytes_eq n x)) [
  | inl same ↦ ap (λ (b : Bool). b || is_among (xs ++ n ∷ ys) n) same
  | inr other ↦ ap (λ (b : Bool). b || is_among (xs ++ n ∷ ys) n) other ∙ among-front xs n ys
]

stands-twice : (xs : List Name) (n : Name) (ys : List Name) → AreDistinct (xs ++ n ∷ ys) → is_among xs n ≡ true → ⊥
stands-twice [] n ys distinct there = absurd (cc there)
stands-twice (x ∷ xs) n ys distinct there = elim (cases_Bool (bytes_eq n x)) [
  | inl same ↦ both_ways (is_among (xs ++ n ∷ ys) x) distinct.0 (ap (is_among (xs ++ n ∷ ys)) (sym (same_name n x same)) ∙ among-front xs n ys)
  | inr other ↦ stands-twice xs n ys distinct.1 (sym (ap (λ (b : Bool). b || is_among xs n) other) ∙ there)
]

-- so the next is new
pub next-is-new : (m : Files) (rest : List ℕ) (fs : List File) (f : File) (others : List File) (are : AreTaken m rest fs) → are.left ≡ f ∷ others →
    AreDistinct (map name_of fs) → is_some (contents_in m f.name) ≡ true → ⊥
next-is-new m rest fs f others are left distinct there =
    let names : map name_of fs ≡ map name_of are.done ++ f.name ∷ map name_of others =
    ap (map name_of) (are.all ∙ ap (λ (l : List File). are.done ++ l) left) ∙ map-append name_of are.done (f ∷ others) in
    stands-twice (map name_of are.done) f.name (map name_of others) (subst AreDistinct names distinct) (sym (are.names f.name) ∙ there)

-- ---- all of them

no-file-left : (left : List File) → files_bytes left ≡ [] → left ≡ []
unfolding named_bytes
no-file-left [] none = refl
no-file-left (f ∷ left) none = absurd (cc (sym (flat_map-cons file_bytes f left) ∙ none))

pub all-done : (m : Files) (rest : List ℕ) (fs : List File) (are : AreTaken m rest fs) → rest ≡ [] → are.done ≡ fs
all-done m rest fs are none =
    sym (are.all ∙ ap (λ (l : List File). are.done ++ l) (no-file-left are.left (sym are.rest_is ∙ none)) ∙ append-nil are.done)

there-of-stands : (m : Files) (f : File) → Stands m f → IsThere (contents_in m) f
there-of-stands m f stands = elim f.bytes as (λ (b : Option (List ℕ)). f.bytes ≡ b → IfSome b (λ bytes. contents_in m f.name ≡ Some bytes)) [
  | None ↦ λ is. tt
  | Some bytes ↦ λ is. stands ∙ ap Some (ap (λ (b : Option (List ℕ)). unwrap_or b []) is)
] refl

pub all-there : (m : Files) (rest : List ℕ) (fs : List File) → AreTaken m rest fs → (length rest == 0) ≡ true → AreThere (contents_in m) fs
all-there m rest fs are none =
    subst (All (IsThere (contents_in m))) (all-done m rest fs are (nil_from_length rest (eqb-true (length rest) 0 none))) (λ i d inside. there-of-stands m (get_or are.done i d) (are.stand i d inside))

pub all-distinct : (m : Files) (rest : List ℕ) (fs : List File) → AreTaken m rest fs → (length rest == 0) ≡ true → AreDistinct (map name_of fs)
all-distinct m rest fs are none =
    subst (λ (done : List File). AreDistinct (map name_of done)) (all-done m rest fs are (nil_from_length rest (eqb-true (length rest) 0 none))) are.distinct
