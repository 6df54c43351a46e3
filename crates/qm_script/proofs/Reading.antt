-- Reading so many things from words, one behind another.
use Rattle.std.proofs.Common.{◌≡◌, ℕ, ◌+◌, ◌-◌, ◌<◌, zero, suc, List, [], ◌∷◌, ◌++◌, Option, None, Some, Err, refl, ap, sym}
use Rattle.std.proofs.Common.{◌∙◌, arith, append_assoc, append-nil}
use Rattle.qm_script.specs.Script.{WordsReader, form_at, many_at, query_at, ◌>>=◌}
use Rattle.qm_script.specs.Spelled.{Reads}
use Rattle.qm_script.specs.declared.unparsed.Unparsed.{Unparsed}
use Rattle.qm_script.specs.declared.unparsed.Unparsed.TheVariants.{Memory, NotUnderstood}

-- these, and what was read behind them
abbrev pub with_front : {X : Type 0} → List X → Option (List X × List (List ℕ)) → Option (List X × List (List ℕ))
with_front front None = None
with_front front (Some xs) = Some (front ++ xs.0, xs.1)

with_front-none : {X : Type 0} (r : Option (List X × List (List ℕ))) → with_front [] r ≡ r
with_front-none None = refl
with_front-none (Some xs) = refl

with_front-push : {X : Type 0} (front : List X) (x : X) (r : Option (List X × List (List ℕ))) →
    with_front front (r >>= λ xs. Some (x ∷ xs.0, xs.1)) ≡ with_front (front ++ x ∷ []) r
with_front-push front x None = refl
with_front-push front x (Some xs) = ap (λ l. Some (l, xs.1)) (sym (append_assoc front (x ∷ []) xs.0))

unfolded : {X : Type 0} (one : WordsReader X) (count : ℕ) (words : List (List ℕ)) →
    many_at one (suc count) words ≡ (one words >>= λ x. many_at one count x.1 >>= λ xs. Some (x.0 ∷ xs.0, xs.1))
unfolding many_at
unfolded one count words = refl

one_less : (count i : ℕ) → i < count → count - i ≡ suc (count - (i + 1))
one_less count i h = omega arith

-- one more was read
pub many-more : {X : Type 0} (one : WordsReader X) (front : List X) (count i : ℕ) (words after : List (List ℕ)) (x : X) (whole : Option (List X × List (List ℕ))) →
    i < count → one words ≡ Some (x, after) → with_front front (many_at one (count - i) words) ≡ whole →
    with_front (front ++ x ∷ []) (many_at one (count - (i + 1)) after) ≡ whole
many-more one front count i words after x whole below reads kept =
    sym (ap (λ r. with_front front (r >>= λ y. many_at one (count - (i + 1)) y.1 >>= λ xs. Some (y.0 ∷ xs.0, xs.1))) reads
    ∙ with_front-push front x (many_at one (count - (i + 1)) after))
    ∙ ap (with_front front) (sym (ap (λ n. many_at one n words) (one_less count i below) ∙ unfolded one (count - (i + 1)) words))
    ∙ kept

-- where one can't be read, they can't
pub many-stopped : {X : Type 0} (one : WordsReader X) (front : List X) (count i : ℕ) (words : List (List ℕ)) (whole : Option (List X × List (List ℕ))) →
    i < count → one words ≡ None → with_front front (many_at one (count - i) words) ≡ whole → whole ≡ None
many-stopped one front count i words whole below reads kept =
    sym kept ∙ ap (with_front front) (ap (λ n. many_at one n words) (one_less count i below) ∙ unfolded one (count - (i + 1)) words
    ∙ ap (λ r. r >>= λ y. many_at one (count - (i + 1)) y.1 >>= λ xs. Some (y.0 ∷ xs.0, xs.1)) reads)

read_none : {X : Type 0} (one : WordsReader X) (words : List (List ℕ)) → many_at one zero words ≡ Some ([], words)
unfolding many_at
read_none one words = refl

-- all were read
pub many-done : {X : Type 0} (one : WordsReader X) (front : List X) (count i : ℕ) (words : List (List ℕ)) (whole : Option (List X × List (List ℕ))) →
    i ≡ count → with_front front (many_at one (count - i) words) ≡ whole → whole ≡ Some (front, words)
many-done one front count i words whole at_end kept =
    let none : count - i ≡ 0 = omega arith in
    sym kept ∙ ap (λ n. with_front front (many_at one n words)) none
    ∙ ap (with_front front) (read_none one words) ∙ ap (λ l. Some (l, words)) (append-nil front)

-- an error that is passed on
pub reads-error : {X X' Y Y' : Type 0} (view : X → Y) (view' : X' → Y') (e : Unparsed) (left left' : List (List ℕ)) (read : Option (Y × List (List ℕ)))
    (read' : Option (Y' × List (List ℕ))) → (read ≡ None → read' ≡ None) → Reads view (Err e) left read → Reads view' (Err e) left' read'
reads-error view view' NotUnderstood left left' read read' passes h = passes h
reads-error view view' Memory left left' read read' passes h = tt

-- no query is 0 deep
pub query_at-none : (depth : ℕ) (words : List (List ℕ)) → depth ≡ 0 → query_at depth words ≡ None
unfolding query_at
query_at-none zero words e = refl
query_at-none (suc depth) words e = absurd (omega arith)

pub query_at-form : (depth : ℕ) (words : List (List ℕ)) (less : ℕ) → depth ≡ less + 1 → query_at depth words ≡ form_at (query_at less) words
unfolding query_at
query_at-form zero words less e = absurd (omega arith)
query_at-form (suc depth) words less e = let same : depth ≡ less = omega arith in ap (λ d. form_at (query_at d) words) same
