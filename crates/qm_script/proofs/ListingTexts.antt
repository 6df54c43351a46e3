-- Texts of listings: one document more, and several.
use Rattle.std.proofs.Common.{◌≡◌, ℕ, ℤ, ◌+◌, ◌<◌, ◌^◌, List, [], ◌∷◌, ◌++◌, Option, length, map, ap, sym, ◌∙◌, append_assoc, arith}
use Rattle.std.proofs.Common.{refl, length-append, take}
use Rattle.std.proofs.Common.{get_or}
use Rattle.std.specs.List.{join_with_byte}
use Rattle.std.specs.Fmt.{decimal}
use Rattle.std.proofs.lemmas.Fmt.{decimal_nonempty}
use Rattle.std.proofs.lemmas.List.{map-append, take_more}
use Rattle.qm_script.specs.Text.{numbered}
use Rattle.qm_script.specs.Text.{IsListing, item_text, score_text}

abbrev Item : Type 0
Item = ℕ × Option ℤ

join_with_byte-push : (c : ℕ) (x : List ℕ) (xs : List (List ℕ)) (y : List ℕ) → join_with_byte c (x ∷ (xs ++ y ∷ [])) ≡ join_with_byte c (x ∷ xs) ++ (c ∷ y)
join_with_byte-push c x [] y = refl
join_with_byte-push c x (z ∷ zs) y =
    ap (λ bs. x ++ (c ∷ bs)) (join_with_byte-push c z zs y) ∙ sym (append_assoc x (c ∷ join_with_byte c (z ∷ zs)) (c ∷ y))

-- the text of a document with a small number isn't empty
some_text : (item : Item) → item.0 < 2 ^ 64 → 0 < length (item_text item)
some_text item small = omega (arith, decimal_nonempty item.0 small, length-append (decimal item.0) (score_text item.1))

-- the first document stands alone
pub IsListing-first : (items : List Item) (text new : List ℕ) (item : Item) → IsListing items text →
    length text ≡ 0 → item.0 < 2 ^ 64 → new ≡ text ++ item_text item → IsListing (items ++ item ∷ []) new
IsListing-first [] [] new item is empty small e = record { listed = e; begun = λ h. let some = some_text item small in absurd (omega (arith, ap length e)) }
IsListing-first (i ∷ items) [] new item is empty small e = let no : i ∷ items ≡ [] = is.begun refl in cc
IsListing-first items (x ∷ text) new item is empty small e = absurd (omega arith)

-- an item more stands behind a space
listing-push : (i : Item) (items : List Item) (item : Item) →
    join_with_byte 32 (map item_text ((i ∷ items) ++ item ∷ [])) ≡ join_with_byte 32 (map item_text (i ∷ items)) ++ (32 ∷ item_text item)
listing-push i items item =
    ap (λ ts. join_with_byte 32 (item_text i ∷ ts)) (map-append item_text items (item ∷ []))
    ∙ join_with_byte-push 32 (item_text i) (map item_text items) (item_text item)

-- each further one comes after a space
pub IsListing-next : (items : List Item) (text new : List ℕ) (item : Item) → IsListing items text →
    0 < length text → new ≡ (text ++ 32 ∷ []) ++ item_text item → IsListing (items ++ item ∷ []) new
IsListing-next [] text new item is some e = absurd (omega (arith, ap length is.listed))
IsListing-next (i ∷ items) text new item is some e = record {
  listed = e ∙ append_assoc text (32 ∷ []) (item_text item) ∙ ap (λ t. t ++ (32 ∷ item_text item)) is.listed ∙ sym (listing-push i items item);
  begun = λ h. absurd (omega (arith, ap length e, length-append (text ++ 32 ∷ []) (item_text item), length-append text (32 ∷ [])));
}

-- a loop over the documents of a segment: one more
pub listing-more : {X : Type 0} (make : X → Item) (items : List Item) (first : ℕ) (found : List X) (i : ℕ) (d : X) → i < length found →
    (items ++ numbered first (map make (take i found))) ++ (first + (make (get_or found i d)).0, (make (get_or found i d)).1) ∷ []
    ≡ items ++ numbered first (map make (take (i + 1) found))
listing-more make items first found i d within =
    append_assoc items (numbered first (map make (take i found))) ((first + (make (get_or found i d)).0, (make (get_or found i d)).1) ∷ [])
    ∙ ap (λ xs. items ++ xs) (sym (
    ap (λ xs. numbered first (map make xs)) (take_more found i d within)
    ∙ ap (numbered first) (map-append make (take i found) (get_or found i d ∷ []))
    ∙ map-append (λ (item : Item). (first + item.0, item.1)) (map make (take i found)) (make (get_or found i d) ∷ [])))

-- the documents of a run that are written behind those before them
pub listing-append : {X : Type 0} (make : X → Item) (items : List Item) (first : ℕ) (done more : List X) →
    (items ++ numbered first (map make done)) ++ numbered first (map make more) ≡ items ++ numbered first (map make (done ++ more))
listing-append make items first done more =
    append_assoc items (numbered first (map make done)) (numbered first (map make more))
    ∙ ap (λ l. items ++ l)
    (sym (ap (numbered first) (map-append make done more) ∙ map-append (λ (item : Item). (first + item.0, item.1)) (map make done) (map make more)))
