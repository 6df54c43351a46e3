-- The texts that the program writes.
use Rattle.std.specs.Prelude.{◌≡◌, ◌+◌, ℕ, ℤ, List, [], ◌∷◌, ◌++◌, Option, None, Some, OnOk, Result, String, length, map, string_bytes}
use Rattle.std.specs.List.{join_with_byte}
use Rattle.std.specs.Fmt.{decimal, signed_decimal}
use Rattle.std.specs.Global.{Global}

-- a colon and a score, where there is one
abbrev pub score_text : Option ℤ → List ℕ
score_text None = []
score_text (Some score) = 58 ∷ signed_decimal score

-- a document's number, and its score
abbrev pub item_text : ℕ × Option ℤ → List ℕ
item_text item = decimal item.0 ++ score_text item.1

-- documents, joined by one space; nothing for no document
abbrev pub listing_text : List (ℕ × Option ℤ) → List ℕ
listing_text items = join_with_byte 32 (map item_text items)

-- documents of a segment, of which the first document has this number over all segments
abbrev pub numbered : ℕ → List (ℕ × Option ℤ) → List (ℕ × Option ℤ)
numbered first items = map (λ i. (first + i.0, i.1)) items

-- a text that lists documents: it is empty for no document alone
pub record IsListing (items : List (ℕ × Option ℤ)) (text : List ℕ) : Type 0 where
  pub listed : text ≡ listing_text items
  pub begun : length text ≡ 0 → items ≡ []

-- Where the call succeeds, the text lists these.
abbrev pub WritesListing : {T E : Type 0} → Result T E → List (ℕ × Option ℤ) → String Global → Type 0
WritesListing result items text = OnOk result (IsListing items (string_bytes text))
