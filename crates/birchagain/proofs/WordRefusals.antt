-- Refusals of words that are cut, and of documents that are made of them.
use Rattle.std.proofs.Common.{◌≡◌, ℕ, List, subst}
use Rattle.qm_index.specs.OpenDocuments.{IsDocumentRefusal}
use Rattle.qm_postings.specs.Document.{Draft}
use Rattle.qm_postings.specs.Segment.{Segment}
use Rattle.birchagain.specs.Adding.{IsAddRefusal}
use Rattle.birchagain.specs.CutWords.{IsCutRefusal}
use Rattle.birchagain.specs.Placed.{ArePlaced, IsRowsRefusal}
use Rattle.birchagain.specs.declared.refusal.Refusal.{Refusal}
use Rattle.birchagain.specs.declared.refusal.Refusal.TheVariants.{NegativeWeight, NoDocument, NotText, NotUnderstood, NotWords, Query, UnevenRows}

-- where there are fewer words, there are no more of them
pub cut-refused : (e : Refusal) (these all : Type 0) → (all → these) → IsCutRefusal these e → IsCutRefusal all e
cut-refused (Query error) these all sub why = why
cut-refused NotText these all sub why = λ a. why (sub a)
cut-refused NotWords these all sub why = λ a. why (sub a)
cut-refused NotUnderstood these all sub why = absurd why
cut-refused NoDocument these all sub why = absurd why
cut-refused NegativeWeight these all sub why = absurd why
cut-refused UnevenRows these all sub why = absurd why

-- what was cut is refused as a document alone
pub add-refused : (e : Refusal) (is : Type 0) (s : Segment) (d f : Draft) → d ≡ f → IsAddRefusal (Unit {0}) s d e → IsAddRefusal is s f e
add-refused (Query error) is s d f same why = subst (λ x. IsDocumentRefusal s x error) same why
add-refused NotText is s d f same why = absurd (why tt)
add-refused NotWords is s d f same why = absurd (why tt)
add-refused NotUnderstood is s d f same why = absurd why
add-refused NoDocument is s d f same why = absurd why
add-refused NegativeWeight is s d f same why = absurd why
add-refused UnevenRows is s d f same why = absurd why

-- words are not refused for uneven rows
pub cut-even : (e : Refusal) (these : Type 0) → IsCutRefusal these e → e ≡ UnevenRows → ⊥
cut-even e these why is = subst (IsCutRefusal these) is why

-- rows that are refused for one word
pub rows-refused : (e : Refusal) (ends place_ends bytes places : List ℕ) (these : Type 0) → (ArePlaced 0 0 ends place_ends bytes places → these) →
    IsCutRefusal these e → IsRowsRefusal ends place_ends bytes places e
rows-refused (Query error) ends place_ends bytes places these sub why = why
rows-refused NotText ends place_ends bytes places these sub why = λ all. why (sub all)
rows-refused NotWords ends place_ends bytes places these sub why = λ all. why (sub all)
rows-refused NotUnderstood ends place_ends bytes places these sub why = absurd why
rows-refused NoDocument ends place_ends bytes places these sub why = absurd why
rows-refused NegativeWeight ends place_ends bytes places these sub why = absurd why
rows-refused UnevenRows ends place_ends bytes places these sub why = absurd why
