-- Postings beside an offset.
use Rattle.std.specs.Prelude.{◌≡◌, ℕ}
use Rattle.qm_docset.specs.declared.docset.DocSet.{Ghosts}
use Rattle.qm_phrase.specs.declared.postings_with_offset.PostingsWithOffset.{PostingsWithOffset}

-- the postings
abbrev pub inner_postings : {P : Type 0} → PostingsWithOffset P → P
inner_postings s = s.postings

-- the offset
abbrev pub offset_of : {P : Type 0} → PostingsWithOffset P → ℕ
offset_of s = s.offset

-- one reads at the offset of another, and its postings keep what that one's do
pub record ReadsAtOffset {P : Type 0} (D : Ghosts P) (s t : PostingsWithOffset P) : Type 0 where
  pub offset : offset_of t ≡ offset_of s
  pub postings : (p : P) → D.keeps p (inner_postings s) → D.keeps p (inner_postings t)
