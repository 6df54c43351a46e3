-- Segments of some terms alone, joined, are the joined segments of these terms alone.
use Rattle.std.proofs.Common.{◌≡◌, ◌+◌, ◌++◌, Bool, List, [], ◌∷◌, map, refl, sym}
use Rattle.std.proofs.lemmas.List.{length-map, map-append}
use Rattle.qm_merge.specs.Merging.{joined}
use Rattle.qm_postings.specs.Restriction.{keeping, restricted}
use Rattle.qm_postings.specs.Segment.{Segment}
use Rattle.qm_schema.specs.Term.{TermKey}
use Rattle.qm_script.specs.Narrowed.{all_joined}

pub joined-restricted : (wanted : TermKey → Bool) (s t : Segment) → joined (restricted wanted s) (restricted wanted t) ≡ restricted wanted (joined s t)
joined-restricted wanted s t = λ i. record {
  schema = s.schema;
  block_len = s.block_len;
  documents = sym (map-append (keeping wanted) s.documents t.documents) i;
  deleted = s.deleted ++ map (λ d. length-map s.documents (keeping wanted) i + d) t.deleted;
}

-- one segment more
pub joined_more : (s : Segment) (others : List Segment) (t : Segment) → all_joined s (others ++ t ∷ []) ≡ joined (all_joined s others) t
joined_more s [] t = refl
joined_more s (u ∷ others) t = joined_more (joined s u) others t
