-- What a query finds in an index that was made ready for it.
use Rattle.std.proofs.Common.{◌≡◌, ◌⊎◌, ◌+◌, List, [], ◌∷◌, ap, drop, false, inl, inr, length, refl, sym, ◌∙◌}
use Rattle.std.proofs.lemmas.List.Sums.{sum_by-cons}
use Rattle.std.specs.List.{sum_by}
use Rattle.qm_index.specs.Indexed.{AreMerged, AreSearched, IsMerged, indexed, open_parts}
use Rattle.qm_index.specs.Parts.{segments_of}
use Rattle.qm_index.specs.declared.index.Index.{Index}
use Rattle.qm_postings.specs.Reading.{Reader}
use Rattle.qm_script.specs.Prefixes.{has_failing}
use Rattle.qm_script.specs.Reached.{is_reached}
use Rattle.qm_script.specs.Script.{Query}
use Rattle.qm_script.specs.Served.{Serve}
use Rattle.qm_weight.specs.Counts.{alive_count}
use Rattle.qm_weight.specs.Tree.{Tree}
use Rattle.qm_script.proofs.NarrowedScripts.{parts-behind}

-- what is searched of it serves the query
pub serve-ready : (i : Index) (q : Query) (readers : List Reader) → AreSearched (indexed i) readers → (IsMerged i → AreMerged (indexed i) readers) →
    segments_of (drop (length (indexed i).ended) readers) ≡ open_parts i → IsMerged i ⊎ (has_failing (is_reached (open_parts i)) q ≡ false) →
    Serve q (indexed i) readers
serve-ready i q readers are merged parts ready = elim ready [
  | inl whole ↦ inl (merged whole)
  | inr reached ↦ inr (inl (record {
    searched = are;
    reached = ap (λ ps. has_failing (is_reached ps) q) (sym (parts-behind (indexed i) readers are) ∙ parts) ∙ reached;
  }))
]

-- as many are counted by the segments as by their readers
pub counted-readers : (tree : Tree) (readers : List Reader) →
    sum_by (λ (r : Reader). alive_count tree r.segment) readers ≡ sum_by (λ s. alive_count tree s) (segments_of readers)
counted-readers tree [] = refl
counted-readers tree (r ∷ readers) =
    sum_by-cons (λ (x : Reader). alive_count tree x.segment) r readers ∙ ap (λ n. alive_count tree r.segment + n) (counted-readers tree readers)
    ∙ sym (sum_by-cons (λ s. alive_count tree s) r.segment (segments_of readers))
