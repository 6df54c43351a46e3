-- How many documents the segments have that are searched: as many as those of the script, narrowed or not.
use Rattle.std.proofs.Common.{◌≡◌, ◌+◌, Bool, List, [], ◌∷◌, append-nil, length, length-append, map, ap, refl, sym, ◌∙◌}
use Rattle.std.proofs.lemmas.List.{length-map}
use Rattle.std.proofs.lemmas.List.Concat.{flat_map-cons}
use Rattle.std.specs.List.{flat_map}
use Rattle.qm_index.specs.Indexed.{AreSearched, all_segments}
use Rattle.qm_index.specs.Parts.{segments_of}
use Rattle.qm_postings.specs.Reading.{Reader}
use Rattle.qm_postings.specs.Restriction.{keeping, restricted}
use Rattle.qm_postings.specs.Segment.{Segment}
use Rattle.qm_schema.specs.Term.{TermKey}
use Rattle.qm_script.specs.Narrowed.{AreNarrowed, narrowed}
use Rattle.qm_script.specs.Parts.{document_count}
use Rattle.qm_script.specs.Script.{Query}
use Rattle.qm_script.specs.ScriptSegments.{Script}
use Rattle.qm_script.proofs.NarrowedScripts.{narrowed-all}
use Rattle.qm_script.proofs.PartLemmas.{count-append}
use Rattle.qm_script.proofs.ReachedParts.{documents-parts}

count-cons : (s : Segment) (segments : List Segment) → document_count (s ∷ segments) ≡ length s.documents + document_count segments
count-cons s segments =
    ap length (flat_map-cons (λ (t : Segment). t.documents) s segments) ∙ length-append s.documents (flat_map (λ t. t.documents) segments)

count-searched : (s : Script) (readers : List Reader) → AreSearched s readers → document_count (segments_of readers) ≡ document_count (all_segments s)
count-searched s readers are =
    let one : document_count (s.current ∷ []) ≡ length s.current.documents =
    ap length (flat_map-cons (λ (t : Segment). t.documents) s.current [] ∙ append-nil s.current.documents) in
    ap document_count are.all ∙ count-append s.ended are.parts
    ∙ ap (λ n. document_count s.ended + n) (sym (ap length (documents-parts s.current 0 are.parts are.of_current)) ∙ sym one)
    ∙ sym (count-append s.ended (s.current ∷ []))

count-restricted : (wanted : TermKey → Bool) (segments : List Segment) → document_count (map (restricted wanted) segments) ≡ document_count segments
count-restricted wanted [] = refl
count-restricted wanted (s ∷ segments) =
    count-cons (restricted wanted s) (map (restricted wanted) segments)
    ∙ (λ i. length-map s.documents (keeping wanted) i + count-restricted wanted segments i) ∙ sym (count-cons s segments)

pub count-narrowed : (q : Query) (s : Script) (readers made : List Reader) → AreSearched s readers → AreNarrowed q s made →
    document_count (segments_of made) ≡ document_count (segments_of readers)
count-narrowed q s readers made are narrow =
    count-searched (narrowed narrow.wanted s) made narrow.merged.searched
    ∙ ap document_count (narrowed-all narrow.wanted s) ∙ count-restricted narrow.wanted (all_segments s) ∙ sym (count-searched s readers are)
