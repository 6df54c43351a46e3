-- The segments that searched parts make where terms alone are kept that a query asks for in them.
use Rattle.std.proofs.Common.{◌≡◌, ◌+◌, ◌<◌, Bool, List, [], ◌∷◌, ◌++◌, drop, get_or, length, map, take, ap, subst, sym, ◌∙◌, arith}
use Rattle.std.proofs.Math.Seq.{drop-append_seam, take-append_seam}
use Rattle.std.proofs.lemmas.List.{drop-map, drop_more, map_push, take-map}
use Rattle.qm_index.specs.Indexed.{AreSearched, all_segments}
use Rattle.qm_index.specs.Parts.{AreParts, segments_of}
use Rattle.qm_postings.specs.Reading.{Reader}
use Rattle.qm_postings.specs.Restriction.{restricted}
use Rattle.qm_schema.specs.Term.{TermKey}
use Rattle.qm_script.specs.AskedTerms.{asked_terms}
use Rattle.qm_script.specs.Narrowed.{AreNarrowed, all_joined, narrowed}
use Rattle.qm_script.specs.Script.{Query}
use Rattle.qm_script.specs.ScriptSegments.{Script}
use Rattle.qm_script.proofs.AskedNames.{AreAllWanted, asked-covered, covers-whole}
use Rattle.qm_script.proofs.JoinedParts.{parts-joined_restricted}

-- of each of its segments the wanted terms alone are kept
pub narrowed-all : (wanted : TermKey → Bool) (s : Script) → all_segments (narrowed wanted s) ≡ map (restricted wanted) (all_segments s)
narrowed-all wanted s = sym (map_push (restricted wanted) s.ended s.current)

-- the parts stand behind the segments that were ended
pub parts-behind : (s : Script) (readers : List Reader) (are : AreSearched s readers) → segments_of (drop (length s.ended) readers) ≡ are.parts
parts-behind s readers are =
    sym (drop-map (λ (r : Reader). r.segment) (length s.ended) readers) ∙ ap (drop (length s.ended)) are.all ∙ drop-append_seam s.ended are.parts

ended-before : (s : Script) (readers : List Reader) (are : AreSearched s readers) → segments_of (take (length s.ended) readers) ≡ s.ended
ended-before s readers are =
    sym (take-map (λ (r : Reader). r.segment) (length s.ended) readers) ∙ ap (take (length s.ended)) are.all ∙ take-append_seam s.ended are.parts

module _ (q : Query) (s : Script) (readers : List Reader) (are : AreSearched s readers) (wanted : TermKey → Bool)
    (first : Reader) (within : length s.ended < length readers) (is : first ≡ get_or readers (length s.ended) first) where
  pub are-narrowed : AreAllWanted wanted (asked_terms (segments_of readers) q) → (made : List Reader) →
      segments_of made ≡ map (restricted wanted) (segments_of (take (length s.ended) readers))
      ++ restricted wanted (all_joined first.segment (segments_of (drop (length s.ended + 1) readers))) ∷ [] →
      AreNarrowed q s made
  are-narrowed asks made made_is =
      let parts_are : are.parts ≡ first.segment ∷ segments_of (drop (length s.ended + 1) readers) =
      sym (parts-behind s readers are) ∙ ap segments_of (drop_more readers (length s.ended) first within)
      ∙ ap (λ (r : Reader). r.segment ∷ segments_of (drop (length s.ended + 1) readers)) (sym is) in
      record {
        wanted = wanted;
        asked = asked-covered wanted (s.ended ++ are.parts) (all_segments s) (covers-whole wanted s.ended s.current are.parts are.of_current) q
            (subst (λ l. AreAllWanted wanted (asked_terms l q)) are.all asks);
        merged = record {
          searched = record {
            parts = restricted wanted (all_joined first.segment (segments_of (drop (length s.ended + 1) readers))) ∷ [];
            all = made_is ∙ ap (λ l. map (restricted wanted) l ++ restricted wanted (all_joined first.segment (segments_of (drop (length s.ended + 1) readers))) ∷ [])
                (ended-before s readers are);
            of_current = parts-joined_restricted s.current wanted first.segment (segments_of (drop (length s.ended + 1) readers))
                (subst (AreParts s.current) parts_are are.of_current);
          };
          one = omega arith;
        };
      }
