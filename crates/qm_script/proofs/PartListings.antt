-- What a query's tree lists over the parts of a segment, one after another, is what it lists over the
-- segment.
use Rattle.std.proofs.Common.{◌≡◌, ℕ, ◌+◌, ◌-◌, ◌<◌, ◌≤◌, ◌&&◌, true, not, List, [], ◌∷◌, ◌++◌, length, map, filter, ap, sym, ◌∙◌, arith}
use Rattle.std.proofs.Common.{append-nil, add-zero, zero-add, lt-ltb, le-ltb, inl, inr, drop, length-take}
use Rattle.std.specs.List.{AllByRecursion, range_with_len}
use Rattle.std.proofs.lemmas.Bool.{cases_lt}
use Rattle.std.proofs.lemmas.List.{get_or-drop, get_or-take, length-drop, map-append, take_all}
use Rattle.std.proofs.lemmas.List.Elements.{filter-append}
use Rattle.qm_index.specs.Indexed.{AreSearched, all_segments}
use Rattle.qm_index.specs.Parts.{AreParts, ArePartsFrom, part_of, segments_of}
use Rattle.qm_postings.specs.Reading.{Reader}
use Rattle.qm_postings.specs.Segment.{Segment, is_alive, is_deleted, no_document}
use Rattle.qm_postings.proofs.DeletedDocuments.{among_members}
use Rattle.qm_script.specs.PrefixFree.{PrefixTest, all_prefixes}
use Rattle.qm_script.specs.Reached.{Reaches, is_reached}
use Rattle.qm_script.specs.ScriptSegments.{Script}
use Rattle.qm_weight.specs.Tree.{Tree, matches, matching}
use Rattle.qm_script.proofs.PrefixDocuments.{document_at}
use Rattle.qm_script.proofs.ReachedParts.{parts-reach, whole-reaches}
use Rattle.qm_script.proofs.Ranges.{map-filter-shifted, range-append}
use Rattle.qm_weight.specs.LookingFacts.{matching-documents}
use Rattle.qm_script.proofs.TreeParts.{matches-same}

-- An item is made of its number, the schema, one document, and whether this was deleted, where a prefix that passes the
-- test is expanded to all terms that begin with it.
abbrev pub IsByDocument : {Y : Type 0} → PrefixTest → (ℕ → Segment → ℕ → Y) → Type 0
IsByDocument test item = (n : ℕ) (s t : Segment) (d e : ℕ) → Reaches test s → Reaches test t → s.schema ≡ t.schema →
    document_at s d ≡ document_at t e → is_alive s d ≡ is_alive t e → item n s d ≡ item n t e

-- an item is made of its number, the schema and the documents, and of which are deleted
abbrev pub IsByDocuments : {Y : Type 0} → (ℕ → Segment → ℕ → Y) → Type 0
IsByDocuments item = (n : ℕ) (s t : Segment) (d : ℕ) → s.schema ≡ t.schema → s.documents ≡ t.documents →
    is_alive s d ≡ is_alive t d → item n s d ≡ item n t d

-- ---- a part

module _ (whole p : Segment) (first : ℕ) (is : p ≡ part_of whole first (length p.documents)) where
  pub part-within : first ≤ length whole.documents → first + length p.documents ≤ length whole.documents
  part-within below =
      let long = ap (λ s. length s.documents) is ∙ length-take (length p.documents) (drop first whole.documents) in
      omega (arith, long, length-drop first whole.documents, below)

  pub document-part : (d : ℕ) → d < length p.documents → document_at p d ≡ document_at whole (first + d)
  document-part d below =
      ap (λ s. document_at s d) is ∙ get_or-take (length p.documents) (drop first whole.documents) d no_document below
      ∙ get_or-drop first whole.documents d no_document

  pub alive-part : first + length p.documents ≤ length whole.documents → (d : ℕ) → d < length p.documents → is_alive p d ≡ is_alive whole (first + d)
  alive-part within d below =
      ap (λ b. b && not (is_deleted p d)) (lt-ltb d (length p.documents) below)
      ∙ ap not (ap (λ s. is_deleted s d) is ∙ among_members (λ x. is_deleted whole (first + x)) (length p.documents) d below)
      ∙ ap (λ b. b && not (is_deleted whole (first + d))) (sym (lt-ltb (first + d) (length whole.documents) (omega (arith, within, below))))

-- one part that has all documents
module _ (whole p : Segment) (is : p ≡ part_of whole 0 (length p.documents)) (all : 0 + length p.documents ≡ length whole.documents) where
  pub documents-whole : p.documents ≡ whole.documents
  documents-whole = ap (λ s. s.documents) is ∙ take_all (length p.documents) whole.documents (omega (arith, all))

  pub alive-whole : (d : ℕ) → is_alive p d ≡ is_alive whole d
  alive-whole d = elim (cases_lt d (length p.documents)) [
    | inl below ↦ alive-part whole p 0 is (omega (arith, all)) d below ∙ ap (is_alive whole) (zero-add d)
    | inr past ↦ ap (λ b. b && not (is_deleted p d)) (le-ltb d (length p.documents) past)
        ∙ ap (λ b. b && not (is_deleted whole d)) (sym (le-ltb d (length whole.documents) (omega (arith, past, all))))
  ]

-- An item for each document that a tree matches: it is made of the document's number over all segments,
-- and of what it says.
module _ {Y : Type 0} (tree : Tree) (item : ℕ → Segment → ℕ → Y) where
  -- the items of a segment, of which the first document has this number over all segments
  abbrev pub items : ℕ → Segment → List Y
  items first s = map (λ d. item (first + d) s d) (matching tree s)

  -- the items of some segments, of which the first document has this number
  abbrev pub items_from : ℕ → List Segment → List Y
  items_from first [] = []
  items_from first (s ∷ ss) = items first s ++ items_from (first + length s.documents) ss

  module _ (test : PrefixTest) (pass : all_prefixes test tree ≡ true) (item-same : IsByDocument test item)
      (whole : Segment) (reach : Reaches test whole) (first : ℕ) where
    -- the items of n documents of the whole, from document a on
    abbrev stretch : ℕ → ℕ → List Y
    stretch a n = map (λ d. item (first + d) whole d) (filter (matches tree whole) (range_with_len a n))

    stretch-append : (a n m : ℕ) → stretch a (n + m) ≡ stretch a n ++ stretch (a + n) m
    stretch-append a n m =
        ap (λ ds. map (λ d. item (first + d) whole d) (filter (matches tree whole) ds)) (range-append a n m)
        ∙ ap (map (λ d. item (first + d) whole d)) (filter-append (matches tree whole) (range_with_len a n) (range_with_len (a + n) m))
        ∙ map-append (λ d. item (first + d) whole d) (filter (matches tree whole) (range_with_len a n)) (filter (matches tree whole) (range_with_len (a + n) m))

    -- a part of it
    part : (before : ℕ) (p : Segment) → Reaches test p → p ≡ part_of whole before (length p.documents) →
        before + length p.documents ≤ length whole.documents → items (first + before) p ≡ stretch before (length p.documents)
    part before p reach_part is within =
        let schema : p.schema ≡ whole.schema = ap (λ s. s.schema) is in
        let document : (d : ℕ) → d < length p.documents → document_at p (0 + d) ≡ document_at whole (before + d) =
        λ d below. ap (document_at p) (zero-add d) ∙ document-part whole p before is d below in
        let alive : (d : ℕ) → d < length p.documents → is_alive p (0 + d) ≡ is_alive whole (before + d) =
        λ d below. ap (is_alive p) (zero-add d) ∙ alive-part whole p before is within d below in
        map-filter-shifted (matches tree p) (matches tree whole) (λ d. item (first + before + d) p d)
        (λ d. item (first + d) whole d) 0 before (length p.documents)
        (λ d below. matches-same test tree pass p whole reach_part reach (0 + d) (before + d) schema (document d below))
        (λ d below.
        let number : first + before + (0 + d) ≡ first + (before + d) = omega arith in
        ap (λ n. item n p (0 + d)) number
        ∙ item-same (first + (before + d)) p whole (0 + d) (before + d) reach_part reach schema (document d below) (alive d below))

    -- all parts from some on
    parts-from : (before : ℕ) (parts : List Segment) → AllByRecursion (Reaches test) parts → before ≤ length whole.documents →
        ArePartsFrom before whole parts → items_from (first + before) parts ≡ stretch before (length whole.documents - before)
    parts-from before [] each below are = let none : length whole.documents - before ≡ 0 = omega (arith, are) in ap (stretch before) (sym none)
    parts-from before (p ∷ parts) each below are =
        let n = length p.documents in
        let within = part-within whole p before are.0 below in
        let number : first + before + n ≡ first + (before + n) = omega arith in
        let all : n + (length whole.documents - (before + n)) ≡ length whole.documents - before = omega (arith, within) in
        ap (λ l. l ++ items_from (first + before + n) parts) (part before p each.0 are.0 within)
        ∙ ap (λ k. stretch before n ++ items_from k parts) number
        ∙ ap (λ l. stretch before n ++ l) (parts-from (before + n) parts each.1 within are.1)
        ∙ sym (stretch-append before n (length whole.documents - (before + n)))
        ∙ ap (stretch before) all

    -- all parts
    stretch-parts : (parts : List Segment) → AllByRecursion (Reaches test) parts → AreParts whole parts → items_from first parts ≡ items first whole
    stretch-parts parts each are =
        let all : length whole.documents - 0 ≡ length whole.documents = omega arith in
        ap (λ k. items_from k parts) (sym (add-zero first)) ∙ parts-from 0 parts each (omega arith) are ∙ ap (stretch 0) all

  -- the parts of a segment, where prefixes are expanded to all of their terms
  pub items-parts : (whole : Segment) (first : ℕ) (parts : List Segment) → all_prefixes (is_reached parts) tree ≡ true →
      IsByDocument (is_reached parts) item → AreParts whole parts → items_from first parts ≡ items first whole
  items-parts whole first parts pass item-same are =
      stretch-parts (is_reached parts) pass item-same whole (whole-reaches whole parts are) first parts (parts-reach parts) are

  -- one part, whatever the tree
  module _ (item-same : IsByDocuments item) where
    -- at most one part
    pub items-few_parts : (first : ℕ) (whole : Segment) (parts : List Segment) →
        length parts < 2 → AreParts whole parts → items_from first parts ≡ items first whole
    items-few_parts first whole [] few are =
        ap (λ n. map (λ d. item (first + d) whole d) (filter (matches tree whole) (range_with_len 0 n))) are
    items-few_parts first whole (p ∷ []) few are =
        let schema : p.schema ≡ whole.schema = ap (λ s. s.schema) are.0 in
        let documents = documents-whole whole p are.0 are.1 in
        append-nil (items first p)
        ∙ ap (λ ds. map (λ d. item (first + d) p d) ds) (matching-documents p whole schema documents tree)
        ∙ (λ i. map (λ d. item-same (first + d) p whole d schema documents (alive-whole whole p are.0 are.1 d) i) (matching tree whole))
    items-few_parts first whole (p ∷ q ∷ parts) few are = let none : ⊥ = omega (few, arith) in absurd none

  -- segments behind others
  pub items_from-append : (first : ℕ) (ended parts : List Segment) (current : Segment) →
      ((n : ℕ) → items_from n parts ≡ items n current) → items_from first (ended ++ parts) ≡ items_from first (ended ++ current ∷ [])
  items_from-append first [] parts current same = same first ∙ sym (append-nil (items first current))
  items_from-append first (s ∷ ended) parts current same =
      ap (λ l. items first s ++ l) (items_from-append (first + length s.documents) ended parts current same)

-- ---- the segments of a script, of which the open one is in parts

module _ {Y : Type 0} (tree : Tree) (item : ℕ → Segment → ℕ → Y) (script : Script) (readers : List Reader) where
  -- a tree whose prefixes are expanded to all of their terms
  pub items-segments : (are : AreSearched script readers) → all_prefixes (is_reached are.parts) tree ≡ true → IsByDocument (is_reached are.parts) item →
      items_from tree item 0 (segments_of readers) ≡ items_from tree item 0 (all_segments script)
  items-segments are pass item-same =
      ap (items_from tree item 0) are.all
      ∙ items_from-append tree item 0 script.ended are.parts script.current
      (λ n. items-parts tree item script.current n are.parts pass item-same are.of_current)

  -- any tree, where the open segment has at most one part
  pub items-few_segments : IsByDocuments item → (are : AreSearched script readers) →
      length are.parts < 2 → items_from tree item 0 (segments_of readers) ≡ items_from tree item 0 (all_segments script)
  items-few_segments item-same are few =
      ap (items_from tree item 0) are.all
      ∙ items_from-append tree item 0 script.ended are.parts script.current
      (λ n. items-few_parts tree item item-same n script.current are.parts few are.of_current)
