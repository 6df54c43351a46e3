-- The documents of segment after segment come by address.
use Rattle.std.specs.Prelude.{◌≡◌, ℕ, zero, suc, ◌+◌, ◌<◌, ◌≤◌, ℤ, Bool, true, false, cond, List, [], ◌∷◌, ◌++◌, All, filter, length, map}
use Rattle.std.specs.Cmp.{nat_cmp_is}
use Rattle.std.specs.List.{range_with_len}
use Rattle.std.specs.Ordering.{nat_cmp, ordering_then}
use Rattle.std.specs.declared.cmp.Ordering.TheVariants.{Less, Equal}
use Rattle.std.proofs.Common.{arith, refl, sym, ap, subst, ◌∙◌, get_or}
use Rattle.std.proofs.lemmas.List.{append-nil, append_assoc}
use Rattle.std.proofs.lemmas.List.Elements.{All-append, All-filter, All-head, All-map, All-nil, All-tail, All-weaker}
use Rattle.std.proofs.lemmas.List.FromFn.{get_or-range_with_len, length-range_with_len}
use Rattle.qm_docset.specs.Entry.{FirstAndOthers}
use Rattle.qm_postings.specs.Address.{address_cmp}
use Rattle.qm_postings.specs.Reading.{Reader}
use Rattle.qm_postings.specs.Segment.{Segment, is_alive}
use Rattle.qm_postings.specs.declared.address.DocAddress.{DocAddress}
use Rattle.qm_weight.specs.Counts.{alive_matching}
use Rattle.qm_weight.specs.Tree.{Tree, matches, matching}
use Rattle.qm_query.specs.TopDocs.{AreByAddress, addressed, alive_matches, alive_matches_from}

-- ---- ascending documents

abbrev IsRising : List ℕ → Type 0
IsRising [] = Unit {0}
IsRising (d ∷ ds) = FirstAndOthers (All (λ e. d < e) ds) (IsRising ds)

rising_if : (b : Bool) (d : ℕ) (ds : List ℕ) → All (λ e. d < e) ds → IsRising ds → IsRising (cond b (d ∷ ds) ds)
rising_if true d ds above up = record { here = above; others = up }
rising_if false d ds above up = up

IsRising-filter : (p : ℕ → Bool) (ds : List ℕ) → IsRising ds → IsRising (filter p ds)
IsRising-filter p [] up = tt
IsRising-filter p (d ∷ ds) up = rising_if (p d) d (filter p ds) (All-filter p (λ e. d < e) ds up.here) (IsRising-filter p ds up.others)

All-range : (a c n : ℕ) → a < c → All (λ d. a < d) (range_with_len c n)
All-range a c n above k x below =
    let inside : k < n = omega (arith, below, length-range_with_len c n) in
    subst (λ d. a < d) (sym (get_or-range_with_len c n k x inside)) (omega arith)

IsRising-range : (a n : ℕ) → IsRising (range_with_len a n)
IsRising-range a zero = tt
IsRising-range a (suc n) = record { here = All-range a (a + 1) n (omega arith); others = IsRising-range (a + 1) n }

rising : (tree : Tree) (segment : Segment) → IsRising (alive_matching tree segment)
rising tree segment =
    IsRising-filter (is_alive segment) (matching tree segment)
    (IsRising-filter (matches tree segment) (range_with_len 0 (length segment.documents)) (IsRising-range 0 (length segment.documents)))

-- ---- the documents of one segment

in_segment : (ord c d : ℕ) → c < d → ordering_then (nat_cmp ord ord) (nat_cmp c d) ≡ Less
in_segment ord c d less = ap (λ o. ordering_then o (nat_cmp c d)) (sym (nat_cmp_is ord ord Equal refl)) ∙ sym (nat_cmp_is c d Less less)

AreByAddress-addressed : (ord : ℕ) (tree : Tree) (segment : Segment) (ds : List ℕ) → IsRising ds → AreByAddress (map (addressed ord tree segment) ds)
AreByAddress-addressed ord tree segment [] up = tt
AreByAddress-addressed ord tree segment (d ∷ ds) up = record {
  here = All-map (λ e. address_cmp (record { segment_ord = ord; doc_id = d }) e.0 ≡ Less)
      (addressed ord tree segment) ds (λ k x below. in_segment ord d _ (up.here k x below));
  others = AreByAddress-addressed ord tree segment ds up.others;
}

AreByAddress-segment : (ord : ℕ) (tree : Tree) (segment : Segment) → AreByAddress (alive_matches ord tree segment)
AreByAddress-segment ord tree segment = AreByAddress-addressed ord tree segment (alive_matching tree segment) (rising tree segment)

-- ---- the documents of one segment, and then others

AreByAddress-append : (ds es : List (DocAddress × ℤ)) → AreByAddress ds → AreByAddress es →
    All (λ d. All (λ e. address_cmp d.0 e.0 ≡ Less) es) ds → AreByAddress (ds ++ es)
AreByAddress-append [] es first then before = then
AreByAddress-append (d ∷ ds) es first then before = record {
  here = All-append (λ e. address_cmp d.0 e.0 ≡ Less) ds es first.here (All-head (λ x. All (λ e. address_cmp x.0 e.0 ≡ Less) es) d ds before);
  others = AreByAddress-append ds es first.others then (All-tail (λ x. All (λ e. address_cmp x.0 e.0 ≡ Less) es) d ds before);
}

segment_before : (a b : DocAddress) → a.segment_ord < b.segment_ord → address_cmp a b ≡ Less
segment_before a b less = ap (λ o. ordering_then o (nat_cmp a.doc_id b.doc_id)) (sym (nat_cmp_is a.segment_ord b.segment_ord Less less))

All-from : (ord : ℕ) (tree : Tree) (readers : List Reader) → All (λ d. ord ≤ d.0.segment_ord) (alive_matches_from ord tree readers)
All-from ord tree [] = All-nil (λ d. ord ≤ d.0.segment_ord)
All-from ord tree (reader ∷ readers) =
    All-append (λ d. ord ≤ d.0.segment_ord) (alive_matches ord tree reader.segment) (alive_matches_from (suc ord) tree readers)
    (All-map (λ (d : DocAddress × ℤ). ord ≤ d.0.segment_ord) (addressed ord tree reader.segment)
    (alive_matching tree reader.segment) (λ k x below. omega arith))
    (All-weaker (λ d. suc ord ≤ d.0.segment_ord) (λ d. ord ≤ d.0.segment_ord) (λ d past. omega (arith, past))
    (alive_matches_from (suc ord) tree readers) (All-from (suc ord) tree readers))

pub AreByAddress-from : (ord : ℕ) (tree : Tree) (readers : List Reader) → AreByAddress (alive_matches_from ord tree readers)
AreByAddress-from ord tree [] = tt
AreByAddress-from ord tree (reader ∷ readers) =
    let others = alive_matches_from (suc ord) tree readers in
    AreByAddress-append (alive_matches ord tree reader.segment) others (AreByAddress-segment ord tree reader.segment) (AreByAddress-from (suc ord) tree readers)
    (All-map (λ (d : DocAddress × ℤ). All (λ e. address_cmp d.0 e.0 ≡ Less) others) (addressed ord tree reader.segment) (alive_matching tree reader.segment)
    (λ k x below. All-weaker (λ e. suc ord ≤ e.0.segment_ord)
    (λ e. address_cmp (addressed ord tree reader.segment (get_or (alive_matching tree reader.segment) k x)).0 e.0 ≡ Less)
    (λ e past. segment_before (addressed ord tree reader.segment (get_or (alive_matching tree reader.segment) k x)).0 e.0 past) others
    (All-from (suc ord) tree readers)))

-- ---- one segment more

pub alive_matches_from-push : (ord : ℕ) (tree : Tree) (readers : List Reader) (reader : Reader)
    → alive_matches_from ord tree (readers ++ reader ∷ []) ≡ alive_matches_from ord tree readers ++ alive_matches (ord + length readers) tree reader.segment
alive_matches_from-push ord tree [] reader =
    append-nil (alive_matches ord tree reader.segment) ∙ ap (λ n. alive_matches n tree reader.segment) (omega arith)
alive_matches_from-push ord tree (first ∷ readers) reader =
    ap (λ l. alive_matches ord tree first.segment ++ l) (alive_matches_from-push (suc ord) tree readers reader
    ∙ ap (λ n. alive_matches_from (suc ord) tree readers ++ alive_matches n tree reader.segment) (omega arith))
    ∙ sym (append_assoc (alive_matches ord tree first.segment) (alive_matches_from (suc ord) tree readers)
    (alive_matches (ord + length (first ∷ readers)) tree reader.segment))
