-- What is kept of the documents that a search has gone through: step by step the best of them.
use Rattle.std.specs.Prelude.{◌≡◌, ℕ, ◌+◌, ◌≤◌, ℤ, pos, ◌≤ℤ◌, Bool, true, false, if◌then◌else◌, List, [], ◌∷◌, ◌++◌, All, IsTrue, filter, length}
use Rattle.std.specs.Prelude.{map, take}
use Rattle.std.specs.BinaryHeap.{heap_items}
use Rattle.std.specs.List.{fold}
use Rattle.std.specs.Ordering.{is_lt}
use Rattle.std.specs.declared.cmp.Ordering.TheVariants.{Less}
use Rattle.std.proofs.Common.{arith, refl, sym, ap, subst, ◌∙◌, get_or, inl, inr}
use Rattle.std.proofs.lemmas.Int.{by_lt_z, ints}
use Rattle.std.proofs.lemmas.List.{append-nil, append_assoc, length-map, length-take, map-append, take-map, take_all}
use Rattle.std.proofs.lemmas.List.Elements.{All-cons, All-from_recursion, All-head, All-map, All-nil, All-tail, All-take}
use Rattle.std.proofs.lemmas.List.Sums.{fold-append}
use Rattle.qm_docset.specs.Entry.{Entry}
use Rattle.qm_docset.specs.Gather.{scored}
use Rattle.qm_docset.specs.ListFacts.{filter-map, map-map}
use Rattle.qm_postings.specs.Address.{address_cmp}
use Rattle.qm_postings.specs.Reading.{Reader}
use Rattle.qm_postings.specs.Segment.{Segment, is_alive}
use Rattle.qm_postings.specs.declared.address.DocAddress.{DocAddress}
use Rattle.qm_term.specs.RunCounts.{calls_of, count_above, one_if_above}
use Rattle.qm_term.specs.Runs.{InRange, Plain, Turn}
use Rattle.qm_term.specs.RunsFacts.{Plain-enters}
use Rattle.qm_term.specs.declared.wand.ticks.WandCount.{WandCount}
use Rattle.qm_term.proofs.WandPlain.{is_above}
use Rattle.qm_weight.specs.BestFacts.{lt_z-not_less}
use Rattle.qm_weight.specs.Best.{best, by_score}
use Rattle.qm_weight.specs.Tree.{Tree, is_scoring, list, matching, score}
use Rattle.qm_weight.specs.TreeRuns.{PrunesTreeBy}
use Rattle.qm_query.specs.KeptDocument.{IsThreshold, answer_of, kept_of, ranked, worst_last}
use Rattle.qm_query.specs.KeptDocuments.{AreBest, AreKeptToo, Collects, CollectsAll, CollectsAt, ranked_kept}
use Rattle.qm_query.specs.Ranking.{put, ranked_with}
use Rattle.qm_query.specs.TopDocs.{AreBestOf, AreByAddress, IsScoredIn, alive_matches, alive_matches_from, matching_in, score_first}
use Rattle.qm_query.specs.TopDocsOrder.{AreByAddress-from}
use Rattle.qm_query.specs.declared.top_docs.kept_document.KeptDocument.{KeptDocument}
use Rattle.qm_query.specs.declared.top_docs.kept_documents.KeptDocuments.{KeptDocuments}
use Rattle.qm_query.proofs.KeptOrder.{lt-behind, no_lesser, ranked-by_score}
use Rattle.qm_query.proofs.RankingFacts.{All-ranking, length-put, length-ranking, ranked_with-last, ranked_with-take}

All-front : {X : Type 0} (P : X → Type 0) (xs ys : List X) → All P (xs ++ ys) → All P xs
All-front P [] ys all = All-nil P
All-front P (x ∷ xs) ys all = All-cons P x xs (All-head P x (xs ++ ys) all) (All-front P xs ys (All-tail P x (xs ++ ys) all))

All-back : {X : Type 0} (P : X → Type 0) (xs : List X) (y : X) → All P (xs ++ y ∷ []) → P y
All-back P [] y all = All-head P y [] all
All-back P (x ∷ xs) y all = All-back P xs y (All-tail P x (xs ++ y ∷ []) all)

-- a document that scores no more than the worst, and comes behind another by address, is no better than that
no_better : (p : DocAddress × ℤ) (worst y : KeptDocument) → is_lt (worst_last worst y) ≡ false →
    address_cmp y.address p.0 ≡ Less → p.1 ≤ℤ worst.score → is_lt (worst_last (kept_of p) y) ≡ false
no_better p worst y top before low =
    let order : worst.score ≤ℤ y.score = no_lesser y.score worst.score (address_cmp worst.address y.address) top in
    lt-behind (kept_of p) y before ∙ lt_z-not_less y.score p.1 (omega (arith, ints, order, low))

-- ---- documents by address

pub AreByAddress-front : (ds es : List (DocAddress × ℤ)) → AreByAddress (ds ++ es) → AreByAddress ds
AreByAddress-front [] es up = tt
AreByAddress-front (d ∷ ds) es up = record { here = All-front (λ e. address_cmp d.0 e.0 ≡ Less) ds es up.here; others = AreByAddress-front ds es up.others }

-- those before the last
AreByAddress-last : (ds : List (DocAddress × ℤ)) (p : DocAddress × ℤ) → AreByAddress (ds ++ p ∷ []) → All (λ d. address_cmp d.0 p.0 ≡ Less) ds
AreByAddress-last [] p up = All-nil (λ d. address_cmp d.0 p.0 ≡ Less)
AreByAddress-last (d ∷ ds) p up =
    All-cons (λ e. address_cmp e.0 p.0 ≡ Less) d ds (All-back (λ e. address_cmp d.0 e.0 ≡ Less) ds p up.here) (AreByAddress-last ds p up.others)

-- ---- a document more

ranked-more : (ds : List (DocAddress × ℤ)) (p : DocAddress × ℤ) → ranked (map kept_of (ds ++ p ∷ [])) ≡ put worst_last (kept_of p) (ranked (map kept_of ds))
ranked-more ds p = ap ranked (map-append kept_of ds (p ∷ [])) ∙ fold-append (λ l d. put worst_last d l) [] (map kept_of ds) (kept_of p ∷ [])

-- the best so many of the documents before it and of one more
kept-more : (k : ℕ) (ds : List (DocAddress × ℤ)) (p : DocAddress × ℤ) →
    take k (ranked (map kept_of (ds ++ p ∷ []))) ≡ ranked_with worst_last k (kept_of p) (take k (ranked (map kept_of ds)))
kept-more k ds p = ap (take k) (ranked-more ds p) ∙ sym (ranked_with-take worst_last k (kept_of p) (ranked (map kept_of ds)))

-- an entry of a segment, with its address
abbrev pub pair_of : ℕ → Entry → DocAddress × ℤ
pair_of ord e = (record { segment_ord = ord; doc_id = e.document }, pos e.score)

-- it joins those before it, unless it was deleted
abbrev pub entered : ℕ → Segment → List (DocAddress × ℤ) → Entry → List (DocAddress × ℤ)
entered ord segment ds e = if is_alive segment e.document then ds ++ pair_of ord e ∷ [] else ds

-- the best are kept, where the documents came by address
abbrev pub KeepsBest : KeptDocuments → List (DocAddress × ℤ) → Type 0
KeepsBest kept ds = AreByAddress ds → AreBest kept ds

module _ (ord : ℕ) (segment : Segment) (ds : List (DocAddress × ℤ)) (e : Entry) where
  collected_by : (alive : Bool) (old new : KeptDocuments) → KeepsBest old ds → (new.refused ≡ false → old.refused ≡ false) → new.limit ≡ old.limit
      → (new.refused ≡ false →
      ranked_kept new ≡ (if alive then ranked_with worst_last old.limit (kept_of (pair_of ord e)) (ranked_kept old) else ranked_kept old))
      → KeepsBest new (if alive then ds ++ pair_of ord e ∷ [] else ds)
  collected_by true old new now before limit is up ok =
      let was = now (AreByAddress-front ds (pair_of ord e ∷ []) up) (before ok) in
      is ok ∙ ap (ranked_with worst_last old.limit (kept_of (pair_of ord e))) was ∙ sym (kept-more old.limit ds (pair_of ord e))
      ∙ ap (λ k. take k (ranked (map kept_of (ds ++ pair_of ord e ∷ [])))) (sym limit)
  collected_by false old new now before limit is up ok =
      is ok ∙ now up (before ok) ∙ ap (λ k. take k (ranked (map kept_of ds))) (sym limit)

  -- after the call for the entry
  pub KeepsBest-collected : (old new : KeptDocuments) → KeepsBest old ds → (new.refused ≡ false → old.refused ≡ false) → new.limit ≡ old.limit
      → (new.refused ≡ false → Collects ord segment e.document (pos e.score) old new) → KeepsBest new (entered ord segment ds e)
  KeepsBest-collected old new now before limit is = collected_by (is_alive segment e.document) old new now before limit is

  passed_by : (alive : Bool) (kept : KeptDocuments) (threshold : ℤ) → KeepsBest kept ds →
      IsThreshold kept.limit (heap_items kept.documents) threshold → pos e.score ≤ℤ threshold
      → KeepsBest kept (if alive then ds ++ pair_of ord e ∷ [] else ds)
  passed_by false kept threshold now is low up ok = now up ok
  passed_by true kept threshold now (inl none) low up ok = absurd (omega (arith, ints, none.0, low))
  passed_by true kept threshold now (inr worst) low up ok =
      let was = now (AreByAddress-front ds (pair_of ord e ∷ []) up) ok in
      let before : All (λ (y : KeptDocument). address_cmp y.address (pair_of ord e).0 ≡ Less) (ranked_kept kept) =
      subst (All (λ (y : KeptDocument). address_cmp y.address (pair_of ord e).0 ≡ Less)) (sym was)
      (All-take (λ (y : KeptDocument). address_cmp y.address (pair_of ord e).0 ≡ Less) kept.limit (ranked (map kept_of ds))
      (All-ranking worst_last (λ (y : KeptDocument). address_cmp y.address (pair_of ord e).0 ≡ Less) (map kept_of ds)
      (All-map (λ (y : KeptDocument). address_cmp y.address (pair_of ord e).0 ≡ Less) kept_of ds (AreByAddress-last ds (pair_of ord e) up)))) in
      let top : All (λ y. is_lt (worst_last worst.0 y) ≡ false) (ranked_kept kept) = All-ranking worst_last (λ y. is_lt (worst_last worst.0 y) ≡ false)
      (heap_items kept.documents) (All-from_recursion (λ y. is_lt (worst_last worst.0 y) ≡ false) (heap_items kept.documents) worst.2) in
      let none : All (λ y. is_lt (worst_last (kept_of (pair_of ord e)) y) ≡ false) (ranked_kept kept) =
      λ k d below. no_better (pair_of ord e) worst.0 (get_or (ranked_kept kept) k d)
      (top k d below) (before k d below) (subst (λ t. pos e.score ≤ℤ t) worst.3 low) in
      let long : length (ranked_kept kept) ≡ kept.limit = length-ranking worst_last (heap_items kept.documents) ∙ worst.1 in
      sym (kept-more kept.limit ds (pair_of ord e) ∙ ap (ranked_with worst_last kept.limit (kept_of (pair_of ord e))) (sym was)
      ∙ ranked_with-last worst_last kept.limit (kept_of (pair_of ord e)) (ranked_kept kept) (omega (arith, long)) none
      ∙ take_all kept.limit (ranked_kept kept) (omega (arith, long)))

  -- and where the run passes over it
  pub KeepsBest-passed : (kept : KeptDocuments) (threshold : ℤ) → KeepsBest kept ds →
      IsThreshold kept.limit (heap_items kept.documents) threshold → pos e.score ≤ℤ threshold → KeepsBest kept (entered ord segment ds e)
  KeepsBest-passed kept threshold now is low = passed_by (is_alive segment e.document) kept threshold now is low

-- of one document more there is at most one more kept
more-kept : (alive : Bool) (limit : ℕ) (document : KeptDocument) (old new : List KeptDocument) →
    new ≡ (if alive then ranked_with worst_last limit document old else old) → length new ≤ 1 + length old
more-kept true limit document old new is =
    let same : length new ≡ length (take limit (put worst_last document old)) = ap length is in
    omega (arith, same, length-take limit (put worst_last document old), length-put worst_last document old)
more-kept false limit document old new is =
    let same : length new ≡ length old = ap length is in
    omega (arith, same)

-- ---- a run of a callback shows one of a part of its state

-- where each call does to what is shown of the state what a call there does, and what holds before it holds after it
module _ {F G : Type 0} (call : F → ℕ → ℤ → ℤ → F → Type 0) (shown_call : G → ℕ → ℤ → ℤ → G → Type 0) (shown : F → G) (holds : F → Type 0)
    (shows : (f h : F) (d : ℕ) (s after : ℤ) → holds f → call f d s after h → holds h × shown_call (shown f) d s after (shown h)) where
  turn-holds : (th after : ℤ) (f h : F) (d : ℕ) (s : ℤ) → holds f → Turn call th f d s after h → holds h
  turn-holds th after f h d s now turn =
      by_lt_z th s (λ above. (shows f h d s after now (turn.called above)).0) (λ low. subst holds (sym (turn.same_callback low)) now)

  turn-shown : (th after : ℤ) (f h : F) (d : ℕ) (s : ℤ) → holds f → Turn call th f d s after h → Turn shown_call th (shown f) d s after (shown h)
  turn-shown th after f h d s now turn = record {
    called = λ above. (shows f h d s after now (turn.called above)).1;
    same_threshold = turn.same_threshold;
    same_callback = λ low. ap shown (turn.same_callback low);
  }

  Plain-holding : (th last : ℤ) (f g : F) (es : List Entry) (ths : List ℤ) → holds f → Plain call th f es ths last g →
      holds g × Plain shown_call th (shown f) es ths last (shown g)
  Plain-holding th last f g [] [] now run = (subst holds (sym run.1) now, (run.0, ap shown run.1))
  Plain-holding th last f g [] (t ∷ ths) now run = absurd run
  Plain-holding th last f g (e ∷ es) [] now run = absurd run
  Plain-holding th last f g (e ∷ es) (t ∷ ths) now run =
      let r = run.1 in
      let rest = Plain-holding r.0 last r.1 g es ths (turn-holds th r.0 f r.1 e.document (pos e.score) now r.2) r.3 in
      (rest.0, (run.0, (r.0, shown r.1, turn-shown th r.0 f r.1 e.document (pos e.score) now r.2, rest.1)))

-- the same where what holds tells of the state that the run begins with
pub Plain-shown : {F G : Type 0} (call : F → ℕ → ℤ → ℤ → F → Type 0) (shown_call : G → ℕ → ℤ → ℤ → G → Type 0) (shown : F → G)
    (holds : F → F → Type 0) (th last : ℤ) (f g : F) (es : List Entry) (ths : List ℤ) → Plain call th f es ths last g →
    ((k h : F) (d : ℕ) (s after : ℤ) → holds f k → call k d s after h → holds f h × shown_call (shown k) d s after (shown h)) → holds f f →
    holds f g × Plain shown_call th (shown f) es ths last (shown g)
Plain-shown call shown_call shown holds th last f g es ths run shows now =
    Plain-holding call shown_call shown (holds f) shows th last f g es ths now run

-- ---- all entries of a segment

entered_by : (ord : ℕ) (ds : List (DocAddress × ℤ)) (e : Entry) (es : List Entry) (alive : Bool) →
    (if alive then ds ++ pair_of ord e ∷ [] else ds) ++ map (pair_of ord) es ≡ ds ++ map (pair_of ord) (if alive then e ∷ es else es)
entered_by ord ds e es true = append_assoc ds (pair_of ord e ∷ []) (map (pair_of ord) es)
entered_by ord ds e es false = refl

entered-all : (ord : ℕ) (segment : Segment) (ds : List (DocAddress × ℤ)) (es : List Entry) →
    fold (entered ord segment) ds es ≡ ds ++ map (pair_of ord) (filter (λ e. is_alive segment e.document) es)
entered-all ord segment ds [] = sym (append-nil ds)
entered-all ord segment ds (e ∷ es) =
    entered-all ord segment (entered ord segment ds e) es ∙ entered_by ord ds e (filter (λ f. is_alive segment f.document) es) (is_alive segment e.document)

-- those of a tree's list are the documents that it finds in the segment
pub entered-list : (ord : ℕ) (tree : Tree) (segment : Segment) (ds : List (DocAddress × ℤ)) →
    fold (entered ord segment) ds (list tree 1 segment) ≡ ds ++ alive_matches ord tree segment
entered-list ord tree segment ds =
    entered-all ord segment ds (list tree 1 segment)
    ∙ ap (λ l. ds ++ map (pair_of ord) l) (filter-map (λ e. is_alive segment e.document) (λ d. scored d (score tree 1 segment d)) (matching tree segment))
    ∙ ap (λ l. ds ++ l) (map-map (pair_of ord) (λ d. scored d (score tree 1 segment d)) (filter (is_alive segment) (matching tree segment)))

-- ---- a run of calls over a segment

-- of such a run the best documents are kept, of those before it and of the segment's
module _ (ord : ℕ) (tree : Tree) (segment : Segment) (old new : KeptDocuments) (scored : ℕ) (made : CollectsAll ord tree segment old scored new) where
  abbrev collects : KeptDocuments → ℕ → ℤ → ℤ → KeptDocuments → Type 0
  collects = InRange (CollectsAt ord segment)

  kept_after : (before : List (DocAddress × ℤ)) →
      (KeepsBest old before → KeepsBest new (fold (entered ord segment) before made.run.entries)) × (new.limit ≡ old.limit)
  kept_after before =
      let run = made.run.run in
      let all = Plain-enters collects (λ first bar kept ds. (KeepsBest old before → KeepsBest kept ds) ×
      IsThreshold kept.limit (heap_items kept.documents) bar × (kept.limit ≡ old.limit)) (entered ord segment) old
      (λ bar after kept next ds e now above call.
      let at = call.1 in (
        λ begun. KeepsBest-collected ord segment ds e kept next (now.0 begun) at.before at.limit at.collected,
        at.threshold,
        at.limit ∙ now.2,
      ))
      (λ bar kept ds e now low. (λ begun. KeepsBest-passed ord segment ds e kept bar (now.0 begun) now.1 low, now.1, now.2))
      made.run.entries run.thresholds made.threshold run.last new before (λ begun. begun, made.is_kept, refl) run.calls in
      (all.0, all.2)

  pub AreKeptToo-collected : AreKeptToo ord tree segment old new
  AreKeptToo-collected = record {
    limit = (kept_after []).1;
    best = λ on before up now.
        subst (KeepsBest new) (ap (fold (entered ord segment) before) (made.run.listed.scores on) ∙ entered-list ord tree segment before)
        ((kept_after before).0 (λ by. now)) up;
  }

-- a call keeps one document more at most
collected-more : (ord : ℕ) (segment : Segment) (d : ℕ) (s answer : ℤ) (old new : KeptDocuments) → CollectsAt ord segment old d s answer new →
    new.refused ≡ false → length (ranked_kept new) ≤ 1 + length (ranked_kept old)
collected-more ord segment d s answer old new at fine =
    let document : KeptDocument = record { score = s; address = record { segment_ord = ord; doc_id = d } } in
    more-kept (is_alive segment d) old.limit document (ranked_kept old) (ranked_kept new) (at.collected fine)

-- so there are at most as many more as there were calls
kept-calls : (ord : ℕ) (segment : Segment) (th last : ℤ) (old new : KeptDocuments) (es : List Entry) (ths : List ℤ) →
    Plain (InRange (CollectsAt ord segment)) th old es ths last new → new.refused ≡ false →
    (old.refused ≡ false) × (length (ranked_kept new) ≤ length (ranked_kept old) + calls_of ths es)
unfolding count_above
kept-calls ord segment th last old new [] [] run fine = (subst (λ k. k.refused ≡ false) run.1 fine, omega (arith, ap (λ k. length (ranked_kept k)) run.1))
kept-calls ord segment th last old new [] (t ∷ ths) run fine = absurd run
kept-calls ord segment th last old new (e ∷ es) [] run fine = absurd run
kept-calls ord segment th last old new (e ∷ es) (t ∷ ths) run fine =
    let r = run.1 in
    let rest = kept-calls ord segment r.0 last r.1 new es ths r.3 fine in
    by_lt_z th (pos e.score)
    (λ above.
    let at = (r.2.called above).1 in (
      at.before rest.0,
      omega (
        arith,
        rest.1,
        collected-more ord segment e.document (pos e.score) r.0 old r.1 at rest.0,
        ap (λ n. one_if_above n e.score) run.0,
        is_above th e.score above,
      ),
    ))
    (λ low.
    let same = r.2.same_callback low in (
      subst (λ k. k.refused ≡ false) same rest.0,
      omega (arith, rest.1, ap (λ k. length (ranked_kept k)) same),
    ))

pub kept-scored : (ord : ℕ) (tree : Tree) (segment : Segment) (old new : KeptDocuments) (scored : ℕ) → CollectsAll ord tree segment old scored new →
    new.refused ≡ false → (old.refused ≡ false) × (length (ranked_kept new) ≤ length (ranked_kept old) + scored)
kept-scored ord tree segment old new scored made fine =
    let run = made.run.run in
    let more = kept-calls ord segment made.threshold run.last old new made.run.entries run.thresholds run.calls fine in
    (more.0, omega (arith, more.1, run.at_least, made.counted))

-- No more are scored than match.
pub ticks-matching : {F : Type 0} (step : F → ℕ → ℤ → ℤ → F → Type 0) (tree : Tree) (segment : Segment) (th : ℤ) (f g : F) (count : WandCount) →
    PrunesTreeBy step tree 1 segment th f count g → count.ticks ≤ length (matching tree segment)
ticks-matching step tree segment th f g count made =
    omega (arith, made.run.at_most, length-map made.entries (λ (e : Entry). e.document), ap length made.listed.documents)

pub scored-matching : (ord : ℕ) (tree : Tree) (segment : Segment) (old new : KeptDocuments) (scored : ℕ) → CollectsAll ord tree segment old scored new →
    scored ≤ length (matching tree segment)
scored-matching ord tree segment old new scored made =
    omega (arith, ticks-matching (CollectsAt ord segment) tree segment made.threshold old new made.count made.run, made.counted)

-- ---- the answer

pub best-answered : (k : ℕ) (ds : List (DocAddress × ℤ)) → AreByAddress ds → map answer_of (take k (ranked (map kept_of ds))) ≡ map score_first (best k ds)
best-answered k ds up =
    ap (λ l. map answer_of (take k l)) (ranked-by_score ds up)
    ∙ ap (map answer_of) (take-map kept_of k (by_score ds)) ∙ map-map answer_of kept_of (take k (by_score ds))

module _ {V : Type 0} (items : V → List (ℤ × DocAddress)) (kept : KeptDocuments) (k : ℕ) (tree : Tree) (segments : List Reader) (limit : kept.limit ≡ k)
    (best_kept : IsTrue (is_scoring tree) → AreBest kept (alive_matches_from 0 tree segments)) where
  -- what is kept of all segments is answered
  pub AreBestOf-kept : (v : V) → items v ≡ map answer_of (ranked_kept kept) → kept.refused ≡ false → IsTrue (is_scoring tree) →
      AreBestOf k tree segments (items v)
  AreBestOf-kept v same ok on =
      same ∙ ap (map answer_of) (best_kept on ok) ∙ ap (λ n. map answer_of (take n (ranked (map kept_of (alive_matches_from 0 tree segments))))) limit
      ∙ best-answered k (alive_matches_from 0 tree segments) (AreByAddress-from 0 tree segments)

-- no fewer were scored than are answered, and no more than match
pub IsScoredIn-kept : {V : Type 0} (items : V → List (ℤ × DocAddress)) (kept : KeptDocuments) (tree : Tree) (segments : List Reader) (scored : ℕ)
    → (kept.refused ≡ false → length (ranked_kept kept) ≤ scored) → scored ≤ matching_in tree segments →
    (v : V) → items v ≡ map answer_of (ranked_kept kept) → kept.refused ≡ false → IsScoredIn tree segments (length (items v)) scored
IsScoredIn-kept items kept tree segments scored fewer most v same fine = record {
  at_least = omega (arith, fewer fine, ap length same, length-map (ranked_kept kept) answer_of);
  at_most = most;
}
