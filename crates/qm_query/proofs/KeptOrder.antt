-- The order of documents that are kept, and where a document goes that comes behind the others by address.
use Rattle.std.specs.Prelude.{◌≡◌, ℤ, ◌<ℤ◌, ◌≤ℤ◌, Bool, true, false, if◌then◌else◌, List, [], ◌∷◌, All, map}
use Rattle.std.specs.Cmp.{int_ranked, ranked as nat_ranked}
use Rattle.std.specs.Int.Signed.{lt_z}
use Rattle.std.specs.List.{fold}
use Rattle.std.specs.Ordering.{int_cmp, is_lt, nat_cmp, ordering_reverse, ordering_then}
use Rattle.std.specs.declared.cmp.Ordering.{Ordering}
use Rattle.std.specs.declared.cmp.Ordering.TheVariants.{Less, Equal, Greater}
use Rattle.std.proofs.Common.{arith, refl, sym, ap, ◌∙◌, get_or, true≢false}
use Rattle.std.proofs.lemmas.Int.{ints, by_lt_z}
use Rattle.std.proofs.lemmas.List.Elements.{All-head, All-nil, All-tail}
use Rattle.qm_postings.specs.Address.{address_cmp}
use Rattle.qm_postings.specs.declared.address.DocAddress.{DocAddress}
use Rattle.qm_weight.specs.Best.{by_score, placed}
use Rattle.qm_weight.specs.BestFacts.{lt_z-less, lt_z-not_less}
use Rattle.qm_query.specs.KeptDocument.{address_total, kept_of, ranked, worst_last}
use Rattle.qm_query.specs.Ranking.{put}
use Rattle.qm_query.specs.TopDocs.{AreByAddress}
use Rattle.qm_query.specs.TopDocsFacts.{All-placed}
use Rattle.qm_query.specs.declared.top_docs.kept_document.KeptDocument.{KeptDocument}

-- ---- the order tells all documents apart

both_equal : (r s : Ordering) → ordering_then r s ≡ Equal → (r ≡ Equal) × (s ≡ Equal)
both_equal Less s equal = cc
both_equal Equal s equal = (refl, equal)
both_equal Greater s equal = cc

same_address : (a b : DocAddress) → address_cmp a b ≡ Equal → a ≡ b
same_address a b equal =
    let both = both_equal (nat_cmp a.segment_ord b.segment_ord) (nat_cmp a.doc_id b.doc_id) equal in
    let segments : a.segment_ord ≡ b.segment_ord = nat_ranked a.segment_ord b.segment_ord Equal (sym both.0) in
    let docs : a.doc_id ≡ b.doc_id = nat_ranked a.doc_id b.doc_id Equal (sym both.1) in
    λ i. record { segment_ord = segments i; doc_id = docs i }

pub worst_last-same : (x y : KeptDocument) → worst_last x y ≡ Equal → x ≡ y
worst_last-same x y equal =
    let both = both_equal (int_cmp y.score x.score) (address_cmp x.address y.address) equal in
    let scores : y.score ≡ x.score = int_ranked y.score x.score Equal (sym both.0) in
    let addresses = same_address x.address y.address both.1 in
    λ i. record { score = sym scores i; address = addresses i }

-- ---- scores

lesser : (a b : ℤ) → lt_z a b ≡ true → int_cmp a b ≡ Less
lesser a b less = ap (λ c. if c then Less else (if lt_z b a then Greater else Equal)) less

pub no_lesser : (a b : ℤ) (o : Ordering) → is_lt (ordering_then (int_cmp a b) o) ≡ false → b ≤ℤ a
no_lesser a b o first =
    by_lt_z a b
    (λ less. absurd (true≢false (sym (ap (λ r. is_lt (ordering_then r o)) (lesser a b (lt_z-less a b less))) ∙ first)))
    (λ order. order)

-- of the documents that come before it by address those stand behind it that score less
after_by : (a b : ℤ) (r : Ordering) → int_cmp a b ≡ r → is_lt (ordering_then r Greater) ≡ lt_z a b
after_by a b Less is = sym (lt_z-less a b (int_ranked a b Less (sym is)))
after_by a b Equal is = let same : a ≡ b = int_ranked a b Equal (sym is) in sym (lt_z-not_less a b (omega (arith, ints, same)))
after_by a b Greater is = let more : b <ℤ a = int_ranked a b Greater (sym is) in sym (lt_z-not_less a b (omega (arith, ints, more)))

pub lt-behind : (x y : KeptDocument) → address_cmp y.address x.address ≡ Less → is_lt (worst_last x y) ≡ lt_z y.score x.score
lt-behind x y before =
    let later : address_cmp x.address y.address ≡ Greater = address_total.antisymm x.address y.address ∙ ap ordering_reverse before in
    ap (λ o. is_lt (ordering_then (int_cmp y.score x.score) o)) later ∙ after_by y.score x.score (int_cmp y.score x.score) refl

-- ---- documents that come by address stand by their scores alone

map_if : (b : Bool) (us vs : List (DocAddress × ℤ)) → map kept_of (if b then us else vs) ≡ (if b then map kept_of us else map kept_of vs)
map_if true us vs = refl
map_if false us vs = refl

put-placed : (p : DocAddress × ℤ) (xs : List (DocAddress × ℤ)) → All (λ x. address_cmp x.0 p.0 ≡ Less) xs →
    map kept_of (placed p xs) ≡ put worst_last (kept_of p) (map kept_of xs)
put-placed p [] before = refl
put-placed p (x ∷ xs) before =
    let test : is_lt (worst_last (kept_of p) (kept_of x)) ≡ lt_z x.1 p.1 =
    lt-behind (kept_of p) (kept_of x) (All-head (λ y. address_cmp y.0 p.0 ≡ Less) x xs before) in
    let others = put-placed p xs (All-tail (λ y. address_cmp y.0 p.0 ≡ Less) x xs before) in
    map_if (lt_z x.1 p.1) (p ∷ x ∷ xs) (x ∷ placed p xs)
    ∙ ap (λ l. if lt_z x.1 p.1 then kept_of p ∷ kept_of x ∷ map kept_of xs else kept_of x ∷ l) others
    ∙ ap (λ b. if b then kept_of p ∷ kept_of x ∷ map kept_of xs else kept_of x ∷ put worst_last (kept_of p) (map kept_of xs)) (sym test)

fold-placed : (ds xs : List (DocAddress × ℤ)) → All (λ x. All (λ y. address_cmp y.0 x.0 ≡ Less) ds) xs → AreByAddress xs
    → map kept_of (fold (λ l p. placed p l) ds xs) ≡ fold (λ l d. put worst_last d l) (map kept_of ds) (map kept_of xs)
fold-placed ds [] before up = refl
fold-placed ds (x ∷ xs) before up =
    let behind : All (λ z. All (λ y. address_cmp y.0 z.0 ≡ Less) (placed x ds)) xs =
    λ k d below. All-placed (λ y. address_cmp y.0 (get_or xs k d).0 ≡ Less) x ds (up.here k d below)
    (All-tail (λ z. All (λ y. address_cmp y.0 z.0 ≡ Less) ds) x xs before k d below) in
    fold-placed (placed x ds) xs behind up.others
    ∙ ap (λ l. fold (λ l d. put worst_last d l) l (map kept_of xs)) (put-placed x ds (All-head (λ z. All (λ y. address_cmp y.0 z.0 ≡ Less) ds) x xs before))

pub ranked-by_score : (ds : List (DocAddress × ℤ)) → AreByAddress ds → ranked (map kept_of ds) ≡ map kept_of (by_score ds)
ranked-by_score ds up = sym (fold-placed [] ds (λ k d below. All-nil (λ y. address_cmp y.0 (get_or ds k d).0 ≡ Less)) up)
