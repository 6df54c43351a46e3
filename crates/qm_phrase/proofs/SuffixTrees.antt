-- A row of terms that is a tree, as its root and its branches are taken to a document.
use Rattle.std.proofs.Common.{◌≡◌, ℕ, zero, suc, ◌+◌, ◌/◌, ◌<◌, ◌≤◌, List, [], ◌∷◌, ◌++◌, All, length, map, min, take, drop, refl, ap, sym, subst, ◌∙◌, arith}
use Rattle.std.specs.List.{sum_by}
use Rattle.std.proofs.Math.Seq.{drop-append_seam, take-append_seam}
use Rattle.std.proofs.lemmas.List.{map-append}
use Rattle.std.proofs.lemmas.List.Elements.{All-append, All-cons, All-drop, All-head, All-map, All-tail, All-take, All-weaker}
use Rattle.std.proofs.lemmas.List.Sums.{sum_by-append, sum_by-cons}
use Rattle.qm_combine.proofs.Uniting.{entries_of-ahead}
use Rattle.qm_docset.specs.Entry.{AreEntries, Entry, Limits, from, head_document, head_positions}
use Rattle.qm_docset.specs.EntryFacts.{from-reached}
use Rattle.qm_docset.specs.declared.docset.DocSet.{Ghosts}
use Rattle.qm_postings.specs.Positions.{shifted}
use Rattle.qm_phrase.specs.Phrase.{positions_at}
use Rattle.qm_phrase.specs.Places.{room_of}
use Rattle.qm_phrase.specs.PhrasePrefix.{common_count}
use Rattle.qm_phrase.specs.Suffixes.{AreSuffixes, FitIn, IsSuffix, IsTree, IsTreeTo, NoneBefore, suffix_lists}
use Rattle.qm_phrase.specs.declared.places.Places.{Places}
use Rattle.qm_phrase.specs.declared.suffixes.Suffix.{Suffix}
use Rattle.qm_phrase.proofs.CommonSteps.{common-lacks}
use Rattle.qm_docset.specs.ListFacts.{map-map}
use Rattle.qm_phrase.proofs.SuffixSteps.{shared_with}

-- what stands on either side of an element of a row
pub All-left : {X : Type 0} (P : X → Type 0) (left right : List X) → All P (left ++ right) → All P left
All-left P left right all = subst (All P) (take-append_seam left right) (All-take P (length left) (left ++ right) all)

pub All-right : {X : Type 0} (P : X → Type 0) (left right : List X) → All P (left ++ right) → All P right
All-right P left right all = subst (All P) (drop-append_seam left right) (All-drop P (length left) (left ++ right) all)

-- a row that is cut at one length has one part before and one behind
same_left : {X : Type 0} (a b c d : List X) → a ++ b ≡ c ++ d → length c ≡ length a → c ≡ a
same_left a b c d is long =
    sym (take-append_seam c d) ∙ ap (λ n. take n (c ++ d)) long ∙ ap (take (length a)) (sym is) ∙ take-append_seam a b

same_right : {X : Type 0} (a b c d : List X) → a ++ b ≡ c ++ d → length c ≡ length a → d ≡ b
same_right a b c d is long =
    sym (drop-append_seam c d) ∙ ap (λ n. drop n (c ++ d)) long ∙ ap (drop (length a)) (sym is) ∙ drop-append_seam a b

first_is : {X : Type 0} (x y : X) (xs ys : List X) → x ∷ xs ≡ y ∷ ys → x ≡ y
first_is x y xs ys is = cc

rest_is : {X : Type 0} (x y : X) (xs ys : List X) → x ∷ xs ≡ y ∷ ys → xs ≡ ys
rest_is x y xs ys is = cc

module _ {P : Type 0} where
  -- a root and two branches make a tree
  IsTreeTo-made : (depth : ℕ) (left right : List (Suffix P)) (root : Suffix P) → length left ≡ length (left ++ (root ∷ right)) / 2 →
      NoneBefore root.least_bound (left ++ (root ∷ right)) → IsTree left → IsTree right → IsTreeTo depth (left ++ (root ∷ right))
  IsTreeTo-made zero left right root half least before behind = tt
  IsTreeTo-made (suc depth) left right root half least before behind = λ l top r is long.
      let same : l ≡ left = same_left left (root ∷ right) l (top ∷ r) is (long ∙ sym half) in
      let others : top ∷ r ≡ root ∷ right = same_right left (root ∷ right) l (top ∷ r) is (long ∙ sym half) in
      let first : top ≡ root = first_is top root r right others in
      let rest : r ≡ right = rest_is top root r right others in (
        subst (λ (s : Suffix P). NoneBefore s.least_bound (left ++ (root ∷ right))) (sym first) least,
        subst (IsTreeTo depth) (sym same) (before depth),
        subst (IsTreeTo depth) (sym rest) (behind depth),
      )

  pub IsTree-made : (left right : List (Suffix P)) (root : Suffix P) → length left ≡ length (left ++ (root ∷ right)) / 2 →
      NoneBefore root.least_bound (left ++ (root ∷ right)) → IsTree left → IsTree right → IsTree (left ++ (root ∷ right))
  IsTree-made left right root half least before behind = λ depth. IsTreeTo-made depth left right root half least before behind

  -- and a tree has them
  pub IsTree-least : (left right : List (Suffix P)) (root : Suffix P) → length left ≡ length (left ++ (root ∷ right)) / 2 →
      IsTree (left ++ (root ∷ right)) → NoneBefore root.least_bound (left ++ (root ∷ right))
  IsTree-least left right root half tree = (tree 1 left root right refl half).0

  pub IsTree-left : (left right : List (Suffix P)) (root : Suffix P) → length left ≡ length (left ++ (root ∷ right)) / 2 →
      IsTree (left ++ (root ∷ right)) → IsTree left
  IsTree-left left right root half tree = λ depth. (tree (suc depth) left root right refl half).1

  pub IsTree-right : (left right : List (Suffix P)) (root : Suffix P) → length left ≡ length (left ++ (root ∷ right)) / 2 →
      IsTree (left ++ (root ∷ right)) → IsTree right
  IsTree-right left right root half tree = λ depth. (tree (suc depth) left root right refl half).2

  -- a row of which no bounds are known is a tree
  IsTreeTo-new : (depth : ℕ) (row : List (Suffix P)) → All (λ s. s.least_bound ≡ 0) row → IsTreeTo depth row
  IsTreeTo-new zero row new = tt
  IsTreeTo-new (suc depth) row new = λ left root right is half.
      let New : Suffix P → Type 0 = λ s. s.least_bound ≡ 0 in
      let all : All New (left ++ (root ∷ right)) = subst (All New) is new in
      let others : All New (root ∷ right) = All-right New left (root ∷ right) all in
      let top : root.least_bound ≡ 0 = All-head New root right others in (
        λ k d below. omega (arith, top),
        IsTreeTo-new depth left (All-left New left (root ∷ right) all),
        IsTreeTo-new depth right (All-tail New root right others),
      )

  pub IsTree-new : (row : List (Suffix P)) → All (λ s. s.least_bound ≡ 0) row → IsTree row
  IsTree-new row new = λ depth. IsTreeTo-new depth row new

  pub NoneBefore-joined : (bound : ℕ) (left right : List (Suffix P)) (root : Suffix P) → NoneBefore bound left → bound ≤ root.own_bound →
      NoneBefore bound right → NoneBefore bound (left ++ (root ∷ right))
  NoneBefore-joined bound left right root before here behind =
      let Past : Suffix P → Type 0 = λ s. bound ≤ s.own_bound in
      All-append Past left (root ∷ right) before (All-cons Past root right here behind)

  pub NoneBefore-less : (bound less : ℕ) (row : List (Suffix P)) → less ≤ bound → NoneBefore bound row → NoneBefore less row
  NoneBefore-less bound less row h none = All-weaker (λ (s : Suffix P). bound ≤ s.own_bound) (λ (s : Suffix P). less ≤ s.own_bound) (λ s past. omega arith) row none

-- a term that lies past a document has none of the places there
pub shared-ahead : (shift d : ℕ) (limits : Limits) (common : List ℕ) (es : List Entry) → AreEntries 0 limits es → d < head_document es →
    shared_with shift common d es ≡ 0
shared-ahead shift d limits common es law past =
    let none : positions_at d es ≡ [] = ap head_positions (entries_of-ahead d limits es law past) in
    ap (λ ps. common_count (shifted shift ps ∷ common ∷ [])) none ∙ common-lacks (common ∷ [])

module _ {P : Type 0} (D : Ghosts P) (law : (s : P) → D.valid s → AreEntries 0 (D.limits s) (D.entries s)) where
  -- terms that lie past a document have nothing before it, and none of the places there
  pub lists-ahead : (doc bound : ℕ) (row : List (Suffix P)) → All (IsSuffix D) row → NoneBefore bound row → doc < bound →
      suffix_lists D row ≡ map (from doc) (suffix_lists D row)
  lists-ahead doc bound [] each none past = refl
  lists-ahead doc bound (s ∷ row) each none past =
      let here : IsSuffix D s = All-head (IsSuffix D) s row each in
      let own : bound ≤ s.own_bound = All-head (λ (s : Suffix P). bound ≤ s.own_bound) s row none in
      let first : D.entries s.postings ≡ from doc (D.entries s.postings) =
      sym (from-reached doc 0 (D.limits s.postings) (D.entries s.postings) (omega (arith, own, here.bound, past)) (law s.postings here.valid)) in
      let rest = lists-ahead doc bound row (All-tail (IsSuffix D) s row each) (All-tail (λ (s : Suffix P). bound ≤ s.own_bound) s row none) past in
      λ i. first i ∷ rest i

  pub counts-ahead : (shift doc bound : ℕ) (common : List ℕ) (row : List (Suffix P)) → All (IsSuffix D) row → NoneBefore bound row → doc < bound →
      sum_by (shared_with shift common doc) (suffix_lists D row) ≡ 0
  counts-ahead shift doc bound common [] each none past = refl
  counts-ahead shift doc bound common (s ∷ row) each none past =
      let here : IsSuffix D s = All-head (IsSuffix D) s row each in
      let own : bound ≤ s.own_bound = All-head (λ (s : Suffix P). bound ≤ s.own_bound) s row none in
      let first : shared_with shift common doc (D.entries s.postings) ≡ 0 =
      shared-ahead shift doc (D.limits s.postings) common (D.entries s.postings) (law s.postings here.valid) (omega (arith, own, here.bound, past)) in
      let rest = counts-ahead shift doc bound common row (All-tail (IsSuffix D) s row each) (All-tail (λ (s : Suffix P). bound ≤ s.own_bound) s row none) past in
      omega (arith, sum_by-cons (shared_with shift common doc) (D.entries s.postings) (suffix_lists D row), first, rest)

module _ {P : Type 0} (D : Ghosts P) where
  -- what a row has is what its branches and its root have
  pub lists-joined : (left right : List (Suffix P)) (root : Suffix P) →
      suffix_lists D (left ++ (root ∷ right)) ≡ suffix_lists D left ++ (D.entries root.postings ∷ suffix_lists D right)
  lists-joined left right root = map-append (λ (s : Suffix P). D.entries s.postings) left (root ∷ right)

  pub counts-joined : (shift doc before here behind count : ℕ) (common : List ℕ) (left right : List (Suffix P)) (root : Suffix P) →
      before ≡ min 4294967295 (sum_by (shared_with shift common doc) (suffix_lists D left)) →
      here ≡ min 4294967295 (shared_with shift common doc (D.entries root.postings)) →
      behind ≡ min 4294967295 (sum_by (shared_with shift common doc) (suffix_lists D right)) →
      count ≡ min 4294967295 (min 4294967295 (before + here) + behind) →
      count ≡ min 4294967295 (sum_by (shared_with shift common doc) (suffix_lists D (left ++ (root ∷ right))))
  counts-joined shift doc before here behind count common left right root first own last all =
      let f = shared_with shift common doc in
      omega (
        arith,
        first,
        own,
        last,
        all,
        ap (sum_by f) (lists-joined left right root),
        sum_by-append f (suffix_lists D left) (D.entries root.postings ∷ suffix_lists D right),
        sum_by-cons f (D.entries root.postings) (suffix_lists D right),
      )

  pub moved-joined : (doc : ℕ) (left right left_new right_new : List (Suffix P)) (root root_new : Suffix P) →
      suffix_lists D left_new ≡ map (from doc) (suffix_lists D left) → D.entries root_new.postings ≡ from doc (D.entries root.postings) →
      suffix_lists D right_new ≡ map (from doc) (suffix_lists D right) →
      suffix_lists D (left_new ++ (root_new ∷ right_new)) ≡ map (from doc) (suffix_lists D (left ++ (root ∷ right)))
  moved-joined doc left right left_new right_new root root_new before here behind =
      let now : suffix_lists D (left_new ++ (root_new ∷ right_new))
      ≡ map (from doc) (suffix_lists D left) ++ (from doc (D.entries root.postings) ∷ map (from doc) (suffix_lists D right)) =
      lists-joined left_new right_new root_new ∙ (λ i. before i ++ (here i ∷ behind i)) in
      now ∙ sym (map-append (from doc) (suffix_lists D left) (D.entries root.postings ∷ suffix_lists D right))
      ∙ ap (map (from doc)) (sym (lists-joined left right root))

  pub FitIn-more : (row : List (Suffix P)) (places more : Places) → room_of places ≤ room_of more → FitIn D row places → FitIn D row more
  FitIn-more row places more h fit =
      All-weaker (λ (s : Suffix P). (D.limits s.postings).room ≤ room_of places) (λ (s : Suffix P). (D.limits s.postings).room ≤ room_of more)
      (λ s fits. omega arith) row fit

  pub AreSuffixes-more : (row : List (Suffix P)) (places more : Places) → room_of places ≤ room_of more → AreSuffixes D row places → AreSuffixes D row more
  AreSuffixes-more row places more h are = record { each = are.each; tree = are.tree; fit = FitIn-more row places more h are.fit }

  -- the branches of a row, and its root
  pub AreSuffixes-left : (left right : List (Suffix P)) (root : Suffix P) (places : Places) → length left ≡ length (left ++ (root ∷ right)) / 2 →
      AreSuffixes D (left ++ (root ∷ right)) places → AreSuffixes D left places
  AreSuffixes-left left right root places half are = record {
    each = All-left (IsSuffix D) left (root ∷ right) are.each;
    tree = IsTree-left left right root half are.tree;
    fit = All-left (λ (s : Suffix P). (D.limits s.postings).room ≤ room_of places) left (root ∷ right) are.fit;
  }

  pub AreSuffixes-right : (left right : List (Suffix P)) (root : Suffix P) (places : Places) → length left ≡ length (left ++ (root ∷ right)) / 2 →
      AreSuffixes D (left ++ (root ∷ right)) places → AreSuffixes D right places
  AreSuffixes-right left right root places half are =
      let Fits : Suffix P → Type 0 = λ s. (D.limits s.postings).room ≤ room_of places in
      record {
        each = All-tail (IsSuffix D) root right (All-right (IsSuffix D) left (root ∷ right) are.each);
        tree = IsTree-right left right root half are.tree;
        fit = All-tail Fits root right (All-right Fits left (root ∷ right) are.fit);
      }

  pub IsSuffix-root : (left right : List (Suffix P)) (root : Suffix P) → All (IsSuffix D) (left ++ (root ∷ right)) → IsSuffix D root
  IsSuffix-root left right root each = All-head (IsSuffix D) root right (All-right (IsSuffix D) left (root ∷ right) each)

  pub fits-root : (left right : List (Suffix P)) (root : Suffix P) (places : Places) →
      FitIn D (left ++ (root ∷ right)) places → (D.limits root.postings).room ≤ room_of places
  fits-root left right root places fit =
      let Fits : Suffix P → Type 0 = λ s. (D.limits s.postings).room ≤ room_of places in
      All-head Fits root right (All-right Fits left (root ∷ right) fit)

  -- and a row of them
  pub AreSuffixes-joined : (left right : List (Suffix P)) (root : Suffix P) (places : Places) → length left ≡ length (left ++ (root ∷ right)) / 2 →
      NoneBefore root.least_bound (left ++ (root ∷ right)) → IsSuffix D root → (D.limits root.postings).room ≤ room_of places →
      AreSuffixes D left places → AreSuffixes D right places → AreSuffixes D (left ++ (root ∷ right)) places
  AreSuffixes-joined left right root places half least here fits before behind =
      let Fits : Suffix P → Type 0 = λ s. (D.limits s.postings).room ≤ room_of places in
      record {
        each = All-append (IsSuffix D) left (root ∷ right) before.each (All-cons (IsSuffix D) root right here behind.each);
        tree = IsTree-made left right root half least before.tree behind.tree;
        fit = All-append Fits left (root ∷ right) before.fit (All-cons Fits root right fits behind.fit);
      }

-- a term of which no bounds are known
abbrev pub unbounded : {P : Type 0} → P → Suffix P
unbounded postings = record { postings = postings; own_bound = 0; least_bound = 0 }

module _ {P : Type 0} (D : Ghosts P) where
  pub lists-unbounded : (suffixes : List P) → suffix_lists D (map unbounded suffixes) ≡ map D.entries suffixes
  lists-unbounded suffixes = map-map (λ (s : Suffix P). D.entries s.postings) unbounded suffixes

  pub AreSuffixes-unbounded : (suffixes : List P) (places : Places) → All D.valid suffixes → All (λ m. (D.limits m).room ≤ room_of places) suffixes →
      AreSuffixes D (map unbounded suffixes) places
  AreSuffixes-unbounded suffixes places valid fit = record {
    each = All-map (IsSuffix D) unbounded suffixes (All-weaker D.valid (λ m. IsSuffix D (unbounded m)) (λ m h. record { valid = h; bound = omega arith }) suffixes valid);
    tree = IsTree-new (map unbounded suffixes) (All-map (λ (s : Suffix P). s.least_bound ≡ 0) unbounded suffixes (λ k d below. refl));
    fit = All-map (λ (s : Suffix P). (D.limits s.postings).room ≤ room_of places) unbounded suffixes fit;
  }
