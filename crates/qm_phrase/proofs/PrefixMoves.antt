-- How the counts of a phrase prefix change as its terms go on.
use Rattle.std.proofs.Common.{◌≡◌, ℕ, ◌<◌, ◌≤◌, nat_le, List, [], ◌∷◌, All, length, map, min, refl, ap, sym, ◌∙◌, arith, inl, inr, Err}
use Rattle.std.specs.List.{sum_by}
use Rattle.std.proofs.lemmas.Bool.{cases_lt}
use Rattle.std.proofs.lemmas.List.Sums.{sum_by-cons}
use Rattle.qm_docset.specs.Entry.{from}
use Rattle.qm_docset.specs.Lists.{lists}
use Rattle.qm_docset.specs.declared.docset.DocSet.{Ghosts}
use Rattle.qm_docset.specs.declared.numbers.TheConstants.{TERMINATED}
use Rattle.qm_postings.specs.Positions.{shifted}
use Rattle.qm_term.specs.TermScorer.{AreCovered}
use Rattle.qm_phrase.specs.Phrase.{positions_at, sets_at, starts_at}
use Rattle.qm_phrase.specs.PhrasePrefix.{IsCommonOf, PrefixLists, common_count, full_count, full_sets, has_several, held_count, prefix_count}
use Rattle.qm_phrase.specs.PhrasePrefix.{suffix_count}
use Rattle.qm_phrase.specs.Places.{shift_of}
use Rattle.qm_phrase.specs.Suffixes.{suffix_lists}
use Rattle.qm_phrase.specs.PrefixTerms.{ArePrefixTerms, HaveGoneOn, IsBareOf, IsPrefixLook, lists_of}
use Rattle.qm_phrase.specs.TermRows.{each_of}
use Rattle.qm_phrase.specs.Terms.{AreMovedTo, AreTerms, IsLook, term_starts, terms_in}
use Rattle.qm_phrase.specs.declared.prefix_terms.PrefixTerms.{PrefixTerms}
use Rattle.qm_phrase.proofs.CommonSteps.{common-fewer, common-listed, common-starts, sum_by-none}
use Rattle.qm_phrase.proofs.FullTerms.{length-sets_at}
use Rattle.qm_phrase.proofs.HandedIn.{covered-starts}
use Rattle.qm_phrase.proofs.PhraseSteps.{positions_at-from, sets_at-from}
use Rattle.qm_phrase.proofs.SuffixSteps.{shared_with}
use Rattle.qm_phrase.proofs.TermMoves.{paired, some-lists}
use Rattle.qm_phrase.proofs.TermRows.{each_of-same}

sum_by-map : {X Y : Type 0} (f : Y → ℕ) (g : X → Y) (xs : List X) → sum_by f (map g xs) ≡ sum_by (λ x. f (g x)) xs
sum_by-map f g [] = refl
sum_by-map f g (x ∷ xs) = omega (arith, sum_by-cons f (g x) (map g xs), sum_by-cons (λ y. f (g y)) x xs, sum_by-map f g xs)

sum_by-same : {X : Type 0} (f g : X → ℕ) (xs : List X) → ((x : X) → f x ≡ g x) → sum_by f xs ≡ sum_by g xs
sum_by-same f g [] same = refl
sum_by-same f g (x ∷ xs) same = omega (arith, sum_by-cons f x xs, sum_by-cons g x xs, same x, sum_by-same f g xs same)

-- where the full terms have no place in common, nothing counts
pub prefix-none : (t : PrefixLists) (d : ℕ) → full_count t d ≡ 0 → prefix_count t d ≡ 0
prefix-none t d none =
    sum_by-none (suffix_count t d) t.suffixes (λ es. omega (arith, common-fewer (shifted t.suffix_shift (positions_at d es)) (full_sets t d), none))

-- the places that the full terms have in common are the starts of a phrase without slop
pub full-starts : (t : PrefixLists) (d : ℕ) → length t.full_shifts ≡ length t.full → 0 < length t.full → full_count t d ≡ starts_at 0 t.full_shifts t.full d
full-starts t d paired some = common-starts (full_sets t d) (omega (arith, length-sets_at t.full_shifts t.full d paired, some))

-- what is counted among a list of the common places
pub prefix-listed : (t : PrefixLists) (d : ℕ) (common : List ℕ) → IsCommonOf (full_sets t d) common →
    sum_by (shared_with t.suffix_shift common d) t.suffixes ≡ prefix_count t d
prefix-listed t d common is =
    sum_by-same (shared_with t.suffix_shift common d) (suffix_count t d) t.suffixes
    (λ es. common-listed (full_sets t d) common (shifted t.suffix_shift (positions_at d es)) is)

prefix-by_positions : (t : PrefixLists) (d : ℕ) →
    prefix_count t d ≡ sum_by (λ ps. common_count (shifted t.suffix_shift ps ∷ full_sets t d)) (map (positions_at d) t.suffixes)
prefix-by_positions t d = sym (sum_by-map (λ ps. common_count (shifted t.suffix_shift ps ∷ full_sets t d)) (positions_at d) t.suffixes)

-- lists that say the same from a target on, of which nothing is left below it
pub HaveGoneOn-lists : (target : ℕ) (t u : PrefixLists) → u.suffix_shift ≡ t.suffix_shift → map (from target) u.suffixes ≡ map (from target) t.suffixes →
    u.full_shifts ≡ t.full_shifts → map (from target) u.full ≡ map (from target) t.full → ((d : ℕ) → d < target → full_count u d ≡ 0) → HaveGoneOn target t u
HaveGoneOn-lists target t u shift suffixes shifts full behind =
    let sets : (d : ℕ) → target ≤ d → full_sets u d ≡ full_sets t d = λ d h. sets_at-from target d u.full_shifts u.full t.full h full
    ∙ ap (λ s. sets_at s t.full d) shifts in
    let positions : (d : ℕ) → target ≤ d → map (positions_at d) u.suffixes ≡ map (positions_at d) t.suffixes =
    λ d h. sym (positions_at-from target d u.suffixes h) ∙ ap (map (positions_at d)) suffixes ∙ positions_at-from target d t.suffixes h in
    record {
      behind = λ d h. prefix-none u d (behind d h);
      counts = λ d h. prefix-by_positions u d ∙ ap (λ n. sum_by (λ ps. common_count (shifted n ps ∷ full_sets u d)) (map (positions_at d) u.suffixes)) shift
          ∙ ap (λ s. sum_by (λ ps. common_count (shifted t.suffix_shift ps ∷ s)) (map (positions_at d) u.suffixes)) (sets d h)
          ∙ ap (sum_by (λ ps. common_count (shifted t.suffix_shift ps ∷ full_sets t d))) (positions d h) ∙ sym (prefix-by_positions t d);
      full = λ d h. ap common_count (sets d h);
      several = ap (λ s. nat_le 2 (length s)) shifts;
    }

-- Lists that were taken to a document from a target on, between which nothing counts.
pub record IsSearched (target doc : ℕ) (t u : PrefixLists) : Type 0 where
  pub reached : target ≤ doc
  pub within : doc ≤ TERMINATED
  pub bare : IsBareOf t target doc
  pub counts : (d : ℕ) → doc ≤ d → prefix_count u d ≡ prefix_count t d
  pub full : (d : ℕ) → doc ≤ d → full_count u d ≡ full_count t d
  pub several : has_several u ≡ has_several t

module _ {P : Type 0} (D : Ghosts P) where
  pub full_count-terms : (s : PrefixTerms P) (d : ℕ) → AreTerms D s.full → full_count (lists_of D s) d ≡ term_starts D 0 s.full d
  full_count-terms s d terms = full-starts (lists_of D s) d (paired D s.full) (some-lists D s.full terms)

  -- terms whose rows were moved have gone on
  pub HaveGoneOn-terms : (doc : ℕ) (s new : PrefixTerms P) → AreMovedTo D 0 doc s.full new.full →
      map (from doc) (suffix_lists D new.suffixes.items) ≡ map (from doc) (suffix_lists D s.suffixes.items) →
      shift_of new.suffix_places ≡ shift_of s.suffix_places → HaveGoneOn doc (lists_of D s) (lists_of D new)
  unfolding from
  HaveGoneOn-terms doc s new moved same level =
      let shift : ℕ × ℕ → ℕ = λ u. u.0 in
      HaveGoneOn-lists doc (lists_of D s) (lists_of D new) level same (ap (map shift) moved.terms)
      (each_of-same (from doc) refl (lists D new.full.members.items) (lists D s.full.members.items) (terms_in new.full) moved.lists
      ∙ ap (λ ts. map (from doc) (each_of (lists D s.full.members.items) ts)) moved.terms)
      (λ d h. full_count-terms new d moved.valid ∙ moved.behind d h)

  -- a document where the full terms have no place in common is passed
  pub IsPrefixLook-passed : (s : PrefixTerms P) (doc bound : ℕ) → AreTerms D s.full →
      IsLook D 0 4294967295 doc s.full (Err bound) → IsPrefixLook doc (lists_of D s) (Err bound)
  IsPrefixLook-passed s doc bound terms look =
      (look.0, look.1, λ d low high. prefix-none (lists_of D s) d (full_count-terms s d terms ∙ look.2 d low high))

  -- what was counted of a document
  pub counted-is : (s : PrefixTerms P) (doc count : ℕ) (common : List ℕ) → IsCommonOf (full_sets (lists_of D s) doc) common → count
      ≡ min 4294967295 (sum_by (shared_with (shift_of s.suffix_places) common doc) (suffix_lists D s.suffixes.items)) → count ≡ held_count (prefix_count (lists_of D s) doc)
  counted-is s doc count common is counted = counted ∙ ap (min 4294967295) (prefix-listed (lists_of D s) doc common is)

  -- terms in the midst of a search
  pub record IsSearching (target doc : ℕ) (t : PrefixLists) (s : PrefixTerms P) : Type 0 where
    pub valid : ArePrefixTerms D s
    pub searched : IsSearched target doc t (lists_of D s)

-- a document that counts has a length id
pub prefix-covered : (ids : List ℕ) (d : ℕ) (t : PrefixLists) → 0 < length t.full → length t.full_shifts ≡ length t.full →
    All (AreCovered ids) t.full → 0 < prefix_count t d → d < length ids
prefix-covered ids d t some paired covered counted =
    elim (cases_lt 0 (full_count t d)) [
      | inl full ↦ covered-starts ids 0 d t.full_shifts t.full some paired covered (omega (arith, full, full-starts t d paired some))
      | inr none ↦ absurd (omega (arith, counted, prefix-none t d (omega (arith, none))))
    ]
