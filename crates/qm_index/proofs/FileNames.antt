-- Files of different numbers have different names, so new files get in no one's way.
use Rattle.std.proofs.Common.{◌≡◌, ◌≢◌, ℕ, ◌+◌, ◌^◌, ◌<◌, ◌≤◌, ◌⊎◌, ◌||◌, Bool, true, false, List, [], ◌∷◌, ◌++◌, All, length, refl, sym, subst, ◌∙◌, arith, inl, inr}
use Rattle.std.specs.Fmt.{decimal}
use Rattle.std.specs.Str.{bytes_eq}
use Rattle.std.specs.Char.{digit_value}
use Rattle.std.specs.Str.Parse.{AllDigits}
use Rattle.std.proofs.lemmas.Bool.{false_from_ne_true, false≢true}
use Rattle.std.proofs.lemmas.Fmt.{decimal_injective, decimal_is_IsNumeral}
use Rattle.qm_folder.specs.Clean.{IsClean}
use Rattle.qm_folder.specs.Names.{AreDistinct, Name, is_among}
use Rattle.qm_folder.specs.declared.updating.TheConstants.{MANIFEST, STAGED}
use Rattle.qm_folder.proofs.NameLists.{among_all, none_of_both, other_name, same_name}
use Rattle.qm_index.specs.FileNames.{AreNumbered, IsNameBelow, IsNameOf, deletions_name, segment_name}

-- digits up to a point
same-digits : (a b j k : List ℕ) → AllDigits 10 a → AllDigits 10 b → a ++ 46 ∷ j ≡ b ++ 46 ∷ k → a ≡ b
same-digits [] [] j k da db e = refl
same-digits [] (y ∷ ys) j k da db e = absurd (point y db.0 (first 46 y j (ys ++ 46 ∷ k) e))
  where
    first : (x y : ℕ) (xs ys : List ℕ) → x ∷ xs ≡ y ∷ ys → x ≡ y
    first x y xs ys e = cc

    point : (y : ℕ) → digit_value y < 10 → 46 ≡ y → ⊥
    point y below is = absurd (omega (arith, subst (λ d. digit_value d < 10) (sym is) below))
same-digits (x ∷ xs) [] j k da db e = absurd (point x da.0 (first x 46 (xs ++ 46 ∷ j) k e))
  where
    first : (x y : ℕ) (xs ys : List ℕ) → x ∷ xs ≡ y ∷ ys → x ≡ y
    first x y xs ys e = cc

    point : (x : ℕ) → digit_value x < 10 → x ≡ 46 → ⊥
    point x below is = absurd (omega (arith, subst (λ d. digit_value d < 10) is below))
same-digits (x ∷ xs) (y ∷ ys) j k da db e =
    let both = parts x y (xs ++ 46 ∷ j) (ys ++ 46 ∷ k) e in
    (λ i. both.0 i ∷ same-digits xs ys j k da.1 db.1 both.1 i)
  where
    parts : (x y : ℕ) (xs ys : List ℕ) → x ∷ xs ≡ y ∷ ys → (x ≡ y) × (xs ≡ ys)
    parts x y xs ys e = (cc, cc)

same-number : (m n : ℕ) (j k : List ℕ) → m < 2 ^ 64 → n < 2 ^ 64 → decimal m ++ 46 ∷ j ≡ decimal n ++ 46 ∷ k → m ≡ n
same-number m n j k fm fn e =
    decimal_injective m n fm fn (same-digits (decimal m) (decimal n) j k (decimal_is_IsNumeral m fm).0.1 (decimal_is_IsNumeral n fn).0.1 e)

-- how a name goes on behind its digits
ending : (n : ℕ) (a : Name) → IsNameOf n a → List ℕ
ending n a (inl e) = 115 ∷ 101 ∷ 103 ∷ []
ending n a (inr e) = 100 ∷ 101 ∷ 108 ∷ []

spelled : (n : ℕ) (a : Name) (is : IsNameOf n a) → a ≡ decimal n ++ 46 ∷ ending n a is
unfolding segment_name deletions_name ending
spelled n a (inl e) = e
spelled n a (inr e) = e

pub other-number : (m n : ℕ) (a b : Name) → m < 2 ^ 64 → n < 2 ^ 64 → IsNameOf m a → IsNameOf n b → m ≢ n → a ≢ b
other-number m n a b fm fn is_a is_b differ same =
    differ (same-number m n (ending m a is_a) (ending n b is_b) fm fn (sym (spelled m a is_a) ∙ same ∙ spelled n b is_b))

-- a name begins with a digit, and those of the manifest do not
first-digit : (a j b : List ℕ) (c : ℕ) (cs : List ℕ) → 0 < length a → AllDigits 10 a → b ≡ c ∷ cs → 10 ≤ digit_value c → a ++ j ≡ b → ⊥
first-digit [] j b c cs some digits is late e = absurd (omega (arith, some))
first-digit (x ∷ xs) j b c cs some digits is late e =
    let same : x ≡ c = heads x c (xs ++ j) cs (e ∙ is) in
    absurd (omega (arith, late, subst (λ d. digit_value d < 10) same digits.0))
  where
    heads : (x y : ℕ) (xs ys : List ℕ) → x ∷ xs ≡ y ∷ ys → x ≡ y
    heads x y xs ys e = cc

not-lettered : (n : ℕ) (a b : Name) (c : ℕ) (cs : List ℕ) → n < 2 ^ 64 → IsNameOf n a → b ≡ c ∷ cs → 10 ≤ digit_value c → a ≢ b
not-lettered n a b c cs fits is lettered late same =
    let numeral = decimal_is_IsNumeral n fits in
    first-digit (decimal n) (46 ∷ ending n a is) b c cs numeral.0.0 numeral.0.1 lettered late (sym (spelled n a is) ∙ same)

pub not-manifest : (n : ℕ) (a : Name) → n < 2 ^ 64 → IsNameOf n a → a ≢ MANIFEST.now
not-manifest n a fits is = not-lettered n a MANIFEST.now 109 (97 ∷ 110 ∷ 105 ∷ 102 ∷ 101 ∷ 115 ∷ 116 ∷ []) fits is refl (omega arith)

pub not-staged : (n : ℕ) (a : Name) → n < 2 ^ 64 → IsNameOf n a → a ≢ STAGED.now
not-staged n a fits is = not-lettered n a STAGED.now 109 (97 ∷ 110 ∷ 105 ∷ 102 ∷ 101 ∷ 115 ∷ 116 ∷ 46 ∷ 110 ∷ 101 ∷ 119 ∷ []) fits is refl (omega arith)

-- ---- names whose numbers ascend

pub numbered-order : (low : ℕ) (ns : List Name) (next : ℕ) → AreNumbered low ns next → low ≤ next
numbered-order low [] next are = are
numbered-order low (n ∷ ns) next (number, from, is, more) = omega (arith, from, numbered-order (number + 1) ns next more)

-- a name of another number is none of them
pub not-among : (low : ℕ) (ns : List Name) (next m : ℕ) (a : Name) → next ≤ 2 ^ 64 → AreNumbered low ns next → m < 2 ^ 64 → IsNameOf m a →
    (m < low) ⊎ (next ≤ m) → is_among ns a ≡ false
not-among low [] next m a few are fits is apart = refl
not-among low (n ∷ ns) next m a few (number, from, named, more) fits is apart =
    let order = numbered-order (number + 1) ns next more in
    none_of_both (bytes_eq a n) (is_among ns a)
    (other_name a n (other-number m number a n fits (omega (arith, few, order)) is named (λ e. differ apart e order)))
    (not-among (number + 1) ns next m a few more fits is (further apart))
  where
    differ : (m < low) ⊎ (next ≤ m) → m ≡ number → number + 1 ≤ next → ⊥
    differ (inl below) e order = absurd (omega (arith, below, e, from))
    differ (inr behind) e order = absurd (omega (arith, behind, e, order))

    further : (m < low) ⊎ (next ≤ m) → (m < number + 1) ⊎ (next ≤ m)
    further (inl below) = inl (omega (arith, below, from))
    further (inr behind) = inr behind

pub numbered-distinct : (low : ℕ) (ns : List Name) (next : ℕ) → next ≤ 2 ^ 64 → AreNumbered low ns next → AreDistinct ns
numbered-distinct low [] next few are = tt
numbered-distinct low (n ∷ ns) next few (number, from, named, more) =
    let order = numbered-order (number + 1) ns next more in
    let below : number < number + 1 = omega arith in (
      not-among (number + 1) ns next number n few more (omega (arith, few, order)) named (inl below),
      numbered-distinct (number + 1) ns next few more,
    )

-- one file more
pub numbered-more : (low : ℕ) (ns : List Name) (next number : ℕ) (a : Name) → AreNumbered low ns next → next ≤ number → IsNameOf number a →
    AreNumbered low (ns ++ a ∷ []) (number + 1)
numbered-more low [] next number a are from is = let end : number + 1 ≤ number + 1 = omega arith in (number, omega (arith, are, from), is, end)
numbered-more low (n ∷ ns) next number a (m, start, named, more) from is = (m, start, named, numbered-more (m + 1) ns next number a more from is)

pub numbered-each : (low : ℕ) (ns : List Name) (next : ℕ) → AreNumbered low ns next → (a : Name) → is_among ns a ≡ true →
    (number : ℕ) × (low ≤ number) × (number < next) × IsNameOf number a
numbered-each low [] next are a among = absurd (false≢true among)
numbered-each low (n ∷ ns) next (m, start, named, more) a among = by_test (bytes_eq a n) refl among (numbered-each (m + 1) ns next more a)
  where
    by_test : (b : Bool) → bytes_eq a n ≡ b → (b || is_among ns a) ≡ true →
        (is_among ns a ≡ true → (number : ℕ) × (m + 1 ≤ number) × (number < next) × IsNameOf number a) →
        (number : ℕ) × (low ≤ number) × (number < next) × IsNameOf number a
    by_test true e h on = (m, start, omega (arith, numbered-order (m + 1) ns next more), subst (IsNameOf m) (sym (same_name a n e)) named)
    by_test false e h on = let found = on h in (found.0, omega (arith, found.1, start), found.2, found.3)

-- names none of which is one
none-among : (Q : Name → Type 0) (ns : List Name) (a : Name) → All Q ns → ((n : Name) → Q n → a ≢ n) → is_among ns a ≡ false
none-among Q ns a all apart =
    false_from_ne_true (is_among ns a) (λ among. apart a (among_all Q ns all a among) refl)

-- so new files, whose numbers are new, get in no one's way
pub numbered-clean : (low : ℕ) (new gone : List Name) (next : ℕ) → next ≤ 2 ^ 64 → AreNumbered low new next → All (IsNameBelow low) gone → IsClean new gone
numbered-clean low new gone next few are below =
    let order = numbered-order low new next are in
    record {
      distinct = numbered-distinct low new next few are;
      no_manifest = false_from_ne_true (is_among new MANIFEST.now) (λ among. manifest_not_new MANIFEST.now among refl);
      no_staged = false_from_ne_true (is_among new STAGED.now) (λ among. staged_not_new STAGED.now among refl);
      manifest_stays = none-among (IsNameBelow low) gone MANIFEST.now below
          (λ n is e. not-manifest is.number n (omega (arith, is.below, order, few)) is.of (sym e));
      staged_stays = none-among (IsNameBelow low) gone STAGED.now below
          (λ n is e. not-staged is.number n (omega (arith, is.below, order, few)) is.of (sym e));
      new_stay = λ a among.
          let own = numbered-each low new next are a among in
          none-among (IsNameBelow low) gone a below
          (λ n is. other-number own.0 is.number a n (omega (arith, own.2, few)) (omega (arith, is.below, order, few)) own.3 is.of
          (λ e. absurd (omega (arith, e, own.1, is.below))));
    }
  where
    manifest_not_new : (a : Name) → is_among new a ≡ true → a ≢ MANIFEST.now
    manifest_not_new a among = let own = numbered-each low new next are a among in not-manifest own.0 a (omega (arith, own.2, few)) own.3

    staged_not_new : (a : Name) → is_among new a ≡ true → a ≢ STAGED.now
    staged_not_new a among = let own = numbered-each low new next are a among in not-staged own.0 a (omega (arith, own.2, few)) own.3
