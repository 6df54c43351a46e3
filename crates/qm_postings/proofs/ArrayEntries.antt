-- Facts on the decoder of a term's postings.
use Rattle.std.specs.Prelude.{◌≡◌, ℕ, ◌+◌, ◌<◌, List, [], ◌∷◌, All, drop, length, slice_index, sum, take}
use Rattle.std.proofs.Common.{zero, suc, arith, sym, ap, refl, subst, ◌∙◌}
use Rattle.std.proofs.lemmas.List.{drop-drop, length-map}
use Rattle.std.proofs.lemmas.List.Elements.{All-cons, All-nil}
use Rattle.std.proofs.lemmas.List.Sums.{sum_by-cons}
use Rattle.qm_docset.specs.Entry.{Entry, documents, head_frequency, head_positions}
use Rattle.qm_postings.specs.Stored.{frequency_read, stored_entries}
use Rattle.qm_postings.specs.declared.freq_reading_option.FreqReadingOption.{FreqReadingOption}

pub documents-stored : (reading : FreqReadingOption) (ds fs ps : List ℕ) → documents (stored_entries reading ds fs ps) ≡ ds
unfolding stored_entries
documents-stored reading [] fs ps = refl
documents-stored reading (d ∷ ds) fs ps = ap (λ r. d ∷ r) (documents-stored reading ds (drop 1 fs) (drop (slice_index fs 0) ps))

pub length-stored : (reading : FreqReadingOption) (ds fs ps : List ℕ) → length (stored_entries reading ds fs ps) ≡ length ds
length-stored reading ds fs ps = sym (length-map (stored_entries reading ds fs ps) (λ e. e.document)) ∙ ap length (documents-stored reading ds fs ps)

-- the sum of the first n + 1 is the first and the sum of n of the others
sum-first : (n : ℕ) (fs : List ℕ) → sum (take (suc n) fs) ≡ slice_index fs 0 + sum (take n (drop 1 fs))
sum-first zero [] = refl
sum-first (suc n) [] = refl
sum-first n (f ∷ fs) = sum_by-cons (λ x. x) f (take n fs)

-- what the arrays say from a place on
pub drop-stored : (reading : FreqReadingOption) (n : ℕ) (ds fs ps : List ℕ) →
    drop n (stored_entries reading ds fs ps) ≡ stored_entries reading (drop n ds) (drop n fs) (drop (sum (take n fs)) ps)
unfolding stored_entries
drop-stored reading zero ds fs ps = refl
drop-stored reading (suc n) [] fs ps = refl
drop-stored reading (suc n) (d ∷ ds) fs ps =
    drop-stored reading n ds (drop 1 fs) (drop (slice_index fs 0) ps)
    ∙ ap (λ gs. stored_entries reading (drop n ds) gs (drop (sum (take n (drop 1 fs))) (drop (slice_index fs 0) ps)))
    (drop-drop n 1 fs ∙ ap (λ k. drop k fs) (one_on n))
    ∙ ap (stored_entries reading (drop n ds) (drop (suc n) fs)) (drop-drop (sum (take n (drop 1 fs))) (slice_index fs 0) ps ∙ ap (λ k. drop k ps) (sum_on n))
  where
    one_on : (n : ℕ) → 1 + n ≡ suc n
    one_on n = omega arith

    sum_on : (n : ℕ) → slice_index fs 0 + sum (take n (drop 1 fs)) ≡ sum (take (suc n) fs)
    sum_on n = sym (sum-first n fs)

-- the posting at a place

next : (n : ℕ) (fs : List ℕ) → slice_index (drop 1 fs) n ≡ slice_index fs (suc n)
next n [] = refl
next n (f ∷ fs) = refl

pub frequency_at : (reading : FreqReadingOption) (n : ℕ) (ds fs ps : List ℕ) → n < length ds →
    head_frequency (drop n (stored_entries reading ds fs ps)) ≡ frequency_read reading (slice_index fs n)
unfolding stored_entries
frequency_at reading n [] fs ps l = absurd (omega arith)
frequency_at reading zero (d ∷ ds) fs ps l = refl
frequency_at reading (suc n) (d ∷ ds) fs ps l = frequency_at reading n ds (drop 1 fs) (drop (slice_index fs 0) ps) (omega arith)
    ∙ ap (frequency_read reading) (next n fs)

pub positions_at : (reading : FreqReadingOption) (n : ℕ) (ds fs ps : List ℕ) → n < length ds →
    head_positions (drop n (stored_entries reading ds fs ps)) ≡ take (slice_index fs n) (drop (sum (take n fs)) ps)
unfolding stored_entries
positions_at reading n [] fs ps l = absurd (omega arith)
positions_at reading zero (d ∷ ds) fs ps l = refl
positions_at reading (suc n) (d ∷ ds) fs ps l =
    positions_at reading n ds (drop 1 fs) (drop (slice_index fs 0) ps) (omega arith)
    ∙ ap (λ f. take f (drop (sum (take n (drop 1 fs))) (drop (slice_index fs 0) ps))) (next n fs)
    ∙ ap (take (slice_index fs (suc n))) (drop-drop (sum (take n (drop 1 fs))) (slice_index fs 0) ps ∙ ap (λ k. drop k ps) (sym (sum-first n fs)))

pub take-nil : (n : ℕ) → take {A = ℕ} n [] ≡ []
take-nil zero = refl
take-nil (suc n) = refl

pub drop-nil : (n : ℕ) → drop {A = ℕ} n [] ≡ []
drop-nil zero = refl
drop-nil (suc n) = refl

-- where no positions are read, no posting has any
pub All-no_positions : (P : Entry → Type 0) (reading : FreqReadingOption) (ds fs : List ℕ) →
    ((e : Entry) → e.positions ≡ [] → P e) → All P (stored_entries reading ds fs [])
unfolding stored_entries
All-no_positions P reading [] fs h = All-nil P
All-no_positions P reading (d ∷ ds) fs h = All-cons P _ _ (h _ (take-nil (slice_index fs 0)))
    (subst (λ ps. All P (stored_entries reading ds (drop 1 fs) ps)) (sym (drop-nil (slice_index fs 0))) (All-no_positions P reading ds (drop 1 fs) h))

pub stored-nil : (reading : FreqReadingOption) (fs ps : List ℕ) → stored_entries reading [] fs ps ≡ []
unfolding stored_entries
stored-nil reading fs ps = refl

pub stored-cons : (reading : FreqReadingOption) (d f : ℕ) (ds fs ps : List ℕ) → stored_entries reading (d ∷ ds) (f ∷ fs) ps
    ≡ record { document = d; score = 0; frequency = frequency_read reading f; positions = take f ps } ∷ stored_entries reading ds fs (drop f ps)
unfolding stored_entries
stored-cons reading d f ds fs ps = refl

pub no_positions : (reading : FreqReadingOption) (n : ℕ) (ds fs ps : List ℕ) → length ps ≡ 0 →
    n < length ds → ps ≡ head_positions (drop n (stored_entries reading ds fs ps))
no_positions reading n ds fs [] none l = sym (take-nil (slice_index fs n))
    ∙ ap (take (slice_index fs n)) (sym (drop-nil (sum (take n fs)))) ∙ sym (positions_at reading n ds fs [] l)
no_positions reading n ds fs (p ∷ ps) none l = absurd (omega arith)
