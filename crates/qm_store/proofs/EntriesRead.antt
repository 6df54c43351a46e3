-- Entries of a dictionary that were written are read again.
use Rattle.std.proofs.Common.{◌≡◌, ℕ, ◌+◌, ◌*◌, ◌/◌, ◌%◌, ◌^◌, ◌<◌, ◌≤◌, ◌==◌, Bool, true, false, cond, List, [], ◌∷◌, ◌++◌, drop, length, take, Option, None, Some, refl, ap, ◌∙◌, append_assoc, arith}
use Rattle.std.specs.Prelude.{All, option_map}
use Rattle.std.specs.Int.{w64, to_le_bytes}
use Rattle.std.proofs.lemmas.Bool.{eq-eqb, le-leb}
use Rattle.std.proofs.lemmas.List.{length-append}
use Rattle.std.proofs.lemmas.List.Elements.{All-head, All-tail}
use Rattle.std.proofs.Math.Seq.{drop-append_seam, take-append_seam}
use Rattle.qm_postings.specs.Rows.{Row}
use Rattle.qm_postings.proofs.SegmentGrowth.{differ}
use Rattle.qm_schema.specs.Term.{TermKey}
use Rattle.qm_store.specs.Dictionary.{block_at, entries_at}
use Rattle.qm_store.specs.Entries.{Entry, Part, Parts, entry_at, here, here_at, parts_at, there, there_at}
use Rattle.qm_store.specs.Numbers.{number_at, spelled}
use Rattle.qm_store.specs.Pieces.{digest}
use Rattle.qm_store.specs.RowBytes.{followed_by, places_part, postings_part}
use Rattle.qm_store.specs.Stored.{IsStorable, apart, block_bytes, entries_bytes, entry_bytes, here_bytes, is_short, named, parts_bytes, there_bytes}
use Rattle.qm_store.specs.TermBytes.{term_bytes}
use Rattle.qm_store.specs.Words.{word_at}
use Rattle.qm_store.proofs.DigestFits.{digest-fits}
use Rattle.qm_store.proofs.NumberBytes.{number-read}
use Rattle.qm_store.proofs.PiecesRead.{word-read}
use Rattle.qm_store.proofs.TermsRead.{term-read}

-- where the parts of a row stand that was written from a place on
abbrev pub parts_stored : ℕ → ℕ → List ℕ → List ℕ → Part × Part
parts_stored key at front back =
    cond (is_short front back) (here front, here back) (there (named key at front), there (named key (at + length front) back))

abbrev by_parity : ℕ → ℕ → List ℕ → Option Parts
by_parity n m rest = cond (n % 2 == 1) (here_at (n / 2) m rest) (there_at (n / 2) m rest)

abbrev then_places : ℕ → List ℕ → Option Parts
then_places n rest = followed_by (number_at 8 rest) (by_parity n)

module _ (key at : ℕ) (front back rest : List ℕ) (near : at ≤ 2 ^ 60) (few : length front ≤ 2 ^ 60) (small : length back ≤ 2 ^ 60) where
  here-read : parts_at (here_bytes front back ++ rest) ≡ Some ((here front, here back), rest)
  here-read =
      let n = length front in
      let m = length back in
      let odd : (2 * n + 1) % 2 ≡ 1 = omega arith in
      let half : (2 * n + 1) / 2 ≡ n = omega arith in
      let bytes = (front ++ back) ++ rest in
      let regrouped : bytes ≡ front ++ (back ++ rest) = append_assoc front back rest in
      let there : n + m ≤ length (front ++ (back ++ rest)) = omega (arith, length-append front (back ++ rest), length-append back rest) in
      ap parts_at (append_assoc (spelled (2 * n + 1)) (spelled m ++ (front ++ back)) rest)
      ∙ ap (λ (x : Option (ℕ × List ℕ)). followed_by x then_places) (number-read 8 (2 * n + 1) ((spelled m ++ (front ++ back)) ++ rest) (omega (arith, few)))
      ∙ ap (λ (l : List ℕ). followed_by (number_at 8 l) (by_parity (2 * n + 1))) (append_assoc (spelled m) (front ++ back) rest)
      ∙ ap (λ (x : Option (ℕ × List ℕ)). followed_by x (by_parity (2 * n + 1))) (number-read 8 m bytes (omega (arith, small)))
      ∙ ap (λ b. cond b (here_at ((2 * n + 1) / 2) m bytes) (there_at ((2 * n + 1) / 2) m bytes)) (eq-eqb ((2 * n + 1) % 2) 1 odd)
      ∙ (λ i. here_at (half i) m (regrouped i))
      ∙ ap (λ b. cond b (Some ((here (take n (front ++ (back ++ rest))), here (take m (drop n (front ++ (back ++ rest))))), drop m (drop n (front ++ (back ++ rest))))) None)
      (le-leb (n + m) (length (front ++ (back ++ rest))) there)
      ∙ (λ i. Some ((here (take-append_seam front (back ++ rest) i), here (take m (drop-append_seam front (back ++ rest) i))), drop m (drop-append_seam front (back ++ rest) i)))
      ∙ (λ i. Some ((here front, here (take-append_seam back rest i)), drop-append_seam back rest i))

  there-read : parts_at (there_bytes (named key at front) (named key (at + length front) back) ++ rest)
      ≡ Some ((there (named key at front), there (named key (at + length front) back)), rest)
  there-read =
      let n = length front in
      let m = length back in
      let even : (2 * n) % 2 ≡ 0 = omega arith in
      let half : (2 * n) / 2 ≡ n = omega arith in
      let one = digest key at front in
      let two = digest key (at + n) back in
      let sums = to_le_bytes w64 one ++ to_le_bytes w64 two in
      ap parts_at (append_assoc (spelled (2 * n)) (spelled m ++ (spelled at ++ sums)) rest)
      ∙ ap (λ (x : Option (ℕ × List ℕ)). followed_by x then_places) (number-read 8 (2 * n) ((spelled m ++ (spelled at ++ sums)) ++ rest) (omega (arith, few)))
      ∙ ap (λ (l : List ℕ). followed_by (number_at 8 l) (by_parity (2 * n))) (append_assoc (spelled m) (spelled at ++ sums) rest)
      ∙ ap (λ (x : Option (ℕ × List ℕ)). followed_by x (by_parity (2 * n))) (number-read 8 m ((spelled at ++ sums) ++ rest) (omega (arith, small)))
      ∙ ap (λ b. cond b (here_at ((2 * n) / 2) m ((spelled at ++ sums) ++ rest)) (there_at ((2 * n) / 2) m ((spelled at ++ sums) ++ rest)))
      (differ ((2 * n) % 2) 1 (λ (h : (2 * n) % 2 ≡ 1). let wrong : ⊥ = omega (arith, h, even) in wrong))
      ∙ (λ i. there_at (half i) m (append_assoc (spelled at) sums rest i))
      ∙ ap (λ (x : Option (ℕ × List ℕ)). followed_by x (then_digests n m)) (number-read 8 at (sums ++ rest) (omega (arith, near)))
      ∙ ap (λ (l : List ℕ). followed_by (word_at l) (then_second n m at)) (append_assoc (to_le_bytes w64 one) (to_le_bytes w64 two) rest)
      ∙ ap (λ (x : Option (ℕ × List ℕ)). followed_by x (then_second n m at)) (word-read one (to_le_bytes w64 two ++ rest) (digest-fits key at front))
      ∙ ap (λ (x : Option (ℕ × List ℕ)). followed_by x (then_all n m at one)) (word-read two rest (digest-fits key (at + n) back))
    where
      then_all : ℕ → ℕ → ℕ → ℕ → ℕ → List ℕ → Option Parts
      then_all n m at first second rest =
          Some ((there (record { at = at; len = n; digest = first }), there (record { at = at + n; len = m; digest = second })), rest)

      then_second : ℕ → ℕ → ℕ → ℕ → List ℕ → Option Parts
      then_second n m at first rest = followed_by (word_at rest) (then_all n m at first)

      then_digests : ℕ → ℕ → ℕ → List ℕ → Option Parts
      then_digests n m at rest = followed_by (word_at rest) (then_second n m at)

  pub parts-read : parts_at (parts_bytes key at front back ++ rest) ≡ Some (parts_stored key at front back, rest)
  parts-read = by_length (is_short front back)
    where
      by_length : (b : Bool) → parts_at (cond b (here_bytes front back) (there_bytes (named key at front) (named key (at + length front) back)) ++ rest)
          ≡ Some (cond b (here front, here back) (there (named key at front), there (named key (at + length front) back)), rest)
      by_length true = here-read
      by_length false = there-read

-- ---- entries

abbrev pub entry_stored : ℕ → ℕ → Row → Entry
entry_stored key at r = record { term = r.term; row = parts_stored key at (postings_part r) (places_part r) }

pub entry-read : (key at : ℕ) (r : Row) (rest : List ℕ) → IsStorable r → at ≤ 2 ^ 60 →
    entry_at (entry_bytes key at r ++ rest) ≡ Some (entry_stored key at r, rest)
unfolding entry_bytes
entry-read key at r rest is near =
    let parts = parts_bytes key at (postings_part r) (places_part r) in
    ap entry_at (append_assoc (term_bytes r.term) parts rest)
    ∙ ap (λ (x : Option (TermKey × List ℕ)). followed_by x then_parts) (term-read r.term (parts ++ rest) is.term)
    ∙ ap (λ (x : Option Parts). followed_by x (then_entry r.term)) (parts-read key at (postings_part r) (places_part r) rest near is.parts.in_front is.parts.behind)
  where
    then_entry : TermKey → Part × Part → List ℕ → Option (Entry × List ℕ)
    then_entry t p rest = Some (record { term = t; row = p }, rest)

    then_parts : TermKey → List ℕ → Option (Entry × List ℕ)
    then_parts t rest = followed_by (parts_at rest) (then_entry t)

abbrev pub entries_stored : ℕ → ℕ → List Row → List Entry
entries_stored key at [] = []
entries_stored key at (r ∷ rs) = entry_stored key at r ∷ entries_stored key (at + length (apart r)) rs

abbrev pub all_apart_len : List Row → ℕ
all_apart_len [] = 0
all_apart_len (r ∷ rs) = length (apart r) + all_apart_len rs

pub entries-read : (key at : ℕ) (rs : List Row) → All IsStorable rs → at + all_apart_len rs ≤ 2 ^ 60 →
    entries_at (length rs) (entries_bytes key at rs) ≡ Some (entries_stored key at rs)
entries-read key at [] are near = refl
entries-read key at (r ∷ rs) are near =
    ap (λ (x : Option (Entry × List ℕ)). followed_by x then_entries)
    (entry-read key at r (entries_bytes key (at + length (apart r)) rs) (All-head IsStorable r rs are) (omega (arith, near)))
    ∙ ap (option_map (λ es. entry_stored key at r ∷ es)) (entries-read key (at + length (apart r)) rs (All-tail IsStorable r rs are) (omega (arith, near)))
  where
    then_entries : Entry → List ℕ → Option (List Entry)
    then_entries e rest = option_map (λ es. e ∷ es) (entries_at (length rs) rest)

pub block-read : (key at : ℕ) (rs : List Row) → All IsStorable rs → at + all_apart_len rs ≤ 2 ^ 60 → length rs < 2 ^ 60 →
    block_at (block_bytes key at rs) ≡ Some (entries_stored key at rs)
block-read key at rs are near few =
    ap (λ (x : Option (ℕ × List ℕ)). followed_by x entries_at) (number-read 8 (length rs) (entries_bytes key at rs) (omega (arith, few)))
    ∙ entries-read key at rs are near
