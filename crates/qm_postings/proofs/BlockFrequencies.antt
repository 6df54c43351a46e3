-- No posting has a greater frequency than its block.
use Rattle.qm_postings.specs.Frequencies.{listed}
use Rattle.std.proofs.Common.{◌≡◌, ℕ, ◌+◌, ◌-◌, ◌*◌, ◌/◌, ◌<◌, ◌≤◌, List, [], ◌∷◌, length, map, get_or, take, drop, max, min, sym, ap, ◌∙◌, arith, length-drop}
use Rattle.std.specs.Prelude.{All}
use Rattle.std.specs.List.{fold}
use Rattle.std.proofs.Math.Nat.{div-mul-le_self, lt-div-mul-add}
use Rattle.std.proofs.lemmas.List.{get_or-map, length-map, length-take}
use Rattle.std.proofs.lemmas.List.Elements.{All-cons, All-drop, All-nil}
use Rattle.std.proofs.lemmas.List.FromFn.{get_or-map-range_with_len}
use Rattle.qm_docset.proofs.GallopFacts.{get_or-part}
use Rattle.qm_docset.specs.Entry.{Entry}
use Rattle.qm_postings.specs.Blocks.{Block, block_at, block_read, no_block}
use Rattle.qm_postings.specs.Kept.{all_infos, block_info, block_count, least, least_id, piece, greatest}
use Rattle.qm_postings.specs.SegmentPostings.{IsPostings, postings_blocks, postings_left}
use Rattle.qm_postings.specs.Stored.{frequency_read}
use Rattle.qm_postings.proofs.ArrayEntries.{documents-stored, length-stored}
use Rattle.qm_postings.specs.TermArrays.{AreArrays, stored}
use Rattle.qm_postings.specs.declared.freq_reading_option.FreqReadingOption.{FreqReadingOption}
use Rattle.qm_postings.specs.declared.freq_reading_option.FreqReadingOption.TheVariants.{NoFreq, SkipFreq, ReadFreq}
use Rattle.qm_postings.specs.declared.segment_postings.SegmentPostings.{SegmentPostings}
use Rattle.qm_postings.specs.declared.term_arrays.TermArrays.{TermArrays}
use Rattle.qm_postings.proofs.BlockLemmas.{at_start, block_here, block_of_place, infos_count}
use Rattle.qm_postings.proofs.BlocksOfTerms.{frequencies-stored}

at_most : (m : ℕ) (xs : List ℕ) → (m ≤ fold max m xs) × All (λ x. x ≤ fold max m xs) xs
at_most m [] = (omega arith, All-nil _)
at_most m (x ∷ xs) =
    let rest = at_most (max m x) xs in
    (omega (arith, rest.0), All-cons (λ y. y ≤ fold max (max m x) xs) x xs (omega (arith, rest.0)) rest.1)

-- a frequency is at most the greatest of its block
at_most-piece : (bl n : ℕ) (fs : List ℕ) → 0 < bl → n < length fs → get_or fs n 0 ≤ greatest (piece bl (n / bl) fs)
unfolding piece
at_most-piece bl n fs some l =
    let start = n / bl * bl in
    let low : start ≤ n = div-mul-le_self n bl in
    let high : n < start + bl = lt-div-mul-add some in
    let part = take bl (drop start fs) in
    let long : n - start < length part = omega (arith, length-take bl (drop start fs), length-drop start fs) in
    omega (arith, (at_most 0 part).1 (n - start) 0 long, get_or-part fs start bl n low high)

at_least : (m : ℕ) (xs : List ℕ) → (fold min m xs ≤ m) × All (λ x. fold min m xs ≤ x) xs
at_least m [] = (omega arith, All-nil _)
at_least m (x ∷ xs) =
    let rest = at_least (min m x) xs in
    (omega (arith, rest.0), All-cons (λ y. fold min (min m x) xs ≤ y) x xs (omega (arith, rest.0)) rest.1)

-- the least length id of a block is at most that of each of its documents
at_least-piece : (bl n : ℕ) (ids ds : List ℕ) → 0 < bl → n < length ds → least_id ids (piece bl (n / bl) ds) ≤ get_or ids (get_or ds n 0) 1
unfolding piece least_id least
at_least-piece bl n ids ds some l =
    let start = n / bl * bl in
    let low : start ≤ n = div-mul-le_self n bl in
    let high : n < start + bl = lt-div-mul-add some in
    let part = take bl (drop start ds) in
    let f : ℕ → ℕ = λ d. get_or ids d 1 in
    let long : n - start < length part = omega (arith, length-take bl (drop start ds), length-drop start ds) in
    let one : get_or (map f part) (n - start) 0 ≡ f (get_or ds n 0) = get_or-map f part (n - start) 0 0 long ∙ ap f (get_or-part ds start bl n low high) in
    omega (arith, (at_least 255 (map f part)).1 (n - start) 0 (omega (arith, long, length-map part f)), one)

read-rises : (reading : FreqReadingOption) (few many : ℕ) → few ≤ many → frequency_read reading few ≤ frequency_read reading many
read-rises NoFreq few many h = omega arith
read-rises SkipFreq few many h = omega arith
read-rises ReadFreq few many h = h

module _ (reading : FreqReadingOption) (a : TermArrays) (h : AreArrays reading a) where
  block_most : (b : ℕ) → b < length a.blocks.now →
      (get_or (map (block_read reading) a.blocks.now) b no_block).most ≡ frequency_read reading (greatest (piece a.block_len b (listed a.frequencies)))
  unfolding all_infos
  block_most b l =
      let own = block_info a.block_len h.ids a.documents.now (listed a.frequencies) in
      ap (λ (x : Block). x.most) (get_or-map (block_read reading) a.blocks.now b (own b) no_block l
      ∙ ap (block_read reading) (ap (λ xs. get_or xs b (own b)) h.blocks ∙ get_or-map-range_with_len own 0
      (block_count a.block_len (length a.documents.now)) b b (own b) (omega (arith, infos_count reading a h)) (omega arith)))

  within_block : All (λ e. e.frequency ≤ (block_at e.document (map (block_read reading) a.blocks.now)).most) (stored reading a)
  within_block = λ n d l.
      let ds = a.documents.now in
      let fs = (listed a.frequencies) in
      let es = stored reading a in
      let inside : n < length ds = omega (arith, length-stored reading ds fs a.positions.now) in
      let b = n / a.block_len in
      let block = b in
      let small : b < length a.blocks.now = omega (arith, infos_count reading a h, block_of_place n (length ds) a.block_len h.block_len inside) in
      let document : (get_or es n d).document ≡ get_or ds n 0 = sym (get_or-map (λ (e : Entry). e.document) es n d 0 l)
      ∙ ap (λ xs. get_or xs n 0) (documents-stored reading ds fs a.positions.now) in
      let frequency : (get_or es n d).frequency ≡ frequency_read reading (get_or fs n 0) =
      sym (get_or-map (λ (e : Entry). e.frequency) es n d 0 l) ∙ ap (λ xs. get_or xs n 0) (frequencies-stored reading ds fs a.positions.now h.frequencies)
      ∙ get_or-map (frequency_read reading) fs n 0 0 (omega (arith, h.frequencies)) in
      let at : max 0 (get_or ds n 0) ≡ (get_or es n d).document = omega (arith, document) in
      let found = ap (λ x. block_at x (map (block_read reading) a.blocks.now)) (sym at) ∙ block_here reading a h n no_block inside in
      let most = ap (λ (x : Block). x.most) found ∙ block_most b small in
      omega (
        arith,
        frequency,
        most,
        read-rises reading (get_or fs n 0) (greatest (piece a.block_len b fs)) (at_most-piece a.block_len n fs h.block_len (omega (arith, h.frequencies))),
      )

-- no document has a length id below the least of its block, by the ids that the bounds are of
module _ (reading : FreqReadingOption) (a : TermArrays) (h : AreArrays reading a) (ids : List ℕ)
    (are : a.blocks.now ≡ all_infos a.block_len ids a.documents.now (listed a.frequencies)) where
  block_least : (b : ℕ) → b < length a.blocks.now →
      (get_or (map (block_read reading) a.blocks.now) b no_block).least_id ≡ least_id ids (piece a.block_len b a.documents.now)
  unfolding all_infos
  block_least b l =
      let own = block_info a.block_len ids a.documents.now (listed a.frequencies) in
      ap (λ (x : Block). x.least_id) (get_or-map (block_read reading) a.blocks.now b (own b) no_block l
      ∙ ap (block_read reading) (ap (λ xs. get_or xs b (own b)) are ∙ get_or-map-range_with_len own 0
      (block_count a.block_len (length a.documents.now)) b b (own b) (omega (arith, infos_count reading a h)) (omega arith)))

  pub within_ids : All (λ e. (block_at e.document (postings_blocks (at_start reading a))).least_id ≤ get_or ids e.document 1) (stored reading a)
  within_ids = λ n d l.
      let ds = a.documents.now in
      let es = stored reading a in
      let inside : n < length ds = omega (arith, length-stored reading ds (listed a.frequencies) a.positions.now) in
      let b = n / a.block_len in
      let small : b < length a.blocks.now = omega (arith, infos_count reading a h, block_of_place n (length ds) a.block_len h.block_len inside) in
      let document : (get_or es n d).document ≡ get_or ds n 0 = sym (get_or-map (λ (e : Entry). e.document) es n d 0 l)
      ∙ ap (λ xs. get_or xs n 0) (documents-stored reading ds (listed a.frequencies) a.positions.now) in
      let at : max 0 (get_or ds n 0) ≡ (get_or es n d).document = omega (arith, document) in
      let found = ap (λ x. block_at x (map (block_read reading) a.blocks.now)) (sym at) ∙ block_here reading a h n no_block inside in
      let least = ap (λ (x : Block). x.least_id) found ∙ block_least b small in
      let id : get_or ids (get_or es n d).document 1 ≡ get_or ids (get_or ds n 0) 1 = ap (λ x. get_or ids x 1) document in
      omega (arith, least, id, at_least-piece a.block_len n ids ds h.block_len inside)

-- what is left of a cursor's postings keeps to its blocks
pub within_blocks : (s : SegmentPostings) → IsPostings s → All (λ e. e.frequency ≤ (block_at e.document (postings_blocks s)).most) (postings_left s)
within_blocks s h =
    All-drop (λ e. e.frequency ≤ (block_at e.document (postings_blocks s)).most) s.cursor (stored s.reading s.arrays) (within_block s.reading s.arrays h.arrays)
