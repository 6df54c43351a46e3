-- The blocks of a list of documents: which one has a document, and where it ends.
use Rattle.qm_postings.specs.Frequencies.{listed}
use Rattle.std.proofs.Common.{◌≡◌, ℕ, zero, suc, ◌+◌, ◌-◌, ◌*◌, ◌/◌, ◌<◌, ◌≤◌, true, false, List, [], ◌∷◌, length, map, get_or, max, sum, take, sym, ap, refl}
use Rattle.std.proofs.Common.{subst, ◌∙◌, arith, inl, inr}
use Rattle.std.specs.Prelude.{nat_eq, nat_le, nat_lt}
use Rattle.std.specs.Int.{div_ceil}
use Rattle.std.proofs.Math.Nat.{add-mul, div-lt_iff_lt-mul, div-mul-le_self, lt-div-mul-add, mul-le-mul_left, mul-le-mul_right, one-mul, zero-div}
use Rattle.std.proofs.lemmas.Bool.{cases_eq, cases_lt, eq-eqb, le-leb, lt-leb, lt-ltb, le-ltb, ne_eqb}
use Rattle.std.proofs.lemmas.Grind.{div_ceil_times}
use Rattle.std.proofs.lemmas.List.{get_or-map, length-map}
use Rattle.std.proofs.lemmas.List.FromFn.{get_or-map-range_with_len, length-map-range_with_len}
use Rattle.qm_docset.proofs.GallopFacts.{rises}
use Rattle.qm_docset.proofs.PlacesLeft.{document_at, few, none_left}
use Rattle.qm_docset.specs.Documents.{AreDocuments}
use Rattle.qm_docset.specs.Entry.{head_document}
use Rattle.qm_docset.specs.declared.numbers.TheConstants.{TERMINATED}
use Rattle.qm_postings.specs.Blocks.{Block, block_at, block_read, looked_at, no_block}
use Rattle.qm_postings.specs.Kept.{all_infos, block_info, block_count, end_of}
use Rattle.qm_postings.specs.SegmentPostings.{IsPostings, LooksHere, looked_block, looked_number, postings_blocks, postings_left}
use Rattle.qm_postings.specs.TermArrays.{AreArrays, stored}
use Rattle.qm_postings.specs.declared.freq_reading_option.FreqReadingOption.{FreqReadingOption}
use Rattle.qm_postings.specs.declared.segment_postings.SegmentPostings.{SegmentPostings}
use Rattle.qm_postings.specs.declared.term_arrays.BlockInfo.{BlockInfo}
use Rattle.qm_postings.specs.declared.term_arrays.TermArrays.{TermArrays}
use Rattle.qm_postings.proofs.PostingsLeft.{named}

-- the first block that ends at or past a document is the one at a place, where those before it end below
pub first_at : (t b : ℕ) (bs : List Block) (d : Block) → b < length bs → t ≤ (get_or bs b d).last →
    ((k : ℕ) → k < b → (get_or bs k d).last < t) → block_at t bs ≡ get_or bs b d
unfolding block_at
first_at t b [] d l here passed = absurd (omega arith)
first_at t zero (x ∷ xs) d l here passed = let is : nat_le t x.last ≡ true = le-leb t x.last here in rw is refl
first_at t (suc b) (x ∷ xs) d l here passed =
    let is : nat_le t x.last ≡ false = lt-leb t x.last (passed 0 (omega arith)) in
    rw is (first_at t b xs d (omega arith) here (λ k lt. passed (suc k) (omega arith)))

pub rises_strictly : (ds : List ℕ) → AreDocuments ds → (i j : ℕ) → i < j → j < length ds → get_or ds i 0 < get_or ds j 0
rises_strictly ds h i j lt l =
    let low = rises ds h.ascending i (j - 1) (omega arith) (omega arith) in
    let on : j - 1 + 1 ≡ j = omega arith in
    let P : ℕ → Type 0 = λ n. get_or ds (j - 1) 0 < get_or ds n 0 in
    let step = subst P on (h.ascending (j - 1) (omega arith)) in
    omega arith

-- ---- numbers of blocks

pub more_block : (b bl : ℕ) → (b + 1) * bl ≡ b * bl + bl
more_block b bl = omega (arith, add-mul b 1 bl, one-mul bl)

pub block_start : (b n bl : ℕ) → 0 < bl → b < block_count bl n → b * bl < n
block_start b n bl some l =
    let times = div_ceil_times n bl some in
    let up : (b + 1) * bl ≤ div_ceil n bl * bl = mul-le-mul_right bl (omega arith) in
    omega (arith, times.1, up, more_block b bl)

pub block_of_start : (b n bl : ℕ) → 0 < bl → b * bl < n → b < block_count bl n
block_of_start b n bl some l = elim (cases_lt b (block_count bl n)) [
  | inl fewer ↦ fewer
  | inr past ↦
      let up : div_ceil n bl * bl ≤ b * bl = mul-le-mul_right bl past in
      absurd (omega (arith, (div_ceil_times n bl some).0, up))
]

pub block_of_place : (c n bl : ℕ) → 0 < bl → c < n → c / bl < block_count bl n
block_of_place c n bl some l = (div-lt_iff_lt-mul some).1 (omega (arith, (div_ceil_times n bl some).0))

pub place_below : (c b bl : ℕ) → 0 < bl → c / bl ≤ b → c < (b + 1) * bl
place_below c b bl some l =
    let up : (c / bl + 1) * bl ≤ (b + 1) * bl = mul-le-mul_right bl (omega arith) in
    let here : c < c / bl * bl + bl = lt-div-mul-add some in
    omega (arith, up, here, more_block (c / bl) bl)

pub place_from : (c b bl : ℕ) → b < c / bl → (b + 1) * bl ≤ c
place_from c b bl l =
    let up : (b + 1) * bl ≤ c / bl * bl = mul-le-mul_right bl (omega arith) in
    omega (arith, up, div-mul-le_self c bl)

-- what lies in a block has its number
pub number_of_place : (c b bl : ℕ) → 0 < bl → b * bl ≤ c → c < (b + 1) * bl → b ≡ c / bl
number_of_place c b bl some start end = elim (cases_lt b (c / bl)) [
  | inl less ↦ absurd (omega (arith, place_from c b bl less))
  | inr more ↦ elim (cases_lt (c / bl) b) [
    | inl past ↦
        let next : c / bl + 1 ≤ b = omega arith in
        let up : (c / bl + 1) * bl ≤ b * bl = mul-le-mul_right bl next in
        absurd (omega (arith, place_below c (c / bl) bl some (omega arith), up))
    | inr same ↦ omega arith
  ]
]

-- ---- ends of blocks

pub end_inside : (bl : ℕ) (ds : List ℕ) (b : ℕ) → (b + 1) * bl < length ds → end_of bl ds b ≡ get_or ds ((b + 1) * bl - 1) 0
unfolding end_of
end_inside bl ds b l = let is : nat_lt ((b + 1) * bl) (length ds) ≡ true = lt-ltb ((b + 1) * bl) (length ds) l in rw is refl

pub end_last : (bl : ℕ) (ds : List ℕ) (b : ℕ) → length ds ≤ (b + 1) * bl → end_of bl ds b ≡ TERMINATED
unfolding end_of
end_last bl ds b l = let is : nat_lt ((b + 1) * bl) (length ds) ≡ false = le-ltb ((b + 1) * bl) (length ds) l in rw is refl

module _ (bl : ℕ) (ds : List ℕ) (h : AreDocuments ds) (some : 0 < bl) where
  pub end_reaches : (b c : ℕ) → c < length ds → c < (b + 1) * bl → get_or ds c 0 ≤ end_of bl ds b
  end_reaches b c l k =
      elim (cases_lt ((b + 1) * bl) (length ds)) [
        | inl inside ↦ omega (arith, end_inside bl ds b inside, rises ds h.ascending c ((b + 1) * bl - 1) (omega arith) (omega arith))
        | inr last ↦ omega (arith, end_last bl ds b last, h.below_end c 0 l)
      ]

  pub end_before : (b c : ℕ) → c < length ds → (b + 1) * bl ≤ c → end_of bl ds b < get_or ds c 0
  end_before b c l k =
      let whole : bl ≤ (b + 1) * bl = omega (arith, more_block b bl) in
      omega (arith, end_inside bl ds b (omega arith), rises_strictly ds h ((b + 1) * bl - 1) c (omega arith) l)

-- ---- the blocks of a cursor

module _ (reading : FreqReadingOption) (a : TermArrays) (h : AreArrays reading a) where
  pub infos_count : length a.blocks.now ≡ block_count a.block_len (length a.documents.now)
  unfolding all_infos
  infos_count = ap length h.blocks
      ∙ length-map-range_with_len (block_info a.block_len h.ids a.documents.now (listed a.frequencies)) 0 (block_count a.block_len (length a.documents.now))

  -- how many positions come before a block
  pub block_starts : (b : ℕ) (d : BlockInfo) → b * a.block_len < length (listed a.frequencies) → (b < length a.blocks.now) ×
      ((get_or a.blocks.now b d).positions_start ≡ sum (take (b * a.block_len) (listed a.frequencies)))
  unfolding all_infos
  block_starts b d l =
      let own = block_info a.block_len h.ids a.documents.now (listed a.frequencies) in
      let inside : b < block_count a.block_len (length a.documents.now) =
      block_of_start b (length a.documents.now) a.block_len h.block_len (omega (arith, h.frequencies)) in (
        omega (arith, infos_count, inside),
        ap (λ (x : BlockInfo). x.positions_start)
            (ap (λ xs. get_or xs b d) h.blocks ∙ get_or-map-range_with_len own 0 (block_count a.block_len (length a.documents.now)) b b d inside (omega arith)),
      )

  pub blocks_count : length (map (block_read reading) a.blocks.now) ≡ block_count a.block_len (length a.documents.now)
  blocks_count = length-map a.blocks.now (block_read reading) ∙ infos_count

  pub block_last : (b : ℕ) (d : Block) → b < length a.blocks.now →
      (get_or (map (block_read reading) a.blocks.now) b d).last ≡ end_of a.block_len a.documents.now b
  unfolding all_infos
  block_last b d l =
      let own = block_info a.block_len h.ids a.documents.now (listed a.frequencies) in
      ap (λ (x : Block). x.last) (get_or-map (block_read reading) a.blocks.now b (own b) d l
      ∙ ap (block_read reading) (ap (λ xs. get_or xs b (own b)) h.blocks
      ∙ get_or-map-range_with_len own 0 (block_count a.block_len (length a.documents.now)) b b (own b) (omega (arith, infos_count)) (omega arith)))

  -- the first block from that of a place on that ends at or past a target
  pub found_at : (c t b : ℕ) (d : Block) → c < length a.documents.now → c / a.block_len ≤ b → b < length a.blocks.now → ((k : ℕ) → c / a.block_len ≤ k →
      k < b → (get_or (map (block_read reading) a.blocks.now) k d).last < t) → t ≤ (get_or (map (block_read reading) a.blocks.now) b d).last
      → block_at (max t (get_or a.documents.now c 0)) (map (block_read reading) a.blocks.now) ≡ get_or (map (block_read reading) a.blocks.now) b d
  found_at c t b d l from inside passed reached =
      let bs = map (block_read reading) a.blocks.now in
      let reaches = end_reaches a.block_len a.documents.now h.documents h.block_len b c l (place_below c b a.block_len h.block_len from) in
      first_at (max t (get_or a.documents.now c 0)) b bs d (omega (arith, length-map a.blocks.now (block_read reading)))
      (omega (arith, reached, reaches, block_last b d inside))
      (λ k lt. elim (cases_lt k (c / a.block_len)) [
        | inl before ↦ omega (
          arith,
          block_last k d (omega arith),
          end_before a.block_len a.documents.now h.documents h.block_len k c l (place_from c k a.block_len before),
        )
        | inr past ↦ omega (arith, passed k past lt)
      ])

  -- and the block of a place
  pub block_here : (c : ℕ) (d : Block) → c < length a.documents.now →
      block_at (max 0 (get_or a.documents.now c 0)) (map (block_read reading) a.blocks.now) ≡ get_or (map (block_read reading) a.blocks.now) (c / a.block_len) d
  block_here c d l = found_at c 0 (c / a.block_len) d l (omega arith)
      (omega (arith, infos_count, block_of_place c (length a.documents.now) a.block_len h.block_len l)) (λ k from lt. absurd (omega arith)) (omega arith)

-- ---- what a cursor looks at

pub looked_inside : (s : SegmentPostings) → s.cursor < length s.arrays.documents.now → looked_block s ≡ get_or (postings_blocks s) (looked_number s) no_block
unfolding looked_block
looked_inside s l = let is : nat_lt s.cursor (length s.arrays.documents.now) ≡ true = lt-ltb s.cursor (length s.arrays.documents.now) l in rw is refl

pub looked_outside : (s : SegmentPostings) → length s.arrays.documents.now ≤ s.cursor → looked_block s ≡ no_block
unfolding looked_block
looked_outside s l = let is : nat_lt s.cursor (length s.arrays.documents.now) ≡ false = le-ltb s.cursor (length s.arrays.documents.now) l in rw is refl

pub looked_at-here : (t d : ℕ) (bs : List Block) → d < TERMINATED → looked_at t d bs ≡ block_at (max t d) bs
unfolding looked_at
looked_at-here t d bs l = let is : nat_lt d TERMINATED ≡ true = lt-ltb d TERMINATED l in rw is refl

pub looked_at-end : (t : ℕ) (bs : List Block) → looked_at t TERMINATED bs ≡ no_block
unfolding looked_at
looked_at-end t bs = refl

module _ (s : SegmentPostings) (h : IsPostings s) where
  abbrev docs : List ℕ
  docs = s.arrays.documents.now

  pub head_here : s.cursor < length docs → head_document (postings_left s) ≡ get_or docs s.cursor 0
  head_here l = document_at s.cursor (stored s.reading s.arrays) docs 0 (named s) l

  pub head_end : length docs ≤ s.cursor → head_document (postings_left s) ≡ TERMINATED
  head_end l = ap head_document (none_left s.cursor (stored s.reading s.arrays) docs (named s) l)

  pub head_below : s.cursor < length docs → head_document (postings_left s) < TERMINATED
  head_below l = omega (arith, head_here l, h.arrays.documents.below_end s.cursor 0 l)

  pub looked_within : s.cursor < length docs → looked_number s < length s.arrays.blocks.now
  looked_within l = elim (cases_eq s.look_from s.cursor) [
    | inl at ↦ let is : nat_eq s.look_from s.cursor ≡ true = eq-eqb s.look_from s.cursor at in rw is (h.look at l).1
    | inr off ↦
        let is : nat_eq s.look_from s.cursor ≡ false = ne_eqb s.look_from s.cursor off in
        let small = block_of_place s.cursor (length docs) s.arrays.block_len h.arrays.block_len l in
        rw is (omega (arith, infos_count s.reading s.arrays h.arrays, small))
  ]

  -- it looks at the block of its document where it was not made to look elsewhere
  pub looks_here : (s.cursor < length docs → looked_number s ≡ s.cursor / s.arrays.block_len) → LooksHere s
  looks_here own = elim (cases_lt s.cursor (length docs)) [
    | inl inside ↦
        looked_inside s inside ∙ ap (λ n. get_or (postings_blocks s) n no_block) (own inside)
        ∙ sym (block_here s.reading s.arrays h.arrays s.cursor no_block inside)
        ∙ ap (λ d. block_at (max 0 d) (postings_blocks s)) (sym (head_here inside))
        ∙ sym (looked_at-here 0 (head_document (postings_left s)) (postings_blocks s) (head_below inside))
    | inr past ↦ looked_outside s past ∙ sym (looked_at-end 0 (postings_blocks s)) ∙ ap (λ d. looked_at 0 d (postings_blocks s)) (sym (head_end past))
  ]

-- the ends of blocks rise
pub ends_rise : (reading : FreqReadingOption) (a : TermArrays) → AreArrays reading a → (b k : ℕ) (d : Block) → b ≤ k → k < length a.blocks.now →
    (get_or (map (block_read reading) a.blocks.now) b d).last ≤ (get_or (map (block_read reading) a.blocks.now) k d).last
ends_rise reading a h b k d le l =
    elim (cases_eq b k) [
      | inl same ↦ let P : ℕ → Type 0 = λ n.
          (get_or (map (block_read reading) a.blocks.now) b d).last ≤ (get_or (map (block_read reading) a.blocks.now) n d).last in subst P same (omega arith)
      | inr less ↦
          let n = length a.documents.now in
          let start = k * a.block_len in
          let inside : start < n = block_start k n a.block_len h.block_len (omega (arith, infos_count reading a h)) in
          let up : (b + 1) * a.block_len ≤ start = mul-le-mul_right a.block_len (omega arith) in
          omega (
            arith,
            block_last reading a h b d (omega arith),
            block_last reading a h k d l,
            end_before a.block_len a.documents.now h.documents h.block_len b start inside up,
            end_reaches a.block_len a.documents.now h.documents h.block_len k start inside (omega (arith, more_block k a.block_len, h.block_len)),
          )
    ]

-- the last block ends at the end
pub ends_at_end : (reading : FreqReadingOption) (a : TermArrays) → AreArrays reading a → (b : ℕ) (d : Block) →
    b < length a.blocks.now → length a.blocks.now ≤ b + 1 → (get_or (map (block_read reading) a.blocks.now) b d).last ≡ TERMINATED
ends_at_end reading a h b d l last =
    let n = length a.documents.now in
    let up : div_ceil n a.block_len * a.block_len ≤ (b + 1) * a.block_len = mul-le-mul_right a.block_len (omega (arith, infos_count reading a h)) in
    block_last reading a h b d l ∙ end_last a.block_len a.documents.now b (omega (arith, (div_ceil_times n a.block_len h.block_len).0, up))

pub block_within : (s : SegmentPostings) → IsPostings s → s.cursor < length s.arrays.documents.now → s.cursor / s.arrays.block_len < length s.arrays.blocks.now
block_within s h l =
    let small = block_of_place s.cursor (length s.arrays.documents.now) s.arrays.block_len h.arrays.block_len l in
    omega (arith, infos_count s.reading s.arrays h.arrays, small)

-- a block from the cursor's on begins among the postings, and ends behind the cursor
pub ends_behind : (s : SegmentPostings) (b : ℕ) → IsPostings s → s.cursor < length s.arrays.documents.now →
    s.cursor / s.arrays.block_len ≤ b → b < length s.arrays.blocks.now
    → (b * s.arrays.block_len < length s.arrays.documents.now) × (s.cursor < b * s.arrays.block_len + s.arrays.block_len)
ends_behind s b h l from within = (
  block_start b (length s.arrays.documents.now) s.arrays.block_len h.arrays.block_len (omega (arith, within, infos_count s.reading s.arrays h.arrays)),
  omega (arith, place_below s.cursor b s.arrays.block_len h.arrays.block_len from, more_block b s.arrays.block_len),
)

-- a cursor has no more blocks than postings
pub blocks_few : (reading : FreqReadingOption) (a : TermArrays) → AreArrays reading a → length a.blocks.now ≤ length a.documents.now
blocks_few reading a h = elim (cases_lt 0 (length a.blocks.now)) [
  | inl used ↦
      let b = length a.blocks.now - 1 in
      let start = block_start b (length a.documents.now) a.block_len h.block_len (omega (arith, infos_count reading a h)) in
      let up : b * 1 ≤ b * a.block_len = mul-le-mul_left b h.block_len in
      omega (arith, start, up)
  | inr none ↦ omega arith
]

pub blocks_small : (reading : FreqReadingOption) (a : TermArrays) → AreArrays reading a → length a.blocks.now ≤ TERMINATED
blocks_small reading a h = omega (arith, blocks_few reading a h, few 0 a.documents.now h.documents)

abbrev pub no_info : BlockInfo
no_info = record { last_doc = 0; max_term_freq = 0; least_fieldnorm_id = 0; positions_start = 0 }

pub last_read : (reading : FreqReadingOption) (bounds : List BlockInfo) (b : ℕ) (d : Block) →
    b < length bounds → (get_or (map (block_read reading) bounds) b d).last ≡ (get_or bounds b no_info).last_doc
last_read reading bounds b d l = ap (λ (x : Block). x.last) (get_or-map (block_read reading) bounds b no_info d l)

-- a cursor that is made to look at a block
module _ (s : SegmentPostings) (h : IsPostings s) (look : ℕ) (l : s.cursor < length s.arrays.documents.now) (t : ℕ) where
  abbrev looking : SegmentPostings
  looking = record {
    arrays = s.arrays;
    reading = s.reading;
    cursor = s.cursor;
    mark = s.mark;
    mark_start = s.mark_start;
    block = s.block;
    block_end = s.block_end;
    last_doc = s.last_doc;
    look_from = s.cursor;
    look = look;
  }

  pub looks_at : s.cursor / s.arrays.block_len ≤ look → look < length s.arrays.blocks.now → ((k : ℕ) (d : Block) → s.cursor / s.arrays.block_len ≤ k →
      k < look → (get_or (postings_blocks s) k d).last < t) → ((d : Block) → t ≤ (get_or (postings_blocks s) look d).last)
      → looked_block looking ≡ looked_at t (head_document (postings_left s)) (postings_blocks s)
  looks_at from inside passed reached =
      let is : nat_eq s.cursor s.cursor ≡ true = eq-eqb s.cursor s.cursor refl in
      let number : looked_number looking ≡ look = rw is refl in
      looked_inside looking l ∙ ap (λ n. get_or (postings_blocks s) n no_block) number
      ∙ sym (found_at s.reading s.arrays h.arrays s.cursor t look no_block l from inside (λ k up lt. passed k no_block up lt) (reached no_block))
      ∙ ap (λ d. block_at (max t d) (postings_blocks s)) (sym (head_here s h l))
      ∙ sym (looked_at-here t (head_document (postings_left s)) (postings_blocks s) (head_below s h l))

  pub looks_valid : s.cursor / s.arrays.block_len ≤ look → look < length s.arrays.blocks.now → IsPostings looking
  looks_valid from inside = record {
    arrays = h.arrays;
    place = h.place;
    mark = h.mark;
    mark_start = h.mark_start;
    block = h.block;
    block_end = h.block_end;
    last_doc = h.last_doc;
    look_from = omega arith;
    look = λ at here. (from, inside);
  }

abbrev pub no_last : Block
no_last = no_block

-- a cursor at its start
abbrev pub at_start : FreqReadingOption → TermArrays → SegmentPostings
at_start reading a =
    record { arrays = a; reading = reading; cursor = 0; mark = 0; mark_start = 0; block = 0; block_end = 0; last_doc = 0; look_from = 0; look = 0 }

pub zero_blocks : (reading : FreqReadingOption) (a : TermArrays) → looked_number (at_start reading a) ≡ 0 / a.block_len
zero_blocks reading a = sym (zero-div a.block_len)

pub starts : (reading : FreqReadingOption) (a : TermArrays) → AreArrays reading a → IsPostings (at_start reading a)
starts reading a h = record {
  arrays = h;
  place = omega arith;
  mark = omega arith;
  mark_start = λ some. refl;
  block = omega arith;
  block_end = (omega arith, omega arith);
  last_doc = λ inside. absurd (omega arith);
  look_from = omega arith;
  look = λ at inside.
      (omega (arith, zero-div a.block_len), omega (arith, infos_count reading a h, block_of_place 0 (length a.documents.now) a.block_len h.block_len inside));
}

-- a cursor that goes on to a place of the block that it knows looks at that block
module _ (s : SegmentPostings) (h : IsPostings s) (place : ℕ) (from : s.cursor ≤ place) (start : s.cursor < s.block_end)
    (within : place ≤ s.block_end) (end : place < length s.arrays.documents.now → place < s.block_end) where
  abbrev standing : SegmentPostings
  standing = record {
    arrays = s.arrays;
    reading = s.reading;
    cursor = place;
    mark = s.mark;
    mark_start = s.mark_start;
    block = s.block;
    block_end = s.block_end;
    last_doc = s.last_doc;
    look_from = place;
    look = s.block;
  }

  stands_here : place < length s.arrays.documents.now → s.block ≡ place / s.arrays.block_len
  stands_here inside = number_of_place place s.block s.arrays.block_len h.arrays.block_len (omega (arith, h.block)) (omega (arith, end inside, h.block_end))

  pub stands_valid : IsPostings standing
  stands_valid = record {
    arrays = h.arrays;
    place = omega (arith, h.block_end);
    mark = omega (arith, h.mark);
    mark_start = h.mark_start;
    block = omega (arith, h.block);
    block_end = h.block_end;
    last_doc = λ inside. h.last_doc start;
    look_from = omega arith;
    look = λ at inside. (
      omega (arith, stands_here inside),
      omega (
        arith,
        stands_here inside,
        infos_count s.reading s.arrays h.arrays,
        block_of_place place (length s.arrays.documents.now) s.arrays.block_len h.arrays.block_len inside,
      ),
    );
  }

  stands_number : place < length s.arrays.documents.now → looked_number standing ≡ place / s.arrays.block_len
  stands_number inside = let is : nat_eq place place ≡ true = eq-eqb place place refl in rw is (stands_here inside)

  pub stands_looking : LooksHere standing
  stands_looking = looks_here standing stands_valid stands_number

-- a cursor that goes on, however it does, looks at the block of the place that it comes to
module _ (s : SegmentPostings) (h : IsPostings s) (place : ℕ) (from : s.cursor ≤ place)
    (within : place ≤ length s.arrays.documents.now) (on : place < length s.arrays.documents.now → s.cursor < place) where
  abbrev moved : SegmentPostings
  moved = record {
    arrays = s.arrays;
    reading = s.reading;
    cursor = place;
    mark = s.mark;
    mark_start = s.mark_start;
    block = s.block;
    block_end = s.block_end;
    last_doc = s.last_doc;
    look_from = s.look_from;
    look = s.look;
  }

  pub moved_valid : IsPostings moved
  moved_valid = record {
    arrays = h.arrays;
    place = within;
    mark = omega (arith, h.mark);
    mark_start = h.mark_start;
    block = omega (arith, h.block);
    block_end = h.block_end;
    last_doc = λ inside. h.last_doc (omega arith);
    look_from = omega (arith, h.look_from);
    look = λ at inside. absurd (omega (arith, on inside, h.look_from));
  }

  pub moved_looking : LooksHere moved
  moved_looking = looks_here moved moved_valid
      (λ inside. let off : nat_eq s.look_from place ≡ false = ne_eqb s.look_from place (λ same. omega (arith, on inside, h.look_from)) in rw off refl)

-- one that has gone by all postings looks at none, wherever it looked
pub looks_at_none : (s : SegmentPostings) → IsPostings s → length s.arrays.documents.now ≤ s.cursor → LooksHere s
looks_at_none s h past = looks_here s h (λ inside. absurd (omega arith))
