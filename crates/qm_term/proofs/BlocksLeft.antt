-- How many blocks are left of a run over one list: a block that is passed is one less, and each has a document.
use Rattle.std.proofs.Common.{◌≡◌, ℕ, suc, zero, ◌+◌, ◌-◌, ◌*◌, ◌<◌, ◌≤◌, true, false, cond, List, [], ◌∷◌, drop, length, get_or, map, sym, ap, refl, ◌∙◌}
use Rattle.std.proofs.Common.{arith, inl, inr}
use Rattle.std.specs.Prelude.{nat_le}
use Rattle.std.proofs.lemmas.Bool.{cases_lt, le-leb, lt-leb}
use Rattle.std.proofs.lemmas.List.{get_or-map, length-map}
use Rattle.qm_combine.specs.RescoredFacts.{from-rescored, head_document-rescored}
use Rattle.qm_docset.proofs.GallopFacts.{rises}
use Rattle.qm_docset.proofs.PlacesLeft.{document_at}
use Rattle.qm_docset.specs.Entry.{Entry, from, head_document}
use Rattle.qm_docset.specs.EntryFacts.{from-keep, from-nil}
use Rattle.qm_docset.specs.declared.numbers.TheConstants.{TERMINATED}
use Rattle.qm_postings.proofs.BlockLemmas.{block_last, block_of_place, block_of_start, blocks_count, end_inside, end_last, end_reaches, ends_at_end, ends_rise}
use Rattle.qm_postings.proofs.BlockLemmas.{first_at, head_end, head_here, infos_count, more_block, rises_strictly}
use Rattle.qm_postings.proofs.PostingsLeft.{from_behind, named}
use Rattle.qm_postings.specs.Blocks.{Block as PostingsBlock, block_at, no_block as no_postings_block}
use Rattle.qm_postings.specs.FieldNorms.{is_made_constant, norm_ids}
use Rattle.qm_postings.specs.Kept.{end_of}
use Rattle.qm_postings.specs.SegmentPostings.{IsPostings, postings_blocks, postings_left}
use Rattle.qm_postings.specs.TermArrays.{stored}
use Rattle.qm_postings.specs.declared.segment_postings.SegmentPostings.{SegmentPostings}
use Rattle.qm_term.specs.Bm25Weight.{weighing}
use Rattle.qm_term.specs.Members.{Block, end_at}
use Rattle.qm_term.specs.RunScorers.{IsRunScorer, wand_member}
use Rattle.qm_term.specs.SingleRun.{FillsBlocks}
use Rattle.qm_term.specs.TermBlocks.{member_of}
use Rattle.qm_term.specs.TermScorer.{IsTermScorer, scored_by, scored_blocks, scored_left}
use Rattle.qm_term.specs.TermScorerFacts.{scored-document}
use Rattle.qm_term.specs.declared.norms.Norms.{Ghosts as NormGhosts}
use Rattle.qm_term.specs.declared.term_scorer.TermScorer.{TermScorer}
use Rattle.qm_term.specs.declared.wand.front.TermScorerWithMaxScore.{TermScorerWithMaxScore}
use Rattle.qm_term.proofs.WandMembers.{scored_at}

-- how many blocks end at or past a document
unfoldable pub blocks_left : ℕ → List Block → ℕ
blocks_left d [] = 0
blocks_left d (b ∷ bs) = cond (nat_le d b.last) 1 0 + blocks_left d bs

left-here : (d : ℕ) (b : Block) (bs : List Block) → d ≤ b.last → blocks_left d (b ∷ bs) ≡ 1 + blocks_left d bs
unfolding blocks_left
left-here d b bs l = let is : nat_le d b.last ≡ true = le-leb d b.last l in rw is refl

left-past : (d : ℕ) (b : Block) (bs : List Block) → b.last < d → blocks_left d (b ∷ bs) ≡ blocks_left d bs
unfolding blocks_left
left-past d b bs l = let is : nat_le d b.last ≡ false = lt-leb d b.last l in rw is (omega arith)

left-none : (d : ℕ) → blocks_left d [] ≡ 0
unfolding blocks_left
left-none d = refl

pub left-fewer : (d e : ℕ) (bs : List Block) → d ≤ e → blocks_left e bs ≤ blocks_left d bs
left-fewer d e [] h = omega (arith, left-none d, left-none e)
left-fewer d e (b ∷ bs) h = elim (cases_lt b.last d) [
  | inl past ↦ omega (arith, left-past d b bs past, left-past e b bs (omega arith), left-fewer d e bs h)
  | inr here ↦ elim (cases_lt b.last e) [
    | inl over ↦ omega (arith, left-here d b bs here, left-past e b bs over, left-fewer d e bs h)
    | inr too ↦ omega (arith, left-here d b bs here, left-here e b bs too, left-fewer d e bs h)
  ]
]

pub left-length : (d : ℕ) (bs : List Block) → blocks_left d bs ≤ length bs
left-length d [] = omega (arith, left-none d)
left-length d (b ∷ bs) = elim (cases_lt b.last d) [
  | inl past ↦ omega (arith, left-past d b bs past, left-length d bs)
  | inr here ↦ omega (arith, left-here d b bs here, left-length d bs)
]

end-here : (d : ℕ) (b : Block) (bs : List Block) → d ≤ b.last → end_at d (b ∷ bs) ≡ b.last
unfolding end_at
end-here d b bs l = let is : nat_le d b.last ≡ true = le-leb d b.last l in rw is refl

end-past : (d : ℕ) (b : Block) (bs : List Block) → b.last < d → end_at d (b ∷ bs) ≡ end_at d bs
unfolding end_at
end-past d b bs l = let is : nat_le d b.last ≡ false = lt-leb d b.last l in rw is refl

end-none : (d : ℕ) → end_at d [] ≡ TERMINATED
unfolding end_at
end-none d = refl

-- past a block's end it is one less
pub left-passed : (d e : ℕ) (bs : List Block) → d ≤ e → end_at d bs < e → e < TERMINATED → blocks_left e bs + 1 ≤ blocks_left d bs
left-passed d e [] h k l = absurd (omega (arith, end-none d))
left-passed d e (b ∷ bs) h k l = elim (cases_lt b.last d) [
  | inl past ↦ omega (arith, left-past d b bs past, left-past e b bs (omega arith), left-passed d e bs h (omega (arith, k, end-past d b bs past)) l)
  | inr here ↦ omega (arith, left-here d b bs here, left-past e b bs (omega (arith, k, end-here d b bs here)), left-fewer d e bs h)
]

pub left-one : (d b : ℕ) (bs : List Block) (x : Block) → b < length bs → d ≤ (get_or bs b x).last → 0 < blocks_left d bs
left-one d b [] x l h = absurd (omega arith)
left-one d zero (y ∷ bs) x l h = omega (arith, left-here d y bs h)
left-one d (suc b) (y ∷ bs) x l h =
    let rest = left-one d b bs x (omega arith) h in
    elim (cases_lt y.last d) [ inl past ↦ omega (arith, left-past d y bs past, rest) | inr here ↦ omega (arith, left-here d y bs here) ]

-- where a scorer has documents its last block ends at the end
pub some_left : {N : Type 0} {G : NormGhosts N} (s : TermScorer N G) → IsTermScorer s → head_document (scored_left s) < TERMINATED → (d : ℕ) → d < TERMINATED → 0 < blocks_left d (scored_blocks s)
unfolding scored_blocks
some_left s h here d below =
    let p = s.postings in
    let a = p.arrays in
    let inside : p.cursor < length a.documents.now = elim (cases_lt p.cursor (length a.documents.now)) [
      | inl l ↦ l
      | inr past ↦ absurd (omega (arith, head_end p h.postings past, scored-document s, here))
    ] in
    let f = scored_by s.similarity_weight s.fieldnorm_reader in
    let used : 0 < length a.blocks.now = omega (
      arith,
      infos_count p.reading a h.postings.arrays,
      block_of_place p.cursor (length a.documents.now) a.block_len h.postings.arrays.block_len inside,
    ) in
    let b = length a.blocks.now - 1 in
    let long : length (postings_blocks p) ≡ length a.blocks.now = blocks_count p.reading a h.postings.arrays
    ∙ sym (infos_count p.reading a h.postings.arrays) in
    let end = ends_at_end p.reading a h.postings.arrays b no_postings_block (omega arith) (omega arith) in
    let last = ap (λ (x : Block). x.last) (get_or-map f (postings_blocks p) b no_postings_block (f no_postings_block) (omega (arith, long))) in
    left-one d b (map f (postings_blocks p)) (f no_postings_block) (omega (arith, length-map (postings_blocks p) f, long)) (omega (arith, last, end))

-- ---- each block has a document

head_from : (t : ℕ) (es : List Entry) → t ≤ head_document es → t ≤ TERMINATED → head_document (from t es) ≡ head_document es
head_from t [] h end = ap head_document (from-nil t)
head_from t (e ∷ es) h end = ap head_document (from-keep t e es h)

-- behind the last document of a block, that is not the last, stands the first one of the next
module _ (p : SegmentPostings) (h : IsPostings p) (b : ℕ) (inside : b < length p.arrays.blocks.now)
    (below : end_of p.arrays.block_len p.arrays.documents.now b < TERMINATED)
    (started : p.cursor < length p.arrays.documents.now) (reached : head_document (postings_left p) ≤ end_of p.arrays.block_len p.arrays.documents.now b) where
  abbrev docs : List ℕ
  docs = p.arrays.documents.now

  abbrev bl : ℕ
  bl = p.arrays.block_len

  abbrev end : ℕ
  end = end_of bl docs b

  abbrev place : ℕ
  place = (b + 1) * bl

  more : place < length docs
  more = elim (cases_lt place (length docs)) [ inl l ↦ l | inr past ↦ absurd (omega (arith, end_last bl docs b past, below)) ]

  long : bl ≤ place
  long = omega (arith, more_block b bl)

  last_here : end ≡ get_or docs (place - 1) 0
  last_here = end_inside bl docs b more

  behind : end < get_or docs place 0
  behind = omega (arith, last_here, rises_strictly docs h.arrays.documents (place - 1) place (omega (arith, long, h.arrays.block_len)) more)

  from_cursor : p.cursor ≤ place
  from_cursor = elim (cases_lt place p.cursor) [
    | inl past ↦ absurd (omega (
      arith,
      rises_strictly docs h.arrays.documents (place - 1) p.cursor (omega arith) started,
      last_here,
      head_here p h started,
      reached,
    ))
    | inr before ↦ before
  ]

  passed : (k : ℕ) → p.cursor ≤ k → k < p.cursor + (place - p.cursor) → get_or docs k 0 < suc end
  passed k up lt = omega (arith, rises docs h.arrays.documents.ascending k (place - 1) (omega (arith, from_cursor)) (omega (arith, more)), last_here)

  -- the document behind it
  next_document : head_document (from (suc end) (postings_left p)) ≡ get_or docs place 0
  next_document =
      let es = stored p.reading p.arrays in
      let on : p.cursor + (place - p.cursor) ≡ place = omega (arith, from_cursor) in
      let there : head_document (drop place es) ≡ get_or docs place 0 = document_at place es docs 0 (named p) more in
      ap head_document (sym (from_behind (suc end) p.cursor (place - p.cursor) es docs (named p) (omega (arith, below)) (omega (arith, on, more)) passed))
      ∙ ap (λ n. head_document (from (suc end) (drop n es))) on
      ∙ head_from (suc end) (drop place es) (omega (arith, there, behind)) (omega (arith, below)) ∙ there

  next_below : get_or docs place 0 < TERMINATED
  next_below = h.arrays.documents.below_end place 0 more

  small : b + 1 < length p.arrays.blocks.now
  small = omega (arith, infos_count p.reading p.arrays h.arrays, block_of_start (b + 1) (length docs) bl h.arrays.block_len more)

  next_reached : get_or docs place 0 ≤ end_of bl docs (b + 1)
  next_reached =
      end_reaches bl docs h.arrays.documents h.arrays.block_len (b + 1) place more (omega (arith, more_block (b + 1) bl, h.arrays.block_len))

  -- is in the block that is the first to end behind it
  next_block : (block_at (suc end) (postings_blocks p)).last ≡ end_of bl docs (b + 1)
  next_block =
      let found = first_at (suc end) (b + 1) (postings_blocks p) no_postings_block
      (omega (arith, small, blocks_count p.reading p.arrays h.arrays, infos_count p.reading p.arrays h.arrays))
      (omega (arith, block_last p.reading p.arrays h.arrays (b + 1) no_postings_block small, next_reached, behind))
      (λ k lt. omega (
        arith,
        ends_rise p.reading p.arrays h.arrays k b no_postings_block (omega arith) inside,
        block_last p.reading p.arrays h.arrays b no_postings_block inside,
      )) in
      ap (λ (x : PostingsBlock). x.last) found ∙ block_last p.reading p.arrays h.arrays (b + 1) no_postings_block small

  next_within : get_or docs place 0 ≤ (block_at (suc end) (postings_blocks p)).last
  next_within = omega (arith, next_block, next_reached)

-- a block that ends before the end has a number
place_of_end : (d : ℕ) (bs : List Block) → end_at d bs < TERMINATED → (b : ℕ) × (b < length bs) × ((x : Block) → (get_or bs b x).last ≡ end_at d bs)
place_of_end d [] h = absurd (omega (arith, end-none d))
place_of_end d (b ∷ bs) h = elim (cases_lt b.last d) [
  | inl past ↦
      let rest = place_of_end d bs (omega (arith, h, end-past d b bs past)) in
      (suc rest.0, omega (arith, rest.1), λ x. rest.2 x ∙ sym (end-past d b bs past))
  | inr here ↦ (0, omega arith, λ x. sym (end-here d b bs here))
]

pub fills-member : {N : Type 0} {G : NormGhosts N} (s : TermScorer N G) → IsTermScorer s → FillsBlocks (member_of s)
unfolding member_of scored_blocks
fills-member s h = λ end reach below stop.
    let p = s.postings in
    let a = p.arrays in
    let f = scored_by s.similarity_weight s.fieldnorm_reader in
    let bs : List Block = map f (postings_blocks p) in
    let head_is : head_document (scored_left s) ≡ head_document (postings_left p) = scored-document s in
    let started : p.cursor < length a.documents.now = elim (cases_lt p.cursor (length a.documents.now)) [
      | inl l ↦ l
      | inr past ↦ absurd (omega (arith, head_end p h.postings past, head_is, reach, below))
    ] in
    let at = place_of_end end bs (omega (arith, stop, below)) in
    let b = at.0 in
    let inside : b < length a.blocks.now =
    omega (arith, at.1, length-map (postings_blocks p) f, blocks_count p.reading a h.postings.arrays, infos_count p.reading a h.postings.arrays) in
    let same : (get_or bs b (f no_postings_block)).last ≡ (get_or (postings_blocks p) b no_postings_block).last =
    ap (λ (x : Block). x.last) (get_or-map f (postings_blocks p) b no_postings_block (f no_postings_block)
    (omega (arith, at.1, length-map (postings_blocks p) f))) in
    let is : end_of a.block_len a.documents.now b ≡ end =
    sym (block_last p.reading a h.postings.arrays b no_postings_block inside) ∙ sym same ∙ at.2 (f no_postings_block) ∙ stop in
    let under : end_of a.block_len a.documents.now b < TERMINATED = omega (arith, is, below) in
    let reached : head_document (postings_left p) ≤ end_of a.block_len a.documents.now b = omega (arith, is, head_is, reach) in
    let t : suc (end_of a.block_len a.documents.now b) ≡ suc end = ap suc is in
    let document : head_document (from (suc end) (scored_left s)) ≡ get_or a.documents.now ((b + 1) * a.block_len) 0 =
    ap head_document (from-rescored _ (suc end) (postings_left p)) ∙ head_document-rescored _ (from (suc end) (postings_left p))
    ∙ ap (λ n. head_document (from n (postings_left p))) (sym t) ∙ next_document p h.postings b inside under started reached in
    let block : end_at (suc end) bs ≡ (block_at (suc (end_of a.block_len a.documents.now b)) (postings_blocks p)).last =
    (scored_at (weighing s.similarity_weight) (is_made_constant s.fieldnorm_reader) (norm_ids s.fieldnorm_reader) (suc end) (postings_blocks p)).0
    ∙ ap (λ n. (block_at n (postings_blocks p)).last) (sym t) in (
      omega (arith, document, next_below p h.postings b inside under started reached),
      omega (arith, document, block, next_within p h.postings b inside under started reached),
    )

pub fills_bounded : {N : Type 0} {G : NormGhosts N} (s : TermScorerWithMaxScore N G) → IsRunScorer s → FillsBlocks (wand_member s)
unfolding wand_member
fills_bounded s h = fills-member s.scorer h.valid
