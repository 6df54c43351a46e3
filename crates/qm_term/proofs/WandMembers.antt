-- What a pruned run sees of a term's scorer: no score is above the bound of its block, and no bound above
-- the greatest score.
use Rattle.std.proofs.Common.{◌≡◌, ℕ, zero, suc, ◌<◌, ◌≤◌, Bool, true, false, cond, List, [], ◌∷◌, length, map, get_or, replicate, drop, max, sym, ap, refl}
use Rattle.std.proofs.Common.{◌∙◌, arith, inl, inr, ◌⊎◌}
use Rattle.std.specs.Prelude.{All, nat_le, nat_lt}
use Rattle.std.proofs.lemmas.Bool.{cases_Bool, cases_lt, le-leb, lt-leb, false≢true}
use Rattle.std.proofs.lemmas.List.Elements.{All-map}
use Rattle.std.proofs.Math.Nat.{mul-zero}
use Rattle.qm_combine.specs.Rescored.{rescored}
use Rattle.qm_docset.specs.Entry.{Entry, from, greatest_score, head_document, head_score}
use Rattle.qm_docset.specs.declared.numbers.TheConstants.{TERMINATED}
use Rattle.qm_postings.proofs.BlockFrequencies.{within_blocks}
use Rattle.qm_postings.proofs.BlockLemmas.{head_below, head_end, looked_outside}
use Rattle.qm_postings.specs.declared.segment_postings.SegmentPostings.{SegmentPostings}
use Rattle.qm_postings.specs.Blocks.{Block as PostingsBlock, block_at, looked_at as postings_looked_at, no_block as no_postings_block}
use Rattle.qm_postings.specs.FieldNorms.{is_made_constant, norm_ids}
use Rattle.qm_postings.specs.LengthIds.{ids_in, is_one}
use Rattle.qm_postings.specs.SegmentPostings.{IsPostings, looked_block, postings_blocks, postings_left}
use Rattle.qm_postings.specs.declared.fieldnorm.Ids.{Ids}
use Rattle.qm_postings.specs.declared.fieldnorm.Ids.TheVariants.{Constant, Each}
use Rattle.qm_term.specs.Bm25.{Weighing, bm25}
use Rattle.qm_term.specs.Bm25Facts.{bm25-falls, bm25-le, bm25-rises}
use Rattle.qm_term.specs.Bm25Weight.{weighing}
use Rattle.qm_term.specs.Members.{Block, IsMember, bound_at, end_at}
use Rattle.qm_term.specs.Pivot.{cut, head, looked_at, next, no_block, block_at as member_block_at}
use Rattle.qm_term.specs.TermBlocks.{member_of, scored_looked, scored_looked_at}
use Rattle.qm_term.specs.TermScorer.{scored_block, scored_by, scored_blocks, IsTermScorer, scored_left, scored_limits}
use Rattle.qm_term.specs.TermScorerFacts.{AreEntries-scored, scored-document}
use Rattle.qm_term.specs.declared.norms.Norms.{Ghosts as NormGhosts}
use Rattle.qm_term.specs.declared.term_scorer.TermScorer.{TermScorer}

-- ---- blocks

no_frequency : (w : Weighing) (id : ℕ) → bm25 w id 0 ≡ 0
no_frequency w id = mul-zero w.boost

module _ (w : Weighing) (constant : Bool) (ids : List ℕ) where
  abbrev f : PostingsBlock → Block
  f = scored_block w constant ids

  -- the block of a document, scored, is that of the scored blocks
  pub scored_at : (d : ℕ) (bs : List PostingsBlock) → (end_at d (map f bs) ≡ (f (block_at d bs)).last) × (bound_at d (map f bs) ≡ (f (block_at d bs)).bound)
  unfolding end_at bound_at block_at
  scored_at d [] = (refl, sym (no_frequency w (cond constant (get_or ids 0 0) 0)))
  scored_at d (b ∷ bs) =
      let rest = scored_at d bs in
      elim (cases_lt b.last d) [
        | inl past ↦ let is : nat_le d b.last ≡ false = lt-leb d b.last past in rw is rest
        | inr here ↦ let is : nat_le d b.last ≡ true = le-leb d b.last here in rw is (refl, refl)
      ]

  pub scored_looks : (t d : ℕ) (bs : List PostingsBlock) →
      f (postings_looked_at t d bs) ≡ cond (nat_lt d TERMINATED) (member_block_at (max t d) (map f bs)) no_block
  unfolding postings_looked_at
  scored_looks t d bs =
      let at = scored_at (max t d) bs in
      let block : f (block_at (max t d) bs) ≡ member_block_at (max t d) (map f bs) = λ i. record { last = sym at.0 i; bound = sym at.1 i } in
      let none : f no_postings_block ≡ no_block = λ i. record { last = TERMINATED; bound = no_frequency w (cond constant (get_or ids 0 0) 0) i } in
      elim (nat_lt d TERMINATED) as (λ b. f (cond b (block_at (max t d) bs) no_postings_block)
      ≡ cond b (member_block_at (max t d) (map f bs)) no_block) [ true ↦ block | false ↦ none ]

-- ---- one id for all

one_id : (ids : Ids) (d : ℕ) → is_one ids ≡ true → d < length (ids_in ids) → get_or (ids_in ids) 0 0 ≡ get_or (ids_in ids) d 0
one_id (Constant n id) d one l = alike n d l
  where
    at : (n d : ℕ) → d < length (replicate n id) → get_or (replicate n id) d 0 ≡ id
    at zero d l = absurd (omega arith)
    at (suc n) zero l = refl
    at (suc n) (suc d) l = at n d (omega arith)

    alike : (n d : ℕ) → d < length (replicate n id) → get_or (replicate n id) 0 0 ≡ get_or (replicate n id) d 0
    alike n d l = at n 0 (omega arith) ∙ sym (at n d l)
one_id (Each ids) d one l = absurd (false≢true one)

-- ---- the law

module _ {N : Type 0} {G : NormGhosts N} (s : TermScorer N G) (h : IsTermScorer s) where
  abbrev w : Weighing
  w = weighing s.similarity_weight

  abbrev ids : List ℕ
  ids = norm_ids s.fieldnorm_reader

  abbrev constant : Bool
  constant = is_made_constant s.fieldnorm_reader

  -- the id that bounds a block is at most that of each of its documents
  id_le : (e : Entry) → e.document < length ids → (block_at e.document (postings_blocks s.postings)).least_id ≤ get_or ids e.document 0 ⊎ (constant ≡ true) →
      cond constant (get_or ids 0 0) (block_at e.document (postings_blocks s.postings)).least_id ≤ get_or ids e.document 0
  id_le e covered least = elim (cases_Bool constant) [
    | inl one ↦ rw one (omega (arith, one_id s.fieldnorm_reader.ids e.document one covered))
    | inr each ↦ rw each (elim least [ inl l ↦ l | inr one ↦ absurd (false≢true (sym each ∙ one)) ])
  ]

  score_le : (e : Entry) → e.document < length ids → (block_at e.document (postings_blocks s.postings)).least_id ≤ get_or ids e.document 0 ⊎ (constant ≡ true) →
      e.frequency ≤ (block_at e.document (postings_blocks s.postings)).most
      → bm25 w (get_or ids e.document 0) e.frequency ≤ bound_at e.document (scored_blocks s)
  unfolding scored_blocks
  score_le e covered least most =
      let b = block_at e.document (postings_blocks s.postings) in
      let id = cond constant (get_or ids 0 0) b.least_id in
      let small = s.fieldnorm_reader.bytes e.document 0 covered in
      let up = bm25-rises w (get_or ids e.document 0) e.frequency b.most most in
      let down = bm25-falls w id (get_or ids e.document 0) b.most s.similarity_weight.ascending
      (id_le e covered least) (omega (arith, small, s.similarity_weight.many)) in
      omega (arith, up, down, (scored_at w constant ids e.document (postings_blocks s.postings)).1)

  pub scores_bounded : All (λ (e : Entry). e.score ≤ bound_at e.document (scored_blocks s)) (scored_left s)
  unfolding rescored
  scores_bounded =
      All-map (λ (e : Entry). e.score ≤ bound_at e.document (scored_blocks s))
      (λ e. record e { score = bm25 w (get_or ids e.document 0) e.frequency }) (postings_left s.postings)
      (λ k d l. score_le (get_or (postings_left s.postings) k d) (h.covered k d l)
      (elim h.bounded [ inl one ↦ inr one | inr each ↦ inl (each k d l) ])
      (within_blocks s.postings h.postings k d l))

  pub IsMember-scorer : IsMember (member_of s)
  unfolding member_of scored_blocks
  IsMember-scorer = record {
    limits = scored_limits s;
    entries = AreEntries-scored s h;
    bounded = scores_bounded;
    bounds = λ d. omega (
      arith,
      (scored_at w constant ids d (postings_blocks s.postings)).1,
      bm25-le w (cond constant (get_or ids 0 0) (block_at d (postings_blocks s.postings)).least_id) (block_at d (postings_blocks s.postings)).most,
    );
  }

-- ---- what calls leave

pub head-member : {N : Type 0} {G : NormGhosts N} (s : TermScorer N G) → head (member_of s) ≡ head_document (scored_left s)
unfolding member_of
head-member s = refl

pub score-member : {N : Type 0} {G : NormGhosts N} (s : TermScorer N G) → head_score (member_of s).entries ≡ head_score (scored_left s)
unfolding member_of
score-member s = refl

pub top-member : {N : Type 0} {G : NormGhosts N} (s : TermScorer N G) → (member_of s).top ≡ (scored_limits s).top
unfolding member_of
top-member s = refl

pub looks-member : {N : Type 0} {G : NormGhosts N} (t : ℕ) (s : TermScorer N G) → scored_looked_at t s ≡ looked_at t (member_of s)
unfolding member_of scored_blocks
looks-member t s =
    scored_looks (weighing s.similarity_weight) (is_made_constant s.fieldnorm_reader)
    (norm_ids s.fieldnorm_reader) t (head_document (postings_left s.postings)) (postings_blocks s.postings)
    ∙ ap (λ d. cond (nat_lt d TERMINATED) (member_block_at (max t d) (map (scored_by s.similarity_weight s.fieldnorm_reader) (postings_blocks s.postings)))
    no_block) (sym (scored-document s))

module _ {N : Type 0} {G : NormGhosts N} (s n : TermScorer N G) (blocks : scored_blocks n ≡ scored_blocks s) (limits : scored_limits n ≡ scored_limits s) where
  same : (es : List Entry) → scored_left n ≡ es → member_of n ≡ record { entries = es; blocks = scored_blocks s; top = (scored_limits s).top }
  unfolding member_of
  same es left = λ i. record { entries = left i; blocks = blocks i; top = (limits i).top }

  pub next-member : scored_left n ≡ drop 1 (scored_left s) → member_of n ≡ next (member_of s)
  unfolding member_of
  next-member left = same (drop 1 (scored_left s)) left

  pub cut-member : (t : ℕ) → scored_left n ≡ from t (scored_left s) → member_of n ≡ cut t (member_of s)
  unfolding member_of
  cut-member t left = same (from t (scored_left s)) left

  pub same-member : scored_left n ≡ scored_left s → member_of n ≡ member_of s
  unfolding member_of
  same-member left = same (scored_left s) left

-- ---- at the end

pub head_or_end : (s : SegmentPostings) → IsPostings s → (head_document (postings_left s) ≡ TERMINATED) ⊎ (head_document (postings_left s) < TERMINATED)
head_or_end s h = elim (cases_lt s.cursor (length s.arrays.documents.now)) [ inl inside ↦ inr (head_below s h inside) | inr past ↦ inl (head_end s h past) ]

pub looked_end : (s : SegmentPostings) → IsPostings s → head_document (postings_left s) ≡ TERMINATED → looked_block s ≡ no_postings_block
looked_end s h end = elim (cases_lt s.cursor (length s.arrays.documents.now)) [
  | inl inside ↦ absurd (omega (arith, head_below s h inside, end))
  | inr past ↦ looked_outside s past
]

pub bound_end : {N : Type 0} {G : NormGhosts N} (s : TermScorer N G) → IsTermScorer s → head_document (postings_left s.postings) ≡ TERMINATED → (scored_looked s).bound ≡ 0
unfolding scored_looked
bound_end s h end =
    ap (λ b. (scored_by s.similarity_weight s.fieldnorm_reader b).bound) (looked_end s.postings h.postings end)
    ∙ no_frequency (weighing s.similarity_weight) (cond (is_made_constant s.fieldnorm_reader) (get_or (norm_ids s.fieldnorm_reader) 0 0) 0)

pub top_small : {N : Type 0} {G : NormGhosts N} (s : TermScorer N G) → (scored_limits s).top ≤ greatest_score
top_small s = s.similarity_weight.fits
