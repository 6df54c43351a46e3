-- The bound of the block that a scorer looks at bounds each score in it.
use Rattle.std.proofs.Common.{◌≡◌, ℕ, ◌+◌, ◌*◌, ◌/◌, ◌<◌, ◌≤◌, get_or, length, max, sym, ap, ◌∙◌, arith, inl, inr}
use Rattle.std.specs.Prelude.{All}
use Rattle.std.proofs.Math.Nat.{mul-le-mul_right}
use Rattle.std.proofs.lemmas.Bool.{cases_lt}
use Rattle.std.proofs.lemmas.List.{get_or-map}
use Rattle.std.proofs.lemmas.List.Elements.{All-drop, All-map}
use Rattle.qm_combine.specs.Rescored.{rescored}
use Rattle.qm_docset.proofs.PlacesLeft.{none_left}
use Rattle.qm_docset.specs.Entry.{Entry}
use Rattle.qm_postings.proofs.BlockLemmas.{block_here, block_last, block_of_place, block_start, end_before, end_reaches, infos_count, looked_inside, looked_within}
use Rattle.qm_postings.proofs.BlockLemmas.{more_block}
use Rattle.qm_postings.proofs.PostingsLeft.{named}
use Rattle.qm_postings.specs.Blocks.{Block as PostingsBlock, block_at, no_block}
use Rattle.qm_postings.specs.FieldNorms.{is_made_constant, norm_ids}
use Rattle.qm_postings.specs.Frequencies.{listed}
use Rattle.qm_postings.specs.SegmentPostings.{IsPostings, looked_block, looked_number, postings_blocks, postings_left}
use Rattle.qm_postings.proofs.ArrayEntries.{length-stored}
use Rattle.qm_postings.specs.TermArrays.{stored}
use Rattle.qm_postings.specs.declared.segment_postings.SegmentPostings.{SegmentPostings}
use Rattle.qm_term.specs.Bm25.{bm25}
use Rattle.qm_term.specs.Bm25Weight.{weighing}
use Rattle.qm_term.specs.Members.{bound_at, end_at}
use Rattle.qm_term.specs.TermBlocks.{scored_looked}
use Rattle.qm_term.specs.TermScorer.{IsTermScorer, scored_by, scored_blocks, scored_left}
use Rattle.qm_term.specs.declared.norms.Norms.{Ghosts as NormGhosts}
use Rattle.qm_term.specs.declared.term_scorer.TermScorer.{TermScorer}
use Rattle.qm_term.proofs.WandMembers.{scored_at, scores_bounded}

module _ (p : SegmentPostings) (h : IsPostings p) where
  abbrev count : ℕ
  count = length p.arrays.blocks.now

  abbrev block : ℕ → PostingsBlock
  block b = get_or (postings_blocks p) b no_block

  -- the block of a document has a number
  abbrev HasBlock : Entry → Type 0
  HasBlock e = (b : ℕ) × (b < count) × (block_at e.document (postings_blocks p) ≡ block b)

  has_blocks : All HasBlock (postings_left p)
  has_blocks = All-drop HasBlock p.cursor (stored p.reading p.arrays) (λ n d l.
      let ds = p.arrays.documents.now in
      let es = stored p.reading p.arrays in
      let inside : n < length ds = omega (arith, length-stored p.reading ds (listed p.arrays.frequencies) p.arrays.positions.now) in
      let small : n / p.arrays.block_len < count =
      omega (arith, infos_count p.reading p.arrays h.arrays, block_of_place n (length ds) p.arrays.block_len h.arrays.block_len inside) in
      let document : (get_or es n d).document ≡ get_or ds n 0 = sym (get_or-map (λ (e : Entry). e.document) es n d 0 l)
      ∙ ap (λ xs. get_or xs n 0) (named p) in
      let at : max 0 (get_or ds n 0) ≡ (get_or es n d).document = omega (arith, document) in (
        n / p.arrays.block_len,
        small,
        ap (λ x. block_at x (postings_blocks p)) (sym at) ∙ block_here p.reading p.arrays h.arrays n no_block inside,
      ))

  -- blocks end one behind the other
  ends_apart : (a b : ℕ) → a < b → b < count → (block a).last < (block b).last
  ends_apart a b less l =
      let n = length p.arrays.documents.now in
      let bl = p.arrays.block_len in
      let ds = p.arrays.documents.now in
      let start = b * bl in
      let inside : start < n = block_start b n bl h.arrays.block_len (omega (arith, infos_count p.reading p.arrays h.arrays, l)) in
      let up : (a + 1) * bl ≤ start = mul-le-mul_right bl (omega arith) in
      omega (
        arith,
        block_last p.reading p.arrays h.arrays a no_block (omega arith),
        block_last p.reading p.arrays h.arrays b no_block l,
        end_before bl ds h.arrays.documents h.arrays.block_len a start inside up,
        end_reaches bl ds h.arrays.documents h.arrays.block_len b start inside (omega (arith, more_block b bl, h.arrays.block_len)),
      )

  -- so that two with one end are one
  same_number : (a b : ℕ) → a < count → b < count → (block a).last ≡ (block b).last → a ≡ b
  same_number a b k l same = elim (cases_lt a b) [
    | inl less ↦ absurd (omega (arith, ends_apart a b less l, same))
    | inr more ↦ elim (cases_lt b a) [
      | inl past ↦ absurd (omega (arith, ends_apart b a past k, same))
      | inr here ↦ omega arith
    ]
  ]

  -- a document whose block ends where the block looked at does is in the block looked at
  pub in_looked : p.cursor < length p.arrays.documents.now → (e : Entry) → HasBlock e →
      (block_at e.document (postings_blocks p)).last ≡ (looked_block p).last → block_at e.document (postings_blocks p) ≡ looked_block p
  in_looked inside e has same =
      let looked : looked_block p ≡ block (looked_number p) = looked_inside p inside in
      let ends : (block has.0).last ≡ (block (looked_number p)).last =
      ap (λ (b : PostingsBlock). b.last) (sym has.2) ∙ same ∙ ap (λ (b : PostingsBlock). b.last) looked in
      has.2 ∙ ap block (same_number has.0 (looked_number p) has.1 (looked_within p h inside) ends) ∙ sym looked

module _ {N : Type 0} {G : NormGhosts N} (s : TermScorer N G) (h : IsTermScorer s) where
  abbrev of_looked : Entry → Type 0
  of_looked e = end_at e.document (scored_blocks s) ≡ (scored_looked s).last → bound_at e.document (scored_blocks s) ≡ (scored_looked s).bound

  looked_alike : All of_looked (scored_left s)
  unfolding rescored scored_blocks scored_looked
  looked_alike =
      let p = s.postings in
      let f = scored_by s.similarity_weight s.fieldnorm_reader in
      let w = weighing s.similarity_weight in
      let ids = norm_ids s.fieldnorm_reader in
      All-map of_looked (λ e. record e { score = bm25 w (get_or ids e.document 0) e.frequency }) (postings_left p)
      (λ k d l same.
      let e = get_or (postings_left p) k d in
      let inside : p.cursor < length p.arrays.documents.now = elim (cases_lt p.cursor (length p.arrays.documents.now)) [
        | inl less ↦ less
        | inr past ↦ absurd (omega (arith, l, ap length (none_left p.cursor (stored p.reading p.arrays) p.arrays.documents.now (named p) past)))
      ] in
      let at = scored_at w (is_made_constant s.fieldnorm_reader) ids e.document (postings_blocks p) in
      let one = in_looked p h.postings inside e (has_blocks p h.postings k d l) (sym at.0 ∙ same) in
      at.1 ∙ ap (λ (b : PostingsBlock). (f b).bound) one)

  -- no score in the block looked at is above its bound
  pub looked_bounded : All (λ (e : Entry). end_at e.document (scored_blocks s) ≡ (scored_looked s).last → e.score ≤ (scored_looked s).bound) (scored_left s)
  looked_bounded = λ k d l same. omega (arith, scores_bounded s h k d l, looked_alike k d l same)
