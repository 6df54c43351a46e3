-- How many blocks a run over one list passes.
use Rattle.std.proofs.Common.{◌≡◌, ℕ, ℤ, zero, suc, ◌+◌, ◌<◌, ◌≤◌, ◌<ℤ◌, ◌≤ℤ◌, true, false, cond, List, [], ◌∷◌, ◌++◌, length, replicate, refl, sym, ap, ◌∙◌}
use Rattle.std.proofs.Common.{arith, inl, inr, length-append, min, pos, subst}
use lib.Signed.{clash_ℤ, lt_z}
use Rattle.std.proofs.lemmas.Bool.{cases_lt, cond_both, le-ltb, lt-ltb}
use Rattle.std.proofs.lemmas.List.{append-nil, length-replicate}
use Rattle.qm_combine.proofs.TakenIn.{from-ended}
use Rattle.qm_docset.specs.declared.numbers.TheConstants.{TERMINATED}
use Rattle.qm_term.specs.RunCounts.{blocks_passed, ends_block, one_if_low}
use Rattle.qm_term.specs.Members.{Block, IsMember, Member, bound_at, end_at}
use Rattle.qm_term.specs.Pivot.{head}
use Rattle.qm_term.specs.SingleRun.{PassesBlocks}
use Rattle.qm_term.proofs.BlocksLeft.{blocks_left, left-fewer, left-length, left-passed}
use Rattle.qm_term.proofs.RunRows.{same_end}
use Rattle.qm_term.proofs.WandBounds.{end_at_le, low_le, same_block}
use Rattle.qm_term.proofs.WandPlain.{above_from_test, below_from_test}
use Rattle.qm_docset.specs.Entry.{AreEntries, Entry, Limits, below, from, head_document}
use Rattle.qm_docset.specs.EntryFacts.{AreEntries-from, AreEntries-low, from-all, from-from, from-keep, from-nil, from-reached, from-skip}
use Rattle.qm_term.proofs.WandScores.{Each, below-from}
use Rattle.qm_docset.specs.BelowFacts.{below-keep, below-nil, below-none, below-skip}

-- ---- a bound at a threshold

low_one : (th : ℤ) (n : ℕ) → pos n ≤ℤ th → one_if_low th n ≡ 1
low_one th n h = cond_both (lt_z th (pos n)) 0 1 (λ k. k ≡ 1) (λ t. absurd (clash_ℤ (above_from_test th (pos n) t) h)) (λ _. refl)

high_none : (th : ℤ) (n : ℕ) → th <ℤ pos n → one_if_low th n ≡ 0
high_none th n h = cond_both (lt_z th (pos n)) 0 1 (λ k. k ≡ 0) (λ _. refl) (λ t. absurd (clash_ℤ h (below_from_test th (pos n) t)))

low_at_most : (th : ℤ) (n : ℕ) → one_if_low th n ≤ 1
low_at_most th n = cond_both (lt_z th (pos n)) 0 1 (λ k. k ≤ 1) (λ _. omega arith) (λ _. omega arith)

-- ---- one document

-- 1 where a document is the last of a block that is passed
abbrev here : List Block → ℤ → Entry → List Entry → ℕ
here bs t e l = cond (ends_block bs e l) (one_if_low t (bound_at e.document bs)) 0

pub passed-cons : (bs : List Block) (t : ℤ) (ths : List ℤ) (e : Entry) (l : List Entry) →
    blocks_passed bs (t ∷ ths) (e ∷ l) ≡ cond (ends_block bs e l) (one_if_low t (bound_at e.document bs)) 0 + blocks_passed bs ths l
unfolding blocks_passed
passed-cons bs t ths e l = refl

passed-nil : (bs : List Block) (ths : List ℤ) → blocks_passed bs ths [] ≡ 0
unfolding blocks_passed
passed-nil bs [] = refl
passed-nil bs (t ∷ ths) = refl

pub passed-none : (bs : List Block) (l : List Entry) → blocks_passed bs [] l ≡ 0
unfolding blocks_passed
passed-none bs l = refl

here_at_most : (bs : List Block) (t : ℤ) (e : Entry) (l : List Entry) → here bs t e l ≤ 1
here_at_most bs t e l =
    cond_both (ends_block bs e l) (one_if_low t (bound_at e.document bs)) 0 (λ k. k ≤ 1) (λ _. low_at_most t (bound_at e.document bs)) (λ _. omega arith)

-- no block is passed at a document that is scored
pub passed-scored : (bs : List Block) (th : ℤ) (ths : List ℤ) (e : Entry) (l : List Entry) → th <ℤ pos (bound_at e.document bs) →
    blocks_passed bs (th ∷ ths) (e ∷ l) ≡ blocks_passed bs ths l
passed-scored bs th ths e l above =
    let none : here bs th e l ≡ 0 = cond_both (ends_block bs e l) (one_if_low th (bound_at e.document bs)) 0 (λ k. k ≡ 0)
    (λ _. high_none th (bound_at e.document bs) above) (λ _. refl) in
    omega (arith, passed-cons bs th ths e l, none)

-- and none where all are scored
pub passed-high : (bs : List Block) (th : ℤ) (l m : List Entry) (ths : List ℤ) → Each (λ e. th <ℤ pos (bound_at e.document bs)) l →
    blocks_passed bs (replicate (length l) th ++ ths) (l ++ m) ≡ blocks_passed bs ths m
passed-high bs th [] m ths h = refl
passed-high bs th (e ∷ l) m ths h = passed-scored bs th (replicate (length l) th ++ ths) e (l ++ m) h.0 ∙ passed-high bs th l m ths h.1

-- no more than thresholds
passed_few : (bs : List Block) (ths : List ℤ) (l : List Entry) → blocks_passed bs ths l ≤ length ths
passed_few bs [] l = omega (arith, passed-none bs l)
passed_few bs (t ∷ ths) [] = omega (arith, passed-nil bs (t ∷ ths))
passed_few bs (t ∷ ths) (e ∷ l) = omega (arith, passed-cons bs t ths e l, here_at_most bs t e l, passed_few bs ths l)

-- no more than there are blocks from the first document's on
passed_left : (bs : List Block) (ths : List ℤ) (low : ℕ) (limits : Limits) (l : List Entry) → AreEntries low limits l →
    ((d : ℕ) → d < TERMINATED → 0 < blocks_left d bs) → blocks_passed bs ths l ≤ blocks_left (head_document l) bs
passed_left bs [] low limits l h ends = omega (arith, passed-none bs l)
passed_left bs (t ∷ ths) low limits [] h ends = omega (arith, passed-nil bs (t ∷ ths))
passed_left bs (t ∷ ths) low limits (e ∷ []) h ends =
    omega (arith, passed-cons bs t ths e [], passed-nil bs ths, here_at_most bs t e [], ends e.document h.here.below_end)
passed_left bs (t ∷ ths) low limits (e ∷ x ∷ l) h ends =
    let rest = passed_left bs ths (e.document + 1) limits (x ∷ l) h.others ends in
    let later : e.document < x.document = omega (arith, h.others.here.from_low) in
    elim (cases_lt (end_at e.document bs) x.document) [
      | inl past ↦ omega (
        arith,
        passed-cons bs t ths e (x ∷ l),
        here_at_most bs t e (x ∷ l),
        rest,
        left-passed e.document x.document bs (omega arith) past h.others.here.below_end,
      )
      | inr same ↦
          let is : ends_block bs e (x ∷ l) ≡ false = le-ltb (end_at e.document bs) x.document same in
          let none : here bs t e (x ∷ l) ≡ 0 = ap (λ b. cond b (one_if_low t (bound_at e.document bs)) 0) is in
          omega (arith, passed-cons bs t ths e (x ∷ l), none, rest, left-fewer e.document x.document bs (omega arith))
    ]

pub passed_blocks : (bs : List Block) (ths : List ℤ) (limits : Limits) (l : List Entry) → AreEntries 0 limits l →
    (head_document l < TERMINATED → (d : ℕ) → d < TERMINATED → 0 < blocks_left d bs) → blocks_passed bs ths l ≤ length bs
passed_blocks bs ths limits [] h ends = omega (arith, passed-nil bs ths)
passed_blocks bs ths limits (e ∷ l) h ends = omega (arith, passed_left bs ths 0 limits (e ∷ l) h (ends h.here.below_end), left-length e.document bs)

-- ---- what is before a target

-- before a target there are those before an earlier one, and those between
before_parts : (s t : ℕ) (es : List Entry) → s ≤ t → length (below t es) ≡ length (below s es) + length (below t (from s es))
before_parts s t [] h = omega (arith, ap (λ xs. length (below t xs)) (from-nil s), ap length (below-nil t), ap length (below-nil s))
before_parts s t (e ∷ es) h =
    let rest = before_parts s t es h in
    elim (cases_lt e.document s) [
      | inl less ↦ omega (
        arith,
        ap length (below-keep t e es (omega arith)),
        ap length (below-keep s e es less),
        ap (λ xs. length (below t xs)) (from-skip s e es less),
        rest,
      )
      | inr more ↦
          let left = ap length (below-skip s e es more) in
          let on = ap (λ xs. length (below t xs)) (from-keep s e es more) in
          elim (cases_lt e.document t) [
            | inl within ↦ omega (arith, left, on, ap length (below-keep t e es within), ap length (below-keep t e (from s es) within), rest)
            | inr past ↦ omega (arith, left, on, ap length (below-skip t e es past), ap length (below-skip t e (from s es) past), rest)
          ]
    ]

replicate_parts : (x : ℤ) (us : List ℤ) (n a b : ℕ) → n ≡ a + b → replicate n x ++ us ≡ replicate a x ++ (replicate b x ++ us)
replicate_parts x us n zero b h = let same : n ≡ b = omega arith in ap (λ k. replicate k x ++ us) same
replicate_parts x us zero (suc a) b h = absurd (omega arith)
replicate_parts x us (suc n) (suc a) b h = ap (λ xs. x ∷ xs) (replicate_parts x us n a b (omega arith))

-- past the end all is before a target, and nothing from it on
ended : (t : ℕ) (m : Member) → IsMember m → TERMINATED ≤ t → (below t m.entries ≡ m.entries) × (from t m.entries ≡ [])
ended t m h far =
    let none = from-ended h.limits m.entries h.entries t far in
    (sym (below-from t 0 h.limits m.entries h.entries ∙ ap (λ xs. below t m.entries ++ xs) none ∙ append-nil (below t m.entries)), none)

-- ---- the block of the first of some documents, at a threshold that is not below its bound

module _ (bs : List Block) (th : ℤ) (us : List ℤ) (s : ℕ) (low : pos (bound_at s bs) ≤ℤ th) where
  abbrev past : ℕ
  past = suc (end_at s bs)

  here_low : (e : Entry) → s ≤ e.document → e.document ≤ end_at s bs → one_if_low th (bound_at e.document bs) ≡ 1
  here_low e from to =
      low_one th (bound_at e.document bs) (low_le th (bound_at e.document bs) (bound_at s bs) (omega (arith, same_block s e.document bs from to)) low)

  first_over : (e : Entry) (es : List Entry) → e.document ≤ end_at s bs →
      blocks_passed bs (replicate (length (below past (e ∷ es))) th ++ us) (e ∷ es)
      ≡ here bs th e es + blocks_passed bs (replicate (length (below past es)) th ++ us) es
  first_over e es to =
      ap (λ xs. blocks_passed bs (replicate (length xs) th ++ us) (e ∷ es)) (below-keep past e es (omega arith))
      ∙ passed-cons bs th (replicate (length (below past es)) th ++ us) e es

  block_over : (e : Entry) (limits : Limits) (es : List Entry) → AreEntries s limits (e ∷ es) → e.document ≤ end_at s bs →
      blocks_passed bs (replicate (length (below past (e ∷ es))) th ++ us) (e ∷ es) ≡ 1 + blocks_passed bs us (from past (e ∷ es))
  block_over e limits [] h to =
      let none : from past (e ∷ []) ≡ [] = from-skip past e [] (omega arith) ∙ from-nil past in
      omega (
        arith,
        first_over e [] to,
        passed-nil bs (replicate (length (below past [])) th ++ us),
        here_low e h.here.from_low to,
        ap (blocks_passed bs us) none,
        passed-nil bs us,
      )
  block_over e limits (x ∷ es) h to =
      let later : from past (e ∷ x ∷ es) ≡ from past (x ∷ es) = from-skip past e (x ∷ es) (omega arith) in
      let same : end_at e.document bs ≡ end_at s bs = same_end s e.document bs h.here.from_low to in
      elim (cases_lt (end_at s bs) x.document) [
        | inl far ↦
            let ends : ends_block bs e (x ∷ es) ≡ true = lt-ltb (end_at e.document bs) x.document (omega (arith, same)) in
            let one : here bs th e (x ∷ es) ≡ 1 = ap (λ b. cond b (one_if_low th (bound_at e.document bs)) 0) ends ∙ here_low e h.here.from_low to in
            let rises = AreEntries-low (e.document + 1) past limits x es (omega arith) h.others in
            let rest : from past (e ∷ x ∷ es) ≡ x ∷ es = later ∙ from-all past past limits (x ∷ es) (omega arith) rises in
            omega (
              arith,
              first_over e (x ∷ es) to,
              one,
              ap (λ xs. blocks_passed bs (replicate (length xs) th ++ us) (x ∷ es)) (below-none past past limits (x ∷ es) rises (omega arith)),
              ap (blocks_passed bs us) rest,
            )
        | inr within ↦
            let ends : ends_block bs e (x ∷ es) ≡ false = le-ltb (end_at e.document bs) x.document (omega (arith, same)) in
            let none : here bs th e (x ∷ es) ≡ 0 = ap (λ b. cond b (one_if_low th (bound_at e.document bs)) 0) ends in
            let rest = AreEntries-low (e.document + 1) s limits x es (omega (arith, h.here.from_low, h.others.here.from_low)) h.others in
            let on = block_over x limits es rest within in
            omega (arith, first_over e (x ∷ es) to, none, on, ap (blocks_passed bs us) later)
      ]

  list_over : (limits : Limits) (es : List Entry) → AreEntries s limits es → head_document es < TERMINATED → head_document es ≤ end_at s bs →
      blocks_passed bs (replicate (length (below past es)) th ++ us) es ≡ 1 + blocks_passed bs us (from past es)
  list_over limits [] h some within = absurd (omega arith)
  list_over limits (e ∷ es) h some within = block_over e limits es h within

-- ---- stretches of blocks

first_from : (s : ℕ) (limits : Limits) (es : List Entry) → AreEntries s limits es → head_document es < TERMINATED → s ≤ head_document es
first_from s limits [] h some = absurd (omega arith)
first_from s limits (e ∷ es) h some = h.here.from_low

-- the block behind a stretch, which has a document, is passed too
pub passes_block : (th : ℤ) (s n : ℕ) (m : Member) → IsMember m → head_document (from s m.entries) < TERMINATED →
    head_document (from s m.entries) ≤ end_at s m.blocks → pos (bound_at s m.blocks) ≤ℤ th → PassesBlocks th s n m
    → PassesBlocks th (suc (end_at s m.blocks)) (suc n) m
passes_block th s n m h some within low passed = λ ths.
    let bs = m.blocks in
    let es = m.entries in
    let rest = from s es in
    let target = suc (end_at s bs) in
    let rises = AreEntries-from s 0 h.limits es h.entries in
    let up : s ≤ target = omega (arith, first_from s h.limits rest rises some, within) in
    let more = length (below target rest) in
    let split : replicate (length (below target es)) th ++ ths ≡ replicate (length (below s es)) th ++ (replicate more th ++ ths) =
    replicate_parts th ths (length (below target es)) (length (below s es)) more (before_parts s target es up) in
    let on : from target rest ≡ from target es = from-from s target es up in
    omega (
      arith,
      ap (λ us. blocks_passed bs us es) split,
      passed (replicate more th ++ ths),
      list_over bs th ths s low h.limits rest rises some within,
      ap (blocks_passed bs ths) on,
    )

-- the block of the first document is passed
pub passes_first : (th : ℤ) (m : Member) → IsMember m → head m < TERMINATED → pos (bound_at (head m) m.blocks) ≤ℤ th →
    PassesBlocks th (suc (end_at (head m) m.blocks)) 1 m
passes_first th m h inside low =
    let es = m.entries in
    let none : below (head m) es ≡ [] = below-none (head m) 0 h.limits es h.entries (omega arith) in
    let all : from (head m) es ≡ es = from-reached (head m) 0 h.limits es (omega arith) h.entries in
    passes_block th (head m) 0 m h
    (omega (arith, ap head_document all)) (omega (arith, ap head_document all, end_at_le (head m) m.blocks (omega arith))) low
    (λ ths. omega (
      arith,
      ap (λ xs. blocks_passed m.blocks (replicate (length xs) th ++ ths) es) none,
      ap (blocks_passed m.blocks ths) all,
    ))

-- past the end one target is as good as another
pub passes_end : (th : ℤ) (s t n : ℕ) (m : Member) → IsMember m → TERMINATED ≤ s → TERMINATED ≤ t → PassesBlocks th s n m → PassesBlocks th t n m
passes_end th s t n m h far too passed = λ ths.
    let es = m.entries in
    let same : below s es ≡ below t es = (ended s m h far).0 ∙ sym (ended t m h too).0 in
    let rest : from s es ≡ from t es = (ended s m h far).1 ∙ sym (ended t m h too).1 in
    omega (
      arith,
      passed ths,
      ap (λ xs. blocks_passed m.blocks (replicate (length xs) th ++ ths) es) same,
      ap (blocks_passed m.blocks ths) rest,
    )

-- a target behind the last document that is quiet, held at the end
pub passes_to : (th : ℤ) (end t n : ℕ) (m : Member) → IsMember m → t ≡ min (suc end) TERMINATED → PassesBlocks th (suc end) n m → PassesBlocks th t n m
passes_to th end t n m h is passed = elim (cases_lt end TERMINATED) [
  | inl less ↦ let same : suc end ≡ t = omega arith in subst (λ (k : ℕ). PassesBlocks th k n m) same passed
  | inr over ↦ passes_end th (suc end) t n m h (omega arith) (omega arith) passed
]

-- each block that is passed had a document
pub passes_fewer : (th : ℤ) (t n : ℕ) (m : Member) → IsMember m → PassesBlocks th t n m → n + length (from t m.entries) ≤ length m.entries
passes_fewer th t n m h passed =
    let es = m.entries in
    let l = below t es in
    let parts : es ≡ l ++ from t es = below-from t 0 h.limits es h.entries in
    let none : List ℤ = [] in
    omega (
      arith,
      passed none,
      passed-none m.blocks (from t es),
      passed_few m.blocks (replicate (length l) th ++ none) es,
      length-append (replicate (length l) th) none,
      length-replicate (length l) th,
      ap length parts,
      length-append l (from t es),
    )
