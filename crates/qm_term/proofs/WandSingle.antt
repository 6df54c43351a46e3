-- The run over one list.
use Rattle.std.proofs.Common.{◌≡◌, ℕ, ℤ, zero, suc, ◌+◌, ◌<◌, ◌≤◌, ◌<ℤ◌, ◌≤ℤ◌, ltb, max, List, [], ◌∷◌, ◌++◌, drop, length, replicate, take, refl, sym, ap, ◌∙◌}
use Rattle.std.proofs.lemmas.List.{length-take-le, take-append-drop}
use Rattle.std.proofs.Common.{arith, subst, inl, inr, pos}
use Rattle.std.proofs.lemmas.Bool.{cond-true, lt-ltb}
use Rattle.qm_term.specs.Members.{Block, IsMember, Member, bound_at, end_at}
use Rattle.qm_term.specs.Pivot.{block_at, cut, head, looked_at, no_block}
use Rattle.qm_term.specs.SingleRun.{IsSingle, PassesBlocks, PassesLow, PrunesList, behind}
use Rattle.qm_term.specs.RunCounts.{blocks_passed, count_above}
use Rattle.qm_term.specs.Runs.{Turn, MayPrune, Plain}
use Rattle.qm_term.specs.RunsFacts.{MayPrune-step}
use Rattle.qm_docset.specs.declared.numbers.TheConstants.{TERMINATED}
use Rattle.qm_term.proofs.BlocksPassed.{passed-high, passed-none, passed-scored}
use Rattle.qm_term.proofs.WandBounds.{low_le, same_block, IsBelow}
use Rattle.qm_term.proofs.WandPlain.{count-cons, count_high, count_low, is_above, may_unskip, plain_skip}
use Rattle.std.specs.Prelude.{All}
use Rattle.std.proofs.lemmas.List.Elements.{All-head, All-tail}
use Rattle.qm_docset.specs.Entry.{AreEntries, Entry, Limits, below, from, head_document, head_score}
use Rattle.qm_docset.specs.EntryFacts.{AreEntries-drop, AreEntries-head, head_document-bounds}
use Rattle.qm_term.proofs.WandScores.{Each, below-from, each_all, each_apply, each_below, each_take}

-- the block looked at, at a document
pub looks_at : (m : Member) → head m < TERMINATED → looked_at 0 m ≡ block_at (head m) m.blocks
looks_at m h =
    let e : max 0 (head m) ≡ head m = omega arith in
    cond-true (ltb (head m) TERMINATED) (block_at (max 0 (head m)) m.blocks) no_block (lt-ltb (head m) TERMINATED h) ∙ ap (λ k. block_at k m.blocks) e

-- the block looked at with a target, from a document before it
pub looks_behind : (t : ℕ) (m : Member) → head m ≤ t → head m < TERMINATED → looked_at t m ≡ block_at t m.blocks
looks_behind t m before h =
    let e : max t (head m) ≡ t = omega arith in
    cond-true (ltb (head m) TERMINATED) (block_at (max t (head m)) m.blocks) no_block (lt-ltb (head m) TERMINATED h) ∙ ap (λ k. block_at k m.blocks) e

-- the block of a document is quiet where its bound is not above the threshold
pub quiet_block : (th : ℤ) (d : ℕ) (m : Member) → pos (bound_at d m.blocks) ≤ℤ th → (e : ℕ) → d ≤ e → e ≤ end_at d m.blocks → pos (bound_at e m.blocks) ≤ℤ th
quiet_block th d m low e from to = low_le th (bound_at e m.blocks) (bound_at d m.blocks) (omega (arith, same_block d e m.blocks from to)) low

-- ---- the documents of a list

-- what holds of each document from a number on, with a score up to its block's bound, holds of all
pub each_after : (P : Entry → Type 0) (low : ℕ) (limits : Limits) (bs : List Block) (es : List Entry) → AreEntries low limits es → All (IsBelow bs) es →
    ((e : Entry) → low ≤ e.document → e.score ≤ bound_at e.document bs → P e) → Each P es
each_after P low limits bs [] h b k = tt
each_after P low limits bs (e ∷ es) h b k = (
  k e h.here.from_low (All-head (IsBelow bs) e es b),
  each_after P (e.document + 1) limits bs es h.others (All-tail (IsBelow bs) e es b) (λ x a c. k x (omega (arith, a, h.here.from_low)) c),
)

pub each_here : (P : Entry → Type 0) (m : Member) → IsMember m → ((e : Entry) → head m ≤ e.document → e.score ≤ bound_at e.document m.blocks → P e) →
    Each P m.entries
each_here P m h k = each_after P (head m) h.limits m.blocks m.entries (AreEntries-head 0 h.limits m.entries h.entries) h.bounded k

-- what is passed before a target
module _ (th : ℤ) (t : ℕ) (m : Member) (h : IsMember m) (low : (d : ℕ) → head m ≤ d → d < t → pos (bound_at d m.blocks) ≤ℤ th) where
  low_bounds : Each (λ e. pos (bound_at e.document m.blocks) ≤ℤ th) (below t m.entries)
  low_bounds = each_below (λ e. pos (bound_at e.document m.blocks) ≤ℤ th) t m.entries
      (each_here (λ e. e.document < t → pos (bound_at e.document m.blocks) ≤ℤ th) m h (λ e from _ to. low e.document from to))

  low_scores : Each (λ e. pos e.score ≤ℤ th) (below t m.entries)
  low_scores = each_below (λ e. pos e.score ≤ℤ th) t m.entries
      (each_here (λ e. e.document < t → pos e.score ≤ℤ th) m h
      (λ e from bounded to. low_le th e.score (bound_at e.document m.blocks) bounded (low e.document from to)))

-- the blocks of documents that are passed in a block whose bound is above the threshold
high_bounds : (th : ℤ) (end count : ℕ) (m n : Member) → IsMember m → PassesLow th end count m n →
    ((d : ℕ) → head m ≤ d → d < end → th <ℤ pos (bound_at d m.blocks)) → Each (λ e. th <ℤ pos (bound_at e.document m.blocks)) (take count m.entries)
high_bounds th end count m n h passed above =
    let l = take count m.entries in
    each_apply (λ e. e.document < end) (λ e. th <ℤ pos (bound_at e.document m.blocks)) l
    (each_take (λ e. e.document < end → th <ℤ pos (bound_at e.document m.blocks)) count m.entries
    (each_here (λ e. e.document < end → th <ℤ pos (bound_at e.document m.blocks)) m h (λ e from _ to. above e.document from to)))
    (each_all (λ e. e.document < end) l passed.before)

-- where none is passed the list is the same
pub none_passed : (th : ℤ) (end count : ℕ) (m n : Member) → PassesLow th end count m n → count ≡ 0 → n ≡ m
none_passed th end count m n passed none = passed.list ∙ ap (λ k. behind k m) none

-- and else its first document stands behind
behind_later : (count : ℕ) (limits : Limits) (es : List Entry) → AreEntries 0 limits es → 0 < count → head_document es < TERMINATED →
    head_document es < head_document (drop count es)
behind_later zero limits es h some below = absurd (omega (arith, some))
behind_later (suc n) limits [] h some below = absurd (omega (arith, below))
behind_later (suc n) limits (e ∷ es) h some below =
    let bounds = head_document-bounds (e.document + 1) limits (drop n es) (omega (arith, below)) (AreEntries-drop n (e.document + 1) limits es h.others) in
    omega (arith, bounds.0)

pub passed_later : (th : ℤ) (end count : ℕ) (m n : Member) → IsMember m → PassesLow th end count m n → 0 < count → head m < TERMINATED → head m < head n
passed_later th end count m n h passed some below = omega (arith, ap head passed.list, behind_later count h.limits m.entries h.entries some below)

parts : (t : ℕ) (m : Member) → IsMember m → m.entries ≡ below t m.entries ++ from t m.entries
parts t m h = below-from t 0 h.limits m.entries h.entries

-- ---- turns

module _ {F : Type 0} (call : F → ℕ → ℤ → ℤ → F → Type 0) where
  pass_back : (th last : ℤ) (t k n rest : ℕ) (m : Member) (f z : F) → IsMember m → ((d : ℕ) → head m ≤ d → d < t → pos (bound_at d m.blocks) ≤ℤ th) →
      PassesBlocks th t n m → PrunesList call th f (cut t m) k rest last z → PrunesList call th f m k (n + rest) last z
  pass_back th last t k n rest m f z h low blocks r =
      let l = below t m.entries in
      let behind = from t m.entries in
      let bound : Entry → ℕ = λ e. bound_at e.document m.blocks in
      let ths : List ℤ = replicate (length l) th ++ r.thresholds in
      let is : m.entries ≡ l ++ behind = parts t m h in
      let ticks : count_above bound ths m.entries ≡ count_above bound r.thresholds behind = ap (count_above bound ths) is
      ∙ count_low bound th l behind r.thresholds (low_bounds th t m h low) in
      record {
        thresholds = ths;
        calls = subst (λ (xs : List Entry). Plain call th f xs ths last z) (sym is)
            (plain_skip call th last f z l behind r.thresholds (low_scores th t m h low) r.calls);
        scored = r.scored ∙ sym ticks;
        counted = omega (arith, r.counted, blocks r.thresholds);
      }

  first_back : (th th' last : ℤ) (k rest top : ℕ) (bs : List Block) (es : List Entry) (f g z : F) → head_document es < TERMINATED →
      th <ℤ pos (bound_at (head_document es) bs) → Turn call th f (head_document es) (pos (head_score es)) th' g
      → PrunesList call th' g (record { entries = drop 1 es; blocks = bs; top = top }) k rest last z
      → PrunesList call th f (record { entries = es; blocks = bs; top = top }) (suc k) (suc rest) last z
  first_back th th' last k rest top bs [] f g z below above turn r = absurd (omega arith)
  first_back th th' last k rest top bs (e ∷ es) f g z below above turn r = record {
    thresholds = th ∷ r.thresholds;
    calls = (refl, (th', g, turn, r.calls));
    scored = omega (arith, r.scored, count-cons (λ x. bound_at x.document bs) th r.thresholds e es, is_above th (bound_at e.document bs) above);
    counted = omega (arith, r.counted, passed-scored bs th r.thresholds e es above);
  }

  low_back : (th last : ℤ) (end count k rest : ℕ) (m n : Member) (f z : F) → PassesLow th end count m n →
      Each (λ e. th <ℤ pos (bound_at e.document m.blocks)) (take count m.entries) →
      PrunesList call th f n k rest last z → PrunesList call th f m (count + k) (count + rest) last z
  low_back th last end count k rest m n f z passed above q =
      let l = take count m.entries in
      let left = drop count m.entries in
      let r : PrunesList call th f (behind count m) k rest last z = subst (λ (x : Member). PrunesList call th f x k rest last z) passed.list q in
      let bound : Entry → ℕ = λ e. bound_at e.document m.blocks in
      let ths : List ℤ = replicate (length l) th ++ r.thresholds in
      let is : m.entries ≡ l ++ left = sym (take-append-drop count m.entries) in
      let long : length l ≡ count = length-take-le count m.entries passed.most in
      let ticks : count_above bound ths m.entries ≡ length l + count_above bound r.thresholds left = ap (count_above bound ths) is
      ∙ count_high bound th l left r.thresholds above in
      let blocks : blocks_passed m.blocks ths m.entries ≡ blocks_passed m.blocks r.thresholds left = ap (blocks_passed m.blocks ths) is
      ∙ passed-high m.blocks th l left r.thresholds above in
      record {
        thresholds = ths;
        calls = subst (λ (xs : List Entry). Plain call th f xs ths last z) (sym is)
            (plain_skip call th last f z l left r.thresholds (each_all (λ e. pos e.score ≤ℤ th) l passed.low) r.calls);
        scored = omega (arith, r.scored, ticks, long);
        counted = omega (arith, r.counted, blocks);
      }

  none_left : (th : ℤ) (f : F) (top : ℕ) (limits : Limits) (bs : List Block) (es : List Entry) → AreEntries 0 limits es → TERMINATED ≤ head_document es →
      PrunesList call th f (record { entries = es; blocks = bs; top = top }) 0 0 th f
  unfolding count_above
  none_left th f top limits bs [] h e =
      record { thresholds = []; calls = (refl, refl); scored = refl; counted = omega (arith, passed-none bs []) }
  none_left th f top limits bs (x ∷ xs) h e = absurd (omega (arith, h.here.below_end))

  -- at the end nothing is left to do
  pub single_end : (th : ℤ) (f : F) (m : Member) → IsMember m → TERMINATED ≤ head m → PrunesList call th f m 0 0 th f
  single_end th f m h e = none_left th f m.top h.limits m.blocks m.entries h.entries e

  module _ (th th' : ℤ) (f g : F) (m n : Member) (ticks turns : ℕ) (h : IsMember m)
      (inside : head m < TERMINATED) (t : IsSingle call th f m th' g n ticks turns) where
    -- a run after a turn is one before it
    pub single_back : (k rest : ℕ) (last : ℤ) (z : F) → PrunesList call th' g n k rest last z →
        PrunesList call th f m (ticks + k) (turns + rest) last z
    single_back k rest last z r =
        elim t [
          | inl s ↦
              let same : k ≡ ticks + k = omega (arith, s.quiet.2) in
              subst (λ (c : ℕ). PrunesList call th f m c (turns + rest) last z) same
              (pass_back th last s.target k turns rest m f z h s.low s.blocks
              (subst (λ (x : Member). PrunesList call th f x k rest last z) s.list
              (subst (λ (x : F). PrunesList call th x n k rest last z) s.quiet.1
              (subst (λ (w : ℤ). PrunesList call w g n k rest last z) s.quiet.0 r))))
          | inr (inl s) ↦
              let same : suc k ≡ ticks + k = omega (arith, s.one.0) in
              let more : suc rest ≡ turns + rest = omega (arith, s.one.1) in
              subst (λ (c : ℕ). PrunesList call th f m c (turns + rest) last z) same
              (subst (λ (c : ℕ). PrunesList call th f m (suc k) c last z) more
              (first_back th th' last k rest m.top m.blocks m.entries f g z inside s.above s.turn
              (subst (λ (x : Member). PrunesList call th' g x k rest last z) s.list r)))
          | inr (inr s) ↦
              let same : turns + k ≡ ticks + k = omega (arith, s.same.2) in
              subst (λ (c : ℕ). PrunesList call th f m c (turns + rest) last z) same
              (low_back th last s.end turns k rest m n f z s.passed (high_bounds th s.end turns m n h s.passed s.above)
              (subst (λ (x : F). PrunesList call th x n k rest last z) s.same.1
              (subst (λ (w : ℤ). PrunesList call w g n k rest last z) s.same.0 r)))
        ]

    -- where neither the threshold nor the callback is another one
    may_on : (pre : F → ℕ → ℤ → Type 0) (left : Member) → th' ≡ th → g ≡ f → n ≡ left → MayPrune call pre th f left.entries → MayPrune call pre th' g n.entries
    may_on pre left same callback list r =
        subst (λ (x : Member). MayPrune call pre th' g x.entries) (sym list)
        (subst (λ (x : F). MayPrune call pre th' x left.entries) (sym callback)
        (subst (λ (w : ℤ). MayPrune call pre w f left.entries) (sym same) r))

    -- and the callback may still be called
    pub single_may : (pre : F → ℕ → ℤ → Type 0) → MayPrune call pre th f m.entries → MayPrune call pre th' g n.entries
    single_may pre r =
        elim t [
          | inl s ↦
              let left : MayPrune call pre th f (from s.target m.entries) =
              may_unskip call pre th f (below s.target m.entries) (from s.target m.entries) (low_scores th s.target m h s.low)
              (subst (λ (xs : List Entry). MayPrune call pre th f xs) (parts s.target m h) r) in
              may_on pre (cut s.target m) s.quiet.0 s.quiet.1 s.list left
          | inr (inl s) ↦ subst (λ (x : Member). MayPrune call pre th' g x.entries) (sym s.list)
              (MayPrune-step call pre th th' f g (head m) _ m.entries _ refl refl inside refl s.turn r)
          | inr (inr s) ↦
              let l = take turns m.entries in
              let left : MayPrune call pre th f (drop turns m.entries) =
              may_unskip call pre th f l (drop turns m.entries) (each_all (λ e. pos e.score ≤ℤ th) l s.passed.low)
              (subst (λ (xs : List Entry). MayPrune call pre th f xs) (sym (take-append-drop turns m.entries)) r) in
              may_on pre (behind turns m) s.same.0 s.same.1 s.passed.list left
        ]
