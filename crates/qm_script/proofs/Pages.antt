-- What a page takes: document by document of a segment, and segment by segment.
use Rattle.std.proofs.Common.{◌≡◌, ◌+◌, ◌++◌, ◌<◌, ◌≤◌, ◌∙◌, ◌&&◌, ℕ, zero, suc, Bool, true, false, not, cond, List, [], ◌∷◌, ap, append_assoc, sym, refl, arith, filter, length, map, nat_le, nat_lt, pos, take, take_all, drop, inl, inr}
use Rattle.std.proofs.lemmas.Bool.{cases_lt, le-leb}
use Rattle.std.proofs.lemmas.Bool.Decides.{nat_tests}
use Rattle.std.proofs.lemmas.List.{append-nil, length-take, map-append}
use Rattle.std.proofs.lemmas.List.Elements.{filter-append}
use Rattle.qm_docset.specs.Entry.{Entry, documents, from, head_document}
use Rattle.qm_docset.specs.EntryFacts.{from-keep, from-nil, from-skip}
use Rattle.qm_docset.specs.declared.numbers.TheConstants.{TERMINATED}
use Rattle.qm_postings.specs.Segment.{Segment, is_alive, is_deleted}
use Rattle.qm_script.specs.BestListed.{alive_listed, alive_listed_from}
use Rattle.qm_script.specs.Paging.{alive_numbered, numbers_in}
use Rattle.qm_weight.specs.Counts.{alive_matching}
use Rattle.qm_weight.specs.Tree.{Tree, matching, score}
use Rattle.qm_script.proofs.Ranges.{map-map}

-- ---- as far as there is room

-- what is taken of what was taken
pub take-taken : (n : ℕ) (xs ys : List ℕ) → take n (take n xs ++ ys) ≡ take n (xs ++ ys)
take-taken zero xs ys = refl
take-taken (suc n) [] ys = refl
take-taken (suc n) (x ∷ xs) ys = ap (λ l. x ∷ l) (take-taken n xs ys)

-- a page that is full takes nothing
pub take-full : (n : ℕ) (xs ys : List ℕ) → n ≤ length xs → length xs ≤ n → take n (xs ++ ys) ≡ xs
take-full zero [] ys least most = refl
take-full zero (x ∷ xs) ys least most = absurd (omega arith)
take-full (suc n) [] ys least most = absurd (omega arith)
take-full (suc n) (x ∷ xs) ys least most = ap (λ l. x ∷ l) (take-full n xs ys (omega arith) (omega arith))

-- ---- the documents of a segment

module _ (s : Segment) (first : ℕ) where
  pub deleted-next : (es : List Entry) → head_document es < TERMINATED → is_alive s (head_document es) ≡ false →
      alive_numbered s first es ≡ alive_numbered s first (drop 1 es)
  deleted-next [] some alive = absurd (omega arith)
  deleted-next (e ∷ es) some alive =
      ap (λ b. map (λ d. first + d) (cond b (e.document ∷ filter (is_alive s) (documents es)) (filter (is_alive s) (documents es)))) alive

  -- ---- from a number on

  module _ (least : ℕ) where
    abbrev wanted : List ℕ → List ℕ
    wanted ds = filter (nat_le least) (map (λ d. first + d) ds)

    left-out : (n : ℕ) → n < least → nat_le least n ≡ false
    left-out n below = grind (arith, nat_tests)

    -- one more document, where it is alive
    one-wanted : (alive : Bool) (d : ℕ) (ds rest : List ℕ) → least ≤ first + d → wanted ds ≡ map (λ d. first + d) rest →
        wanted (cond alive (d ∷ ds) ds) ≡ map (λ d. first + d) (cond alive (d ∷ rest) rest)
    one-wanted true d ds rest within same =
        ap (λ b. cond b ((first + d) ∷ wanted ds) (wanted ds)) (le-leb least (first + d) within) ∙ ap (λ l. (first + d) ∷ l) same
    one-wanted false d ds rest within same = same

    one-left_out : (alive : Bool) (d : ℕ) (ds : List ℕ) → first + d < least → wanted (cond alive (d ∷ ds) ds) ≡ wanted ds
    one-left_out true d ds before = ap (λ b. cond b ((first + d) ∷ wanted ds) (wanted ds)) (left-out (first + d) before)
    one-left_out false d ds before = refl

    -- those that a seek leaves
    pub numbered-from : (start : ℕ) (es : List Entry) → ((d : ℕ) → start ≤ d → least ≤ first + d) → ((d : ℕ) → d < start → first + d < least) →
        filter (nat_le least) (alive_numbered s first es) ≡ alive_numbered s first (from start es)
    numbered-from start [] within before = ap (alive_numbered s first) (sym (from-nil start))
    numbered-from start (e ∷ es) within before =
        elim (cases_lt e.document start) [
          | inl below ↦ one-left_out (is_alive s e.document) e.document (filter (is_alive s) (documents es)) (before e.document below)
              ∙ numbered-from start es within before ∙ ap (alive_numbered s first) (sym (from-skip start e es below))
          | inr kept ↦ one-wanted (is_alive s e.document) e.document (filter (is_alive s) (documents es)) (filter (is_alive s) (documents (from start es)))
              (within e.document kept) (numbered-from start es within before)
              ∙ ap (alive_numbered s first) (sym (from-keep start e es kept))
        ]

    there : (a b : Bool) → (a && b) ≡ true → a ≡ true
    there true b is = refl
    there false b is = is

    -- a document that is alive is one of the segment's
    alive-there : (d : ℕ) → is_alive s d ≡ true → d < length s.documents
    alive-there d is =
        let below = there (nat_lt d (length s.documents)) (not (is_deleted s d)) is in
        grind (arith, nat_tests)

    one-gone : (alive : Bool) (d : ℕ) (ds : List ℕ) → is_alive s d ≡ alive → first + length s.documents ≤ least → wanted (cond alive (d ∷ ds) ds) ≡ wanted ds
    one-gone true d ds is past = let here = alive-there d is in one-left_out true d ds (omega arith)
    one-gone false d ds is past = refl

    -- those of a segment before the number
    pub none-wanted : (ds : List ℕ) → first + length s.documents ≤ least → wanted (filter (is_alive s) ds) ≡ []
    none-wanted [] past = refl
    none-wanted (d ∷ ds) past = one-gone (is_alive s d) d (filter (is_alive s) ds) refl past ∙ none-wanted ds past

-- ---- several segments

-- the numbers of what a tree matches in them that wasn't deleted
abbrev pub numbers_from : Tree → ℕ → List Segment → List ℕ
numbers_from tree first segments = map (λ i. i.0) (alive_listed_from tree first segments)

module _ (tree : Tree) (first : ℕ) (s : Segment) where
  numbers : numbers_in tree first s ≡ map (λ d. first + d) (alive_matching tree s)
  numbers = map-map (λ i. i.0) (λ d. (first + d, pos (score tree 1 s d))) (alive_matching tree s)

  -- what a cursor lists that was sought to where they begin
  pub numbers-sought : (least start : ℕ) (es : List Entry) → documents es ≡ matching tree s → ((d : ℕ) → start ≤ d → least ≤ first + d) →
      ((d : ℕ) → d < start → first + d < least) → alive_numbered s first (from start es) ≡ filter (nat_le least) (numbers_in tree first s)
  numbers-sought least start es is within before =
      sym (numbered-from s first least start es within before)
      ∙ ap (λ ds. filter (nat_le least) (map (λ d. first + d) (filter (is_alive s) ds))) is ∙ ap (filter (nat_le least)) (sym numbers)

  pub none-yet : (least : ℕ) → first + length s.documents ≤ least → filter (nat_le least) (numbers_in tree first s) ≡ []
  none-yet least past = ap (filter (nat_le least)) numbers ∙ none-wanted s first least (matching tree s) past

  module _ (least : ℕ) (segments : List Segment) where
    abbrev behind : List ℕ
    behind = filter (nat_le least) (numbers_from tree (first + length s.documents) segments)

    wanted-next : filter (nat_le least) (numbers_from tree first (s ∷ segments)) ≡ filter (nat_le least) (numbers_in tree first s) ++ behind
    wanted-next =
        ap (filter (nat_le least)) (map-append (λ i. i.0) (alive_listed tree first s) (alive_listed_from tree (first + length s.documents) segments))
        ∙ filter-append (nat_le least) (numbers_in tree first s) (numbers_from tree (first + length s.documents) segments)

    -- the segment's are taken, and those behind are still to be
    pub segment-taken : (limit : ℕ) (had : List ℕ) →
        take limit (take limit (had ++ filter (nat_le least) (numbers_in tree first s)) ++ behind)
        ≡ take limit (had ++ filter (nat_le least) (numbers_from tree first (s ∷ segments)))
    segment-taken limit had =
        take-taken limit (had ++ filter (nat_le least) (numbers_in tree first s)) behind
        ∙ ap (take limit) (append_assoc had (filter (nat_le least) (numbers_in tree first s)) behind ∙ ap (λ l. had ++ l) (sym wanted-next))

-- with nothing more, or with no room, it has what it had
pub nothing-more : (limit : ℕ) (had more : List ℕ) → length had ≤ limit → more ≡ [] → had ≡ take limit (had ++ more)
nothing-more limit had more most none =
    sym (ap (λ l. take limit (had ++ l)) none ∙ ap (take limit) (append-nil had) ∙ take_all limit had most)

pub no-room : (limit : ℕ) (had more : List ℕ) → length had ≤ limit → limit ≤ length had → had ≡ take limit (had ++ more)
no-room limit had more most least = sym (take-full limit had more least most)

-- it has no more than there is room for
pub few-taken : (n : ℕ) (xs ys : List ℕ) → xs ≡ take n ys → length xs ≤ n
few-taken n xs ys is = omega (arith, ap length is, length-take n ys)
