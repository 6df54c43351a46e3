-- What is counted over a run: how many calls it makes, at how many documents a bound is above the threshold,
-- and how many blocks are passed.
use Rattle.std.specs.Prelude.{ℕ, ℤ, ◌+◌, ◌≤ℤ◌, All, Bool, true, nat_lt, cond, List, [], ◌∷◌, pos}
use lib.Signed.{lt_z}
use Rattle.qm_docset.specs.Entry.{Entry}
use Rattle.qm_term.specs.Members.{Block, bound_at, end_at}

-- no document scores above the threshold
abbrev pub NoneAbove : ℤ → List Entry → Type 0
NoneAbove th l = All (λ e. pos e.score ≤ℤ th) l

-- 1 where n is above the threshold
abbrev pub one_if_above : ℤ → ℕ → ℕ
one_if_above th n = cond (lt_z th (pos n)) 1 0

-- at how many entries a number of the document is above the threshold there
unfoldable pub count_above : (Entry → ℕ) → List ℤ → List Entry → ℕ
count_above f [] l = 0
count_above f (t ∷ ths) [] = 0
count_above f (t ∷ ths) (e ∷ l) = one_if_above t (f e) + count_above f ths l

-- how many calls a run with these thresholds makes
abbrev pub calls_of : List ℤ → List Entry → ℕ
calls_of ths l = count_above (λ e. e.score) ths l

-- whether a document is the last one of its block: none is behind it, or its block ends before the next
abbrev pub ends_block : List Block → Entry → List Entry → Bool
ends_block bs e [] = true
ends_block bs e (x ∷ l) = nat_lt (end_at e.document bs) x.document

-- 1 where n is not above the threshold
abbrev pub one_if_low : ℤ → ℕ → ℕ
one_if_low th n = cond (lt_z th (pos n)) 0 1

-- How many blocks a run with these thresholds passes: those whose bound is not above the threshold at the
-- last of their documents. Over what a run passes the threshold stays as it is, so a block is passed at its
-- last document wherever it was passed.
unfoldable pub blocks_passed : List Block → List ℤ → List Entry → ℕ
blocks_passed bs [] l = 0
blocks_passed bs (t ∷ ths) [] = 0
blocks_passed bs (t ∷ ths) (e ∷ l) = cond (ends_block bs e l) (one_if_low t (bound_at e.document bs)) 0 + blocks_passed bs ths l
