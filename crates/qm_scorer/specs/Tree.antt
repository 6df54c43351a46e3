-- What a tree of scorers lists, by recursion over its nodes: each node lists what the combinator of
-- its kind does. `D` are the ghost members of the caller's own scorers.
use Rattle.std.specs.Prelude.{◌≡◌, ℕ, ◌*◌, ◌<◌, ◌≤◌, List, [], ◌∷◌, map, sum}
use Rattle.std.specs.List.{All as Each}
use Rattle.qm_docset.specs.BitSetDocSet.{IsBitSetCursor, IsOnMember, remaining_members}
use Rattle.qm_docset.specs.Entry.{Entry, Limits, head_document, no_limits}
use Rattle.qm_docset.specs.Exclusion.{has_document}
use Rattle.qm_docset.specs.Gather.{common_entries, gather, scores_at}
use Rattle.qm_docset.specs.declared.bitset_docset.BitSetDocSet.{BitSetDocSet}
use Rattle.qm_docset.specs.declared.docset.DocSet.{Ghosts}
use Rattle.qm_docset.specs.declared.numbers.TheConstants.{TERMINATED}
use Rattle.qm_postings.specs.SegmentPostings.{IsPostings, ReadsAs, postings_left, postings_limits}
use Rattle.qm_postings.specs.declared.segment_postings.SegmentPostings.{SegmentPostings}
use Rattle.qm_combine.specs.AllDocuments.{IsOverAll, all_left}
use Rattle.qm_combine.specs.Constant.{IsConstant, IsConstantPlaced, constant_left, constant_limits}
use Rattle.qm_combine.specs.HeldSum.{held_sum}
use Rattle.qm_combine.specs.Rescored.{rescored, with_optional}
use Rattle.qm_combine.specs.Union.{least_head}
use Rattle.qm_combine.specs.United.{HasParts as HasPartsBy, IsUnited as IsUnitedBy, kept_score as kept_by, united as united_by}
use Rattle.qm_combine.specs.declared.union.window.Window.{Window}
use Rattle.qm_combine.specs.Without.{without}
use Rattle.qm_combine.specs.WithoutFacts.{IsKept}
use Rattle.qm_phrase.specs.PhrasePrefixScorer.{IsOnPhrasePrefix, IsPhrasePrefix, phrase_prefix_left, phrase_prefix_scorer_limits}
use Rattle.qm_phrase.specs.PhraseScorer.{IsOnPhrase, IsPhrase, phrase_left, phrase_scorer_limits}
use Rattle.qm_term.specs.TermScorer.{IsTermScorer, scored_left, scored_limits}
use Rattle.qm_scorer.specs.AnyCombiner.{AreTakenBy, any_cleared, any_combined, any_value}
use Rattle.qm_scorer.specs.Bare.{IsBounded, bare, scores_to}
use Rattle.qm_scorer.specs.LeastDocs.{IsLeastDocs}
use Rattle.qm_scorer.specs.declared.any_combiner.AnyCombiner.{AnyCombiner}
use Rattle.qm_scorer.specs.declared.any_scorer.AnyScorer.{AnyScorer, Row_of-AnyScorer, end_of-AnyScorer, more_of-AnyScorer, All, BitSet, Boost', Const'}
use Rattle.qm_scorer.specs.declared.any_scorer.AnyScorer.{Disjunction', Empty, Exclude', Intersection', Own, Phrase, PhrasePrefix, RequiredOptional', Term}
use Rattle.qm_scorer.specs.declared.any_scorer.AnyScorer.{Union'}
use Rattle.qm_scorer.specs.declared.group_node.Shape.{Shape}
use Rattle.qm_scorer.specs.declared.least_docs.LeastDocs.{LeastDocs}

-- ---- the ghost members of the cursors below the leaves

abbrev pub set_cursors : Ghosts BitSetDocSet
set_cursors = record { entries = remaining_members; limits = λ _. no_limits; keeps = λ _ _. Unit {0}; placed = IsOnMember; valid = IsBitSetCursor }

abbrev pub postings_cursors : Ghosts SegmentPostings
postings_cursors = record { entries = postings_left; limits = postings_limits; keeps = ReadsAs; placed = λ _. Unit {0}; valid = IsPostings }

-- ---- groups

-- what a group lists of what its members have left
abbrev pub gathered_list : Shape → List (List Entry) → List Entry
gathered_list shape ess = gather shape.minimum (any_combined shape.combiner) ess

-- a combiner can take in the scores of each document
abbrev pub HasRoom : AnyCombiner → List (List Entry) → Type 0
HasRoom combiner ess = (d : ℕ) → AreTakenBy combiner (scores_at d ess)

-- A group stands on the first document that it lists, and its members there or past it; what it lists is
-- within its bound, and there is room for the scores of each document.
pub record IsGroup (shape : Shape) (current : ℕ) (ess : List (List Entry)) : Type 0 where
  pub bounded : IsBounded shape.top (gathered_list shape ess)
  pub some : 1 ≤ shape.minimum
  pub first : current ≡ head_document (gathered_list shape ess)
  pub least : current ≡ least_head ess
  pub room : HasRoom shape.combiner ess

-- the documents that the members stand on, each in its place
pub record AreMemberHeads (heads : LeastDocs) (ess : List (List Entry)) : Type 0 where
  pub valid : IsLeastDocs heads
  pub docs : heads.docs.items ≡ map head_document ess

-- ---- unions

-- the score that a window keeps of a document
abbrev pub kept_score : Window AnyCombiner → ℕ → ℕ
kept_score = kept_by any_combined any_value

-- what a union lists from a document on of what its window keeps and its members have left
abbrev pub union_listing : Window AnyCombiner → ℕ → List (List Entry) → List Entry
union_listing = united_by any_combined any_value 1

-- a window with a combiner that was cleared and has room for all scores of the members, and the bound on
-- what it makes of them
abbrev pub HasUnionParts : Window AnyCombiner → ℕ → List Limits → Type 0
HasUnionParts = HasPartsBy any_cleared

-- a union that stands on its first document
abbrev pub IsUnited : Window AnyCombiner → ℕ → ℕ → ℕ → List Limits → List (List Entry) → Type 0
IsUnited = IsUnitedBy any_combined any_value 1 any_cleared

-- ---- trees

module _ {S : Type 0} (D : Ghosts S) where
  abbrev mutual
    -- the documents that remain, with their scores
    pub tree_entries : AnyScorer S → List Entry
    tree_entries (Empty s) = []
    tree_entries (All s) = bare (all_left s)
    tree_entries (Own s) = bare (D.entries s)
    tree_entries (Term s) = bare (scored_left s.value)
    tree_entries (BitSet s) = bare (constant_left set_cursors s.value)
    tree_entries (Phrase s) = bare (phrase_left postings_cursors s.value)
    tree_entries (PhrasePrefix s) = bare (phrase_prefix_left postings_cursors s.value)
    tree_entries (Boost' p inner boost top) = rescored (λ e. e.score * boost) (tree_entries inner)
    tree_entries (Const' p inner score) = rescored (λ _. score) (tree_entries inner)
    tree_entries (RequiredOptional' p required optional top) = with_optional sum (tree_entries required) (tree_entries optional)
    tree_entries (Exclude' p inner out top) = without (has_document (tree_entries out)) (tree_entries inner)
    tree_entries (Union' p room row window ahead doc span top) = union_listing window doc (row_lists row)
    tree_entries (Disjunction' p room row heads shape current) = gathered_list shape (row_lists row)
    tree_entries (Intersection' p leader room row num_docs top) = common_entries held_sum (tree_entries leader ∷ row_lists row)

    -- the same of each of a row of trees
    pub row_lists : {n : _} → Row_of-AnyScorer S n → List (List Entry)
    row_lists end_of-AnyScorer = []
    row_lists (more_of-AnyScorer x others) = tree_entries x ∷ row_lists others

  -- what a required and an optional tree list together
  abbrev pub joined_entries : AnyScorer S → AnyScorer S → List Entry
  joined_entries required optional = with_optional sum (tree_entries required) (tree_entries optional)

  -- what a tree lists without the documents of another; that it stands on none of these
  abbrev pub kept_entries : AnyScorer S → AnyScorer S → List Entry
  kept_entries inner out = without (has_document (tree_entries out)) (tree_entries inner)

  -- that it stands on none of these
  abbrev pub IsOnKept : AnyScorer S → AnyScorer S → Type 0
  IsOnKept inner out = IsKept (has_document (tree_entries out)) (tree_entries inner)

  -- a bound on the scores, which no call changes
  abbrev pub tree_top : AnyScorer S → ℕ
  tree_top (Empty s) = 0
  tree_top (All s) = 1
  tree_top (Own s) = (D.limits s).top
  tree_top (Term s) = (scored_limits s.value).top
  tree_top (BitSet s) = (constant_limits set_cursors s.value).top
  tree_top (Phrase s) = (phrase_scorer_limits postings_cursors s.value).top
  tree_top (PhrasePrefix s) = (phrase_prefix_scorer_limits postings_cursors s.value).top
  tree_top (Boost' p inner boost top) = top
  tree_top (Const' p inner score) = score
  tree_top (RequiredOptional' p required optional top) = top
  tree_top (Exclude' p inner out top) = top
  tree_top (Union' p room row window ahead doc span top) = top
  tree_top (Disjunction' p room row heads shape current) = shape.top
  tree_top (Intersection' p leader room row num_docs top) = top

  -- its limits
  abbrev pub tree_limits : AnyScorer S → Limits
  tree_limits x = scores_to (tree_top x)

  -- the same of each of a row of trees
  abbrev pub row_limits : {n : _} → Row_of-AnyScorer S n → List Limits
  row_limits end_of-AnyScorer = []
  row_limits (more_of-AnyScorer x others) = tree_limits x ∷ row_limits others

  -- the document that it stands on, where it is placed
  abbrev pub tree_head : AnyScorer S → ℕ
  tree_head (Empty s) = TERMINATED
  tree_head (All s) = head_document (all_left s)
  tree_head (Own s) = head_document (D.entries s)
  tree_head (Term s) = head_document (scored_left s.value)
  tree_head (BitSet s) = head_document (constant_left set_cursors s.value)
  tree_head (Phrase s) = head_document (phrase_left postings_cursors s.value)
  tree_head (PhrasePrefix s) = head_document (phrase_prefix_left postings_cursors s.value)
  tree_head (Boost' p inner boost top) = tree_head inner
  tree_head (Const' p inner score) = tree_head inner
  tree_head (RequiredOptional' p required optional top) = tree_head required
  tree_head (Exclude' p inner out top) = tree_head inner
  tree_head (Union' p room row window ahead doc span top) = doc
  tree_head (Disjunction' p room row heads shape current) = current
  tree_head (Intersection' p leader room row num_docs top) = tree_head leader

  -- all of several lists begin with this document
  abbrev pub StandAt : ℕ → List (List Entry) → Type 0
  StandAt d ess = Each (λ es. head_document es ≡ d) ess

  abbrev mutual
    -- whether it stands on its first document
    pub IsTreePlaced : AnyScorer S → Type 0
    IsTreePlaced (Empty s) = Unit {0}
    IsTreePlaced (All s) = Unit {0}
    IsTreePlaced (Own s) = D.placed s
    IsTreePlaced (Term s) = Unit {0}
    IsTreePlaced (BitSet s) = IsConstantPlaced set_cursors s.value
    IsTreePlaced (Phrase s) = IsOnPhrase postings_cursors s.value
    IsTreePlaced (PhrasePrefix s) = IsOnPhrasePrefix postings_cursors s.value
    IsTreePlaced (Boost' p inner boost top) = IsTreePlaced inner
    IsTreePlaced (Const' p inner score) = IsTreePlaced inner
    IsTreePlaced (RequiredOptional' p required optional top) = IsTreePlaced required
    IsTreePlaced (Exclude' p inner out top) = IsTreePlaced inner × IsKept (has_document (tree_entries out)) (tree_entries inner)
    IsTreePlaced (Union' p room row window ahead doc span top) = Unit {0}
    IsTreePlaced (Disjunction' p room row heads shape current) = Unit {0}
    IsTreePlaced (Intersection' p leader room row num_docs top) = IsTreePlaced leader ×
        (head_document (tree_entries leader) < TERMINATED → IsRowPlaced row × StandAt (head_document (tree_entries leader)) (row_lists row))

    -- the same of each of a row of trees
    pub IsRowPlaced : {n : _} → Row_of-AnyScorer S n → Type 0
    IsRowPlaced end_of-AnyScorer = Unit {0}
    IsRowPlaced (more_of-AnyScorer x others) = IsTreePlaced x × IsRowPlaced others

  abbrev mutual
    -- That it is a cursor: so are all below, and each node's own list is within its bound.
    pub IsTree : AnyScorer S → Type 0
    IsTree (Empty s) = Unit {0}
    IsTree (All s) = IsOverAll s
    IsTree (Own s) = D.valid s
    IsTree (Term s) = IsTermScorer s.value
    IsTree (BitSet s) = IsConstant set_cursors s.value
    IsTree (Phrase s) = IsPhrase postings_cursors s.value
    IsTree (PhrasePrefix s) = IsPhrasePrefix postings_cursors s.value
    IsTree (Boost' p inner boost top) = IsTree inner × IsBounded top (rescored (λ e. e.score * boost) (tree_entries inner))
    IsTree (Const' p inner score) = IsTree inner × IsBounded score (rescored (λ _. score) (tree_entries inner))
    IsTree (RequiredOptional' p required optional top) = IsTree required × IsTree optional ×
        IsTreePlaced optional × IsBounded top (with_optional sum (tree_entries required) (tree_entries optional))
    IsTree (Exclude' p inner out top) = IsTree inner × IsTree out × IsBounded top (without (has_document (tree_entries out)) (tree_entries inner))
    IsTree (Union' p room row window ahead doc span top) = IsRow row × IsRowPlaced row × IsUnited window doc ahead top (row_limits row) (row_lists row)
    IsTree (Disjunction' p room row heads shape current) = IsRow row × IsRowPlaced row ×
        IsGroup shape current (row_lists row) × AreMemberHeads heads (row_lists row)
    IsTree (Intersection' p leader room row num_docs top) = IsTree leader × IsRow row ×
        IsBounded top (common_entries held_sum (tree_entries leader ∷ row_lists row))

    -- the same of each of a row of trees
    pub IsRow : {n : _} → Row_of-AnyScorer S n → Type 0
    IsRow end_of-AnyScorer = Unit {0}
    IsRow (more_of-AnyScorer x others) = IsTree x × IsRow others
