-- What new files add to a folder, and leave as it was.
use Rattle.std.proofs.Common.{◌≡◌, ℕ, zero, suc, append-nil, append_assoc, slice_get, ◌+◌, ◌<◌, ◌≤◌, List, [], ◌∷◌, ◌++◌, All, Some, length, take, get_or, refl, sym, ap, subst, ◌∙◌, arith, inl, inr}
use Rattle.std.specs.Prelude.{IfSome}
use Rattle.std.proofs.lemmas.List.{map-append, take-append-le, take_all}
use Rattle.std.proofs.lemmas.List.Elements.{All-head, All-tail, All-take}
use Rattle.qm_folder.specs.Disk.{Contents}
use Rattle.qm_folder.specs.Names.{Name, file_name, file_names}
use Rattle.qm_folder.specs.Steps.{AreWhole}
use Rattle.qm_folder.specs.declared.new_file.NewFile.{NewFile}
use Rattle.qm_postings.specs.Segment.{Segment}
use Rattle.qm_store.specs.declared.kept_segment.KeptSegment.{KeptSegment}
use Rattle.qm_index.specs.FileNames.{AreNumbered, IsNameBelow, IsNameOf, deletions_name, segment_name}
use Rattle.qm_index.specs.SavedFiles.{IsNumberedBelow}
use Rattle.qm_index.specs.SavedIndex.{AreHeld, HasMore, HaveNothingNew, IsAdded, IsAddedTo, IsFileOf, IsHeld, TellsDeleted, WasHeld, WereHeld}
use Rattle.qm_index.proofs.FileNames.{numbered-more}

-- ---- the parts of a list

All-right : {X : Type 0} (P : X → Type 0) (xs ys : List X) → All P (xs ++ ys) → All P ys
All-right P [] ys all = all
All-right P (x ∷ xs) ys all = All-right P xs ys (All-tail P x (xs ++ ys) all)

All-left : {X : Type 0} (P : X → Type 0) (xs ys : List X) → All P (xs ++ ys) → All P xs
All-left P xs ys all =
    let own : take (length xs) (xs ++ ys) ≡ xs = take-append-le (length xs) xs ys (omega arith) ∙ take_all (length xs) xs (omega arith) in
    subst (All P) own (All-take P (length xs) (xs ++ ys) all)

-- ---- files that were added

pub added-numbered : (first next number : ℕ) (name : Name) (bytes : List ℕ) (before after : List NewFile) → IsAdded name bytes before after →
    AreNumbered first (file_names before) next → next ≤ number → IsNameOf number name → AreNumbered first (file_names after) (number + 1)
added-numbered first next number name bytes before after is are later named =
    let names : file_names after ≡ file_names before ++ name ∷ [] =
    ap file_names is.behind ∙ map-append file_name before (is.file ∷ []) ∙ ap (λ n. file_names before ++ n ∷ []) is.named in
    subst (λ ns. AreNumbered first ns (number + 1)) (sym names) (numbered-more first (file_names before) next number name are later named)

last-whole : (before : List NewFile) (file : NewFile) (c : Contents) → AreWhole (before ++ file ∷ []) c → c (file_name file) ≡ Some file.bytes.items
last-whole before file c are = All-head (λ f. c (file_name f) ≡ Some f.bytes.items) file [] (All-right (λ f. c (file_name f) ≡ Some f.bytes.items) before (file ∷ []) are)

pub added-whole : (name : Name) (bytes : List ℕ) (before after : List NewFile) (c : Contents) → IsAdded name bytes before after → AreWhole after c → c name ≡ Some bytes
added-whole name bytes before after c is are =
    ap c (sym is.named) ∙ last-whole before is.file c (subst (λ fs. AreWhole fs c) is.behind are) ∙ ap Some is.whole

pub added-more : (name : Name) (bytes : List ℕ) (before after : List NewFile) → IsAdded name bytes before after → HasMore before after
added-more name bytes before after is = (is.file ∷ [], is.behind)

-- what holds of all files holds of the first of them
pub fewer-whole : (before after : List NewFile) (c : Contents) → HasMore before after → AreWhole after c → AreWhole before c
fewer-whole before after c more are =
    All-left (λ f. c (file_name f) ≡ Some f.bytes.items) before more.0 (subst (λ fs. AreWhole fs c) more.1 are)

pub fewer-added : (first : ℕ) (before after : List NewFile) (old c : Contents) → HasMore before after → IsAddedTo first after old c → IsAddedTo first before old c
fewer-added first before after old c more is = record { whole = fewer-whole before after c more is.whole; others = is.others }

pub more-still : (files : List NewFile) → HasMore files files
more-still files = ([], sym (append-nil files))

pub more-joined : (before mid after : List NewFile) → HasMore before mid → HasMore mid after → HasMore before after
more-joined before mid after first second =
    (first.0 ++ second.0, second.1 ∙ ap (λ fs. fs ++ second.0) first.1 ∙ append_assoc before first.0 second.0)

-- ---- what was saved before

pub kept-file : (first : ℕ) (files : List NewFile) (old c : Contents) (b : KeptSegment) (s : Segment) → IsNumberedBelow first b → IsAddedTo first files old c →
    WasHeld old b s → IsFileOf b.key s (c (segment_name b.key))
kept-file first files old c b s below added was =
    subst (IsFileOf b.key s) (sym (added.others (segment_name b.key) (record { number = b.key; below = below.key; of = inl refl }))) was.file

kept-deleted : (first : ℕ) (files : List NewFile) (old c : Contents) (key number : ℕ) (s : Segment) → number < first → IsAddedTo first files old c →
    TellsDeleted old key number s → TellsDeleted c key number s
kept-deleted first files old c key number s below added (inl none) = inl none
kept-deleted first files old c key number s below added (inr is) = inr (record {
  some = is.some;
  numbers = is.numbers;
  few = is.few;
  bytes = added.others (deletions_name number) (record { number = number; below = below; of = inr refl }) ∙ is.bytes;
})

pub kept-held : (first : ℕ) (files : List NewFile) (old c : Contents) (b : KeptSegment) (s : Segment) → IsNumberedBelow first b → IsAddedTo first files old c →
    b.deleted ≡ length s.deleted → WasHeld old b s → IsHeld c b s
kept-held first files old c b s below added same was = record {
  file = kept-file first files old c b s below added was;
  deleted = kept-deleted first files old c b.key b.deletions s below.deletions added (was.deleted same);
  counted = same;
  ascending = was.ascending;
}

-- ---- several segments

-- the one before at a place
pub were-at : (old : Contents) (ks : List KeptSegment) (ss : List Segment) (k : ℕ) (s : Segment) → WereHeld old ks ss → k < length ss → get_or ss k s ≡ s →
    IfSome (slice_get ks k) (λ b. WasHeld old b s)
were-at old [] ss k s were below is = tt
were-at old (b ∷ ks) [] k s were below is = absurd were
were-at old (b ∷ ks) (x ∷ ss) zero s were below is = subst (WasHeld old b) is were.0
were-at old (b ∷ ks) (x ∷ ss) (suc k) s were below is = were-at old ks ss k s were.1 (omega (arith, below)) is

pub held-more : (c : Contents) (ks : List KeptSegment) (ss : List Segment) (k : KeptSegment) (s : Segment) → AreHeld c ks ss → IsHeld c k s → AreHeld c (ks ++ k ∷ []) (ss ++ s ∷ [])
held-more c [] [] k s are is = (is, tt)
held-more c [] (x ∷ ss) k s are is = absurd are
held-more c (b ∷ ks) [] k s are is = absurd are
held-more c (b ∷ ks) (x ∷ ss) k s are is = (are.0, held-more c ks ss k s are.1 is)

-- one more of which nothing is new
pub nothing-new-more : (ks : List KeptSegment) (ss : List Segment) (k : KeptSegment) (s : Segment) → HaveNothingNew ks ss → k.deleted ≡ length s.deleted →
    HaveNothingNew (ks ++ k ∷ []) (ss ++ s ∷ [])
nothing-new-more [] [] k s have is = (is, tt)
nothing-new-more [] (x ∷ ss) k s have is = absurd have
nothing-new-more (b ∷ ks) [] k s have is = absurd have
nothing-new-more (b ∷ ks) (x ∷ ss) k s have is = (have.0, nothing-new-more ks ss k s have.1 is)

-- nothing is new of the one at a place
pub nothing-new-at : (ks : List KeptSegment) (ss : List Segment) (n : ℕ) (s : Segment) → HaveNothingNew ks ss → n < length ss → get_or ss n s ≡ s →
    (k : KeptSegment) × (slice_get ks n ≡ Some k) × (k.deleted ≡ length s.deleted)
nothing-new-at [] [] n s have below is = absurd (omega (arith, below))
nothing-new-at [] (x ∷ ss) n s have below is = absurd have
nothing-new-at (b ∷ ks) [] n s have below is = absurd have
nothing-new-at (b ∷ ks) (x ∷ ss) zero s have below is = (b, refl, subst (λ (y : Segment). b.deleted ≡ length y.deleted) is have.0)
nothing-new-at (b ∷ ks) (x ∷ ss) (suc n) s have below is = nothing-new-at ks ss n s have.1 (omega (arith, below)) is

pub none-held : (c : Contents) (ks : List KeptSegment) → ks ≡ [] → AreHeld c ks []
none-held c [] none = tt
none-held c (k ∷ ks) none = cc

pub numbered-later : (next later : ℕ) (ks : List KeptSegment) → next ≤ later → All (IsNumberedBelow next) ks → All (IsNumberedBelow later) ks
numbered-later next later ks order are = λ i d below. let is = are i d below in record { key = omega (arith, is.key, order); deletions = omega (arith, is.deletions, order) }

pub added-as : (n m : Name) (bs cs : List ℕ) (before after : List NewFile) → IsAdded n bs before after → n ≡ m → bs ≡ cs → IsAdded m cs before after
added-as n m bs cs before after is named whole = record { file = is.file; behind = is.behind; named = is.named ∙ named; whole = is.whole ∙ whole }

-- what is held was held
pub held-were : (c : Contents) (ks : List KeptSegment) (ss : List Segment) → AreHeld c ks ss → WereHeld c ks ss
held-were c [] ss are = tt
held-were c (k ∷ ks) [] are = absurd are
held-were c (k ∷ ks) (s ∷ ss) are = (
  record { file = are.0.file; deleted = λ same. are.0.deleted; fewer = omega (arith, are.0.counted); ascending = are.0.ascending },
  held-were c ks ss are.1,
)

-- what was held still was, where the files of lower numbers are what they were
pub were-still : (first : ℕ) (ks : List KeptSegment) (ss : List Segment) (old c : Contents) → All (IsNumberedBelow first) ks →
    ((n : Name) → IsNameBelow first n → c n ≡ old n) → WereHeld old ks ss → WereHeld c ks ss
were-still first [] ss old c below same were = tt
were-still first (k ∷ ks) [] old c below same were = absurd were
were-still first (k ∷ ks) (s ∷ ss) old c below same were =
    let own = All-head (IsNumberedBelow first) k ks below in
    let added : IsAddedTo first [] old c = record { whole = λ i d inside. absurd (omega (arith, inside)); others = same } in (
      record {
        file = kept-file first [] old c k s own added were.0;
        deleted = λ counted. kept-deleted first [] old c k.key k.deletions s own.deletions added (were.0.deleted counted);
        fewer = were.0.fewer;
        ascending = were.0.ascending;
      },
      were-still first ks ss old c (All-tail (IsNumberedBelow first) k ks below) same were.1,
    )

-- a lower number is one below a later one
pub name-below : (first later : ℕ) (n : Name) → first ≤ later → IsNameBelow first n → IsNameBelow later n
name-below first later n order is = record { number = is.number; below = omega (arith, order, is.below); of = is.of }
