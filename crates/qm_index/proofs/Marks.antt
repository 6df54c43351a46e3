-- Documents that are marked as deleted.
use Rattle.std.proofs.Common.{◌≡◌, ℕ, zero, suc, ◌+◌, ◌-◌, ◌<◌, ◌≤◌, ◌==◌, ◌||◌, nat_lt, ◌&&◌, Bool, true, false, List, [], ◌∷◌, ◌++◌, All, length, map, take}
use Rattle.std.proofs.Common.{drop, set, get_or}
use Rattle.std.proofs.Common.{subst, refl, sym, ap, ◌∙◌, arith, inl, inr, eq-eqb, ne_eqb, lt-ltb, le-ltb}
use Rattle.std.proofs.lemmas.Bool.{cases_eq, cases_lt}
use Rattle.std.specs.List.{list_any}
use Rattle.std.proofs.lemmas.List.{drop-map, get_or_append_left, get_or-append_right, get_or-map, length-append, length-map, map-append}
use Rattle.std.proofs.lemmas.List.Elements.{All-cons, All-head, All-tail}
use Rattle.qm_docset.specs.Members.{members_between}
use Rattle.qm_docset.proofs.MembersLemmas.{members_between-bound, members_between-none, members_between-same}
use Rattle.qm_postings.specs.Segment.{Document, Segment, empty_segment, with_deleted, with_document, without}
use Rattle.qm_postings.proofs.DeletedDocuments.{flag_set, passing_too}
use Rattle.qm_schema.specs.Schema.{FieldFacts}
use Rattle.qm_schema.specs.declared.error.QueryError.{QueryError}
use Rattle.qm_schema.specs.declared.error.QueryError.TheVariants.{BadDocument, Memory, TooManyDocuments}
use Rattle.qm_docset.specs.declared.numbers.TheConstants.{TERMINATED}
use Rattle.qm_postings.specs.Document.{Draft}
use Rattle.qm_index.specs.OpenDocuments.{IsBadDraft, IsDocumentRefusal, is_marked, kept_of, mark, marked, segment_of, undeleted}
use Rattle.qm_index.specs.declared.open_document.OpenDocument.{OpenDocument}

abbrev flags : List OpenDocument → List Bool
flags ds = map (λ x. x.is_deleted) ds

-- ---- one document more

pub length-mark : (ds : List OpenDocument) (d : ℕ) → length (mark ds d) ≡ length ds
length-mark [] d = refl
length-mark (x ∷ xs) zero = refl
length-mark (x ∷ xs) (suc d) = ap suc (length-mark xs d)

pub take-mark-before : (n : ℕ) (ds : List OpenDocument) (d : ℕ) → n ≤ d → take n (mark ds d) ≡ take n ds
take-mark-before zero ds d below = refl
take-mark-before (suc n) [] d below = refl
take-mark-before (suc n) (x ∷ xs) zero below = absurd (omega (arith, below))
take-mark-before (suc n) (x ∷ xs) (suc d) below = ap (λ r. x ∷ r) (take-mark-before n xs d (omega (arith, below)))

pub take-mark-past : (n : ℕ) (ds : List OpenDocument) (d : ℕ) → d < n → take n (mark ds d) ≡ mark (take n ds) d
take-mark-past zero ds d below = absurd (omega (arith, below))
take-mark-past (suc n) [] d below = refl
take-mark-past (suc n) (x ∷ xs) zero below = refl
take-mark-past (suc n) (x ∷ xs) (suc d) below = ap (λ r. x ∷ r) (take-mark-past n xs d (omega (arith, below)))

pub drop-mark-past : (n : ℕ) (ds : List OpenDocument) (d : ℕ) → d < n → drop n (mark ds d) ≡ drop n ds
drop-mark-past zero ds d below = absurd (omega (arith, below))
drop-mark-past (suc n) [] d below = refl
drop-mark-past (suc n) (x ∷ xs) zero below = refl
drop-mark-past (suc n) (x ∷ xs) (suc d) below = drop-mark-past n xs d (omega (arith, below))

pub drop-mark-before : (n : ℕ) (ds : List OpenDocument) (d : ℕ) → drop n (mark ds (n + d)) ≡ mark (drop n ds) d
drop-mark-before zero ds d = ap (mark ds) (omega arith)
drop-mark-before (suc n) [] d = refl
drop-mark-before (suc n) (x ∷ xs) d =
    let next : suc n + d ≡ suc (n + d) = omega arith in
    ap (λ k. drop (suc n) (mark (x ∷ xs) k)) next ∙ drop-mark-before n xs d

-- a document that is set in its place, as it was given
pub set-mark : (ds : List OpenDocument) (d : ℕ) (other : OpenDocument) → d < length ds →
    set ds d (record { given = (get_or ds d other).given; is_deleted = true }) ≡ mark ds d
set-mark [] d other below = absurd (omega (arith, below))
set-mark (x ∷ xs) zero other below = refl
set-mark (x ∷ xs) (suc d) other below = ap (λ r. x ∷ r) (set-mark xs d other (omega (arith, below)))

flags-mark : (ds : List OpenDocument) (d : ℕ) → flags (mark ds d) ≡ set (flags ds) d true
flags-mark [] d = refl
flags-mark (x ∷ xs) zero = refl
flags-mark (x ∷ xs) (suc d) = ap (λ r. x.is_deleted ∷ r) (flags-mark xs d)

pub kept-mark : (schema : List FieldFacts) (ds : List OpenDocument) (d : ℕ) → map (kept_of schema) (mark ds d) ≡ map (kept_of schema) ds
kept-mark schema [] d = refl
kept-mark schema (x ∷ xs) zero = refl
kept-mark schema (x ∷ xs) (suc d) = ap (λ r. kept_of schema x ∷ r) (kept-mark schema xs d)

pub All-mark : (P : OpenDocument → Type 0) → ((x : OpenDocument) → P x → P (record { given = x.given; is_deleted = true })) →
    (ds : List OpenDocument) (d : ℕ) → All P ds → All P (mark ds d)
All-mark P same [] d all = all
All-mark P same (x ∷ xs) zero all = All-cons P _ xs (same x (All-head P x xs all)) (All-tail P x xs all)
All-mark P same (x ∷ xs) (suc d) all = All-cons P x (mark xs d) (All-head P x xs all) (All-mark P same xs d (All-tail P x xs all))

is_marked-mark : (ds : List OpenDocument) (d x : ℕ) → d < length ds → is_marked (mark ds d) x ≡ (x == d || is_marked ds x)
is_marked-mark ds d x below =
    ap (λ (bs : List Bool). get_or bs x false) (flags-mark ds d) ∙ flag_set (flags ds) d x (omega (arith, length-map ds (λ y. y.is_deleted)))

module _ (schema : List FieldFacts) (block_len : ℕ) where
  -- a segment is deleted from as its documents are marked
  pub segment_of-mark : (ds : List OpenDocument) (d : ℕ) → d < length ds →
      with_deleted (segment_of schema block_len ds) d ≡ segment_of schema block_len (mark ds d)
  segment_of-mark ds d below =
      let made : List Document → List ℕ →
      Segment = λ documents deleted. record { schema = schema; block_len = block_len; documents = documents; deleted = deleted } in
      ap (λ n. made (map (kept_of schema) ds) (members_between (λ x. x == d || list_any (λ y. y == x) (marked ds)) 0 n)) (length-map ds (kept_of schema))
      ∙ ap (made (map (kept_of schema) ds)) (sym (passing_too (is_marked ds) (is_marked (mark ds d)) d (length ds) (λ x _. is_marked-mark ds d x below)))
      ∙ ap (λ n. made (map (kept_of schema) ds) (members_between (is_marked (mark ds d)) 0 n)) (sym (length-mark ds d))
      ∙ ap (λ documents. made documents (marked (mark ds d))) (sym (kept-mark schema ds d))

  -- marks change nothing of a segment from which nothing is deleted
  pub undeleted-mark : (n : ℕ) (ds : List OpenDocument) (d : ℕ) → undeleted schema block_len (drop n (mark ds d)) ≡ undeleted schema block_len (drop n ds)
  undeleted-mark n ds d =
      ap (λ documents. record { schema = schema; block_len = block_len; documents = documents; deleted = [] })
      (sym (drop-map (kept_of schema) n (mark ds d)) ∙ ap (drop n) (kept-mark schema ds d) ∙ drop-map (kept_of schema) n ds)

  pub undeleted-push : (ds : List OpenDocument) (d : OpenDocument) →
      undeleted schema block_len (ds ++ d ∷ []) ≡ with_document (undeleted schema block_len ds) (kept_of schema d)
  undeleted-push ds d =
      ap (λ documents. record { schema = schema; block_len = block_len; documents = documents; deleted = [] })
      (map-append (kept_of schema) ds (d ∷ []))

  -- a document behind the others is not deleted
  pub segment_of-push : (ds : List OpenDocument) (d : OpenDocument) → d.is_deleted ≡ false →
      segment_of schema block_len (ds ++ d ∷ []) ≡ with_document (segment_of schema block_len ds) (kept_of schema d)
  segment_of-push ds d alive =
      let n = length ds in
      let more = ds ++ d ∷ [] in
      let made : List Document → List ℕ →
      Segment = λ documents deleted. record { schema = schema; block_len = block_len; documents = documents; deleted = deleted } in
      let split : flags more ≡ flags ds ++ d.is_deleted ∷ [] = map-append (λ (x : OpenDocument). x.is_deleted) ds (d ∷ []) in
      let long = length-map ds (λ (x : OpenDocument). x.is_deleted) in
      let past : (x : ℕ) → n ≤ x → is_marked more x ≡ false = λ x over.
      ap (λ (bs : List Bool). get_or bs x false) split ∙ get_or-append_right (flags ds) (d.is_deleted ∷ []) n x false long over
      ∙ at_most_one (x - n) in
      let before : (x : ℕ) → 0 ≤ x → x < n → is_marked more x ≡ is_marked ds x = λ x above below.
      ap (λ (bs : List Bool). get_or bs x false) split ∙ get_or_append_left (flags ds) (d.is_deleted ∷ []) false x (omega (arith, below, long)) in
      ap (λ documents. made documents (marked more)) (map-append (kept_of schema) ds (d ∷ []))
      ∙ ap (λ k. made (map (kept_of schema) ds ++ kept_of schema d ∷ []) (members_between (is_marked more) 0 k)) (length-append ds (d ∷ []))
      ∙ ap (made (map (kept_of schema) ds ++ kept_of schema d ∷ []))
      (members_between-bound (is_marked more) 0 n (n + 1) (omega arith) (λ x over. past x (omega (arith, over)))
      ∙ members_between-same (is_marked more) (is_marked ds) 0 n before)
    where
      at_most_one : (k : ℕ) → get_or (d.is_deleted ∷ []) k false ≡ false
      at_most_one zero = alive
      at_most_one (suc k) = refl

  pub segment_of-none : segment_of schema block_len [] ≡ empty_segment schema block_len
  segment_of-none =
      ap (λ ds. record { schema = schema; block_len = block_len; documents = []; deleted = ds })
      (members_between-none (is_marked []) 0 0 (λ x above below. absurd (omega (arith, above, below))))

-- ---- documents marked before one

pub marked_before : List OpenDocument → ℕ → List ℕ
marked_before ds n = members_between (λ d. nat_lt d n && is_marked ds d) 0 (length ds)

pub marked_before-none : (ds : List OpenDocument) (s : Segment) → s.deleted ≡ [] → s ≡ without (marked_before ds 0) s
unfolding marked_before
marked_before-none ds s none =
    ap (λ l. without l s) (none ∙ sym (members_between-none (λ d. nat_lt d 0 && is_marked ds d) 0 (length ds)
    (λ x above below. ap (λ b. b && is_marked ds x) (le-ltb x 0 (omega arith)))))

pub marked_before-all : (ds : List OpenDocument) (n : ℕ) (s : Segment) → n ≡ length ds → without (marked_before ds n) s ≡ without (marked ds) s
unfolding marked_before
marked_before-all ds n s all =
    ap (λ l. without l s) (members_between-same (λ d. nat_lt d n && is_marked ds d) (is_marked ds) 0 (length ds)
    (λ x above below. ap (λ b. b && is_marked ds x) (lt-ltb x n (omega (arith, below, all)))))

module _ (ds : List OpenDocument) (n : ℕ) (x : OpenDocument) (inside : n < length ds) (read : x ≡ get_or ds n x) where
  mark_at : is_marked ds n ≡ x.is_deleted
  mark_at = get_or-map (λ (y : OpenDocument). y.is_deleted) ds n x false inside ∙ ap (λ y. y.is_deleted) (sym read)

  below_next : (d : ℕ) → (d ≡ n → ⊥) → nat_lt d (n + 1) ≡ nat_lt d n
  below_next d other = elim (cases_lt d n) [
    | inl less ↦ rw (lt-ltb d n less, lt-ltb d (n + 1) (omega (arith, less)))
    | inr past ↦ rw (le-ltb d n past, le-ltb d (n + 1) (omega (arith, past, other)))
  ]

  neither : (b : Bool) → (b && false) ≡ false
  neither true = refl
  neither false = refl

  pub marked_before-more : (s : Segment) → length s.documents ≡ length ds → x.is_deleted ≡ true →
      with_deleted (without (marked_before ds n) s) n ≡ without (marked_before ds (n + 1)) s
  unfolding marked_before
  marked_before-more s same marks =
      let has : ℕ → Bool = λ d. nat_lt d n && is_marked ds d in
      let more : ℕ → Bool = λ d. nat_lt d (n + 1) && is_marked ds d in
      ap (λ k. without (members_between (λ d. d == n || list_any (λ y. y == d) (members_between has 0 (length ds))) 0 k) s) same
      ∙ ap (λ l. without l s) (sym (passing_too has more n (length ds) (λ d below. elim (cases_eq d n) [
        | inl here ↦ rw (here, lt-ltb n (n + 1) (omega arith), eq-eqb n n refl) (mark_at ∙ marks)
        | inr other ↦ rw (ne_eqb d n other) (ap (λ b. b && is_marked ds d) (below_next d other))
      ])))

  pub marked_before-same : (s : Segment) → x.is_deleted ≡ false → without (marked_before ds n) s ≡ without (marked_before ds (n + 1)) s
  unfolding marked_before
  marked_before-same s lacks =
      ap (λ l. without l s) (members_between-same (λ d. nat_lt d n && is_marked ds d) (λ d. nat_lt d (n + 1) && is_marked ds d) 0 (length ds)
      (λ d above below. elim (cases_eq d n) [
        | inl here ↦ rw (here, mark_at ∙ lacks) (neither (nat_lt n n) ∙ sym (neither (nat_lt n (n + 1))))
        | inr other ↦ ap (λ b. b && is_marked ds d) (sym (below_next d other))
      ]))

-- a segment that is not full, and has the same fields, refuses a document for the same reason
pub same_refusal : (e : QueryError) (segment other : Segment) (draft : Draft) → length segment.documents < TERMINATED →
    segment.schema ≡ other.schema → IsDocumentRefusal segment draft e → IsDocumentRefusal other draft e
same_refusal Memory segment other draft few same why = tt
same_refusal TooManyDocuments segment other draft few same why = absurd (omega (arith, few, why))
same_refusal BadDocument segment other draft few same why = subst (λ schema. IsBadDraft schema draft) same why
same_refusal e segment other draft few same why = absurd why
