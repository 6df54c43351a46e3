-- The parts of a segment, joined, are the segment.
use Rattle.std.proofs.Common.{◌≡◌, ℕ, ◌+◌, ◌≤◌, Bool, List, [], ◌∷◌, ◌++◌, drop, length, map, take, zero, suc, refl, ap, subst, sym, zero-add, ◌∙◌, arith}
use Rattle.std.proofs.lemmas.List.{length-drop, length-map, length-take, take-map, take_all}
use Rattle.qm_docset.specs.Members.{members_between}
use Rattle.qm_docset.proofs.MembersLemmas.{members_between-shift, members_between-split}
use Rattle.qm_index.specs.Parts.{AreParts, ArePartsFrom, part_of}
use Rattle.qm_merge.specs.Merging.{joined}
use Rattle.qm_postings.specs.Restriction.{keeping, restricted}
use Rattle.qm_postings.specs.Segment.{Segment, is_deleted}
use Rattle.qm_schema.specs.Term.{TermKey}
use Rattle.qm_script.specs.Narrowed.{all_joined}

take-none : {X : Type 0} (n : ℕ) → take n (let none : List X = [] in none) ≡ []
take-none zero = refl
take-none (suc n) = refl

take-more : {X : Type 0} (a b : ℕ) (xs : List X) → take a xs ++ take b (drop a xs) ≡ take (a + b) xs
take-more zero b xs = ap (λ n. take n xs) (let same : b ≡ 0 + b = omega arith in same)
take-more (suc a) b [] = take-none b ∙ sym (take-none (suc a + b))
take-more (suc a) b (x ∷ xs) =
    ap (λ l. x ∷ l) (take-more a b xs) ∙ ap (λ n. take n (x ∷ xs)) (let same : suc (a + b) ≡ suc a + b = omega arith in same)

module _ (whole : Segment) where
  from_start : (n : ℕ) → members_between (λ d. is_deleted whole (0 + d)) 0 n ≡ members_between (is_deleted whole) 0 n
  from_start n = λ i. members_between (λ d. is_deleted whole (zero-add d i)) 0 n

  -- the first documents, and those behind them
  first-more : (a b : ℕ) → a ≤ length whole.documents → joined (part_of whole 0 a) (part_of whole a b) ≡ part_of whole 0 (a + b)
  first-more a b within =
      let deleted : ℕ → Bool = is_deleted whole in
      let long : length (take a whole.documents) ≡ a = omega (arith, length-take a whole.documents, within) in
      let start : a + 0 ≡ a = omega arith in
      let behind : map (λ d. a + d) (members_between (λ d. is_deleted whole (a + d)) 0 b) ≡ members_between deleted a (a + b) =
      sym (members_between-shift deleted a 0 b) ∙ ap (λ k. members_between deleted k (a + b)) start in
      let both = (λ i. from_start a i ++ map (λ d. long i + d) (members_between (λ d. is_deleted whole (a + d)) 0 b))
      ∙ (λ i. members_between deleted 0 a ++ behind i) ∙ sym (members_between-split deleted 0 a (a + b) (omega arith) (omega arith)) ∙ sym (from_start (a + b)) in
      λ i. record { schema = whole.schema; block_len = whole.block_len; documents = take-more a b whole.documents i; deleted = both i }

  joined-from : (s : Segment) (n : ℕ) (parts : List Segment) → s ≡ part_of whole 0 n → n ≤ length whole.documents → ArePartsFrom n whole parts →
      all_joined s parts ≡ part_of whole 0 (length whole.documents)
  joined-from s n [] is within are = is ∙ ap (part_of whole 0) are
  joined-from s n (p ∷ parts) is within are =
      let m = length p.documents in
      let long = ap (λ (q : Segment). length q.documents) are.0 ∙ length-take m (drop n whole.documents) in
      joined-from (joined s p) (n + m) parts ((λ i. joined (is i) (are.0 i)) ∙ first-more n m within)
      (omega (arith, long, length-drop n whole.documents, within)) are.1

  pub parts-joined : (p : Segment) (parts : List Segment) → AreParts whole (p ∷ parts) → all_joined p parts ≡ part_of whole 0 (length whole.documents)
  parts-joined p parts are =
      let long = ap (λ (q : Segment). length q.documents) are.0 ∙ length-take (length p.documents) whole.documents in
      joined-from p (length p.documents) parts are.0 (omega (arith, long)) (subst (λ n. ArePartsFrom n whole parts) (zero-add (length p.documents)) are.1)

  -- so it is where some terms alone are kept of each
  pub parts-joined_restricted : (wanted : TermKey → Bool) (p : Segment) (parts : List Segment) → AreParts whole (p ∷ parts) →
      AreParts (restricted wanted whole) (restricted wanted (all_joined p parts) ∷ [])
  parts-joined_restricted wanted p parts are =
      let n = length whole.documents in
      let joined_is = ap (restricted wanted) (parts-joined p parts are) in
      let part : restricted wanted (part_of whole 0 n) ≡ part_of (restricted wanted whole) 0 n =
      λ i. record (part_of (restricted wanted whole) 0 n) { documents = sym (take-map (keeping wanted) n whole.documents) i } in
      let long : length (restricted wanted (all_joined p parts)).documents ≡ n = ap (λ (s : Segment). length s.documents) joined_is
      ∙ length-map (take n whole.documents) (keeping wanted) ∙ ap length (take_all n whole.documents (omega arith)) in (
        joined_is ∙ part ∙ ap (part_of (restricted wanted whole) 0) (sym long),
        omega (arith, long, length-map whole.documents (keeping wanted)),
      )
