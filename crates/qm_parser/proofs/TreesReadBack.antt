-- The tokens of a tree are read to that tree.
use Rattle.std.proofs.Common.{◌≡◌, ℕ, ◌+◌, ◌<◌, ◌≤◌, suc, cond, List, [], ◌∷◌, ◌++◌, Option, None, Some, Ok, length, refl, sym, ap, ◌∙◌, append_assoc, append-nil, arith, lt-ltb}
use Rattle.qm_parser.specs.Levels.{Last, Level, add_operand, closed, fresh, nothing, one, query_of_clauses}
use Rattle.qm_parser.specs.Pieces.{Piece, close_piece, leaf_piece, name_piece, open_piece, sign_piece}
use Rattle.qm_parser.specs.Query.{Clauses, Leaf, Query, all, beginning, boolean, boost, clause, clauses_of, empty, field, leaf, no_clause, phrase, phrase_beginning, word}
use Rattle.qm_parser.specs.Reading.{refused, ◌>>=◌}
use Rattle.qm_parser.specs.Spelling.{AreSeveral, CanBeTyped, HasTypedParts, HaveTypedParts, as_operand, clause_pieces, clauses_depth, operand_depth, parenthesised, pieces, query_depth, sign_pieces}
use Rattle.qm_parser.specs.Tokens.{Token}
use Rattle.qm_parser.specs.Trees.{State, boosted, end_text, read_piece, step, steps, tree_of_tokens, within}
use Rattle.qm_parser.specs.declared.parsed_query.Sign.{Sign}
use Rattle.qm_parser.specs.declared.refusal_kind.RefusalKind.TheVariants.{TooDeep}
use Rattle.qm_parser.specs.declared.parsed_query.Sign.TheVariants.{Must, MustNot, Should}

-- ---- tokens, wherever they stand

-- these are the tokens
abbrev pub Are : List Piece → List Token → Type 0
Are [] [] = Unit {0}
Are [] (t ∷ ts) = ⊥
Are (p ∷ ps) [] = ⊥
Are (p ∷ ps) (t ∷ ts) = (t.piece ≡ p) × Are ps ts

record Parts (ps qs : List Piece) (ts : List Token) : Type 0 where
  before : List Token
  behind : List Token
  whole : ts ≡ before ++ behind
  are_before : Are ps before
  are_behind : Are qs behind

parted : (ps qs : List Piece) (ts : List Token) → Are (ps ++ qs) ts → Parts ps qs ts
parted [] qs ts are = record { before = []; behind = ts; whole = refl; are_before = tt; are_behind = are }
parted (p ∷ ps) qs [] are = absurd are
parted (p ∷ ps) qs (t ∷ ts) are =
    let rest = parted ps qs ts are.1 in
    record { before = t ∷ rest.before; behind = rest.behind; whole = ap (λ l. t ∷ l) rest.whole; are_before = (are.0, rest.are_before); are_behind = rest.are_behind }

-- these tokens lead from a state to another one, whatever follows
abbrev Lead : State → List Piece → State → Type 0
Lead from ps to = (ts more : List Token) → Are ps ts → steps from (ts ++ more) ≡ steps to more

lead-none : (s : State) → Lead s [] s
lead-none s [] more are = refl
lead-none s (t ∷ ts) more are = absurd are

lead-both : (s t u : State) (ps qs : List Piece) → Lead s ps t → Lead t qs u → Lead s (ps ++ qs) u
lead-both s t u ps qs h k ts more are =
    let p = parted ps qs ts are in
    ap (λ l. steps s (l ++ more)) p.whole ∙ ap (steps s) (append_assoc p.before p.behind more)
    ∙ h p.before (p.behind ++ more) p.are_before ∙ k p.behind more p.are_behind

unfolded : (s : State) (t : Token) (ts : List Token) → steps s (t ∷ ts) ≡ (step s t >>= λ next. steps next ts)
unfolding steps
unfolded s t ts = refl

-- a first token, which may lead to another state at each place
lead-first : (s u : State) (p : Piece) (ps : List Piece) →
    ((place : ℕ) → (mid : State) × (read_piece s.inner s.outer p place ≡ Ok mid) × Lead mid ps u) → Lead s (p ∷ ps) u
lead-first s u p ps first [] more are = absurd are
lead-first s u p ps first (t ∷ ts) more are =
    let next = first t.place in
    unfolded s t (ts ++ more) ∙ ap (λ q. read_piece s.inner s.outer q t.place >>= λ n. steps n (ts ++ more)) are.0
    ∙ ap (λ r. r >>= λ n. steps n (ts ++ more)) next.1 ∙ next.2 ts more are.1

-- ---- levels on which nothing waits

abbrev settled : ℕ → List (Sign × Query) → Last → Level
settled place cs last = record (fresh place) { clauses = cs; last = last }

leaf-leads : (level : Level) (outer : List Level) (l : Leaf) (factor : Option ℕ) →
    Lead (within level outer) (leaf_piece l factor ∷ []) (within (add_operand (boosted factor (leaf l)) level) outer)
unfolding read_piece
leaf-leads level outer l factor = lead-first _ _ (leaf_piece l factor) [] (λ place. (_, refl, lead-none _))

-- the tokens of a query lead to a level of which the clauses say it
record Reads (q : Query) (place : ℕ) (outer : List Level) : Type 0 where
  clauses : List (Sign × Query)
  last : Last
  leads : Lead (within (fresh place) outer) (pieces q) (within (settled place clauses last) outer)
  says : query_of_clauses (clauses ++ closed last) ≡ q

abbrev IsRead : Query → Type 0
IsRead q = (place : ℕ) (outer : List Level) → length outer + query_depth q ≤ 64 → Reads q place outer

opened : (level : Level) (outer : List Level) (place : ℕ) → length outer < 64 →
    read_piece level outer open_piece place ≡ Ok (within (fresh place) (level ∷ outer))
unfolding read_piece
opened level outer place shallow = ap (λ b. cond b (Ok (within (fresh place) (level ∷ outer))) (refused TooDeep place)) (lt-ltb (length outer) 64 shallow)

closes : (level : Level) (outer : List Level) (q : Query) (factor : Option ℕ) (opens place : ℕ) (cs : List (Sign × Query)) (last : Last) →
    query_of_clauses (cs ++ closed last) ≡ q →
    read_piece (settled opens cs last) (level ∷ outer) (close_piece factor) place ≡ Ok (within (add_operand (boosted factor q) level) outer)
unfolding read_piece
closes level outer q factor opens place cs last says = ap (λ p. Ok (within (add_operand (boosted factor p) level) outer)) says

parenthesised-leads : (q : Query) (level : Level) (outer : List Level) (factor : Option ℕ) → IsRead q → length outer + suc (query_depth q) ≤ 64 →
    Lead (within level outer) (parenthesised (pieces q) factor) (within (add_operand (boosted factor q) level) outer)
parenthesised-leads q level outer factor is_read shallow = lead-first _ _ open_piece (pieces q ++ close_piece factor ∷ []) (λ place.
    let inner = is_read place (level ∷ outer) (omega arith) in (
      within (fresh place) (level ∷ outer),
      opened level outer place (omega arith),
      lead-both _ (within (settled place inner.clauses inner.last) (level ∷ outer)) _ (pieces q) (close_piece factor ∷ []) inner.leads
          (lead-first _ _ (close_piece factor) [] (λ end. (_, closes level outer q factor place end inner.clauses inner.last inner.says, lead-none _))),
    ))

operand-leads : (q : Query) (level : Level) (outer : List Level) (factor : Option ℕ) → IsRead q → length outer + operand_depth q (query_depth q) ≤ 64 →
    Lead (within level outer) (as_operand q (pieces q) factor) (within (add_operand (boosted factor q) level) outer)
operand-leads (leaf (word w)) level outer factor is_read shallow = leaf-leads level outer (word w) factor
operand-leads (leaf (beginning w)) level outer factor is_read shallow = leaf-leads level outer (beginning w) factor
operand-leads (leaf (phrase text slop)) level outer factor is_read shallow = leaf-leads level outer (phrase text slop) factor
operand-leads (leaf (phrase_beginning text)) level outer factor is_read shallow = leaf-leads level outer (phrase_beginning text) factor
operand-leads (leaf all) level outer factor is_read shallow = parenthesised-leads (leaf all) level outer factor is_read shallow
operand-leads empty level outer factor is_read shallow = parenthesised-leads empty level outer factor is_read shallow
operand-leads (field name q) level outer factor is_read shallow = parenthesised-leads (field name q) level outer factor is_read shallow
operand-leads (boost n q) level outer factor is_read shallow = parenthesised-leads (boost n q) level outer factor is_read shallow
operand-leads (boolean cs) level outer factor is_read shallow = parenthesised-leads (boolean cs) level outer factor is_read shallow

-- ---- clauses

abbrev clause_list : Clauses → List (Sign × Query)
clause_list no_clause = []
clause_list (clause sign q cs) = (sign, q) ∷ clause_list cs

clauses-again : (cs : Clauses) → clauses_of (clause_list cs) ≡ cs
clauses-again no_clause = refl
clauses-again (clause sign q cs) = ap (clause sign q) (clauses-again cs)

several : (cs : Clauses) → AreSeveral cs → query_of_clauses (clause_list cs) ≡ boolean cs
several no_clause h = absurd h
several (clause Should q no_clause) h = absurd h
several (clause Should q (clause sign p cs)) h = ap (λ l. boolean (clause Should q (clause sign p l))) (clauses-again cs)
several (clause Must q no_clause) h = refl
several (clause Must q (clause sign p cs)) h = ap (λ l. boolean (clause Must q (clause sign p l))) (clauses-again cs)
several (clause MustNot q no_clause) h = refl
several (clause MustNot q (clause sign p cs)) h = ap (λ l. boolean (clause MustNot q (clause sign p l))) (clauses-again cs)

-- the tokens of clauses lead to a level with these clauses behind those that it had
record Joins (cs : Clauses) (place : ℕ) (outer : List Level) (front : List (Sign × Query)) (before : Last) : Type 0 where
  clauses : List (Sign × Query)
  last : Last
  leads : Lead (within (settled place front before) outer) (clause_pieces cs) (within (settled place clauses last) outer)
  joined : clauses ++ closed last ≡ (front ++ closed before) ++ clause_list cs

abbrev sign_of : Sign → Option Sign
sign_of Should = None
sign_of Must = Some Must
sign_of MustNot = Some MustNot

-- a clause leads to the level with it behind the clauses
clause-leads : (sign : Sign) (q : Query) (place : ℕ) (outer : List Level) (front : List (Sign × Query)) (before : Last) (ps : List Piece) (to : State) → IsRead q →
    length outer + operand_depth q (query_depth q) ≤ 64 → Lead (within (settled place (front ++ closed before) (one (sign_of sign) q)) outer) ps to →
    Lead (within (settled place front before) outer) (sign_pieces sign ++ (as_operand q (pieces q) None ++ ps)) to
unfolding read_piece
clause-leads Should q place outer front before ps to is_read shallow rest =
    lead-both _ _ _ (as_operand q (pieces q) None) ps (operand-leads q (settled place front before) outer None is_read shallow) rest
clause-leads Must q place outer front before ps to is_read shallow rest = lead-first _ _ (sign_piece Must) _ (λ at.
    (_, refl, lead-both _ _ _ (as_operand q (pieces q) None) ps (operand-leads q (record (settled place front before) { sign = Some (Must, at) }) outer None is_read shallow) rest))
clause-leads MustNot q place outer front before ps to is_read shallow rest = lead-first _ _ (sign_piece MustNot) _ (λ at.
    (_, refl, lead-both _ _ _ (as_operand q (pieces q) None) ps (operand-leads q (record (settled place front before) { sign = Some (MustNot, at) }) outer None is_read shallow) rest))

closed-one : (sign : Sign) (q : Query) → closed (one (sign_of sign) q) ≡ (sign, q) ∷ []
closed-one Should q = refl
closed-one Must q = refl
closed-one MustNot q = refl

mutual
  unfolding read_piece

  clauses-lead : (cs : Clauses) (place : ℕ) (outer : List Level) (front : List (Sign × Query)) (before : Last) → HaveTypedParts cs →
      length outer + clauses_depth cs ≤ 64 → Joins cs place outer front before
  clauses-lead no_clause place outer front before typed shallow =
      record { clauses = front; last = before; leads = lead-none _; joined = sym (append-nil (front ++ closed before)) }
  clauses-lead (clause sign q cs) place outer front before typed shallow =
      let rest = clauses-lead cs place outer (front ++ closed before) (one (sign_of sign) q) typed.1 (omega arith) in
      record {
        clauses = rest.clauses;
        last = rest.last;
        leads = clause-leads sign q place outer front before (clause_pieces cs) _ (query-reads q typed.0) (omega arith) rest.leads;
        joined = rest.joined ∙ ap (λ l. ((front ++ closed before) ++ l) ++ clause_list cs) (closed-one sign q)
            ∙ append_assoc (front ++ closed before) ((sign, q) ∷ []) (clause_list cs);
      }

  query-reads : (q : Query) → HasTypedParts q → IsRead q
  query-reads empty typed place outer shallow = record { clauses = []; last = nothing; leads = lead-none _; says = refl }
  query-reads (leaf l) typed place outer shallow = record { clauses = []; last = one None (leaf l); leads = leaf-leads (fresh place) outer l None; says = refl }
  query-reads (field name q) typed place outer shallow = record {
    clauses = [];
    last = one None (field name q);
    leads = lead-first _ _ (name_piece name) _ (λ at.
        (_, refl, operand-leads q (record (fresh place) { name = Some (name, at) }) outer None (query-reads q typed.1) shallow));
    says = refl;
  }
  query-reads (boost factor q) typed place outer shallow = record {
    clauses = [];
    last = one None (boost factor q);
    leads = operand-leads q (fresh place) outer (Some factor) (query-reads q typed.1) shallow;
    says = refl;
  }
  query-reads (boolean cs) typed place outer shallow =
      let all_clauses = clauses-lead cs place outer [] nothing typed.1 shallow in
      record { clauses = all_clauses.clauses; last = all_clauses.last; leads = all_clauses.leads; says = ap query_of_clauses all_clauses.joined ∙ several cs typed.0 }

tree_of : (ts : List Token) → tree_of_tokens ts ≡ (steps (within (fresh 0) []) ts >>= end_text)
unfolding tree_of_tokens
tree_of ts = refl

no-more : (s : State) → steps s [] ≡ Ok s
unfolding steps
no-more s = refl

-- The tokens of a tree are read to it, wherever they stand.
pub tree-read : (q : Query) (ts : List Token) → CanBeTyped q → Are (pieces q) ts → tree_of_tokens ts ≡ Ok q
tree-read q ts can are =
    let whole = query-reads q can.parts 0 [] (omega (arith, can.shallow)) in
    tree_of ts ∙ ap (λ l. steps (within (fresh 0) []) l >>= end_text) (sym (append-nil ts))
    ∙ ap (λ r. r >>= end_text) (whole.leads ts [] are ∙ no-more (within (settled 0 whole.clauses whole.last) [])) ∙ ap Ok whole.says
