-- The clauses between a parenthesis and its end, or of a whole text, and how each that is read joins
-- those before it.
use Rattle.std.specs.Prelude.{ℕ, Bool, true, false, List, [], ◌∷◌, ◌++◌, Option, None, Some, option_map, Result, Ok}
use Rattle.std.specs.Option.{unwrap_or}
use Rattle.qm_parser.specs.Query.{Query, boolean, clauses_of, empty, field}
use Rattle.qm_parser.specs.Reading.{refused, ◌>>=◌}
use Rattle.qm_parser.specs.declared.parse_error.Refusal.{Refusal}
use Rattle.qm_parser.specs.declared.parsed_query.Sign.{Sign}
use Rattle.qm_parser.specs.declared.parsed_query.Sign.TheVariants.{Must, Should}
use Rattle.qm_parser.specs.declared.refusal_kind.RefusalKind.TheVariants.{FieldWithoutValue, OperatorWithoutSide, SignWithoutClause}

-- what an AND would join the next clause to
pub data Last : Type 0 where
  nothing : Last
  -- a clause, and its sign, if it had one
  one : Option Sign → Query → Last
  -- clauses that an AND has joined
  chain : List (Sign × Query) → Last

pub record Level : Type 0 where
  -- the place of the parenthesis
  pub opened : ℕ
  -- the clauses that no AND can join any more
  pub clauses : List (Sign × Query)
  -- what an AND could join
  pub last : Last
  -- whether an AND joins the next clause
  pub joins : Bool
  -- the place of the AND or OR that waits for a clause
  pub operator : Option ℕ
  -- the sign that waits for a clause, and its place
  pub sign : Option (Sign × ℕ)
  -- the name of a field that waits for what is to be found there, and its place
  pub name : Option (List ℕ × ℕ)

-- no clause, behind a parenthesis at this place
abbrev pub fresh : ℕ → Level
fresh place = record { opened = place; clauses = []; last = nothing; joins = false; operator = None; sign = None; name = None }

-- ---- that nothing waits

-- no name of a field waits for what is to be found there
abbrev pub nameless : Level → Result (Unit {0}) Refusal
nameless level = elim level.name [ None ↦ Ok tt | Some name ↦ refused FieldWithoutValue name.1 ]

-- and no sign waits for a clause
abbrev pub signless : Level → Result (Unit {0}) Refusal
signless level = nameless level >>= λ u. elim level.sign [ None ↦ Ok tt | Some sign ↦ refused SignWithoutClause sign.1 ]

-- and no AND or OR does
abbrev pub complete : Level → Result (Unit {0}) Refusal
complete level = signless level >>= λ u. elim level.operator [ None ↦ Ok tt | Some place ↦ refused OperatorWithoutSide place ]

-- ---- what the clauses say

-- the query in this field, if there is one
abbrev pub named_query : Option (List ℕ × ℕ) → Query → Query
named_query None q = q
named_query (Some name) q = field name.0 q

-- clauses that an AND joins must match, but for a sign of their own
abbrev pub extended : Last → Option Sign → Query → Last
extended nothing sign q = one sign q
extended (one first p) sign q = chain ((unwrap_or first Must, p) ∷ (unwrap_or sign Must, q) ∷ [])
extended (chain cs) sign q = chain (cs ++ (unwrap_or sign Must, q) ∷ [])

-- a clause that no AND joins should match, but for a sign of its own; clauses that an AND has joined
-- are one clause, which should match
abbrev pub closed : Last → List (Sign × Query)
closed nothing = []
closed (one sign q) = (unwrap_or sign Should, q) ∷ []
closed (chain cs) = (Should, boolean (clauses_of cs)) ∷ []

-- whether this is one clause that only should match
abbrev pub is_lone : List (Sign × Query) → Bool
is_lone ((Should, q) ∷ []) = true
is_lone cs = false

-- clauses say what they say together; one that only should match says what it says alone
abbrev pub query_of_clauses : List (Sign × Query) → Query
query_of_clauses [] = empty
query_of_clauses ((Should, q) ∷ []) = q
query_of_clauses cs = boolean (clauses_of cs)

-- what all clauses of a level say
abbrev pub level_query : Level → Query
level_query level = query_of_clauses (level.clauses ++ closed level.last)

-- ---- what is read

-- a clause of the sign and under the name that wait
abbrev pub add_clause : Bool → Level → Option Sign → Query → Level
add_clause true level sign q = record (fresh level.opened) { clauses = level.clauses; last = extended level.last sign q }
add_clause false level sign q = record (fresh level.opened) { clauses = level.clauses ++ closed level.last; last = one sign q }

-- the level with this as its next clause
abbrev pub add_operand : Query → Level → Level
add_operand q level = add_clause level.joins level (option_map (λ s. s.0) level.sign) (named_query level.name q)

-- an AND, which joins, or an OR, at this place: a clause has to stand before it
abbrev pub join : Bool → ℕ → Level → Result Level Refusal
join joins place level = complete level >>= λ u. elim level.last [
  | nothing ↦ refused OperatorWithoutSide place
  | one sign q ↦ Ok (record level { joins = joins; operator = Some place })
  | chain cs ↦ Ok (record level { joins = joins; operator = Some place })
]
