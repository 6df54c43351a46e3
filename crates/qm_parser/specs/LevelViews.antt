-- What the open parentheses of the program stand for in the language.
use Rattle.std.specs.Prelude.{ℕ, List, Option, map, option_map, reverse, string_bytes, String}
use Rattle.std.specs.Global.{Global}
use Rattle.qm_parser.specs.Levels.{Last, Level, chain, nothing, one}
use Rattle.qm_parser.specs.Trees.{State}
use Rattle.qm_parser.specs.Views.{clause_of, query_of}
use Rattle.qm_parser.specs.declared.levels.LastClause.{LastClause}
use Rattle.qm_parser.specs.declared.levels.LastClause.TheVariants.{Chain, Nothing, One}
use Rattle.qm_parser.specs.declared.levels.OpenLevel.{OpenLevel}
use Rattle.qm_parser.specs.declared.outer_levels.OuterLevels.{OuterLevels}
use Rattle.qm_parser.specs.declared.read_tokens.OpenText.{OpenText}

-- what an AND would join
abbrev pub last_of : LastClause → Last
last_of Nothing = nothing
last_of (One sign q) = one sign (query_of q)
last_of (Chain cs) = chain (map clause_of cs.items)

-- the name of a field, and its place
abbrev pub name_of : Option (String Global × ℕ) → Option (List ℕ × ℕ)
name_of name = option_map (λ n. (string_bytes n.0, n.1)) name

-- the clauses of a parenthesis
abbrev pub level_of : OpenLevel → Level
level_of l = record {
  opened = l.opened;
  clauses = map clause_of l.clauses.items;
  last = last_of l.last;
  joins = l.joins;
  operator = l.operator;
  sign = l.sign;
  name = name_of l.name;
}

-- the levels around the innermost one, of which that was put in last is the first
abbrev pub outer_of : OuterLevels → List Level
outer_of o = reverse (map level_of o.levels.items)

-- what was read so far
abbrev pub state_of : OpenText → State
state_of t = record { inner = level_of t.inner; outer = outer_of t.outer }
