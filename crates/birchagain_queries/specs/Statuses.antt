-- The statuses of refused queries.
use Rattle.std.specs.Prelude.{ℕ}
use Rattle.qm_parser.specs.declared.refusal_kind.RefusalKind.{RefusalKind}
use Rattle.qm_parser.specs.declared.refusal_kind.RefusalKind.TheVariants as kind
use Rattle.qm_schema.specs.Refusals.{refusal_number}
use Rattle.birchagain_queries.specs.declared.refusal.QueryRefusal.{QueryRefusal}
use Rattle.birchagain_queries.specs.declared.refusal.QueryRefusal.TheVariants.{NamesField, NoLanguage, NoRoom, NotUnderstood, Query, Untyped}

-- from 101 on, in the order of the kinds of what isn't understood in a typed text
abbrev pub untyped_status : RefusalKind → ℕ
untyped_status kind.StrayEscape = 101
untyped_status kind.OpenQuote = 102
untyped_status kind.OpenParenthesis = 103
untyped_status kind.StrayParenthesis = 104
untyped_status kind.TooDeep = 105
untyped_status kind.Wildcard = 106
untyped_status kind.Fuzzy = 107
untyped_status kind.SlopWithoutNumber = 108
untyped_status kind.SlopTooGreat = 109
untyped_status kind.StrayBoost = 110
untyped_status kind.BoostWithoutNumber = 111
untyped_status kind.BoostNotWhole = 112
untyped_status kind.BoostTooGreat = 113
untyped_status kind.FieldWithoutName = 114
untyped_status kind.FieldWithoutValue = 115
untyped_status kind.AnyValue = 116
untyped_status kind.SignWithoutClause = 117
untyped_status kind.OperatorWithoutSide = 118
untyped_status kind.Range = 119
untyped_status kind.Set = 120
untyped_status kind.Regex = 121
untyped_status kind.Touching = 122

-- from 1 on the number of what the query layer refuses, and from 65 on what is refused of its text
abbrev pub status_of : QueryRefusal → ℕ
status_of (Query error) = refusal_number error
status_of NotUnderstood = 65
status_of NamesField = 71
status_of NoLanguage = 72
status_of NoRoom = 86
status_of (Untyped refusal) = untyped_status refusal.kind
