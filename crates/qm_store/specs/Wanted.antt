-- What is wanted of a stored segment: a term, or all terms that begin with it.
use denote.Ref.{Bor}
use Rattle.std.specs.Prelude.{◌≡◌, Bool, true, false, ◌==◌, ◌&&◌, ◌||◌, not, if◌then◌else◌, List, [], ◌∷◌, Option, None, Some, nat_eq, option_map}
use Rattle.std.proofs.Common.{refl}
use Rattle.std.specs.Cmp.{IsEquivalence, IsTotalOrder, bool_cmp_total, eq_by_cmp_equiv, on_total, then_total}
use Rattle.std.specs.List.{AllByRecursion, list_any, starts_with}
use Rattle.std.specs.Ordering.{bool_cmp, eq_by_cmp, on, ordering_then, then_cmp}
use Rattle.std.specs.declared.cmp.Ordering.{Ordering}
use Rattle.std.specs.declared.cmp.Ordering.TheVariants.{Less}
use Rattle.qm_schema.specs.Term.{TermKey, term_cmp, term_cmp_total}
use Rattle.qm_store.specs.declared.wanted.Wanted.{Wanted}

-- whether a term begins with another one: in the same field, with its bytes
abbrev pub begins_with : TermKey → TermKey → Bool
begins_with beginning t = (t.field == beginning.field) && starts_with nat_eq t.bytes beginning.bytes

-- whether a term is meant by what is wanted: it is that term, or begins with it where all such are wanted
abbrev pub is_meant : Wanted → TermKey → Bool
is_meant w t = if w.is_beginning then begins_with w.term t else eq_by_cmp term_cmp t w.term

-- whether a term is meant by one of some
abbrev pub is_wanted : List Wanted → TermKey → Bool
is_wanted wanted t = list_any (λ w. is_meant w t) wanted

-- whether a term is one of some, or begins with one of others
abbrev pub is_asked : List TermKey → List TermKey → TermKey → Bool
is_asked terms beginnings t = list_any (λ u. eq_by_cmp term_cmp t u) terms || list_any (λ b. begins_with b t) beginnings

-- whether a term is chosen: each is, or those that are meant
abbrev pub is_chosen : Option Wanted → TermKey → Bool
is_chosen None t = true
is_chosen (Some w) t = is_meant w t

-- what chooses them, as it is lent
abbrev pub lent_choice : Option (Bor Wanted) → Option Wanted
lent_choice chosen = option_map (λ w. w.now) chosen

-- what is wanted stands before something else, which is not meant by it
abbrev pub IsBefore : Wanted → Wanted → Type 0
IsBefore w u = (term_cmp w.term u.term ≡ Less) × (is_meant w u.term ≡ false)

-- What is wanted ascends, and nothing of it is meant by something before it: so no term is meant twice.
abbrev pub AreApart : List Wanted → Type 0
AreApart [] = Unit {0}
AreApart (w ∷ ws) = AllByRecursion (IsBefore w) ws × AreApart ws

-- ---- in order

-- The order of what is wanted: by its term, and all that begin with a term before that term alone.
unfoldable pub wanted_cmp : Wanted → Wanted → Ordering
wanted_cmp = then_cmp (on (λ w. w.term) term_cmp) (on (λ w. not w.is_beginning) bool_cmp)

pub wanted_cmp_total : IsTotalOrder wanted_cmp
unfolding wanted_cmp
wanted_cmp_total = then_total (on_total (λ w. w.term) term_cmp_total) (on_total (λ w. not w.is_beginning) bool_cmp_total)

pub wanted_eq_laws : IsEquivalence (eq_by_cmp wanted_cmp)
wanted_eq_laws = eq_by_cmp_equiv wanted_cmp_total

-- the order, by its parts
pub wanted_cmp_parts : (w u : Wanted) → wanted_cmp w u ≡ ordering_then (term_cmp w.term u.term) (bool_cmp (not w.is_beginning) (not u.is_beginning))
unfolding wanted_cmp
wanted_cmp_parts w u = refl
