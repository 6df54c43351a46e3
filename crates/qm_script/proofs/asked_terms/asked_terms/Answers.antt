use Rattle.std.proofs.Common.{◌≡◌, ◌++◌, true, All, List, ap, subst, sym, ◌∙◌}
use Rattle.std.specs.List.Sorted.{IsStrictlySortedBy}
use Rattle.std.specs.Ordering.{eq_by_cmp}
use Rattle.std.proofs.lemmas.List.Filters.{dedup_is}
use Rattle.qm_index.specs.Parts.{segments_of}
use Rattle.qm_schema.specs.Term.{TermKey, term_cmp}
use Rattle.qm_script.specs.AskedTerms.{asked_terms}
use Rattle.qm_script.specs.Spelled.{query_of}
use Rattle.qm_script.specs.Wanted.{is_wanted}
use Rattle.qm_script.proofs.SortedTerms.{all-there, each-once}
use Rattle.qm_script.proofs.asked_terms.asked_terms.Goals as goal

pub returns-clause-ascending : goal.returns-clause-ascending
returns-clause-ascending c =
    subst (IsStrictlySortedBy term_cmp) (sym (dedup_is (eq_by_cmp term_cmp) _ _ c.dedup.ensures.filtered)) (each-once _ c.sort_unstable.ensures.sorted)

pub returns-clause-all : goal.returns-clause-all
returns-clause-all c =
    let asked : List TermKey = asked_terms (segments_of c.args.segments.now) (query_of c.args.query.now) in
    let given : List TermKey = c.push_asked.new.terms.items in
    let sorted : List TermKey = c.sort_unstable.new.self.items in
    let pushed : given ≡ asked = c.in_ok-push_asked.ensures.added ∙ ap (λ (l : List TermKey). l ++ asked) c.new-terms.ensures.items in
    subst (All (λ t. is_wanted c.dedup.new.self.items t ≡ true)) pushed
    (subst (λ (ts : List TermKey). All (λ t. is_wanted ts t ≡ true) given) (sym (dedup_is (eq_by_cmp term_cmp) sorted c.dedup.new.self.items c.dedup.ensures.filtered))
    (all-there given sorted c.sort_unstable.ensures.permutation))
