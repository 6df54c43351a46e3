use Rattle.std.proofs.Common.{◌++◌, List, true, false, ap, map, subst, sym, ◌∙◌}
use Rattle.std.specs.List.Sorted.{IsPermutation}
use Rattle.qm_store.specs.Wanted.{AreApart, is_wanted}
use Rattle.qm_store.specs.declared.wanted.Wanted.{Wanted}
use Rattle.qm_store.proofs.WantedApart.{are-apart, mean-all, mean-asked, wanted_so}
use Rattle.qm_store.proofs.wanted_list.wanted_of.Goals as goal

pub returns-clause-apart : goal.returns-clause-apart
returns-clause-apart c =
    subst AreApart (sym c.leave_out_meant.ensures) (are-apart c.sort_unstable.new.self.items c.sort_unstable.ensures.sorted)

pub returns-clause-asked : goal.returns-clause-asked
returns-clause-asked c = λ t.
    let terms = c.args.terms.items in
    let beginnings = c.args.beginnings.items in
    let all = c.sort_unstable.new.self.items in
    let given = c.in_ok-push_all-2.ensures
    ∙ ap (λ (l : List Wanted). l ++ map (wanted_so true) beginnings)
    (c.in_ok-push_all.ensures ∙ ap (λ (l : List Wanted). l ++ map (wanted_so false) terms) c.new-wanted.ensures.items)
    in
    ap (λ (l : List Wanted). is_wanted l t) c.leave_out_meant.ensures
    ∙ mean-all all c.sort_unstable.ensures.sorted t
    ∙ mean-asked terms beginnings all (subst (λ l. IsPermutation l all) given c.sort_unstable.ensures.permutation) t
