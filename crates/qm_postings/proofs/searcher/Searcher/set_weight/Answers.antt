-- At each term the map has what it had, or the new weight.
use Rattle.std.proofs.Common.{◌≡◌, ℕ, cond, Some, nat_abs, to_z, of_z, w64, sym, ap, ◌∙◌, arith}
use Rattle.std.proofs.lemmas.Int.{ints, to_z-of_z}
use Rattle.std.specs.BTreeMap as tree
use Rattle.std.specs.BTreeMap.{is_at}
use Rattle.std.specs.Ordering.{eq_by_cmp}
use Rattle.std.specs.FinMap.{FinMap, from_entries, get-from_entries, get-insert, insert, same_map}
use Rattle.qm_schema.specs.Term.{term_cmp, term_cmp_total, term_cmp_antisymmetric, term_eq_laws}
use Rattle.qm_postings.specs.Statistics.{with_weight}
use Rattle.qm_postings.proofs.Weights.{lookup-first_of}
use Rattle.qm_postings.proofs.searcher.Searcher.set_weight.Goals as goal

pub returns-clause-set : goal.returns-clause-set
returns-clause-set c =
    let old = c.self.inside.weights in
    let new = c.insert.new.self in
    let term = c.args.term in
    let n = nat_abs c.args.weight in
    let fits : to_z w64 (of_z w64 c.args.weight) ≡ c.args.weight = grind (arith, ints, to_z-of_z) in
    let same : from_entries {R = term_cmp} new.entries ≡ insert (from_entries old.entries) term n =
    same_map term_cmp_total term_cmp_antisymmetric _ _ (λ q.
    get-from_entries term_cmp_total new.entries q
    ∙ sym (lookup-first_of q new.entries)
    ∙ c.in_ok-insert.ensures.updates.0 q
    ∙ ap (λ v. cond (is_at (term_cmp term) q) (Some v) (tree.get term_cmp old q)) (ap nat_abs fits)
    ∙ ap (λ b. cond b (Some n) (tree.get term_cmp old q)) (term_eq_laws.symm term q)
    ∙ ap (cond (eq_by_cmp term_cmp q term) (Some n)) (lookup-first_of q old.entries ∙ sym (get-from_entries term_cmp_total old.entries q))
    ∙ sym (get-insert term_cmp_total (from_entries old.entries) term n q)) in
    ap (λ (m : FinMap term_cmp ℕ). record {
      schema = c.self.inside.schema;
      segments = c.self.inside.segments.items;
      weights = m;
      default_weight = c.self.inside.default_weight;
      norms = c.self.inside.norms;
    }) same
    ∙ ap (λ s. with_weight s term n) c.self.view_is
