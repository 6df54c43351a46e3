use Rattle.std.proofs.Common.{◌≡◌, ◌*◌, ◌/◌, drop, set, take, arith, sym, ap, subst, ◌∙◌}
use Rattle.qm_scorer.specs.LeastDocs.{AreLeasts, least_of}
use Rattle.qm_scorer.proofs.LeastRows.{AreLeasts-many, AreLeasts-put}
use Rattle.qm_scorer.proofs.least_docs.LeastDocs.put.Goals as goal

pub index_mut-requires-2 : goal.index_mut-requires-2
index_mut-requires-2 c = omega (arith, AreLeasts-many _ _ c.requires.valid.leasts, c.requires.within)

pub least_in-requires-2 : goal.least_in-requires-2
least_in-requires-2 c = record {
  within = omega (arith, c.deref-2.ensures.len, AreLeasts-many _ _ c.requires.valid.leasts, c.requires.within);
}

pub index_mut-requires-3 : goal.index_mut-requires-3
index_mut-requires-3 c = omega (arith, AreLeasts-many _ _ c.requires.valid.leasts, AreLeasts-many _ _ c.requires.valid.tops, c.requires.within)

pub returns-clause-valid : goal.returns-clause-valid
returns-clause-valid c =
    let row = c.args.self.now in
    let span = c.args.place / 32 in
    let top = span / 32 in
    let docs = set row.docs.items c.args.place c.args.doc in
    let leasts = set row.leasts.items span c.least_in.result in
    let least : c.least_in.result ≡ least_of (take 32 (drop (32 * span) docs)) = c.least_in.ensures
    ∙ ap (λ ds. least_of (take 32 (drop (32 * span) ds))) c.deref.ensures.value in
    let topmost : c.least_in-2.result ≡ least_of (take 32 (drop (32 * top) leasts)) = c.least_in-2.ensures
    ∙ ap (λ ds. least_of (take 32 (drop (32 * top) ds))) c.deref-2.ensures.value in
    record {
      leasts = subst (λ l. AreLeasts (set row.leasts.items span l) docs) (sym least)
          (AreLeasts-put row.leasts.items row.docs.items c.args.place c.args.doc c.requires.valid.leasts c.requires.within);
      tops = subst (λ l. AreLeasts (set row.tops.items top l) leasts) (sym topmost)
          (AreLeasts-put row.tops.items row.leasts.items span c.least_in.result c.requires.valid.tops (omega (arith, AreLeasts-many _ _ c.requires.valid.leasts, c.requires.within)));
    }
