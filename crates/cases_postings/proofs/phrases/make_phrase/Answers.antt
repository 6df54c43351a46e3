-- Every document has a length id.
use Rattle.std.proofs.Common.{◌≡◌, length, ap, arith, ◌∙◌}
use Rattle.std.proofs.lemmas.List.{length-replicate}
use Rattle.qm_postings.specs.FieldNorms.{norm_ids}
use Rattle.cases_postings.proofs.EntriesBelow.{all-below_end}
use Rattle.cases_postings.proofs.phrases.make_phrase.Goals as goal

pub new-made-requires-clause-covered : goal.new-made-requires-clause-covered
new-made-requires-clause-covered g c = λ k d below. λ n e within.
    let long : length (norm_ids c.constant-reader.result) ≡ c.args.num_docs = ap length c.constant-reader.ensures.ids
    ∙ length-replicate c.args.num_docs c.args.scoring.length_id in
    let least = all-below_end 0 _ _ (g.met.P.DocSet.ascending _ (c.requires.valid k d below)) n e within in
    omega (arith, long, least, c.requires.all)
