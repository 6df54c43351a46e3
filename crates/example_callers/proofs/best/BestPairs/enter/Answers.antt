-- The first pair that scores less, or the end, is where the pair belongs.
use Rattle.std.proofs.Common.{◌≡◌, ap, ◌∙◌, rules, length, take, is_ok, true, if◌then◌else◌, w64}
use Rattle.std.proofs.lemmas.Int.{to_z-of_z}
use Rattle.std.specs.Int.RustNames.{int_lt}
use Rattle.std.specs.List.{insert, position}
use Rattle.std.specs.Option.{unwrap_or}
use Rattle.qm_weight.specs.BestFacts.{insert_before_less}
use Rattle.example_callers.proofs.best.BestPairs.enter.Goals as goal

pub returns-clause-kept : goal.returns-clause-kept
returns-clause-kept c =
    let items = c.args.self.now.kept.items in
    let score = to_z-of_z w64 c.args.score c.ranges.score in
    let end : c.len.result ≡ length items = search rules in
    let first : c.first_below.result ≡ position (λ p. int_lt p.1 c.args.score) items = c.first_below.ensures.first
    ∙ ap (λ s. position (λ p. int_lt p.1 s) c.as_slice.result.now) score ∙ ap (position (λ p. int_lt p.1 c.args.score)) c.as_slice.ensures.value in
    let place : c.unwrap_or-place.result ≡ unwrap_or (position (λ p. int_lt p.1 c.args.score) items) (length items) = c.unwrap_or-place.ensures
    ∙ (λ i. unwrap_or (first i) (end i)) in
    let ok : is_ok c.insert.result ≡ true = search rules in
    let inserted : c.insert.new.self.items ≡ insert items c.unwrap_or-place.result (c.args.doc, c.args.score) = c.insert.ensures.items
    ∙ (λ i. if ok i then insert items c.unwrap_or-place.result (c.args.doc, score i) else items) in
    c.truncate.ensures.items ∙ ap (take c.args.self.now.limit)
    (inserted ∙ ap (λ n. insert items n (c.args.doc, c.args.score)) place ∙ insert_before_less (c.args.doc, c.args.score) items)
