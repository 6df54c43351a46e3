use Rattle.std.proofs.Common.{◌≡◌, ◌⊎◌, subst, string_bytes}
use Rattle.qm_query.specs.Query.{query_of as built_query}
use Rattle.qm_schema.specs.declared.error.QueryError.TheVariants.{Memory}
use Rattle.qm_script.specs.Answers.{FitsAsked, WritesAsked, asked_text}
use Rattle.qm_script.specs.Spelled.{query_of}
use Rattle.qm_script.specs.State.{state}
use Rattle.qm_script.specs.Under.{IsScoreRefusal}
use Rattle.qm_script.proofs.Answering.{refused-under, text-answer, unbuilt-answer}
use Rattle.qm_script.proofs.answer.answer_query.Goals as goal

pub write_asked-written-requires-clause-served : goal.write_asked-written-requires-clause-served
write_asked-written-requires-clause-served c =
    record { spelled = query_of c.args.spelled.now; is_built = c.in-Ok.ensures; served = c.in_ok-narrowed-in-Ok.ensures.served }

pub returns-in-Err-clause-answer : goal.returns-in-Err-clause-answer
returns-in-Err-clause-answer c =
    let s = state c.args.corpus.now in
    let question = c.args.question in
    let under = refused-under question s in (
      under.0,
      under.1,
      unbuilt-answer (asked_text question under.0 s.documents) (FitsAsked question under.0)
          (query_of c.args.spelled.now) (string_bytes c.args.text.now) c.in-Err.error c.number.result c.number.ensures c.in-Err.ensures,
    )

pub returns-in_ok-narrowed-in-Ok-clause-answer : goal.returns-in_ok-narrowed-in-Ok-clause-answer
returns-in_ok-narrowed-in-Ok-clause-answer c =
    let question = c.args.question in
    let query = built_query c.in-Ok.query in
    let text = string_bytes c.write_asked-written.new.text in
    let result = c.write_asked-written.result in
    let kept : state c.build_segments.new.self ≡ state c.args.corpus.now =
    λ i. record { documents = c.build_segments.ensures.script i; weights = (c.build_segments.ensures.weights i).weights } in
    let made = subst (λ s. WritesAsked question query s result text) kept c.write_asked-written.ensures in (
      made.enable,
      made.under,
      text-answer (asked_text question made.enable (state c.args.corpus.now).documents) (FitsAsked question made.enable)
          (query_of c.args.spelled.now) text query (λ e. (e ≡ Memory) ⊎ IsScoreRefusal (FitsAsked question made.enable) query e) c.in-Ok.ensures
          (λ e due. due) result c.answer_listing.result made.written made.within made.refused c.answer_listing.ensures,
    )
