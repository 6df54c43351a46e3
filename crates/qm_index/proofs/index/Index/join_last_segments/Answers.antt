use Rattle.std.proofs.Common.{◌≡◌, ◌++◌, ◌∷◌, [], Err, IsErrOf, true, ap, refl, ◌∙◌}
use Rattle.std.proofs.lemmas.Result.{IfErr-at_err, err_from_is_err_and}
use Rattle.qm_schema.specs.declared.error.QueryError.{QueryError}
use Rattle.qm_schema.specs.declared.error.QueryError.TheVariants.{BadBlockLength, TooManyDocuments}
use Rattle.qm_index.specs.Indexed.{indexed}
use Rattle.qm_index.specs.Joining.{with_ended, with_last}
use Rattle.qm_index.proofs.JoinedNumbers.{joined-last, joins-same}
use Rattle.qm_index.proofs.index.Index.join_last_segments.Goals as goal

-- a refusal that is handed on
handed-on : {T U : Type 0} (e x : QueryError) → IsErrOf {T = T} (Err e) x → IsErrOf {T = U} (Err e) x
handed-on e x is = ap Err (IfErr-at_err (λ y. e ≡ y) is refl)

pub returns-in_err-joined-clause-unlike : goal.returns-in_err-joined-clause-unlike
returns-in_err-joined-clause-unlike c =
    let p = err_from_is_err_and c.from_residual.result c.from_residual.ensures.1 in
    let e = c.in_err-joined.field-0.0 in
    let own = c.in_err-joined.ensures.unlike in
    rw (p.1, p.2) (λ is. own.0 (handed-on e BadBlockLength is), λ has. handed-on e BadBlockLength (own.1 has))

pub returns-in_err-joined-clause-many : goal.returns-in_err-joined-clause-many
returns-in_err-joined-clause-many c =
    let p = err_from_is_err_and c.from_residual.result c.from_residual.ensures.1 in
    let e = c.in_err-joined.field-0.0 in
    let own = c.in_err-joined.ensures.many in
    rw (p.1, p.2) (λ is. own.0 (handed-on e TooManyDocuments is), λ has. handed-on e TooManyDocuments (own.1 has))

pub returns-clause-joined : goal.returns-clause-joined
returns-clause-joined c =
    let s = indexed c.args.self.now in
    let it = c.in_ok-joined.ensures.joined in (
      it.0,
      c.replace_last_segment.ensures.replaced ∙ ap (λ x. with_last x c.in_ok-joined.joined.segment) c.drop_last_segment.ensures.dropped
          ∙ joined-last s it.0 c.in_ok-joined.joined.segment ∙ ap (λ x. with_ended s (it.0.others ++ x ∷ [])) it.1,
    )

pub returns-clause-numbers : goal.returns-clause-numbers
returns-clause-numbers c =
    let s = indexed c.args.self.now in
    let it = c.in_ok-joined.ensures.joined in
    joins-same s true (indexed c.replace_last_segment.new.self) (
      it.0,
      c.replace_last_segment.ensures.replaced ∙ ap (λ x. with_last x c.in_ok-joined.joined.segment) c.drop_last_segment.ensures.dropped
          ∙ joined-last s it.0 c.in_ok-joined.joined.segment ∙ ap (λ x. with_ended s (it.0.others ++ x ∷ [])) it.1,
    )
