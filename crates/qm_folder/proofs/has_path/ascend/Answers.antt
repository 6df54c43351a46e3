use Rattle.std.proofs.Common.{◌≡◌, ◌+◌, ◌-◌, ℕ, map, drop, get_or, arith, subst, sym, ◌∙◌, refl}
use Rattle.std.specs.declared.cmp.Ordering.TheVariants.{Less}
use Rattle.std.proofs.lemmas.List.{length-drop}
use Rattle.qm_folder.specs.Paths.{Ascend}
use Rattle.qm_folder.proofs.ComparedFiles.{ascend_before, ascend_then, by_bytes, less_of, not_less, one_ascends}
use Rattle.qm_folder.proofs.has_path.ascend.Goals as goal

pub returns-then-is_ge : goal.returns-then-is_ge
returns-then-is_ge g c =
    let path = g.F.HasPath.path in
    let files = c.args.files.now in
    let n = c.loop-place.place - 1 in
    let x = c.index-files-place.result in
    let y = c.index-files-place-in-loop-place.result in
    let next : n + 1 ≡ c.loop-place.place = omega arith in
    let y_is : y ≡ get_or files (n + 1) y = subst (λ (m : ℕ). y ≡ get_or files m y) (sym next) c.index-files-place-in-loop-place.is in
    let order : c.cmp.result ≡ by_bytes (path x) (path y) = c.cmp.ensures ∙ (λ i. by_bytes (c.path.ensures i) (c.path-in-loop-place.ensures i)) in (
      λ is. absurd (cc is),
      λ up. absurd (not_less c.cmp.result (sym c.is_ge.ensures ∙ c.if-is_ge.true) (order ∙ ascend_then path files n x y (omega arith) c.index-files-place.is y_is up)),
    )

pub loop-place-preserved : goal.loop-place-preserved
loop-place-preserved g c = λ up.
    let path = g.F.HasPath.path in
    let files = c.args.files.now in
    let n = c.loop-place.place - 1 in
    let x = c.index-files-place.result in
    let y = c.index-files-place-in-loop-place.result in
    let next : n + 1 ≡ c.loop-place.place = omega arith in
    let behind : c.loop-place.place + 1 - 1 ≡ n + 1 = omega arith in
    let y_is : y ≡ get_or files (n + 1) y = subst (λ (m : ℕ). y ≡ get_or files m y) (sym next) c.index-files-place-in-loop-place.is in
    let order : c.cmp.result ≡ by_bytes (path x) (path y) = c.cmp.ensures ∙ (λ i. by_bytes (c.path.ensures i) (c.path-in-loop-place.ensures i)) in
    let lt : by_bytes (path x) (path y) ≡ Less = sym order ∙ less_of c.cmp.result (sym c.is_ge.ensures ∙ c.if-is_ge.false) in
    c.loop-place.invariant (ascend_before path files n x y (omega arith) c.index-files-place.is y_is lt (subst (λ (m : ℕ). Ascend (map path (drop m files))) behind up))

pub returns : goal.returns
returns g c = (
  λ is. c.loop-place.invariant (one_ascends g.F.HasPath.path (drop (c.loop-place.place - 1) c.args.files.now) (omega (arith, length-drop (c.loop-place.place - 1) c.args.files.now))),
  λ up. refl,
)
