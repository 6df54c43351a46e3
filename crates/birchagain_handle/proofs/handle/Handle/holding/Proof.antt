-- `of` takes the pointer out of the raw_box box, and with it what the box owned.
use Rattle.std.proofs.Common.{◌≡◌, List, [], ◌∷◌, ◌++◌, refl, sym, subst}
use mir.Syntax.{Fn}
use mir.Val.{Val, vptr}
use base.Logic.{SProp, ent, emp, id⊢}
use base.Fml.{ftrue}
use prog.Wp.{WpFn}
use contract.Monad.{fact, fact_i}
use contract.Running.{tables}
use types.Kit.{‵, raw, ◌⊛◌, ◌$◌, ◌∵◌, !, qed, by, move, keep, use0, split, fsplit, fjoin, fpack, suffices}
use types.Part.{agg, sub, whole}
use types.Run.{stop, fld, of_opd, no_more, and_then, returns, enter}
use types.ByLocal.{alloc_all, pass_all, free_all, look_at, get, get_in, sets}
use denote.Exit.{yes}
use denote.RattleType.{RattleType, owns}
use denote.RawPtr.{block_ptr}
use denote.Signature.{types_at, plain}
use denote.Steps.{nothing}
use denote.Triple.Entry.{alive}
use denote.Triple.Walked.{Stays, stay_dropped, walk_of}
use Rattle.std.proofs.alloc.Calls.{Goes-blank}
use Rattle.std.proofs.raw_atomic.Walks.{proved_at, leaves}
use Rattle.std.proofs.alloc.Global.TheLaws.{the_row_laws as global_laws}
use Rattle.std.specs.contracts.alloc.Global.{the_row as global_row}
use Rattle.std.specs.contracts.impls.GlobalAllocator.TheImpl.{ghosts}
use Rattle.std.specs.declared.option.Option.{Option}
use Rattle.std.specs.declared.option.Option.TheVariants.{Some}
use Rattle.std.specs.Box.Ownership.{box_owns}
use base.Fml.{fex}
use Rattle.birchagain_handle.specs.Held.{frees, heap}
use Rattle.birchagain_handle.proofs.RawBoxValues.{both, RawBox, raw_box_good, raw_box_out}
use Rattle.birchagain_handle.proofs.HandleValues.{handle_val, field_own, field_made, handle_typed}
use Rattle.qm_index.specs.contracts.index.Index.{the_row as index_row}
use Rattle.birchagain_handle.specs.contracts.handle.Handle.holding.{ended, clauses}
use Rattle.birchagain_handle.specs.contracts.handle.Handle.holding.Key.{name as #self}
use Rattle.birchagain_handle.proofs.handle.Handle.holding.Statement.{statement}
use Rattle.birchagain_handle.proofs.handle.Handle.holding.Code as code

pub holding_spec : {M : Type 1} → statement M
holding_spec 𝓤 𝓛 𝓜 𝓡 wired =
    let H = 𝓛.H in let 𝓣 = tables 𝓤 H 𝓜 𝓡 𝓡.env in let En = ended in let c = clauses 𝓛 𝓜.mem 𝓡.returns in let fn : Fn = code.function in
    let From : RattleType = RawBox index_row global_row global_laws ghosts in
    let hs : Stays En.signature.params En.kept = (stay_dropped (plain (λ _. From)) yes, tt) in
    proved_at 𝓛 En hs c 𝓜 𝓡 (Goes-blank 𝓛 0 (plain (λ _. From)) yes (λ κs x f. tt), tt) #self fn (code.unfolded 𝓤 H 𝓜 𝓡 wired) (λ z are.
    let Post : Val → SProp 𝓤 = (walk_of 𝓛 En hs c).post z in let Run : List Val → SProp 𝓤 = λ ws. WpFn 𝓤 H 𝓣.C 𝓣.Λ fn ws Post in
    let v = z.0.3.0 in let x : index_row.Denot = v.value in let k : Option index_row.Denot = Some x in
    qed 𝓛 ((raw (alive 𝓛 En.signature z.0.0 z.0.1) ⊛ ‵ (owns (types_at En.signature.params z.0.0) z.0.3 z.0.4)) ∷ ‵ ftrue ∷ []) ∵
    split ! $ move ! (1 ∷ []) $ fsplit ! $ raw_box_out index_row global_row global_laws ghosts ! v z.0.4.0 (λ b o h e ws fits. keep ! (0 ∷ 3 ∷ []) $
    -- [what the box owns; the tokens]
    let w : Val = both (vptr b o) h in
    suffices ! (Run (w ∷ [])) (subst (λ (us : List Val). ent 𝓤 (Run (w ∷ [])) (Run us)) (sym (λ i. ws i ++ [])) (id⊢ 𝓤 (Run (w ∷ [])))) $
    enter ! 𝓣.C 𝓣.Λ fn (w ∷ []) Post $ alloc_all ! (λ l. pass_all ! refl (raw_box_good index_row global_row global_laws ghosts b o h fits, tt) $
    sets ! (of_opd ! (get_in ! (fld ! refl (stop !)) (sub ! 0 refl (whole !)))) refl (tt, tt) $
    sets ! (of_opd ! (get ! refl)) refl (tt, tt) $
    sets ! (agg ! (and_then ! (get ! refl) (no_more !))) refl (handle_typed (block_ptr b o)) $
    returns ! (look_at ! 0 refl) $ free_all ! refl $
    fpack ! (k ≡ Some x) (λ _. box_owns (frees heap) index_row (block_ptr b o) x) refl $
    fpack ! index_row.Denot (λ y. fex (k ≡ Some y) (λ _. box_owns (frees heap) index_row (block_ptr b o) y)) x $
    use0 𝓛 (‵ (field_own (block_ptr b o) (handle_val (block_ptr b o) ∷ []))) (field_made 𝓛 (block_ptr b o)) $ fjoin ! $
    use0 𝓛 (raw (fact 𝓤 (k ≡ k))) (fact_i 𝓤 (k ≡ k) (emp 𝓤) refl) $ nothing ! $ nothing ! $ fjoin ! $ move ! (3 ∷ 0 ∷ 2 ∷ 1 ∷ []) $
    by ! (leaves 𝓛 En hs c z (handle_val (block_ptr b o)) (record { at = block_ptr b o; held = k }) (tt, tt) (tt, tt)))))
