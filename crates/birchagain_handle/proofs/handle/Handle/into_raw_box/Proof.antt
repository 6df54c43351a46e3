-- `into_raw_box` tests the pointer: at null there was nothing, and else it is a box's.
use Rattle.std.proofs.Common.{◌≡◌, List, [], ◌∷◌, ◌++◌, refl, sym, ap, subst, ◌∙◌, lit<}
use mir.Syntax.{Fn, impl, tnil, dnil}
use mir.Val.{Val, vptr, of_list}
use base.Logic.{SProp, ent, emp, id⊢}
use base.Fml.{ftrue}
use prog.Wp.{WpFn, Env}
use contract.Monad.{fact, fact_i}
use contract.Running.{tables}
use types.Kit.{‵, raw, ◌⊛◌, at_ret, ◌$◌, ◌∵◌, !, qed, by, move, keep, drop, use0, use1, split, fsplit, fjoin, suffices}
use types.Match.{live}
use types.Part.{agg, sub, whole}
use types.Run.{bin, lit, stop, fld, of_opd, no_more, and_then, first, branches, skips, exec, returns, returns_within, enter}
use types.ByLocal.{alloc_all, pass_all, free_all, look_at, get, get_in, sets, env}
use denote.RattleType.{RattleType, owns}
use denote.RawPtr.{Ptr, block_ptr, null_ptr, tests_null}
use denote.Signature.{types_at, plain}
use denote.Steps.{nothing}
use denote.Triple.Entry.{alive}
use denote.Triple.Walked.{Stays, stay_dropped, walk_of, Goes-dropped}
use Rattle.std.proofs.alloc.Calls.{Al, handle_tells, Goes-blank}
use Rattle.std.proofs.option.Made.{Some-of, none_of}
use Rattle.std.specs.contracts.option.Option as OP
use Rattle.std.proofs.raw_atomic.Walks.{proved_at, leaves}
use Rattle.std.proofs.alloc.Global.TheLaws.{the_row_laws as global_laws}
use Rattle.std.specs.contracts.alloc.Global.{the_row as global_row}
use Rattle.std.specs.contracts.impls.GlobalAllocator.TheImpl.{ghosts}
use Rattle.std.specs.declared.option.Option.{Option}
use Rattle.std.specs.declared.option.Option.TheVariants.{None, Some}
use Rattle.std.proofs.ResultValues.{and_tt}
use Rattle.birchagain_handle.specs.Held.{raw_box_held}
use Rattle.birchagain_handle.proofs.RawBoxValues.{both, RawBox, raw_box_good, raw_box_in}
use Rattle.birchagain_handle.proofs.Owned.{either_owns}
use Rattle.birchagain_handle.proofs.HandleValues.{handle_val, field_told, handle_typed}
use Rattle.qm_index.specs.contracts.index.Index.{the_row as index_row}
use Rattle.birchagain_handle.specs.contracts.handle.Handle as handle
use Rattle.birchagain_handle.specs.contracts.handle.Handle.into_raw_box.{ended, clauses}
use Rattle.birchagain_handle.specs.contracts.handle.Handle.into_raw_box.Key.{name as #self}
use Rattle.birchagain_handle.proofs.handle.Handle.into_raw_box.Statement.{statement}
use Rattle.birchagain_handle.proofs.handle.Handle.into_raw_box.Code as code

abbrev Out : RattleType
Out = RawBox index_row global_row global_laws ghosts

abbrev al : Al
al = record { row = global_row; laws = global_laws; g = ghosts; d = impl [] tnil dnil; drops = impl [] tnil dnil }

pub into_raw_box_spec : {M : Type 1} → statement M
into_raw_box_spec 𝓤 𝓛 𝓜 𝓡 wired =
    let H = 𝓛.H in let 𝓣 = tables 𝓤 H 𝓜 𝓡 𝓡.env in let En = ended in let c = clauses 𝓛 𝓜.mem 𝓡.returns in let fn : Fn = code.function in
    let hs : Stays En.signature.params En.kept = (stay_dropped (plain (λ _. handle.the_row)) En.kept.0, (stay_dropped (plain (λ _. global_row)) En.kept.1.0, tt)) in
    proved_at 𝓛 En hs c 𝓜 𝓡 (Goes-blank 𝓛 0 (plain (λ _. handle.the_row)) En.kept.0 (λ κs x f. tt), (Goes-dropped 𝓛 0 (plain (λ _. global_row)) En.kept.1.0 (λ κs x f. refl), tt)) #self fn (code.unfolded 𝓤 H 𝓜 𝓡 wired) (λ z are.
    let Post : Val → SProp 𝓤 = (walk_of 𝓛 En hs c).post z in let Run : List Val → SProp 𝓤 = λ ws. WpFn 𝓤 H 𝓣.C 𝓣.Λ fn ws Post in
    let v = z.0.3.0 in let a = z.0.3.1.0 in let told = field_told v.at z.0.4.0 are.0.0 in
    qed 𝓛 ((raw (alive 𝓛 En.signature z.0.0 z.0.1) ⊛ ‵ (owns (types_at En.signature.params z.0.0) z.0.3 z.0.4)) ∷ ‵ ftrue ∷ []) ∵
    split ! $ move ! (1 ∷ []) $ fsplit ! $ fsplit ! $ drop ! $ move ! (1 ∷ []) $ fsplit ! $ handle_tells al ! a z.0.4.1.0 (λ h eh fits. keep ! (2 ∷ 0 ∷ 3 ∷ []) $
    -- [what the handle owns; the allocator; the tokens]
    either_owns index_row ! v.at v.held
    (λ e none. let w : Val = handle_val null_ptr in let gone : Option Out.Denot = None in
    suffices ! (Run (w ∷ h ∷ [])) (subst (λ (us : List Val × List Val). ent 𝓤 (Run (w ∷ h ∷ [])) (Run (us.0 ++ (us.1 ++ [])))) (λ i. (sym (told ∙ ap (λ (p : Ptr). handle_val p ∷ []) e) i, sym eh i)) (id⊢ 𝓤 (Run (w ∷ h ∷ [])))) $
    enter ! 𝓣.C 𝓣.Λ fn (w ∷ h ∷ []) Post $ alloc_all ! (λ l. pass_all ! refl (handle_typed null_ptr, (fits, tt)) $
    sets ! (of_opd ! (get_in ! (fld ! refl (stop !)) (sub ! 0 refl (whole !)))) refl (tt, record { fits = lit< tt }) $
    sets ! (bin ! (get ! refl) (lit ! tt) (tests_null null_ptr (lit< tt))) refl (tt, tt) $
    first ! $ branches ! (get ! refl)
    (λ t. sets ! (agg ! (and_then ! (lit ! tt) (no_more !))) refl (tt, (record { fits = lit< tt }, tt)) $
    returns_within ! Post refl (look_at ! 0 refl) $ free_all ! refl $
    use0 𝓛 (‵ ((OP.the_row Out).own_val None (live 0 (of_list []) ∷ []))) (none_of 𝓛 Out) $
    use0 𝓛 (raw (fact 𝓤 (raw_box_held gone ≡ v.held))) (fact_i 𝓤 (raw_box_held gone ≡ v.held) (emp 𝓤) (sym none)) $ nothing ! $ nothing ! $ fjoin ! $ nothing ! $ fjoin ! $ keep ! (4 ∷ 0 ∷ 2 ∷ 1 ∷ []) $
    by ! (leaves 𝓛 En hs c z (live 0 (of_list [])) None (tt, (tt, tt)) (tt, (tt, tt))))
    (λ t. absurd t)))
    (λ b o x e some may. let w : Val = handle_val (block_ptr b o) in let u : Val = both (vptr b o) h in let r : Out.Denot = record { at = block_ptr b o; alloc = a; value = x } in let made : Option Out.Denot = Some r in let good = raw_box_good index_row global_row global_laws ghosts b o h fits in
    suffices ! (Run (w ∷ h ∷ [])) (subst (λ (us : List Val × List Val). ent 𝓤 (Run (w ∷ h ∷ [])) (Run (us.0 ++ (us.1 ++ [])))) (λ i. (sym (told ∙ ap (λ (p : Ptr). handle_val p ∷ []) e) i, sym eh i)) (id⊢ 𝓤 (Run (w ∷ h ∷ [])))) $
    raw_box_in index_row global_row global_laws ghosts ! b o h a x $ use1 𝓛 (‵ ((OP.the_row Out).own_val made (live 1 (of_list (u ∷ [])) ∷ []))) (Some-of 𝓛 Out r u) $
    enter ! 𝓣.C 𝓣.Λ fn (w ∷ h ∷ []) Post $ alloc_all ! (λ l. pass_all ! refl (handle_typed (block_ptr b o), (fits, tt)) $ let En' : Env 𝓤 H = env fn.locals l in
    sets ! (of_opd ! (get_in ! (fld ! refl (stop !)) (sub ! 0 refl (whole !)))) refl (tt, tt) $
    sets ! (bin ! (get ! refl) (lit ! tt) (tests_null (block_ptr b o) may)) refl (tt, tt) $
    first ! $ branches ! (get ! refl) (λ t. absurd t)
    (λ t. skips ! $ exec ! 𝓣.C 𝓣.Λ En' code.Mir.t-4 (at_ret En' Post) $
    sets ! (of_opd ! (get ! refl)) refl (tt, tt) $
    sets ! (agg ! (and_then ! (get ! refl) (and_then ! (get ! refl) (no_more !)))) refl good $
    sets ! (agg ! (and_then ! (lit ! tt) (and_then ! (get ! refl) (no_more !)))) refl (and_tt _ good.0, (record { fits = lit< tt }, (good.1, tt))) $
    returns ! (look_at ! 0 refl) $ free_all ! refl $
    use0 𝓛 (raw (fact 𝓤 (raw_box_held made ≡ v.held))) (fact_i 𝓤 (raw_box_held made ≡ v.held) (emp 𝓤) (sym some)) $ nothing ! $ nothing ! $ fjoin ! $ nothing ! $ fjoin ! $ keep ! (3 ∷ 0 ∷ 2 ∷ 1 ∷ []) $
    by ! (leaves 𝓛 En hs c z (live 1 (of_list (u ∷ []))) made (tt, (tt, tt)) (tt, (tt, tt))))))))
