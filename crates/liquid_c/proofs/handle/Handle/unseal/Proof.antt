-- `unseal` hands on what the handle owned, where something is there.
use Rattle.std.proofs.Common.{◌≡◌, List, [], ◌∷◌, ◌++◌, refl, sym, ◌∙◌, subst, lit<}
use mathlib.Core.Bool.{true, false, ◌&&◌}
use lib.Dec.{T}
use mir.Val.{Val, vptr, vbool, vcons, vnil, has_ty, WT}
use base.Logic.{SProp, ent, emp, id⊢}
use base.Fml.{ftrue}
use prog.Wp.{WpFn}
use types.Kit.{‵, raw, ◌⊛◌, at_ret, ◌$◌, ◌∵◌, !, qed, by, move, keep, split, fsplit, fjoin, suffices, use0, use1}
use types.Run.{stop, fld, lit, of_opd, no_more, and_then, first, branches, exec, returns, enter}
use types.ByLocal.{alloc_all, pass_all, free_all, look_at, get, get_in, sets, sets_last, env}
use types.Part.{agg, sub, whole}
use types.Match.{live}
use contract.Monad.{fact, fact_i}
use contract.Running.{tables}
use denote.Exit.{yes}
use denote.RattleType.{RattleType, owns}
use denote.Signature.{types_at, type_at, plain}
use denote.RawPtr.{block_ptr, ptr_val, rawptr_Lawful}
use denote.Builtin.{RawPtr}
use prog.Align.{both}
use denote.Steps.{nothing}
use denote.Param.{layout}
use denote.Triple.Walked.{Stays, stay_dropped, walk_of, Goes-dropped}
use Rattle.std.specs.declared.option.Option.TheVariants.{None, Some}
use Rattle.std.proofs.alloc.Shapes.{after}
use Rattle.std.proofs.option.Made.{Some-of, none_of}
use Rattle.std.proofs.ResultValues.{and_tt}
use Rattle.std.proofs.raw_atomic.Walks.{proved_at, leaves}
use Rattle.liquid_c.proofs.MachineValues.{Z, RawBox, Handle, two, three, two_good, raw_box_in, either_owned, handle_out}
use Rattle.liquid_c.specs.contracts.handle.Handle.unseal.{ended, clauses}
use Rattle.liquid_c.specs.contracts.handle.Handle.unseal.Key.{name as #self}
use Rattle.liquid_c.proofs.handle.Handle.unseal.Statement.{statement}
use Rattle.liquid_c.proofs.handle.Handle.unseal.Code as code

pub unseal_spec : {M : Type 1} → statement M
unseal_spec 𝓤 𝓛 𝓜 𝓡 wired =
    let H = 𝓛.H in let 𝓣 = tables 𝓤 H 𝓜 𝓡 𝓡.env in let c = clauses 𝓛 𝓜.mem 𝓡.returns in let fn = code.function in
    let hs : Stays ended.signature.params ended.kept = (stay_dropped (plain (λ _. Handle)) yes, tt) in
    proved_at 𝓛 ended hs c 𝓜 𝓡 (Goes-dropped 𝓛 0 (plain (λ _. Handle)) yes (λ κs x f. refl), tt) #self fn (code.unfolded 𝓤 H 𝓜 𝓡 wired) (λ z are.
    let κs = z.0.0 in let d = z.0.3.0 in let Post : Val → SProp 𝓤 = (walk_of 𝓛 ended hs c).post z in let Run : List Val → SProp 𝓤 = λ ws. WpFn 𝓤 H 𝓣.C 𝓣.Λ fn ws Post in
    let Out : RattleType = type_at ended.signature.result κs in
    qed 𝓛 ((‵ ftrue ⊛ ‵ (owns (types_at ended.signature.params κs) z.0.3 z.0.4)) ∷ raw ((c κs z.0.3).requires z.1) ∷ []) ∵ split ! $ move ! (1 ∷ []) $ fsplit ! $
    handle_out ! d z.0.4.0 (λ h ws fits. either_owned ! d.alloc d.there d.at d.held
    (λ b o x ey ep ex. let w : Val = three (vbool true) (vptr b o) h in let only_value : z.0.4.0 ≡ w ∷ [] = ws ∙ (λ i. three (vbool (ey i)) (ptr_val (ep i)) h ∷ []) in
    let made : Val = two (vptr b o) h in let v : Val = live 1 (vcons made vnil) in let r : RawBox.Denot = record { ptr = block_ptr b o; alloc = d.alloc; value = x } in
    let good : T (has_ty (layout Out) v) × WT v = (and_tt _ (two_good b o h fits).0, (record { fits = lit< tt }, ((two_good b o h fits).1, tt))) in
    suffices ! (Run (w ∷ [])) (subst (λ (us : List Val). ent 𝓤 (Run (w ∷ [])) (Run us)) (sym (λ i. only_value i ++ [])) (id⊢ 𝓤 (Run (w ∷ [])))) $
    enter ! 𝓣.C 𝓣.Λ fn (w ∷ []) Post $ alloc_all ! (λ l. let Ev = env fn.locals l in pass_all ! refl ((and_tt (has_ty (layout Z) h) fits.0, (tt, (tt, (fits.1, tt)))), tt) $
    sets ! (of_opd ! (get_in ! (fld ! refl (stop !)) (sub ! 0 refl (whole !)))) refl (tt, tt) $ sets ! (of_opd ! (get_in ! (fld ! refl (stop !)) (sub ! 1 refl (whole !)))) refl (tt, tt) $
    sets ! (of_opd ! (get_in ! (fld ! refl (stop !)) (sub ! 2 refl (whole !)))) refl fits $ sets ! (of_opd ! (get ! refl)) refl (tt, tt) $
    first ! $ branches ! (get ! refl) (λ _. sets ! (of_opd ! (get ! refl)) refl (tt, tt) $ sets ! (agg ! (and_then ! (get ! refl) (and_then ! (get ! refl) (no_more !)))) refl (two_good b o h fits) $
    sets_last ! (agg ! (and_then ! (lit ! tt) (and_then ! (get ! refl) (no_more !)))) refl good $ exec ! 𝓣.C 𝓣.Λ Ev (after 5 fn.body) (at_ret Ev Post) $ sets ! (of_opd ! (get ! refl)) refl good $
    raw_box_in ! b o h d.alloc x $ use1 𝓛 (‵ (Out.own_val (Some r) (v ∷ []))) (Some-of 𝓛 RawBox r made) $
    use0 𝓛 (raw (fact 𝓤 (Some x ≡ d.held))) (fact_i 𝓤 (Some x ≡ d.held) (emp 𝓤) (sym ex)) $ nothing ! $ nothing ! $ fjoin ! $
    returns ! (look_at ! 0 refl) $ free_all ! refl $ keep ! (4 ∷ 0 ∷ 2 ∷ 1 ∷ []) $ by ! (leaves 𝓛 ended hs c z v (Some r) (tt, tt) (tt, tt))) (λ wrong. absurd wrong)))
    (λ ey ex. let w : Val = three (vbool false) (ptr_val d.at) h in let only_value : z.0.4.0 ≡ w ∷ [] = ws ∙ (λ i. three (vbool (ey i)) (ptr_val d.at) h ∷ []) in let v : Val = live 0 vnil in
    let at = ((rawptr_Lawful 𝓛).typed d.at _ refl).0 in
    suffices ! (Run (w ∷ [])) (subst (λ (us : List Val). ent 𝓤 (Run (w ∷ [])) (Run us)) (sym (λ i. only_value i ++ [])) (id⊢ 𝓤 (Run (w ∷ [])))) $
    enter ! 𝓣.C 𝓣.Λ fn (w ∷ []) Post $ alloc_all ! (λ l. let Ev = env fn.locals l in
    pass_all ! refl ((both (has_ty (layout RawPtr) (ptr_val d.at)) (has_ty (layout Z) h && true) at.0 (and_tt (has_ty (layout Z) h) fits.0), (tt, (at.1, (fits.1, tt)))), tt) $
    sets ! (of_opd ! (get_in ! (fld ! refl (stop !)) (sub ! 0 refl (whole !)))) refl (tt, tt) $ sets ! (of_opd ! (get_in ! (fld ! refl (stop !)) (sub ! 1 refl (whole !)))) refl at $
    sets ! (of_opd ! (get_in ! (fld ! refl (stop !)) (sub ! 2 refl (whole !)))) refl fits $ sets ! (of_opd ! (get ! refl)) refl (tt, tt) $
    first ! $ branches ! (get ! refl) (λ wrong. absurd wrong) (λ _. sets_last ! (agg ! (and_then ! (lit ! tt) (no_more !))) refl (tt, (record { fits = lit< tt }, tt)) $
    exec ! 𝓣.C 𝓣.Λ Ev (after 5 fn.body) (at_ret Ev Post) $ sets ! (of_opd ! (get ! refl)) refl (tt, (record { fits = lit< tt }, tt)) $
    use0 𝓛 (‵ (Out.own_val None (v ∷ []))) (none_of 𝓛 RawBox) $
    use0 𝓛 (raw (fact 𝓤 (None ≡ d.held))) (fact_i 𝓤 (None ≡ d.held) (emp 𝓤) (sym ex)) $ nothing ! $ nothing ! $ fjoin ! $
    returns ! (look_at ! 0 refl) $ free_all ! refl $ keep ! (6 ∷ 0 ∷ 2 ∷ 1 ∷ []) $ by ! (leaves 𝓛 ended hs c z v None (tt, tt) (tt, tt)))))))
