-- `into_loose` gives the pointer and what it owns, where the handle is open.
use Rattle.std.proofs.Common.{◌≡◌, List, [], ◌∷◌, ◌++◌, refl, sym, ap, subst, lit<, ◌∙◌, Option, Some, None, option_map}
use Rattle.egt_c.specs.Prelude.{arc_value, Places, if_open}
use Rattle.std.proofs.alloc.Calls.{Goes-blank, handle_tells}
use Rattle.std.proofs.alloc.Shapes.{after}
use Rattle.std.proofs.cell.Inside.{Good}
use Rattle.std.proofs.option.Made.{Some-of, none_of}
use Rattle.std.proofs.ResultValues.{and_tt}
use Rattle.std.proofs.raw_atomic.Walks.{proved_at, leaves}
use Rattle.std.specs.contracts.impls.GlobalAllocator.TheImpl.{ghosts}
use mathlib.Core.Bool.{Bool, true, false}
use mir.Val.{Val, vptr, vbool, vcons, vnil}
use base.Logic.{SProp, ent, emp, id⊢}
use prog.Wp.{WpFn}
use types.Kit.{‵, raw, ◌⊛◌, at_ret, ◌$◌, ◌∵◌, !, qed, by, move, keep, split, fsplit, fjoin, suffices, use0, use1}
use types.Run.{stop, fld, lit, of_opd, no_more, and_then, first, branches, exec, returns, enter}
use types.ByLocal.{alloc_all, pass_all, free_all, look_at, get, get_in, sets, sets_last, env}
use types.Part.{agg, sub, whole}
use types.Match.{live}
use contract.Monad.{fact, fact_i}
use contract.Running.{tables}
use denote.Exit.{yes}
use denote.RattleType.{RattleType, owns}
use denote.Signature.{types_at, type_at, plain}
use denote.RawPtr.{Ptr, block_ptr, ptr_val}
use denote.Steps.{nothing}
use denote.Param.{layout}
use denote.Triple.Entry.{alive}
use denote.Triple.Walked.{Stays, stay_dropped, walk_of}
use Rattle.std.proofs.alloc.Global.TheLaws as heap_laws
use Rattle.egt_c.proofs.Values.{both, loose_good, loose_in}
use Rattle.egt_c.proofs.Opened.{R, Heap, Handle, Loosened, al, pointer_good, handle_good, handle_out, either}
use Rattle.egt_c.specs.contracts.handle.EgtbLibrary.into_loose.{ended, clauses}
use Rattle.egt_c.specs.contracts.handle.EgtbLibrary.into_loose.Key.{name as #self}
use Rattle.egt_c.proofs.handle.EgtbLibrary.into_loose.Statement.{statement}
use Rattle.egt_c.proofs.handle.EgtbLibrary.into_loose.Code as code

pub into_loose_spec : {M : Type 1} → statement M
into_loose_spec 𝓤 𝓛 𝓜 𝓡 wired =
    let H = 𝓛.H in let 𝓣 = tables 𝓤 H 𝓜 𝓡 𝓡.env in let c = clauses 𝓛 𝓜.mem 𝓡.returns in let fn = code.function in
    let hs : Stays ended.signature.params ended.kept = (stay_dropped (plain (λ _. Handle)) yes, (stay_dropped (plain (λ _. Heap)) yes, tt)) in
    proved_at 𝓛 ended hs c 𝓜 𝓡 (Goes-blank 𝓛 0 (plain (λ _. Handle)) yes (λ κs x f. tt), (Goes-blank 𝓛 0 (plain (λ _. Heap)) yes (λ κs x f. tt), tt)) #self fn (code.unfolded 𝓤 H 𝓜 𝓡 wired) (λ z are.
    let v = z.0.3.0 in let a = z.0.3.1.0 in let x = v.library in let Post : Val → SProp 𝓤 = (walk_of 𝓛 ended hs c).post z in let Run : List Val → SProp 𝓤 = λ ws. WpFn 𝓤 H 𝓣.C 𝓣.Λ fn ws Post in
    let Out : RattleType = type_at ended.signature.result z.0.0 in let seen : Option Loosened.Denot → Option Places = option_map (λ l. arc_value l.value) in
    qed 𝓛 ((raw (alive 𝓛 ended.signature z.0.0 z.0.1) ⊛ ‵ (owns (types_at ended.signature.params z.0.0) z.0.3 z.0.4)) ∷ raw ((c z.0.0 z.0.3).requires z.1) ∷ []) ∵
    split ! $ move ! (1 ∷ []) $ fsplit ! $ handle_out ! v z.0.4.0 (λ ws. move ! (1 ∷ []) $ fsplit ! $ handle_tells al ! a z.0.4.1.0 (λ h ea fits. move ! (2 ∷ []) $
    let starts : (y : Bool) → v.is_open ≡ y → (p : Ptr) → v.at ≡ p → ent 𝓤 (Run (both (ptr_val p) (vbool y) ∷ h ∷ [])) (Run (z.0.4.0 ++ (z.0.4.1.0 ++ []))) = λ y ey p ep.
    subst (λ (us : List Val). ent 𝓤 (Run (both (ptr_val p) (vbool y) ∷ h ∷ [])) (Run us)) (sym ((λ i. ws i ++ (ea i ++ [])) ∙ (λ i. both (ptr_val (ep i)) (vbool (ey i)) ∷ h ∷ []))) (id⊢ 𝓤 _) in
    either ! v.at v.is_open x
    (λ ey. let told : seen None ≡ if_open v.is_open (arc_value x) = sym (ap (λ (y : Bool). if_open y (arc_value x)) ey) in let u : Val = live 0 vnil in
    suffices ! _ (starts false ey v.at refl) $ enter ! 𝓣.C 𝓣.Λ fn (both (ptr_val v.at) (vbool false) ∷ h ∷ []) Post $ alloc_all ! (λ l. pass_all ! refl (handle_good v.at false, (fits, tt)) $ let Ev = env fn.locals l in
    sets ! (of_opd ! (get_in ! (fld ! refl (stop !)) (sub ! 0 refl (whole !)))) refl (pointer_good v.at) $ sets ! (of_opd ! (get_in ! (fld ! refl (stop !)) (sub ! 1 refl (whole !)))) refl (tt, tt) $
    sets ! (of_opd ! (get ! refl)) refl (tt, tt) $ first ! $ branches ! (get ! refl) (λ wrong. absurd wrong) (λ _.
    sets_last ! (agg ! (and_then ! (lit ! tt) (no_more !))) refl (tt, (record { fits = lit< tt }, tt)) $ exec ! 𝓣.C 𝓣.Λ Ev (after 4 fn.body) (at_ret Ev Post) $
    sets ! (of_opd ! (get ! refl)) refl (tt, (record { fits = lit< tt }, tt)) $
    use0 𝓛 (raw (fact 𝓤 (seen None ≡ if_open v.is_open (arc_value x)))) (fact_i 𝓤 _ (emp 𝓤) told) $ use0 𝓛 (‵ (Out.own_val None (u ∷ []))) (none_of 𝓛 Loosened) $
    nothing ! $ nothing ! $ fjoin ! $ nothing ! $ fjoin ! $
    -- [what is left of the parameters; the result; the fact; the handle to the heap; nothing; the tokens]
    returns ! (look_at ! 0 refl) $ free_all ! refl $ keep ! (5 ∷ 0 ∷ 1 ∷ 2 ∷ []) $ by ! (leaves 𝓛 ended hs c z u None (tt, (tt, tt)) (tt, (tt, tt))))))
    (λ b o ep ey. let d : Loosened.Denot = record { at = block_ptr b o; alloc = a; value = x } in let told : seen (Some d) ≡ if_open v.is_open (arc_value x) = sym (ap (λ (y : Bool). if_open y (arc_value x)) ey) in
    let made : Val = both (vptr b o) h in let typed = loose_good R Heap heap_laws.the_row_laws ghosts b o h fits in let u : Val = live 1 (vcons made vnil) in
    let good : Good (layout Out) u = (and_tt _ typed.0, (record { fits = lit< tt }, (typed.1, tt))) in
    suffices ! _ (starts true ey (block_ptr b o) ep) $ enter ! 𝓣.C 𝓣.Λ fn (both (vptr b o) (vbool true) ∷ h ∷ []) Post $ alloc_all ! (λ l. pass_all ! refl (handle_good (block_ptr b o) true, (fits, tt)) $ let Ev = env fn.locals l in
    sets ! (of_opd ! (get_in ! (fld ! refl (stop !)) (sub ! 0 refl (whole !)))) refl (tt, tt) $ sets ! (of_opd ! (get_in ! (fld ! refl (stop !)) (sub ! 1 refl (whole !)))) refl (tt, tt) $
    sets ! (of_opd ! (get ! refl)) refl (tt, tt) $ first ! $ branches ! (get ! refl) (λ _.
    sets ! (agg ! (and_then ! (get ! refl) (and_then ! (get ! refl) (no_more !)))) refl typed $ sets_last ! (agg ! (and_then ! (lit ! tt) (and_then ! (get ! refl) (no_more !)))) refl good $
    exec ! 𝓣.C 𝓣.Λ Ev (after 4 fn.body) (at_ret Ev Post) $ sets ! (of_opd ! (get ! refl)) refl good $
    loose_in R Heap heap_laws.the_row_laws ghosts ! b o h a x $ use1 𝓛 (‵ (Out.own_val (Some d) (u ∷ []))) (Some-of 𝓛 Loosened d made) $
    use0 𝓛 (raw (fact 𝓤 (seen (Some d) ≡ if_open v.is_open (arc_value x)))) (fact_i 𝓤 _ (emp 𝓤) told) $
    nothing ! $ nothing ! $ fjoin ! $ nothing ! $ fjoin ! $
    -- [what is left of the parameters; the fact; the result; nothing; the tokens]
    returns ! (look_at ! 0 refl) $ free_all ! refl $ keep ! (4 ∷ 0 ∷ 2 ∷ 1 ∷ []) $ by ! (leaves 𝓛 ended hs c z u (Some d) (tt, (tt, tt)) (tt, (tt, tt)))) (λ wrong. absurd wrong))))))
