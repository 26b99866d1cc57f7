-- `owner` lends the owner of an open handle, and leaves a closed one as it is. Assumes `Logic`.
use Rattle.std.proofs.Common.{◌≡◌, List, [], ◌∷◌, ◌++◌, refl, sym, ap, subst, lit<, Option, Some, None, option_map}
use Rattle.egt_c.specs.Prelude.{arc_value, Places, if_open, with_library, owned}
use Rattle.std.proofs.alloc.Shapes.{after}
use Rattle.std.proofs.option.Made.{Some-of, none_of}
use Rattle.std.proofs.raw_atomic.Walks.{proved_at, leaves}
use mathlib.Core.Bool.{Bool, false}
use mir.Val.{Val, vptr, vbool, vcons, vnil}
use base.Fraction.{full_share}
use base.Fml.{GName, Fml, ftrue, flft, fres}
use base.Logic.{SProp, ent, emp, id⊢}
use prog.Wp.{WpFn}
use types.Logic.{sem}
use types.Kit.{‵, raw, ◌⊛◌, some, later, at_ret, ◌$◌, ◌∵◌, !, qed, by, move, keep, split, split3, join, group, fsplit, fsplit3, fjoin, pick, suffices, use0, use1, await, rewrite}
use types.Run.{stop, fld, load, addr, lit, of_opd, no_more, and_then, first, blocks, skips, exec, returns, returns_within, enter, un, branches}
use types.ByLocal.{alloc_all, pass_all, free_all, look_at, get, through, sets, sets_last, env}
use types.Part.{agg, look_in, sub, whole}
use types.Match.{live}
use contract.Monad.{fact, fact_i}
use contract.Running.{tables}
use denote.Exit.{no}
use denote.RattleType.{RattleType, owns}
use denote.Signature.{types_at, type_at, plain, mut_ref_to}
use denote.Ref.{MutRef, MutBor}
use denote.RawPtr.{Ptr, block_ptr, ptr_val}
use denote.Memory.{cell_at}
use denote.Steps.{nothing, opens, closes}
use denote.Follow.{follows, follows_by, lends_Part}
use denote.Triple.Walked.{Stays, stay_dropped, walk_of, Goes-spent_ref}
use Rattle.egt_c.proofs.Values.{both}
use Rattle.egt_c.proofs.Opened.{R, Handle, handle_out, handle_in, either}
use Rattle.egt_c.proofs.Lending.{Rest, back}
use Rattle.egt_c.specs.contracts.handle.EgtbLibrary.owner.{ended, clauses}
use Rattle.egt_c.specs.contracts.handle.EgtbLibrary.owner.Key.{name as #self}
use Rattle.egt_c.proofs.handle.EgtbLibrary.owner.Statement.{statement}
use Rattle.egt_c.proofs.handle.EgtbLibrary.owner.Code as code

abbrev stayed : Stays ended.signature.params ended.kept
stayed = (stay_dropped (mut_ref_to (0 ∷ []) tt (plain (λ _. Handle))) no, tt)

pub owner_spec : {M : Type 1} → statement M
unfolding follows_by
owner_spec 𝓤 𝓛 𝓜 𝓡 wired =
    let H = 𝓛.H in let 𝓣 = tables 𝓤 H 𝓜 𝓡 𝓡.env in let c = clauses 𝓛 𝓜.mem 𝓡.returns in let fn = code.function in
    proved_at 𝓛 ended stayed c 𝓜 𝓡 (Goes-spent_ref 𝓛 1 (0 ∷ []) tt (plain (λ _. Handle)), tt) #self fn (code.unfolded 𝓤 H 𝓜 𝓡 wired) (λ z are.
    let κ = z.0.0.0 in let q = z.0.1.0 in let b = z.0.3.0.ref_ptr.0 in let o = z.0.3.0.ref_ptr.1 in let γ : GName = z.0.3.0.ghost_name in let h = z.0.3.0.now in let x = h.library in
    let Post : Val → SProp 𝓤 = (walk_of 𝓛 ended stayed c).post z in let Run : List Val → SProp 𝓤 = λ ws. WpFn 𝓤 H 𝓣.C 𝓣.Λ fn ws Post in
    let Out : RattleType = type_at ended.signature.result z.0.0 in let Lent : RattleType = MutRef (mir.Syntax.named 0) κ R in let seen : Option (MutBor R.Denot) → Option Places = option_map (λ r. arc_value r.now) in
    let cell : Ptr → Bool → Fml = λ p y. cell_at full_share Handle.mir (both (ptr_val p) (vbool y) ∷ []) b o in
    qed 𝓛 (((‵ (flft κ q) ⊛ ‵ ftrue) ⊛ ‵ (owns (types_at ended.signature.params z.0.0) z.0.3 z.0.4)) ∷ raw ((c z.0.0 z.0.3).requires z.1) ∷ []) ∵
    suffices ! (Run (vptr b o ∷ [])) (subst (λ (us : List Val). ent 𝓤 (Run (vptr b o ∷ [])) (Run (us ++ []))) (sym are.0.0) (id⊢ 𝓤 _)) $
    split ! $ split ! $ move ! (2 ∷ []) $ fsplit ! $ fsplit3 ! $ keep ! (1 ∷ 2 ∷ 4 ∷ []) $
    enter ! 𝓣.C 𝓣.Λ fn (vptr b o ∷ []) Post $ alloc_all ! (λ l. pass_all ! refl ((tt, tt), tt) $ let Ev = env fn.locals l in
    opens ! tt Handle {h = h} b o (λ vs. move ! (1 ∷ []) $ handle_out ! h vs (λ ws. rewrite ! 1 (λ (us : List Val). ‵ (cell_at full_share Handle.mir us b o)) ws refl $
    either ! h.at h.is_open x
    (λ ey. let told : seen None ≡ if_open h.is_open (arc_value x) = sym (ap (λ (y : Bool). if_open y (arc_value x)) ey) in let u : Val = live 0 vnil in
    rewrite ! 0 (λ (y : Bool). ‵ (cell h.at y)) ey refl $
    sets ! (of_opd ! (load ! (through ! refl (fld ! refl (stop !))) (look_in ! 0 (sub ! 1 refl (whole !))))) refl (tt, tt) $ sets ! (un ! (get ! refl) tt) refl (tt, tt) $ first ! $ branches ! (get ! refl)
    (λ _. sets ! (agg ! (and_then ! (lit ! tt) (no_more !))) refl (tt, (record { fits = lit< tt }, tt)) $
    use0 𝓛 (‵ (owned h.at false x)) (id⊢ 𝓤 (emp 𝓤)) $ rewrite ! 0 (λ (y : Bool). ‵ (owned h.at y x)) (sym ey) refl $ handle_in ! h.at h.is_open x $ rewrite ! 1 (λ (y : Bool). ‵ (cell h.at y)) (sym ey) refl $
    move ! (1 ∷ []) $ closes ! tt Handle h (both (ptr_val h.at) (vbool h.is_open) ∷ []) b o $ use1 𝓛 (‵ (fres γ (Handle.coded.code h))) (𝓛.names.obs-res γ (Handle.coded.code h)) $
    use0 𝓛 (raw (fact 𝓤 (seen None ≡ if_open h.is_open (arc_value x)))) (fact_i 𝓤 _ (emp 𝓤) told) $ move ! (1 ∷ 0 ∷ []) $ join ! $
    use0 𝓛 (‵ (Out.own_val None (u ∷ []))) (none_of 𝓛 Lent) $ nothing ! $ nothing ! $ fjoin ! $ move ! (4 ∷ []) $ nothing ! $ move ! (1 ∷ 0 ∷ []) $ join ! $
    -- [the token; nothing of self; the result; what is said of it]
    returns_within ! Post refl (look_at ! 0 refl) $ free_all ! refl $ keep ! (0 ∷ 1 ∷ 2 ∷ 3 ∷ []) $ by ! (leaves 𝓛 ended stayed c z u None (tt, tt) (tt, tt)))
    (λ wrong. absurd wrong))
    (λ b' o' ep ey. let at : Val = vptr b' o' in let u : Val = live 1 (vcons at vnil) in
    rewrite ! 1 (λ (p : Ptr). ‵ (cell p h.is_open)) ep refl $ rewrite ! 1 (λ (y : Bool). ‵ (cell (block_ptr b' o') y)) ey refl $
    sets ! (of_opd ! (load ! (through ! refl (fld ! refl (stop !))) (look_in ! 1 (sub ! 1 refl (whole !))))) refl (tt, tt) $ sets ! (un ! (get ! refl) tt) refl (tt, tt) $ first ! $ branches ! (get ! refl)
    (λ wrong. absurd wrong)
    (λ _. skips ! $ exec ! 𝓣.C 𝓣.Λ Ev (after 3 fn.body) (at_ret Ev Post) $
    first ! $ blocks ! $ sets ! (of_opd ! (load ! (through ! refl (fld ! refl (stop !))) (look_in ! 1 (sub ! 0 refl (whole !))))) refl (tt, tt) $
    sets_last ! (addr ! (through ! refl (stop !))) refl (tt, tt) $ exec ! 𝓣.C 𝓣.Λ Ev (after 4 fn.body) (at_ret Ev Post) $
    sets ! (of_opd ! (get ! refl)) refl (tt, tt) $ sets ! (agg ! (and_then ! (lit ! tt) (and_then ! (get ! refl) (no_more !)))) refl (tt, (record { fits = lit< tt }, (tt, tt))) $
    rewrite ! 1 (λ (y : Bool). ‵ (cell (block_ptr b' o') y)) (sym ey) refl $ rewrite ! 1 (λ (p : Ptr). ‵ (cell p h.is_open)) (sym ep) refl $
    fsplit ! $ move ! (1 ∷ 2 ∷ []) $ fjoin ! $ move ! (2 ∷ 3 ∷ 4 ∷ 1 ∷ 0 ∷ []) $ group ! 5 $
    use1 𝓛 (later (some (λ (γ' : GName). ‵ (Lent.own_val (record { ref_ptr = (b', o'); ghost_name = γ'; now = x }) (at ∷ [])) ⊛ ‵ (flft κ q) ⊛ ‵ (follows Handle R γ γ' (with_library h)))))
    (lends_Part 𝓛 Handle R (with_library h) (mir.Syntax.named 0) κ q b o b' o' γ (sem 𝓛 (Rest h b o b' o')) (back h b o b' o' 𝓛 ep ey) (Handle.coded.code h) (Handle.coded.code h) x) $ await ! tt $ pick ! (λ γ'.
    let r : MutBor R.Denot = record { ref_ptr = (b', o'); ghost_name = γ'; now = x } in let told : seen (Some r) ≡ if_open h.is_open (arc_value x) = sym (ap (λ (y : Bool). if_open y (arc_value x)) ey) in
    split3 ! $ use1 𝓛 (‵ (Out.own_val (Some r) (u ∷ []))) (Some-of 𝓛 Lent r at) $ move ! (2 ∷ []) $
    use0 𝓛 (raw (fact 𝓤 (seen (Some r) ≡ if_open h.is_open (arc_value x)))) (fact_i 𝓤 _ (emp 𝓤) told) $ move ! (1 ∷ 0 ∷ []) $ join ! $ move ! (1 ∷ 0 ∷ []) $
    nothing ! $ nothing ! $ fjoin ! $ move ! (3 ∷ []) $ nothing ! $ move ! (1 ∷ 0 ∷ []) $ join ! $
    -- [the token; nothing of self; the result; what is said of it]
    returns ! (look_at ! 0 refl) $ free_all ! refl $ keep ! (0 ∷ 1 ∷ 2 ∷ 3 ∷ []) $ by ! (leaves 𝓛 ended stayed c z u (Some r) (tt, tt) (tt, tt)))))))))
