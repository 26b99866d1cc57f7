-- `closed` makes a handle that owns nothing.
use Rattle.std.specs.Prelude.{◌≡◌, [], ◌∷◌, refl, None}
use Rattle.egt_c.specs.Prelude.{owned, Shared}
use Rattle.std.proofs.raw_atomic.Walks.{proved_at, leaves}
use mathlib.Core.Bool.{false}
use mir.Val.{Val, vbool}
use base.Logic.{SProp, emp, id⊢}
use types.Kit.{‵, raw, ◌⊛◌, ◌$◌, ◌∵◌, !, qed, by, keep, split, use0, use1}
use types.Run.{lit, false_lit, no_more, and_then, returns, enter}
use types.ByLocal.{alloc_all, pass_all, free_all, look_at, sets}
use types.Part.{agg}
use contract.Monad.{fact, fact_i}
use contract.Running.{tables}
use denote.RattleType.{owns}
use denote.Signature.{types_at}
use denote.RawPtr.{null_ptr, ptr_val}
use denote.Steps.{nothing}
use denote.Triple.Entry.{alive}
use denote.Triple.Walked.{Stays, walk_of}
use Rattle.egt_c.proofs.Values.{both}
use Rattle.egt_c.proofs.Opened.{handle_good, handle_in}
use Rattle.egt_c.specs.contracts.handle.EgtbLibrary.closed.{ended, clauses}
use Rattle.egt_c.specs.contracts.handle.EgtbLibrary.closed.Key.{name as #self}
use Rattle.egt_c.proofs.handle.EgtbLibrary.closed.Statement.{statement}
use Rattle.egt_c.proofs.handle.EgtbLibrary.closed.Code as code

-- what stands for a library where there is none
abbrev nowhere : Shared
nowhere = record { ptr = null_ptr; value = [] }

pub closed_spec : {M : Type 1} → statement M
closed_spec 𝓤 𝓛 𝓜 𝓡 wired =
    let H = 𝓛.H in let 𝓣 = tables 𝓤 H 𝓜 𝓡 𝓡.env in let c = clauses 𝓛 𝓜.mem 𝓡.returns in let fn = code.function in
    let hs : Stays ended.signature.params ended.kept = tt in
    proved_at 𝓛 ended hs c 𝓜 𝓡 tt #self fn (code.unfolded 𝓤 H 𝓜 𝓡 wired) (λ z are.
    let Post : Val → SProp 𝓤 = (walk_of 𝓛 ended hs c).post z in
    qed 𝓛 ((raw (alive 𝓛 ended.signature z.0.0 z.0.1) ⊛ ‵ (owns (types_at ended.signature.params z.0.0) z.0.3 z.0.4)) ∷ raw ((c z.0.0 z.0.3).requires z.1) ∷ []) ∵ split ! $
    enter ! 𝓣.C 𝓣.Λ fn [] Post $ alloc_all ! (λ l. pass_all ! refl tt $
    sets ! (agg ! (and_then ! (lit ! tt) (and_then ! (false_lit !) (no_more !)))) refl (handle_good null_ptr false) $
    nothing ! $ use1 𝓛 (‵ (owned null_ptr false nowhere)) (id⊢ 𝓤 _) $ handle_in ! null_ptr false nowhere $
    use0 𝓛 (raw (fact 𝓤 (None ≡ None))) (fact_i 𝓤 (None ≡ None) (emp 𝓤) refl) $ nothing ! $
    returns ! (look_at ! 0 refl) $ free_all ! refl $ keep ! (3 ∷ 0 ∷ 2 ∷ 1 ∷ []) $
    by ! (leaves 𝓛 ended hs c z (both (ptr_val null_ptr) (vbool false)) (record { at = null_ptr; is_open = false; library = nowhere }) tt tt)))
