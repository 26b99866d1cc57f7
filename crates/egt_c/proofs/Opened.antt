-- The machine values of a handle. Assumes `Logic`.
--     handle_out, handle_in     a handle is what it owns
--     either                    it is closed, or owns a box
use Rattle.std.proofs.Common.{◌≡◌, ℕ, List, [], ◌∷◌, ◌++◌, refl, subst, lit<}
use Rattle.egt_c.specs.Prelude.{shared_row, owned}
use Rattle.std.proofs.alloc.Calls.{Al}
use Rattle.std.proofs.cell.Inside.{Good}
use Rattle.std.specs.contracts.impls.GlobalAllocator.TheImpl.{ghosts}
use mathlib.Core.Bool.{Bool, true, false}
use seplogic.Ra.Ura.{Ura}
use lib.Dec.{T}
use mir.Syntax.{impl, tnil, dnil, ty_ptr}
use mir.Raw.{raw as bare}
use mir.Val.{Val, vbool, vstruct, of_list, has_ty, WT}
use base.Logic.{never, fst∗}
use types.Logic.{Logic, sem}
use types.Kit.{Item, Goal, Seq, Step, step, ‵, ◌$◌, drop, fsplit, fjoin, fpick, fpack, feq_i, feq_l}
use denote.RattleType.{RattleType, Valss}
use denote.Builtin.{RawPtr, bool}
use denote.Memory.{lone}
use denote.RawPtr.{Ptr, block_ptr, null_ptr, ptr_val, in_a_block}
use denote.Steps.{nothing}
use denote.Param.{layout}
use denote.Struct.Struct.{within}
use denote.Struct.Owning.{shape}
use Rattle.std.specs.contracts.alloc.Global as heap
use Rattle.std.proofs.alloc.Global.TheLaws as heap_laws
use Rattle.egt_c.specs.contracts.handle.EgtbLibrary as handle
use Rattle.egt_c.proofs.Values.{both, Loose}

abbrev pub R : RattleType
R = shared_row

abbrev pub Heap : RattleType
Heap = heap.the_row

abbrev pub Handle : RattleType
Handle = handle.the_row

abbrev pub Loosened : RattleType
Loosened = Loose R Heap heap_laws.the_row_laws ghosts

abbrev pub al : Al
al = record { row = Heap; laws = heap_laws.the_row_laws; g = ghosts; d = impl [] tnil dnil; drops = impl [] tnil dnil }

pub pointer_good : (p : Ptr) → T (has_ty ty_ptr (ptr_val p)) × WT (ptr_val p)
pointer_good (block_ptr b o) = (tt, tt)
pointer_good null_ptr = (tt, record { fits = lit< tt })

pub handle_good : (p : Ptr) (y : Bool) → Good (layout Handle) (both (ptr_val p) (vbool y))
handle_good (block_ptr b o) true = (tt, (tt, (tt, tt)))
handle_good (block_ptr b o) false = (tt, (tt, (tt, tt)))
handle_good null_ptr true = (tt, (record { fits = lit< tt }, (tt, tt)))
handle_good null_ptr false = (tt, (record { fits = lit< tt }, (tt, tt)))

module _ {M : Type 1} {𝓤 : Ura M} {𝓛 : Logic 𝓤} {K : Type 0} {Γ : List (Item 𝓤)} {G : Goal 𝓤 𝓛.H} where
  pub handle_out : K → (d : Handle.Denot) (vs : List Val)
      → (vs ≡ both (ptr_val d.at) (vbool d.is_open) ∷ [] → Seq K 𝓛 (‵ (owned d.at d.is_open d.library) ∷ Γ) G) → Seq K 𝓛 (‵ (Handle.own_val d vs) ∷ Γ) G
  handle_out t d vs k =
      fsplit t $ fpick t (λ vss. fsplit t $ feq_l t (λ ev. fsplit t $ feq_l t (λ ep. fsplit t $ feq_l t (λ ey. drop t $ k
      (subst (λ (ys : List Val). vs ≡ vstruct (of_list (ptr_val d.at ∷ (ys ++ []))) ∷ []) ey (subst (λ (ps : List Val). vs ≡ vstruct (of_list (ps ++ (vss.1.0 ++ []))) ∷ []) ep ev))))))

  pub handle_in : K → (p : Ptr) (y : Bool) (x : R.Denot)
      → Step K 𝓛 (‵ (Handle.own_val (record { at = p; is_open = y; library = x }) (both (ptr_val p) (vbool y) ∷ [])) ∷ Γ) G (‵ (owned p y x) ∷ Γ) G
  handle_in t p y x = step (λ s. let v : Val = both (ptr_val p) (vbool y) in
      nothing t $ feq_i t (List Val) (vbool y ∷ []) (vbool y ∷ []) refl $ fjoin t $ feq_i t (List Val) (ptr_val p ∷ []) (ptr_val p ∷ []) refl $ fjoin t $
      feq_i t (List Val) (v ∷ []) (v ∷ []) refl $ fjoin t $
      fpack t (Valss (RawPtr ∷ bool ∷ [])) (within (shape handle.the_type) (p, (y, tt)) (v ∷ [])) (ptr_val p ∷ [], (vbool y ∷ [], tt)) $ fjoin t $ s)

  pub either : K → (p : Ptr) (y : Bool) (x : R.Denot) → (y ≡ false → Seq K 𝓛 Γ G)
      → ((b o : ℕ) → p ≡ block_ptr b o → y ≡ true → Seq K 𝓛 (‵ (owned (block_ptr b o) true x) ∷ Γ) G) → Seq K 𝓛 (‵ (owned p y x) ∷ Γ) G
  either t p false x closed opened = drop t $ closed refl
  either t p true x closed opened = in_a_block t p (λ q. owned q true x) (fst∗ 𝓤 (never 𝓤) (sem 𝓛 (ghosts.dealloc_token Rattle.egt_c.specs.Owned.heap (bare (lone R.mir)) null_ptr))) (λ b o e. opened b o e refl)
