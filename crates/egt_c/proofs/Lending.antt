-- An open handle while its owner is lent. Assumes `Logic`.
use Rattle.std.proofs.Common.{◌≡◌, ℕ, List, [], ◌∷◌, refl, sym}
use Rattle.egt_c.specs.Prelude.{with_library, owned, heap, EgtbLibrary}
use Rattle.std.specs.contracts.impls.GlobalAllocator.TheImpl.{ghosts}
use mathlib.Core.Bool.{Bool, true}
use seplogic.Ra.Ura.{Ura}
use base.Fraction.{full_share}
use base.Logic.{ent, sep, id⊢}
use base.Fml.{Fml, fsep}
use mir.Raw.{raw as bare}
use mir.Val.{Val, vbool}
use types.Logic.{Logic, sem}
use types.Kit.{‵, ◌$◌, ◌∵◌, !, qed, done, move, use1, fsplit, fjoin, fpack, rewrite}
use denote.Memory.{mem, cell_at, part_at, part_of, lone}
use denote.RawPtr.{Ptr, block_ptr, ptr_val}
use Rattle.egt_c.proofs.Values.{both}
use Rattle.egt_c.proofs.Opened.{R, Handle, handle_in}

module _ (h : EgtbLibrary) (b o b' o' : ℕ) where
  -- the right to free the owner's block, and the bytes of the handle
  abbrev pub Rest : Fml
  Rest = fsep (ghosts.dealloc_token heap (bare (lone R.mir)) (block_ptr b' o')) (cell_at full_share Handle.mir (both (ptr_val h.at) (vbool h.is_open) ∷ []) b o)

  module _ {M : Type 1} {𝓤 : Ura M} (𝓛 : Logic 𝓤) (at : h.at ≡ block_ptr b' o') (is : h.is_open ≡ true) where
    -- with any owner in its place that is a handle
    pub back : (w : R.Denot) → ent 𝓤 (sep 𝓤 (sem 𝓛 ((mem R).own_at w b' o')) (sem 𝓛 Rest)) (sem 𝓛 ((mem Handle).own_at (with_library h w) b o))
    unfolding part_of
    back w =
        qed 𝓛 (‵ (part_at R full_share w b' o') ∷ ‵ Rest ∷ []) ∵ move ! (1 ∷ []) $ fsplit ! $ move ! (2 ∷ 0 ∷ []) $ fjoin ! $
        use1 𝓛 (‵ (owned (block_ptr b' o') true w)) (id⊢ 𝓤 _) $ rewrite ! 0 (λ (p : Ptr). ‵ (owned p true w)) (sym at) refl $ rewrite ! 0 (λ (y : Bool). ‵ (owned h.at y w)) (sym is) refl $
        handle_in ! h.at h.is_open w $ move ! (1 ∷ 0 ∷ []) $ fjoin ! $
        fpack ! (List Val) (λ us. fsep (cell_at full_share Handle.mir us b o) (Handle.own_val (with_library h w) us)) (both (ptr_val h.at) (vbool h.is_open) ∷ []) $ done !
