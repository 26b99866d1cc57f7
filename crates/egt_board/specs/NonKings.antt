-- The men of a board beside its kings.
use Rattle.std.specs.Prelude.{◌≡◌, ◌≢◌, ℕ, ◌<◌, ◌⊎◌, Bool, false, if◌then◌else◌, Option, Some, None, IfSome}
use Rattle.egt_board.specs.declared.man.Kind.TheVariants.{K}
use Rattle.egt_board.specs.declared.man.Man.{Man}
use Rattle.egt_board.specs.Board.{Slot}
use Rattle.egt_board.specs.Placement.{Placement, Stands}
use Rattle.egt_board.specs.Position.{is_king_kind}

-- the slot has a king
abbrev pub holds_king : Slot → Bool
holds_king None = false
holds_king (Some e) = is_king_kind e.1.kind

-- the first of these slots without a king, and the last where both others have one
abbrev pub without_king : Slot → Slot → Slot → Slot
without_king x y z = if holds_king x then (if holds_king y then z else y) else x

-- the man stands there and is no king
abbrev pub StandsBeside : Placement → Option (Man × ℕ) → Type 0
StandsBeside men entry = IfSome entry (λ e. Stands men e.1 e.0 × (e.0.kind ≢ K))

-- these are the men who are no kings, in order of square
pub record AreBeside (men : Placement) (first second : Option (Man × ℕ)) : Type 0 where
  pub one : StandsBeside men first
  pub other : StandsBeside men second
  pub all : (s : ℕ) (man : Man) → Stands men s man → man.kind ≢ K → (first ≡ Some (man, s)) ⊎ (second ≡ Some (man, s))
  pub in_order : IfSome first (λ e. IfSome second (λ d. e.1 < d.1))
  pub from_first : first ≡ None → second ≡ None
