-- The words of the fields of a text, and the first of them that says nothing.
use Rattle.std.specs.Prelude.{ℕ, List, Option, Some, None, Result, Ok, Err}
use Rattle.egt_board.specs.declared.man.Side.{Side}
use Rattle.egt_board.specs.declared.man.Man.{Man}
use Rattle.egt_fen.specs.declared.fault.FenFault.{FenFault}
use Rattle.egt_fen.specs.declared.fault.FenFault.TheVariants.{FieldCount, Placement, Colour, Castling, EpField, Counter}
use Rattle.egt_fen.specs.Fields.{fields_of}
use Rattle.egt_fen.specs.Placement.{placement_of}
use Rattle.egt_fen.specs.Side.{side_of}
use Rattle.egt_fen.specs.Castling.{castling_of}
use Rattle.egt_fen.specs.Target.{target_of}
use Rattle.egt_fen.specs.Counter.{clocks_of}

-- the men with their squares, the side to move, the target and the clocks
pub record Parts : Type 0 where
  pub men : List (Man × ℕ)
  pub side : Side
  pub target : Option ℕ
  pub halfmove : ℕ
  pub fullmove : ℕ

infixl 10 ◌>>=◌
abbrev pub ◌>>=◌ : {A B : Type 0} → Result A FenFault → (A → Result B FenFault) → Result B FenFault
(Ok x) >>= f = f x
(Err e) >>= f = Err e

-- the value, or else the fault
abbrev pub expect : {A : Type 0} → FenFault → Option A → Result A FenFault
expect fault None = Err fault
expect fault (Some x) = Ok x

-- the parts of a text, or its first fault from the left
unfoldable pub parts_of : List ℕ → Result Parts FenFault
parts_of text = do
  fields ← expect FieldCount (fields_of text)
  men ← expect Placement (placement_of fields.placement)
  side ← expect Colour (side_of fields.side)
  none ← expect Castling (castling_of fields.castling)
  target ← expect EpField (target_of fields.target)
  clocks ← expect Counter (clocks_of fields.clocks)
  Ok (record { men = men; side = side; target = target; halfmove = clocks.0; fullmove = clocks.1 })
