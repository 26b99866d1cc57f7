-- The texts of reports. 32 is the space.
use Rattle.std.specs.Prelude.{ℕ, List, [], ◌∷◌, ◌++◌, Option, Some, None, codes, decimal}
use Rattle.std.specs.List.{flat_map}
use Rattle.egt_board.specs.declared.man.Side.{Side}
use Rattle.egt_board.specs.declared.man.Side.TheVariants.{White, Black}
use Rattle.egt_class.specs.Name.{name_of}
use Rattle.egt_fen.specs.Fault as fen
use Rattle.egt_fen.specs.declared.fault.FenFault.{FenFault}
use Rattle.egt_moves.specs.Text.{text_of}
use Rattle.egt_moves.specs.declared.chess_move.Move.{Move}

abbrev pub side_name : Side → List ℕ
side_name White = codes "white"
side_name Black = codes "black"

-- the moves with one space between, or a dash where there is none
abbrev pub moves_text : List Move → List ℕ
moves_text [] = codes "-"
moves_text (m ∷ ms) = text_of m ++ flat_map (λ n. 32 ∷ text_of n) ms

abbrev pub held_text : Option Move → List ℕ
held_text None = codes "-"
held_text (Some m) = text_of m

abbrev pub decided_text : ℕ → Side → ℕ → ℕ → List Move → List ℕ
decided_text c winner plies zeroing ms =
    name_of c ++ 32 ∷ [] ++ side_name winner ++ codes " mates in " ++ decimal plies ++ codes " plies zeroing " ++ decimal zeroing ++ codes " line " ++ moves_text ms

abbrev pub drawn_text : ℕ → Option Move → List ℕ
drawn_text c held = name_of c ++ codes " draw hold " ++ held_text held

abbrev pub dead_text : ℕ → Move → List ℕ
dead_text c held = name_of c ++ codes " dead hold " ++ text_of held

abbrev pub missing_text : ℕ → List ℕ
missing_text c = codes "error probe 11 Missing " ++ name_of c

abbrev pub refused_text : FenFault → List ℕ
refused_text fault = codes "error fen " ++ decimal (fen.number_of fault) ++ 32 ∷ [] ++ fen.name_of fault

abbrev pub long_text : List ℕ
long_text = codes "error probe 14 LongLine"
