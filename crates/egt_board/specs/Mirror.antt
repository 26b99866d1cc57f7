-- Squares, sides and men in a mirror.
use Rattle.std.specs.Prelude.{◌≡◌, ℕ, ◌+◌, ◌-◌, ◌*◌, ◌<◌}
use Rattle.std.specs.Option.{option_map}
use Rattle.std.specs.FinMap as map
use Rattle.egt_board.specs.declared.mirror.Mirror.{Mirror}
use Rattle.egt_board.specs.declared.mirror.Mirror.TheVariants.{Files, Ranks, Diagonal, Colours}
use Rattle.egt_board.specs.declared.man.Side.{Side}
use Rattle.egt_board.specs.declared.man.Man.{Man}
use Rattle.egt_board.specs.Man.{other_side}
use Rattle.egt_board.specs.Square.{file_of, rank_of}
use Rattle.egt_board.specs.Placement.{Placement, Stands}
use Rattle.egt_board.specs.Pawn.{HasNoPawn}
use Rattle.egt_board.specs.Setup.{Setup}

abbrev pub square_by : Mirror → ℕ → ℕ
square_by Files s = 8 * rank_of s + (7 - file_of s)
square_by Ranks s = 8 * (7 - rank_of s) + file_of s
square_by Diagonal s = 8 * file_of s + rank_of s
square_by Colours s = 8 * (7 - rank_of s) + file_of s

abbrev pub side_by : Mirror → Side → Side
side_by Files side = side
side_by Ranks side = side
side_by Diagonal side = side
side_by Colours side = other_side side

abbrev pub man_by : Mirror → Man → Man
man_by mirror man = record { side = side_by mirror man.side; kind = man.kind }

-- pawns go along the files: only with none of them may ranks be turned, or exchanged for files
abbrev pub Allows : Mirror → Placement → Type 0
Allows Files men = Unit {0}
Allows Ranks men = HasNoPawn men
Allows Diagonal men = HasNoPawn men
Allows Colours men = Unit {0}

-- q is p in the mirror: what stands where, the side to move and the target
pub record IsMirrored (m : Mirror) (p q : Setup) : Type 0 where
  pub men : (t : ℕ) → t < 64 → map.get q.men (square_by m t) ≡ option_map (man_by m) (map.get p.men t)
  pub side : q.side ≡ side_by m p.side
  pub target : q.target ≡ option_map (square_by m) p.target
  pub on_board : (s : ℕ) (man : Man) → Stands q.men s man → s < 64
