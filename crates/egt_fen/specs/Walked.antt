-- The result of a walk and the bytes that are left.
use Rattle.std.specs.Prelude.{ℕ, List, ◌++◌, Option}
use Rattle.std.specs.Option.{option_map}
use Rattle.egt_board.specs.declared.man.Man.{Man}
use Rattle.egt_fen.specs.declared.walk.Walk.{Walk}
use Rattle.egt_fen.specs.Walk.{men_left}

abbrev pub walked : Walk → List ℕ → Option (List (Man × ℕ))
walked w rest = option_map (λ men. w.men.items ++ men) (men_left rest w.rank w.file)
