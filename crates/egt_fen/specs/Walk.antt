-- A placement read from its front, byte by byte.
use Rattle.std.specs.Prelude.{ℕ, ◌+◌, ◌-◌, ◌*◌, ◌==◌, ◌&&◌, nat_lt, nat_le, if◌then◌else◌, List, [], ◌∷◌, ◌++◌, Option, Some, None}
use Rattle.std.specs.Option.{option_map}
use Rattle.egt_board.specs.declared.man.Man.{Man}
use Rattle.egt_fen.specs.Letter.{man_of}
use Rattle.egt_fen.specs.Placement.{is_slash, width_of, has_width, on_square}

-- the men of what is left, where the next square is of this rank and file, both from 0; the file is 8 behind
-- the last square of a rank
abbrev pub men_left : List ℕ → ℕ → ℕ → Option (List (Man × ℕ))
men_left [] rank file = if (rank == 0) && (file == 8) then Some [] else None
men_left (c ∷ cs) rank file =
    if is_slash c
    then (if (file == 8) && nat_lt 0 rank then men_left cs (rank - 1) 0 else None)
    else (if has_width c && nat_le (file + width_of c) 8
    then option_map (λ men. on_square (8 * rank + file) (man_of c) ++ men) (men_left cs rank (file + width_of c))
    else None)
