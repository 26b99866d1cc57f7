-- The placement (PGN standard of 1994, section 16.1.3.1): eight ranks from the eighth to the first, and in
-- each the squares from the a-file to the h-file, letters for men and digits for runs of empty squares.
use Rattle.std.specs.Prelude.{ℕ, ◌+◌, ◌-◌, ◌*◌, ◌==◌, ◌&&◌, nat_lt, nat_le, is_some, Bool, if◌then◌else◌, List, [], ◌∷◌, ◌++◌, length, sum_by, Option, Some, None}
use Rattle.std.specs.List.{slice_split, list_all}
use Rattle.egt_board.specs.declared.man.Man.{Man}
use Rattle.egt_fen.specs.Letter.{man_of}

abbrev pub is_slash : ℕ → Bool
is_slash c = c == 47

-- how many squares a byte stands for: as many as a digit from 1 to 8 says, one for a man's letter, and none
-- for any other byte
abbrev pub width_of : ℕ → ℕ
width_of c = if nat_le 49 c && nat_le c 56 then c - 48 else (if is_some (man_of c) then 1 else 0)

abbrev pub has_width : ℕ → Bool
has_width c = nat_lt 0 (width_of c)

-- each byte stands for squares, and they are eight
abbrev pub is_rank : List ℕ → Bool
is_rank rank = list_all has_width rank && (sum_by width_of rank == 8)

abbrev pub on_square : ℕ → Option Man → List (Man × ℕ)
on_square s None = []
on_square s (Some man) = (man, s) ∷ []

-- the men of these bytes, of which the first stands for the square s
abbrev pub men_from : ℕ → List ℕ → List (Man × ℕ)
men_from s [] = []
men_from s (c ∷ cs) = on_square s (man_of c) ++ men_from (s + width_of c) cs

-- the men of as many ranks, the highest first
abbrev pub men_of_ranks : List (List ℕ) → List (Man × ℕ)
men_of_ranks [] = []
men_of_ranks (rank ∷ ranks) = men_from (8 * length ranks) rank ++ men_of_ranks ranks

abbrev pub are_ranks : List (List ℕ) → Bool
are_ranks ranks = (length ranks == 8) && list_all is_rank ranks

abbrev pub ranks_of : List ℕ → List (List ℕ)
ranks_of field = slice_split is_slash field

-- the men that a placement spells, with their squares
unfoldable pub placement_of : List ℕ → Option (List (Man × ℕ))
placement_of field = if are_ranks (ranks_of field) then Some (men_of_ranks (ranks_of field)) else None
