-- The en passant target (PGN standard of 1994, section 16.1.3.4).
use Rattle.std.specs.Prelude.{ℕ, ◌+◌, ◌-◌, ◌*◌, ◌==◌, ◌&&◌, ◌||◌, nat_le, Bool, if◌then◌else◌, List, [], ◌∷◌, Option, Some, None}

-- the file letters a to h
abbrev pub is_file : ℕ → Bool
is_file c = nat_le 97 c && nat_le c 104

-- the ranks that a pawn passes: 3 and 6
abbrev pub is_passed_rank : ℕ → Bool
is_passed_rank c = c == 51 || c == 54

-- `-`, or a square by its file and rank
abbrev pub target_of : List ℕ → Option (Option ℕ)
target_of (c ∷ []) = if c == 45 then Some None else None
target_of (f ∷ r ∷ []) = if is_file f && is_passed_rank r then Some (Some (8 * (r - 49) + (f - 97))) else None
target_of _ = None
