-- The lines of a text: each ends at a line feed (10), which is not part of it, or at the end of the text if it is not empty there.
use Rattle.std.specs.Prelude.{ℕ, ◌==◌, if◌then◌else◌, List, [], ◌∷◌}

-- the lines with one byte more before the first of them
abbrev pub with_byte : ℕ → List (List ℕ) → List (List ℕ)
with_byte x [] = (x ∷ []) ∷ []
with_byte x (line ∷ lines) = (x ∷ line) ∷ lines

abbrev pub lines_of : List ℕ → List (List ℕ)
lines_of [] = []
lines_of (x ∷ xs) = if x == 10 then [] ∷ lines_of xs else with_byte x (lines_of xs)

-- the lines with these bytes before the first of them
abbrev pub with_front : List ℕ → List (List ℕ) → List (List ℕ)
with_front [] lines = lines
with_front (x ∷ xs) lines = with_byte x (with_front xs lines)
