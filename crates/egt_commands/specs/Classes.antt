-- The list of classes.
use Rattle.std.specs.Prelude.{ℕ, zero, suc, List, [], ◌∷◌, ◌++◌, decimal}
use Rattle.egt_class.specs.Name.{name_of}
use Rattle.egt_class.specs.Size.{size_of}

-- a class's number, its name and its size; 32 is the space, and 10 the line feed
abbrev pub class_line : ℕ → List ℕ
class_line c = decimal c ++ 32 ∷ [] ++ name_of c ++ 32 ∷ [] ++ decimal (size_of c) ++ 10 ∷ []

-- the lines of the classes below c, in order
unfoldable pub lines_below : ℕ → List ℕ
lines_below zero = []
lines_below (suc c) = lines_below c ++ class_line c
