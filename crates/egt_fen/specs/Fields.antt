-- The fields of a text (PGN standard of 1994, section 16.1.3): runs of bytes other than the space.
use Rattle.std.specs.Prelude.{ℕ, ◌-◌, ◌==◌, Bool, not, if◌then◌else◌, List, [], ◌∷◌, length, take, filter, slice_index, Option, Some, None}
use Rattle.std.specs.List.{slice_split}

-- the text without the carriage return at its very end, where there is one
abbrev pub line_of : List ℕ → List ℕ
line_of text = if slice_index text (length text - 1) == 13 then take (length text - 1) text else text

abbrev pub is_space : ℕ → Bool
is_space c = c == 32

abbrev pub is_other : ℕ → Bool
is_other c = not (is_space c)

abbrev pub has_bytes : List ℕ → Bool
has_bytes run = not (length run == 0)

-- the runs of bytes between spaces, the empty ones left out
unfoldable pub runs_of : List ℕ → List (List ℕ)
runs_of line = filter has_bytes (slice_split is_space line)

-- the fields by name; the clocks may be left out, both of them
pub record Fields : Type 0 where
  pub placement : List ℕ
  pub side : List ℕ
  pub castling : List ℕ
  pub target : List ℕ
  pub clocks : Option (List ℕ × List ℕ)

-- six fields, or four
abbrev pub named : List (List ℕ) → Option Fields
named (p ∷ s ∷ c ∷ t ∷ []) = Some (record { placement = p; side = s; castling = c; target = t; clocks = None })
named (p ∷ s ∷ c ∷ t ∷ h ∷ f ∷ []) = Some (record { placement = p; side = s; castling = c; target = t; clocks = Some (h, f) })
named _ = None

-- the fields of a text, where it has six of them or four
abbrev pub fields_of : List ℕ → Option Fields
fields_of text = named (runs_of (line_of text))
