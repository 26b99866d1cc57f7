-- Castling (PGN standard of 1994, section 16.1.3.3), of which only `-`, no right to castle, is read.
use Rattle.std.specs.Prelude.{ℕ, ◌==◌, if◌then◌else◌, List, [], ◌∷◌, Option, Some, None}

abbrev pub castling_of : List ℕ → Option (Unit {0})
castling_of (c ∷ []) = if c == 45 then Some tt else None
castling_of _ = None
