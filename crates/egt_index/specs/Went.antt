-- The men of a class as one man goes from square to square.
use Rattle.std.specs.Prelude.{◌≡◌, ℕ, ◌<◌, ◌==◌, if◌then◌else◌, IfSome}
use Rattle.std.specs.Option.{option_map}
use Rattle.egt_index.specs.Stood.{Entry}
use Rattle.egt_index.specs.declared.stand.Stand.{Stand}

-- the square of a man after the man on `from` went to `to`
abbrev pub moved_square : (from to s : ℕ) → ℕ
moved_square from to s = if s == from then to else s

abbrev pub moved_entry : (from to : ℕ) → Entry → Entry
moved_entry from to entry = option_map (λ e. (e.0, moved_square from to e.1)) entry

-- all men after the man on `from` went to `to`
pub record IsMovedStand (from to : ℕ) (before after : Stand) : Type 0 where
  pub white : after.white ≡ moved_square from to before.white
  pub black : after.black ≡ moved_square from to before.black
  pub first : after.first ≡ moved_entry from to before.first
  pub last : after.last ≡ moved_entry from to before.last

-- each man is on the board
pub record AreOnBoard (stand : Stand) : Type 0 where
  pub white : stand.white < 64
  pub black : stand.black < 64
  pub first : IfSome stand.first (λ e. e.1 < 64)
  pub last : IfSome stand.last (λ e. e.1 < 64)
