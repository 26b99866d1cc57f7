-- The halfmove clock and the fullmove number (PGN standard of 1994, sections 16.1.3.5 and 16.1.3.6).
use Rattle.std.specs.Prelude.{ℕ, ◌&&◌, nat_lt, nat_le, if◌then◌else◌, List, length, Option, Some, None}
use Rattle.std.specs.List.{list_all}
use Rattle.std.specs.Char.{is_ascii_digit}
use Rattle.std.specs.Str.Parse.{digits_value}

-- one to nine decimal digits
abbrev pub counter_of : List ℕ → Option ℕ
counter_of digits = if nat_lt 0 (length digits) && nat_le (length digits) 9 && list_all is_ascii_digit digits then Some (digits_value 10 digits) else None

abbrev pub both : Option ℕ → Option ℕ → Option (ℕ × ℕ)
both (Some half) (Some full) = Some (half, full)
both (Some half) None = None
both None _ = None

-- both clocks; 0 and 1 where they are left out
abbrev pub clocks_of : Option (List ℕ × List ℕ) → Option (ℕ × ℕ)
clocks_of None = Some (0, 1)
clocks_of (Some fields) = both (counter_of fields.0) (counter_of fields.1)
