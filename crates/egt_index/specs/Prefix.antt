-- Prefixes: the men before the last one, and what they tell of all codes that differ by no more than his square, the side to move and the target.
use Rattle.std.specs.Prelude.{◌≡◌, ℕ, ◌/◌, ◌<◌, Bool, false, Option, Some, None}
use Rattle.std.specs.FinMap as map
use Rattle.std.specs.Option.{option_to_list}
use Rattle.egt_board.specs.Listed.{men_of}
use Rattle.egt_class.specs.Material.{material_of}
use Rattle.egt_index.specs.Beaten.{AllSpelled}
use Rattle.egt_index.specs.Index.{IsIndex, IsVoid}
use Rattle.egt_index.specs.Shelf.{last_of, row_len}
use Rattle.egt_class.specs.Size.{men_beside}
use Rattle.egt_index.specs.Spelled.{Tells, SpellsMen, SpellsNoMen}
use Rattle.egt_index.specs.Stood.{Entry, AllApart, IsFilled, IsInOrder, list_of, with_last}
use Rattle.egt_index.specs.declared.prefix.Prefix.{Prefix}
use Rattle.egt_index.specs.declared.stand.Stand.{Stand}

-- the lowest digit of the number is that of the class's last man on his square, if it has two beside the kings, and `high` is what stands
-- before it
abbrev pub TellsLast : ℕ → ℕ → ℕ → Entry → Type 0
TellsLast c n high last = (pawns : Bool) → Tells pawns n (option_to_list (last_of (men_beside (material_of c)))) high (option_to_list last)

-- each number that goes on behind `high` spells these men and the last one
pub record IsBefore (c high : ℕ) (stand : Stand) : Type 0 where
  pub men : (n : ℕ) (last : Entry) → TellsLast c n high last → SpellsMen (material_of c) n (list_of (with_last stand last))
  pub filled : (n : ℕ) (last : Entry) → TellsLast c n high last → IsFilled (with_last stand last)
  pub no_last : stand.last ≡ None

-- none of them spells men
abbrev pub IsNoneBefore : ℕ → ℕ → Type 0
IsNoneBefore c high = (n : ℕ) (last : Entry) → TellsLast c n high last → SpellsNoMen (material_of c) n

-- where the men before the last one stand, and whether the index of each position that they and the last one make is to be compared
pub record IsPrefix (c high : ℕ) (prefix : Prefix) : Type 0 where
  pub before : IsBefore c high prefix.stand
  pub apart : AllApart (list_of prefix.stand)
  pub board : prefix.board ≡ men_of (list_of prefix.stand)
  pub room : map.len prefix.board < 4
  pub least : prefix.tied ≡ false → (last : Entry) → IsInOrder prefix.stand.first last → AllSpelled c (with_last prefix.stand last) (IsIndex c)

-- all codes of the row are void
abbrev pub IsVoidRow : ℕ → ℕ → Type 0
IsVoidRow c n = (code : ℕ) → code / row_len c ≡ n → IsVoid c code

-- all rows behind it are void
abbrev pub IsVoidPrefix : ℕ → ℕ → Type 0
IsVoidPrefix c high = (n : ℕ) (last : Entry) → TellsLast c n high last → IsVoidRow c n

-- the prefix of the class with this number; there is none only where all codes behind it are void
abbrev pub IsPrefixOf : ℕ → ℕ → Option Prefix → Type 0
IsPrefixOf c high (Some prefix) = IsPrefix c high prefix
IsPrefixOf c high None = IsVoidPrefix c high
