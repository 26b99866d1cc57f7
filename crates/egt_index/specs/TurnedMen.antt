-- Where a turn takes the men of a class, and the codes that tell them there.
use Rattle.std.specs.Prelude.{◌≡◌, ℕ, ◌/◌, ◌%◌, ◌<◌, ◌==◌, ◌⊎◌, Bool, false, not, IsTrue}
use Rattle.std.specs.Option.{option_to_list}
use Rattle.egt_board.specs.Turned.{turned_side, turned_square}
use Rattle.egt_board.specs.declared.man.Side.{Side}
use Rattle.egt_class.specs.Material.{has_equal_sides, material_of}
use Rattle.egt_index.specs.Home.{symmetries}
use Rattle.egt_class.specs.Size.{has_pawns}
use Rattle.egt_index.specs.TellsMen.{TellsMen}
use Rattle.egt_index.specs.Stood.{entry_after, men_among, on_square_of}
use Rattle.egt_index.specs.declared.stand.Stand.{Stand}

-- the men where the symmetry of that number takes them, and colours exchanged where `flips`
abbrev pub turned_with : ℕ → Bool → Stand → Stand
turned_with n flips s = record { white = turned_square n flips s.white; black = turned_square n flips s.black; first = entry_after n flips s.first; last = entry_after n flips s.last }

-- the same by the turn's number
abbrev pub turned_by : ℕ → Stand → Stand
turned_by t s = turned_with (t % 8) (t / 8 == 1) s

-- the men beside the kings in the other order
abbrev pub swapped : Stand → Stand
swapped s = record { white = s.white; black = s.black; first = s.last; last = s.first }

-- the men of a class whose sides have the same, seen with colours exchanged: each stands where the other side's does
abbrev pub seen_across : Stand → Stand
seen_across s = record { white = s.black; black = s.white; first = on_square_of s.first s.last; last = on_square_of s.last s.first }

-- the same men, two equal ones in either order
abbrev pub IsInEitherOrder : (before after : Stand) → Type 0
IsInEitherOrder before after = (after ≡ before) ⊎ ((after ≡ swapped before) × (men_among (option_to_list before.first) ≡ men_among (option_to_list before.last)))

-- what is seen of the men before a turn that exchanges colours where `turns`, where they are the class's in colours exchanged where `flips`
abbrev pub IsSeenBy : ℕ → (flips turns : Bool) → (before after : Stand) → Type 0
IsSeenBy c flips turns before after = ((turns ≡ flips) × IsInEitherOrder before after) ⊎ (IsTrue (has_equal_sides c) × (turns ≡ not flips) × (after ≡ seen_across before))

-- the code tells the men where the turn takes them, and a target where one was passed
pub record IsTurnedCodeWith (targeted : Bool) (c t code : ℕ) (stand : Stand) (side : Side) : Type 0 where
  pub below : t < 16
  pub keeps : t % 8 < symmetries (has_pawns (material_of c))
  pub tells : TellsMen targeted c code (turned_by t stand) (turned_side (t / 8 == 1) side)

-- some turn's code of the men, and of a target where one was passed
pub record IsSomeTurnedCodeWith (targeted : Bool) (c code : ℕ) (flips : Bool) (stand : Stand) (side : Side) : Type 0 where
  pub turn : ℕ
  pub after : Stand
  pub seen : IsSeenBy c flips (turn / 8 == 1) stand after
  pub is : IsTurnedCodeWith targeted c turn code after side

-- and of no target
abbrev pub IsSomeTurnedCode : (c code : ℕ) → Bool → Stand → Side → Type 0
IsSomeTurnedCode = IsSomeTurnedCodeWith false
