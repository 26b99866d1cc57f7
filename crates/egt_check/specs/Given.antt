-- Scores in bytes of the moves from a position.
use Rattle.std.specs.Prelude.{◌≡◌, ◌≢◌, ◌↔◌, ◌⊎◌, ℕ, ◌%◌, ◌<◌, ◌≤◌, Bool, true, false, IsTrue}
use Rattle.egt_moves.specs.Prelude.{Setup, Zeroes, Leads}
use Rattle.egt_lanes.specs.Prelude.{byte_score, zeroing_score}
use Rattle.egt_entries.specs.Prelude.{Tables}
use Rattle.egt_moves.specs.declared.chess_move.Move.{Move}
use Rattle.egt_entries.specs.declared.metric.Metric.TheVariants.{Mate, Zeroing}
use Rattle.egt_entries.specs.Tables.{HasEntry}

-- the entry has a byte of its own
pub record IsKnown (entry : ℕ) : Type 0 where
  pub some : entry ≢ 0
  pub other : entry ≢ 2
  pub low : entry < 254

-- both entries do, and show a win, a loss or a draw alike
pub record AreAlike (mate zeroing : ℕ) : Type 0 where
  pub mate_known : IsKnown mate
  pub zeroing_known : IsKnown zeroing
  pub parity : mate % 2 ≡ zeroing % 2
  pub drawn : (mate ≡ 1) ↔ (zeroing ≡ 1)

-- the score in the zeroing column, of a move that zeroes or of another
abbrev pub IsZeroingScore : Bool → (first second mate zeroing : ℕ) → Type 0
IsZeroingScore true first second mate zeroing = zeroing ≡ zeroing_score mate
IsZeroingScore false first second mate zeroing = AreAlike first second × (zeroing ≡ byte_score second)

-- the scores of a move to q, by q's entries
pub record HasScores (tables : Tables) (p q : Setup) (m : Move) (mate zeroing : ℕ) : Type 0 where
  pub first : ℕ
  pub second : ℕ
  pub has_first : HasEntry tables Mate q first
  pub has_second : HasEntry tables Zeroing q second
  pub known : IsKnown first
  pub mate_is : mate ≡ byte_score first
  pub zeroes : Bool
  pub zeroes_is : IsTrue zeroes ↔ Zeroes p m
  pub zeroing_is : IsZeroingScore zeroes first second mate zeroing

-- a legal move among these, with these scores
pub record IsGiven (tables : Tables) (p : Setup) (Among : Move → Type 0) (mate zeroing : ℕ) : Type 0 where
  pub move : Move
  pub next : Setup
  pub leads : Leads p move next
  pub among : Among move
  pub scores : HasScores tables p next move mate zeroing

-- numbers raised from nothing to the scores of these moves
pub record AreGiven (tables : Tables) (p : Setup) (Among : Move → Type 0) (mate zeroing : ℕ) : Type 0 where
  pub above : (q : Setup) (m : Move) → Leads p m q → Among m → (x z : ℕ) × HasScores tables p q m x z × (x ≤ mate) × (z ≤ zeroing)
  pub mate_given : (mate ≡ 0) ⊎ ((z : ℕ) × IsGiven tables p Among mate z)
  pub zeroing_given : (zeroing ≡ 0) ⊎ ((x : ℕ) × IsGiven tables p Among x zeroing)
