-- Where men go: FIDE Laws of Chess 2023, articles 3.1 to 3.8.
use Rattle.std.specs.Prelude.{◌≡◌, ◌≢◌, ℕ, ◌⊎◌, Some}
use Rattle.egt_board.specs.Prelude.{other_side, IsFree, IsOccupiedBy, Reaches, Advances, Setup}
use Rattle.egt_board.specs.declared.man.Kind.TheVariants.{P}
use Rattle.egt_board.specs.declared.man.Man.{Man}

-- a piece or the king goes to a square that it attacks and where no man of its own side stands (3.1 to 3.6, 3.8)
pub record PieceGoes (p : Setup) (man : Man) (from to : ℕ) : Type 0 where
  pub piece : man.kind ≢ P
  pub reaches : Reaches (IsFree p.men) man from to
  pub not_own : ¬ IsOccupiedBy p.men to p.side

-- a pawn advances one square, or two from its original rank, over free squares to a free one (3.7.1, 3.7.2)
pub record PawnAdvances (p : Setup) (man : Man) (from to : ℕ) : Type 0 where
  pub pawn : man.kind ≡ P
  pub advances : Advances (IsFree p.men) man.side from to

-- a pawn goes to a square that it attacks, where an enemy man stands or a pawn has just passed (3.7.3)
pub record PawnTakes (p : Setup) (man : Man) (from to : ℕ) : Type 0 where
  pub pawn : man.kind ≡ P
  pub reaches : Reaches (IsFree p.men) man from to
  pub takes : IsOccupiedBy p.men to (other_side p.side) ⊎ (p.target ≡ Some to)

-- the man, one of the side to move, goes from the one square to the other
abbrev pub Goes : Setup → Man → ℕ → ℕ → Type 0
Goes p man from to = PieceGoes p man from to ⊎ (PawnAdvances p man from to ⊎ PawnTakes p man from to)
