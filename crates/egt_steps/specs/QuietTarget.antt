-- The legal moves of a man that take nothing, by the square that they lead to.
use Rattle.std.specs.Prelude.{◌≡◌, ℕ, Bool, ◌↔◌, IsTrue, None}
use Rattle.egt_moves.specs.Prelude.{Stands, Setup, Zeroes, Captures, IsLegal, plain, passed}
use Rattle.egt_board.specs.declared.man.Man.{Man}
use Rattle.egt_moves.specs.declared.chess_move.Move.{Move}

-- the one legal move to the square takes nothing and lets nothing be taken in passing; it zeroes where `pawn`
pub record IsQuietTarget (p : Setup) (pawn : Bool) (from t : ℕ) : Type 0 where
  pub legal : IsLegal p (plain from t)
  pub only : (m : Move) → m.from ≡ from → m.to ≡ t → IsLegal p m → m ≡ plain from t
  pub quiet : ¬ Captures p (plain from t)
  pub unpassed : (man : Man) → Stands p.men from man → passed man from t ≡ None
  pub zeroes : IsTrue pawn ↔ Zeroes p (plain from t)
