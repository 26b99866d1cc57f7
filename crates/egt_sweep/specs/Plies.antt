-- Laws of forced mates, of zeroing moves and of images, by the laws of egt_moves.
use Rattle.std.specs.Prelude.{◌≡◌, ℕ, ◌≤◌, ◌⊎◌, ◌↔◌}
use Rattle.egt_moves.specs.Prelude.{AreImages, IsMatedWithin, CannotMateWithin, ZeroesLosingWithin, ZeroesWinningWithin}
use Rattle.egt_moves.specs.Prelude.{Setup, IsAdmissible, Value, Win, Loss, HasValue, MatesWithin, AvoidsMateFor, chess}

pub record Plies : Type 0 where
  pub more_mated : (m n : ℕ) (p : Setup) → m ≤ n → IsMatedWithin chess m p → IsMatedWithin chess n p
  pub more_mates : (m n : ℕ) (p : Setup) → m ≤ n → MatesWithin chess m p → MatesWithin chess n p
  pub mated_or : (n : ℕ) (p : Setup) → IsMatedWithin chess n p ⊎ AvoidsMateFor chess n p
  pub mates_or : (n : ℕ) (p : Setup) → MatesWithin chess n p ⊎ CannotMateWithin chess n p
  pub mates_once : (n : ℕ) (p : Setup) → MatesWithin chess n p → CannotMateWithin chess n p → ⊥
  pub won_or_lost : (m n : ℕ) (p : Setup) → MatesWithin chess m p → IsMatedWithin chess n p → ⊥
  pub least_win : (n : ℕ) (p : Setup) → MatesWithin chess n p → (k : ℕ) × HasValue chess p (Win k) × (k ≤ n)
  pub least_loss : (n : ℕ) (p : Setup) → IsMatedWithin chess n p → (k : ℕ) × HasValue chess p (Loss k) × (k ≤ n)
  pub one : (p : Setup) (v w : Value) → HasValue chess p v → HasValue chess p w → v ≡ w
  pub losing_in_time : (n : ℕ) (p : Setup) → IsMatedWithin chess n p → ZeroesLosingWithin chess n p
  pub winning_in_time : (n : ℕ) (p : Setup) → MatesWithin chess n p → ZeroesWinningWithin chess n p
  pub images : (p q : Setup) → IsAdmissible p → AreImages p q → (v : Value) → HasValue chess p v ↔ HasValue chess q v
