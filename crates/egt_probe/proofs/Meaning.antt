-- The meaning of a verdict in the words of forced mate and of the defence against it.
use Rattle.std.proofs.Common.{◌≡◌, ℕ, subst, arith}
use Rattle.egt_probe.specs.Prelude.{Side, other_side, Setup, Win, Loss, HasValue, MatesWithin, IsMatedWithin}
use Rattle.egt_probe.specs.Prelude.{CannotMateBefore, AvoidsMateBefore, chess, mate_by}

mover_wins : (s : Side) (n : ℕ) → mate_by s s n ≡ Win n
mover_wins s n = grind arith

mover_loses : (s : Side) (n : ℕ) → mate_by s (other_side s) n ≡ Loss n
mover_loses s n = grind arith

win_is : (n : ℕ) (p : Setup) → HasValue chess p (Win n) → MatesWithin chess n p × CannotMateBefore chess n p
win_is n p h = grind arith

loss_is : (n : ℕ) (p : Setup) → HasValue chess p (Loss n) → IsMatedWithin chess n p × AvoidsMateBefore chess n p
loss_is n p h = grind arith

pub forced : (p : Setup) (n : ℕ) → HasValue chess p (mate_by p.side p.side n) → MatesWithin chess n p × CannotMateBefore chess n p
forced p n h = win_is n p (subst (HasValue chess p) (mover_wins p.side n) h)

pub suffered : (p : Setup) (n : ℕ) → HasValue chess p (mate_by p.side (other_side p.side) n) → IsMatedWithin chess n p × AvoidsMateBefore chess n p
suffered p n h = loss_is n p (subst (HasValue chess p) (mover_loses p.side n) h)
