-- How the answer of a search of n + 1 plies comes from those of n plies about the successors.
use Rattle.std.proofs.Common.{◌≡◌, ℕ, zero, suc, inl, refl, ap, Option, Some, None}
use Rattle.egt_moves.specs.WinLossDraw.{Arena, Value, Win, Loss, Draw, IsStalemate, Ends, AvoidsMateFor, AnswersWithin}
use Rattle.egt_moves.proofs.Bounds.{win_mates, loss_mated, mated_more, mates_more, mated_not_avoids, mates_not_cannot}
use Rattle.egt_moves.proofs.Exclusion.{one_value}

module _ {S : Type 0} (a : Arena S) where
  pub stalemate_avoids : (n : ℕ) (p : S) → IsStalemate a p → AvoidsMateFor a n p
  stalemate_avoids zero p h = h.1
  stalemate_avoids (suc n) p h = (h.1, inl h.0)

module _ {S : Type 0} (a : Arena S) (ends : Ends a) where
  -- a search has one answer
  pub one_answer : (n : ℕ) (p : S) (x y : Option Value) → AnswersWithin a n p x → AnswersWithin a n p y → x ≡ y
  one_answer n p (Some (Win i)) (Some (Win j)) h k = ap Some (one_value a ends p (Win i) (Win j) h.0 k.0)
  one_answer n p (Some (Win i)) (Some (Loss j)) h k = ap Some (one_value a ends p (Win i) (Loss j) h.0 k.0)
  one_answer n p (Some (Win i)) (Some Draw) h k = absurd k
  one_answer n p (Some (Win i)) None h k = absurd (mates_not_cannot a n p (mates_more a i n p h.1 (win_mates a i p h.0)) k.1)
  one_answer n p (Some (Loss i)) (Some (Win j)) h k = ap Some (one_value a ends p (Loss i) (Win j) h.0 k.0)
  one_answer n p (Some (Loss i)) (Some (Loss j)) h k = ap Some (one_value a ends p (Loss i) (Loss j) h.0 k.0)
  one_answer n p (Some (Loss i)) (Some Draw) h k = absurd k
  one_answer n p (Some (Loss i)) None h k = absurd (mated_not_avoids a n p (mated_more a i n p h.1 (loss_mated a i p h.0)) k.0)
  one_answer n p (Some Draw) y h k = absurd h
  one_answer n p None (Some (Win j)) h k = absurd (mates_not_cannot a n p (mates_more a j n p k.1 (win_mates a j p k.0)) h.1)
  one_answer n p None (Some (Loss j)) h k = absurd (mated_not_avoids a n p (mated_more a j n p k.1 (loss_mated a j p k.0)) h.0)
  one_answer n p None (Some Draw) h k = absurd k
  one_answer n p None None h k = refl
