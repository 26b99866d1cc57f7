-- Kings attack each other or neither does.
use Rattle.std.proofs.Common.{ℕ, ◌<◌, arith, subst}
use Rattle.egt_board.specs.Prelude.{Side, Step, king_of, Rides, Reaches, Away}

-- a king goes one step
once : (F : ℕ → Type 0) (s t : ℕ) (d : Step) → Rides F 1 s t d → Away d 1 s t
once F s t d r = subst (λ n. Away d n s t) (omega (arith, r.moves, r.within)) r.away

ride : (F : ℕ → Type 0) (s t : ℕ) (d : Step) → Away d 1 s t → Rides F 1 s t d
ride F s t d away = record { count = 1; moves = omega arith; within = omega arith; away = away; clear = λ k u some less on. absurd (omega (arith, some, less)) }

-- each of a king's steps leads back by another
pub reached_back : (F G : ℕ → Type 0) (side other : Side) (s t : ℕ) → s < 64 → Reaches F (king_of side) s t → Reaches G (king_of other) t s
reached_back F G side other s t s_in h = grind (arith, once, ride)
