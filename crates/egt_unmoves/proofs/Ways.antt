-- The ways back.
use Rattle.std.proofs.Common.{◌≡◌, ℕ, zero, suc, ◌+◌, ◌-◌, ◌<◌, ◌≤◌, ◌⊎◌, arith, inl, inr}
use Rattle.egt_unmoves.specs.Prelude.{Side, White, Black, other_side, rank_of, Away, ahead, forward, home_rank}
use Rattle.egt_unmoves.specs.Prelude.{farthest_advance, Advances}
use Rattle.egt_moves.proofs.SettledMoves.{farthest_two}

-- a pawn steps one square at least
some_advance : (side : Side) (s : ℕ) → 1 ≤ farthest_advance side s
some_advance side s = grind (arith, rank_of, home_rank)

one_back : (G : ℕ → Type 0) (side : Side) (s t : ℕ) → G s → Away (forward side) 1 t s → Advances G side t s
one_back G side s t free away = record {
  rides = record { count = 1; moves = omega arith; within = some_advance side t; away = away; clear = λ k u some less step. absurd (omega arith) };
  free = free;
}

-- a pawn came from one square back, or two
pub Advances-back : (F G : ℕ → Type 0) (side : Side) (s t : ℕ) → s < 64 → 0 < rank_of t → G s → Advances F side s t
    → Advances G (other_side side) t s ⊎ Advances G (other_side side) (ahead (other_side side) t) s
Advances-back h0 h1 side s t s_in low free a = grind (arith, farthest_two, forward, other_side, ahead, one_back)

-- a pawn that advances comes from the square behind its goal, or over it
pub passed_over : (F : ℕ → Type 0) (side : Side) (s t : ℕ) → s < 64 → Advances F side s t → (s ≡ ahead (other_side side) t) ⊎ F (ahead (other_side side) t)
passed_over F side s t s_in a = by_count side a.rides.count a.rides.moves (omega (arith, a.rides.within, farthest_two side s)) a.rides.away a.rides.clear
  where
    by_count : (side : Side) (n : ℕ) → 0 < n → n ≤ 2 → Away (forward side) n s t → ((k u : ℕ) → 0 < k → k < n → Away (forward side) k s u → F u)
        → (s ≡ ahead (other_side side) t) ⊎ F (ahead (other_side side) t)
    by_count White (suc zero) some few away clear = let x = away.across in let y = away.along in inl (omega arith)
    by_count Black (suc zero) some few away clear = let x = away.across in let y = away.along in inl (omega arith)
    by_count White (suc (suc zero)) some few away clear = let x = away.across in let y = away.along in let z = away.on_board in
        inr (clear 1 (t - 8) (omega arith) (omega arith) (record { on_board = omega arith; across = omega arith; along = omega arith }))
    by_count Black (suc (suc zero)) some few away clear = let x = away.across in let y = away.along in let z = away.on_board in
        inr (clear 1 (t + 8) (omega arith) (omega arith) (record { on_board = omega arith; across = omega arith; along = omega arith }))
    by_count side n some few away clear = grind arith
