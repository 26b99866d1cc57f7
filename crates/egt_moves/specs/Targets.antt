-- The squares to which legal moves go: FIDE Laws of Chess 2023, articles 3.1 to 3.9.
use Rattle.std.specs.Prelude.{ℕ, Option}
use Rattle.egt_board.specs.Prelude.{IsInCheck, Setup}
use Rattle.egt_board.specs.declared.man.Kind.{Kind}
use Rattle.egt_board.specs.declared.man.Man.{Man}
use Rattle.egt_moves.specs.Going.{Goes}
use Rattle.egt_moves.specs.Legal.{IsLegal, men_after, plain}

-- some legal move goes from the one square to the other
abbrev pub IsLegalTarget : Setup → ℕ → ℕ → Type 0
IsLegalTarget p from t = (promo : Option Kind) × IsLegal p (record { from = from; to = t; promo = promo })

-- the man goes from the one square to the other, and its king is not in check then
abbrev pub IsSafeGoal : Setup → Man → ℕ → ℕ → Type 0
IsSafeGoal p man from t = Goes p man from t × ¬ IsInCheck (men_after p man (plain from t)) p.side
