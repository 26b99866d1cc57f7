-- Rows where two others differ.
use Rattle.std.proofs.Common.{◌≡◌, ℕ, zero, suc, ◌<◌, cond, eqb, List, [], ◌∷◌, length, get_or, replicate, arith}
use lib.Lanes.{zip2, top}
use Rattle.egt_lanes.proofs.Rows.{other, select}

unlike_of : (a b w : ℕ) → cond (top 7 (other a b)) w 0 ≡ cond (eqb a b) 0 w
unlike_of a b w = grind (arith, eqb, cond, top)

pub unlike_at : (xs ys ws : List ℕ) (i : ℕ) → i < length xs → length ys ≡ length xs → length ws ≡ length xs
    → get_or (select (zip2 other xs ys) ws (replicate (length xs) 0)) i 0 ≡ cond (eqb (get_or xs i 0) (get_or ys i 0)) 0 (get_or ws i 0)
unlike_at [] ys ws i p q r = absurd (omega arith)
unlike_at (x ∷ xs) [] ws i p q r = absurd (omega arith)
unlike_at (x ∷ xs) (y ∷ ys) [] i p q r = absurd (omega arith)
unlike_at (x ∷ xs) (y ∷ ys) (w ∷ ws) zero p q r = unlike_of x y w
unlike_at (x ∷ xs) (y ∷ ys) (w ∷ ws) (suc i) p q r = unlike_at xs ys ws i (omega arith) (omega arith) (omega arith)

chosen_of : (a t r : ℕ) → cond (top 7 (other a 0)) t r ≡ cond (eqb a 0) r t
chosen_of a t r = grind (arith, eqb, cond, top)

pub chosen_at : (xs ts rs : List ℕ) (i : ℕ) → i < length xs → length ts ≡ length xs → length rs ≡ length xs
    → get_or (select (zip2 other xs (replicate (length xs) 0)) ts rs) i 0 ≡ cond (eqb (get_or xs i 0) 0) (get_or rs i 0) (get_or ts i 0)
chosen_at [] ts rs i p q r = absurd (omega arith)
chosen_at (x ∷ xs) [] rs i p q r = absurd (omega arith)
chosen_at (x ∷ xs) (t ∷ ts) [] i p q r = absurd (omega arith)
chosen_at (x ∷ xs) (t ∷ ts) (v ∷ rs) zero p q r = chosen_of x t v
chosen_at (x ∷ xs) (t ∷ ts) (v ∷ rs) (suc i) p q r = chosen_at xs ts rs i (omega arith) (omega arith) (omega arith)
