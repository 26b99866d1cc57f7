-- Entries of a placement, found by their squares.
use Rattle.std.proofs.Common.{◌≡◌, ◌≢◌, ◌<◌, ℕ, List, ◌∷◌, Some, cond, ap, T, arith}
use Rattle.egt_board.specs.Prelude.{ltb-true, nat_cmp, is_lt, Man, tied, untied}
use Rattle.std.specs.FinMap as map

pub find-here : (q k : ℕ) (man : Man) (es : List (ℕ × Man)) → q ≡ k → map.find nat_cmp q ((k, man) ∷ es) ≡ Some man
find-here q k man es e = ap (λ b. cond b (Some man) (map.find nat_cmp q es)) (tied q k e)

pub find-later : (q k : ℕ) (man : Man) (es : List (ℕ × Man)) → q ≢ k → map.find nat_cmp q ((k, man) ∷ es) ≡ map.find nat_cmp q es
find-later q k man es other = ap (λ b. cond b (Some man) (map.find nat_cmp q es)) (untied q k other)

-- entries in order of their squares
abbrev pub Sorted : List (ℕ × Man) → Type 0
Sorted es = T (map.is_sorted nat_cmp es)

pub lt_of_less : (a b : ℕ) → T (is_lt (nat_cmp a b)) → a < b
lt_of_less a b = grind (arith, ltb-true)
