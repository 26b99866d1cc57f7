-- Entries of the mate column and of the column of the nearest mates, compared lane by lane.
use Rattle.std.proofs.Common.{◌≡◌, ℕ, zero, suc, ◌<◌, min, List, [], ◌∷◌, length, get_or, replicate, bit_or, arith, Fits, w16}
use Rattle.std.proofs.lemmas.Nat.{le_or_l, le_or_r}
use lib.Lanes.{zip2, Each1}
use Rattle.egt_lanes.specs.Near.{IsVoidOrNear}
use Rattle.egt_lanes.proofs.LanesCompared.{below, less, chosen, select, none_over}

-- of n lanes
abbrev pub far : ℕ → List ℕ → List ℕ → List ℕ
far n xs ys =
    let one = replicate n 1 in
    let limit = replicate n 127 in
    zip2 bit_or (zip2 less (select (zip2 below ys limit) limit ys) limit) (zip2 less (select (zip2 below xs one) xs one) (select (zip2 below ys one) ys one))

-- 1 of each number but 0
sign : ℕ → ℕ
sign a = chosen (below a 1) a 1

sign_is : (a : ℕ) → sign a ≡ min a 1
unfolding sign
sign_is a = grind (arith, chosen)

lane : ℕ → ℕ → ℕ
lane m r = bit_or (less (chosen (below r 127) 127 r) 127) (less (sign m) (sign r))

near_of : (m r : ℕ) → r < 65536 → lane m r ≡ 0 → IsVoidOrNear m r
unfolding lane
near_of m r r_in none = grind (arith, le_or_l, less, chosen, below, sign, le_or_r, none_over, sign_is)

pub near_at : (xs ys : List ℕ) (i : ℕ) → i < length xs → length ys ≡ length xs → Each1 (Fits w16) ys → get_or (far (length xs) xs ys) i 0 ≡ 0 → IsVoidOrNear (get_or xs i 0) (get_or ys i 0)
unfolding lane sign
near_at [] ys i p q fits none = absurd (omega arith)
near_at (x ∷ xs) [] i p q fits none = absurd (omega arith)
near_at (x ∷ xs) (y ∷ ys) zero p q fits none = near_of x y fits.0.fits none
near_at (x ∷ xs) (y ∷ ys) (suc i) p q fits none = near_at xs ys i (omega arith) (omega arith) fits.1 none
