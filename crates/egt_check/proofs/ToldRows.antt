-- The entries that rows of scores tell, at one lane. A mask's lane is 65535 or 0.
use Rattle.std.proofs.Common.{◌≡◌, ℕ, zero, suc, ◌+◌, ◌<◌, ◌-◌, ◌%◌, ◌^◌, cond, eqb, ltb, List, [], ◌∷◌, map, length}
use Rattle.std.proofs.Common.{get_or, replicate, arith, Fits, w8}
use Rattle.egt_check.specs.Prelude.{agreed, near_told, value_told}
use lib.Lanes.{zip2, sel_l, top, Each1}

abbrev below : ℕ → ℕ → ℕ
below a b = cond (ltb a b) 65535 0

abbrev same : ℕ → ℕ → ℕ
same a b = cond (eqb a b) 65535 0

-- the sum and the difference, wrapping
abbrev more : ℕ → ℕ → ℕ
more a b = (a + b) % 2 ^ 16

abbrev less : ℕ → ℕ → ℕ
less a b = (a + (2 ^ 16 - b)) % 2 ^ 16

abbrev chosen : ℕ → ℕ → ℕ → ℕ
chosen m x y = cond (top 15 m) x y

abbrev select : List ℕ → List ℕ → List ℕ → List ℕ
select ms xs ys = sel_l (map (top 15) ms) xs ys

-- of n lanes
abbrev pub value_entries : ℕ → List ℕ → List ℕ
value_entries n row =
    let wide = map (λ x. x) row in
    let twice = zip2 more wide wide in
    select (zip2 same wide (replicate n 0)) (replicate n 0)
    (select (zip2 same wide (replicate n 128)) (replicate n 1)
    (select (zip2 below wide (replicate n 128)) (zip2 more (replicate n 2) twice) (zip2 less (replicate n 513) twice)))

value_entry : ℕ → ℕ
value_entry x = chosen (same x 0) 0 (chosen (same x 128) 1 (chosen (below x 128) (more 2 (more x x)) (less 513 (more x x))))

value_entry_is : (x : ℕ) → x < 256 → value_entry x ≡ value_told x
unfolding value_entry
value_entry_is x x_in = agreed value_entry value_told 256 tt x x_in

pub value_entries_at : (row : List ℕ) (i : ℕ) → i < length row → Each1 (Fits w8) row → get_or (value_entries (length row) row) i 0 ≡ value_told (get_or row i 0)
unfolding value_entry
value_entries_at [] i p fits = absurd (omega arith)
value_entries_at (x ∷ row) zero p fits = value_entry_is x fits.0.fits
value_entries_at (x ∷ row) (suc i) p fits = value_entries_at row i (omega arith) fits.1

abbrev pub near_entries : ℕ → List ℕ → List ℕ
near_entries n row =
    let wide = map (λ x. x) row in
    select (zip2 same wide (replicate n 0)) (replicate n 0) (select (zip2 same wide (replicate n 128)) (replicate n 1) (zip2 less (replicate n 257) wide))

near_entry : ℕ → ℕ
near_entry x = chosen (same x 0) 0 (chosen (same x 128) 1 (less 257 x))

near_entry_is : (x : ℕ) → x < 256 → near_entry x ≡ near_told x
unfolding near_entry
near_entry_is x x_in = agreed near_entry near_told 256 tt x x_in

pub near_entries_at : (row : List ℕ) (i : ℕ) → i < length row → Each1 (Fits w8) row → get_or (near_entries (length row) row) i 0 ≡ near_told (get_or row i 0)
unfolding near_entry
near_entries_at [] i p fits = absurd (omega arith)
near_entries_at (x ∷ row) zero p fits = near_entry_is x fits.0.fits
near_entries_at (x ∷ row) (suc i) p fits = near_entries_at row i (omega arith) fits.1
