-- Entries as bytes, two bytes each.
use Rattle.std.proofs.Common.{◌≡◌, ℕ, suc, ◌*◌, List, [], ◌∷◌, ◌++◌, length, drop, refl, ap, ◌∙◌, arith}
use Rattle.egt_table.specs.Prelude.{little_bytes, little_number, IsRead, flat_map-append, AreBytes, entries_bytes}
use Rattle.egt_table.proofs.Digits.{bytes_back}

pub entries_length : (xs : List ℕ) → length (entries_bytes xs) ≡ 2 * length xs
entries_length [] = refl
entries_length (x ∷ xs) = let e = entries_length xs in omega (arith, e)

-- numbers that were read from bytes have these bytes
pub entries_read : (bytes entries : List ℕ) → length bytes ≡ 2 * length entries → AreBytes bytes → IsRead little_number 2 bytes entries → entries_bytes entries ≡ bytes
entries_read [] [] e b r = refl
entries_read (a ∷ bytes) [] e b r = absurd (omega arith)
entries_read [] (x ∷ entries) e b r = absurd (omega arith)
entries_read (a ∷ []) (x ∷ entries) e b r = absurd (omega arith)
entries_read (a ∷ c ∷ bytes) (x ∷ entries) e b r =
    let here : x ≡ little_number 2 (a ∷ c ∷ bytes) = r 0 (omega arith) in
    let front : little_bytes 2 (little_number 2 (a ∷ c ∷ bytes)) ≡ a ∷ c ∷ [] = bytes_back 2 (a ∷ c ∷ bytes) (omega arith) b in
    let behind : entries_bytes entries ≡ bytes =
    entries_read bytes entries (omega arith) (λ i. b (suc (suc i)))
    (λ k h. let step : 2 * suc k ≡ suc (suc (2 * k)) = omega arith in r (suc k) (omega arith) ∙ ap (λ (m : ℕ). little_number 2 (drop m (a ∷ c ∷ bytes))) step) in
    ap (λ (y : ℕ). little_bytes 2 y ++ entries_bytes entries) here
    ∙ ap (λ (w : List ℕ). w ++ entries_bytes entries) front
    ∙ ap (λ (w : List ℕ). a ∷ c ∷ w) behind

pub entries_more : (x y : List ℕ) → entries_bytes (x ++ y) ≡ entries_bytes x ++ entries_bytes y
entries_more x y = flat_map-append (little_bytes 2) x y

pub entries_split : (w x y z : List ℕ) → w ≡ x ++ (y ++ z) → entries_bytes w ≡ entries_bytes x ++ (entries_bytes y ++ entries_bytes z)
entries_split w x y z e = grind (arith, entries_bytes, entries_more)
