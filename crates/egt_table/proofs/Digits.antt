-- Bytes, the lowest first, tell a number, and are told by it.
use Rattle.std.proofs.Common.{◌/◌, ◌%◌, ◌≡◌, ℕ, zero, suc, ◌+◌, ◌*◌, ◌^◌, ◌<◌, ◌≤◌, List, [], ◌∷◌, ◌++◌, length, take}
use Rattle.std.proofs.Common.{refl, sym, ap, ◌∙◌, arith}
use Rattle.egt_table.specs.Prelude.{div-div-eq-div-mul, pow-succ', take_all, byte_at, bytes_low_first, little_bytes}
use Rattle.egt_table.specs.Prelude.{little_number, little_from, AreBytes, little_from-cons, little_number-reads_back}

byte_behind : (k x : ℕ) → byte_at (suc k) x ≡ byte_at k (x / 256)
byte_behind zero x = refl
byte_behind (suc k) x =
    ap (λ (y : ℕ). y % 256) (ap (λ (p : ℕ). x / p) (pow-succ' 256 (suc k)) ∙ sym (div-div-eq-div-mul x 256 (256 ^ suc k)))

bytes_behind : (n k x : ℕ) → bytes_low_first (suc k) n x ≡ bytes_low_first k n (x / 256)
bytes_behind zero k x = refl
bytes_behind (suc n) k x = let a = byte_behind k x in let b = bytes_behind n (suc k) x in rw (a, b) refl

quotient : (a r : ℕ) → a < 256 → (a + 256 * r) / 256 ≡ r
quotient a r h = omega arith

remainder : (a r : ℕ) → a < 256 → (a + 256 * r) % 256 ≡ a
remainder a r h = omega arith

pub bytes_back : (n : ℕ) (xs : List ℕ) → n ≤ length xs → AreBytes xs → little_bytes n (little_number n xs) ≡ take n xs
bytes_back zero xs h b = refl
bytes_back (suc n) [] h b = absurd (omega arith)
bytes_back (suc n) (a ∷ xs) h b =
    let moved : little_from 1 n (a ∷ xs) ≡ little_number n xs = little_from-cons 0 n a xs in
    let byte : a < 256 = b 0 in
    let rest : little_bytes n (little_number n xs) ≡ take n xs = bytes_back n xs (omega arith) (λ i. b (suc i)) in
    let low : (a + 256 * little_number n xs) % 256 ≡ a = remainder a (little_number n xs) byte in
    let high : (a + 256 * little_number n xs) / 256 ≡ little_number n xs = quotient a (little_number n xs) byte in
    rw (moved, bytes_behind n 0 (a + 256 * little_number n xs), low, high, rest) refl

-- the bytes of a number determine it
pub one_number : (n x y : ℕ) → x < 256 ^ n → y < 256 ^ n → little_bytes n x ≡ little_bytes n y → x ≡ y
one_number n x y hx hy e =
    sym (little_number-reads_back n x [] hx) ∙ ap (λ (w : List ℕ). little_number n (w ++ [])) e ∙ little_number-reads_back n y [] hy

-- bytes, as many, are determined by their number
pub one_list : (n : ℕ) (xs ys : List ℕ) → AreBytes xs → AreBytes ys → length xs ≡ n → length ys ≡ n → little_number n xs ≡ little_number n ys → xs ≡ ys
one_list n xs ys bx by lx ly e =
    sym (take_all n xs (omega arith)) ∙ sym (bytes_back n xs (omega arith) bx) ∙ ap (little_bytes n) e ∙ bytes_back n ys (omega arith) by ∙ take_all n ys (omega arith)
