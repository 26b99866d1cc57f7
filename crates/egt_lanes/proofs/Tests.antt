-- Tests computed at each number below a limit.
use Rattle.std.proofs.Common.{◌≡◌, ℕ, zero, suc, ◌-◌, ◌<◌, Bool, true, ◌&&◌, T, eqb, subst, inl, inr, arith, eq-zero-or-pos, eqb-true}
use lib.Ieee.Fits.{and_l, and_r}

abbrev pub passes_below : (ℕ → Bool) → ℕ → Bool
passes_below p zero = true
passes_below p (suc n) = p n && passes_below p n

pub passed : (p : ℕ → Bool) (n : ℕ) → T (passes_below p n) → (i : ℕ) → i < n → T (p i)
passed p zero h i l = absurd (omega arith)
passed p (suc n) h i l =
    elim (eq-zero-or-pos (n - i)) [
      | inl z ↦ let e : n ≡ i = omega arith in subst (λ x. T (p x)) e (and_l _ _ h)
      | inr g ↦ passed p n (and_r (p n) _ h) i (omega arith)
    ]

pub is_true : (b : Bool) → T b → b ≡ true
is_true b t = grind arith

pub equals : (a b : ℕ) → T (eqb a b) → a ≡ b
equals a b t = eqb-true a b (is_true (eqb a b) t)

-- two functions that agree at each number below n
pub agreed : (f g : ℕ → ℕ) (n : ℕ) → T (passes_below (λ i. eqb (f i) (g i)) n) → (i : ℕ) → i < n → f i ≡ g i
agreed f g n all i i_in = equals (f i) (g i) (passed (λ i. eqb (f i) (g i)) n all i i_in)
