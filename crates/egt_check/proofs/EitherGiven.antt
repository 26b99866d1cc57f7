-- The greatest bytes of moves of two kinds are those of all of them.
use Rattle.std.proofs.Common.{◌≡◌, ℕ, ◌⊎◌, max, arith, inl, inr, subst}
use Rattle.egt_check.specs.Prelude.{cases_lt, Setup, Zeroes, decided_zeroes, Leads, Move, AreGiven, IsGiven, Tables}

-- the greater of two is one of them
one_of : (P : ℕ → Type 0) (m n : ℕ) → P m → P n → P (max m n)
one_of P m n left right = elim (cases_lt m n) [
  | inl below ↦ let is : n ≡ max m n = omega arith in subst P is right
  | inr above ↦ let is : m ≡ max m n = omega arith in subst P is left
]

module _ (tables : Tables) (p : Setup) (C : Move → Type 0) where
  -- among these, and so among the others
  given_of : (Among : Move → Type 0) (x z : ℕ) → ((m : Move) → Among m → C m) → IsGiven tables p Among x z → IsGiven tables p C x z
  given_of Among x z within g = record { move = g.move; next = g.next; leads = g.leads; among = within g.move g.among; scores = g.scores }

  mate_of : (Among : Move → Type 0) (x : ℕ) → ((m : Move) → Among m → C m) → (x ≡ 0) ⊎ ((z : ℕ) × IsGiven tables p Among x z) → (x ≡ 0) ⊎ ((z : ℕ) × IsGiven tables p C x z)
  mate_of Among x within (inl none) = inl none
  mate_of Among x within (inr g) = inr (g.0, given_of Among x g.0 within g.1)

  zeroing_of : (Among : Move → Type 0) (z : ℕ) → ((m : Move) → Among m → C m) → (z ≡ 0) ⊎ ((x : ℕ) × IsGiven tables p Among x z) → (z ≡ 0) ⊎ ((x : ℕ) × IsGiven tables p C x z)
  zeroing_of Among z within (inl none) = inl none
  zeroing_of Among z within (inr g) = inr (g.0, given_of Among g.0 z within g.1)

  -- the greatest bytes of moves that are of one kind or of the other
  pub union_given : (A B : Move → Type 0) (x z y w : ℕ) → AreGiven tables p A x z → AreGiven tables p B y w → ((q : Setup) (m : Move) → Leads p m q → C m → A m ⊎ B m) → ((m : Move) → A m → C m) → ((m : Move) → B m → C m)
      → AreGiven tables p C (max x y) (max z w)
  union_given A B x z y w one other either from_one from_other = record {
    above = λ q m leads is. elim (either q m leads is) [
      | inl here ↦ let h = one.above q m leads here in let first = h.3 in let second = h.4 in (h.0, h.1, h.2, omega (arith, first), omega (arith, second))
      | inr there ↦ let h = other.above q m leads there in let first = h.3 in let second = h.4 in (h.0, h.1, h.2, omega (arith, first), omega (arith, second))
    ];
    mate_given = one_of (λ n. (n ≡ 0) ⊎ ((k : ℕ) × IsGiven tables p C n k)) x y (mate_of A x from_one one.mate_given) (mate_of B y from_other other.mate_given);
    zeroing_given = one_of (λ n. (n ≡ 0) ⊎ ((k : ℕ) × IsGiven tables p C k n)) z w (zeroing_of A z from_one one.zeroing_given) (zeroing_of B w from_other other.zeroing_given);
  }

  -- the same legal moves give the same
  pub same_given : (A : Move → Type 0) (x z : ℕ) → AreGiven tables p A x z → ((q : Setup) (m : Move) → Leads p m q → C m → A m) → ((m : Move) → A m → C m) → AreGiven tables p C x z
  same_given A x z given back within = record {
    above = λ q m leads is. given.above q m leads (back q m leads is);
    mate_given = mate_of A x within given.mate_given;
    zeroing_given = zeroing_of A z within given.zeroing_given;
  }

pub either_given : (tables : Tables) (p : Setup) (x z y w : ℕ) → AreGiven tables p (λ m. ¬ Zeroes p m) x z → AreGiven tables p (Zeroes p) y w → AreGiven tables p (λ m. Unit {0}) (max x y) (max z w)
either_given tables p x z y w quiet loud = union_given tables p (λ m. Unit {0}) (λ m. ¬ Zeroes p m) (Zeroes p) x z y w quiet loud
    (λ q m leads any. elim (decided_zeroes p m) [ inl zeroes ↦ inr zeroes | inr keeps ↦ inl keeps ])
    (λ m keeps. tt)
    (λ m zeroes. tt)
