-- Equal lists begin and go on alike, and each of four is told.
use Rattle.std.proofs.Common.{arith, ◌≡◌, ◌⊎◌, List, ◌∷◌}

pub heads : {A : Type 0} {a b : A} {x y : List A} → a ∷ x ≡ b ∷ y → a ≡ b
heads e = cc

pub tails : {A : Type 0} {a b : A} {x y : List A} → a ∷ x ≡ b ∷ y → x ≡ y
tails e = cc

pub of_four : {A B C D R : Type 0} → A ⊎ (B ⊎ (C ⊎ (D ⊎ ⊥))) → (A → R) → (B → R) → (C → R) → (D → R) → R
of_four e f g h k = grind arith
