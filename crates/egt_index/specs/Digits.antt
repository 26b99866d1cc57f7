-- Numbers of mixed digits, the highest digit first, each with a base of its own.
use Rattle.std.specs.Prelude.{ℕ, ◌+◌, ◌*◌, ◌<◌, List, [], ◌∷◌}

-- the digits go on behind those that made `high`
abbrev pub number_from : ℕ → List ℕ → List ℕ → ℕ
number_from high [] digits = high
number_from high (base ∷ bases) [] = high
number_from high (base ∷ bases) (digit ∷ digits) = number_from (high * base + digit) bases digits

-- the number that the digits spell
abbrev pub number_of : List ℕ → List ℕ → ℕ
number_of bases digits = number_from 0 bases digits

-- as many digits as bases, each below its base
abbrev pub AreDigits : List ℕ → List ℕ → Type 0
AreDigits [] [] = Unit {0}
AreDigits (base ∷ bases) (digit ∷ digits) = (digit < base) × AreDigits bases digits
AreDigits [] (digit ∷ digits) = ⊥
AreDigits (base ∷ bases) [] = ⊥
