-- Tests of codes and what they tell.
use Rattle.std.proofs.Common.{◌≡◌, ◌⊎◌, ◌||◌, not, Bool, true, arith}

pub implied : (a b : Bool) → a ≡ true → (not a || b) ≡ true → b ≡ true
implied a b h e = grind arith

pub one_of : (a b : Bool) → (a || b) ≡ true → (a ≡ true) ⊎ (b ≡ true)
one_of a b h = grind arith

pub not_both : (b : Bool) → b ≡ true → not b ≡ true → ⊥
not_both b e h = grind arith
