-- The bits of a set, as bytes of ranks.
use Rattle.std.proofs.Common.{◌≡◌, ℕ, ◌*◌, ◌/◌, ◌%◌, ◌^◌, ◌<◌, eqb, bit_and, eq-eqb, sym, ap, ◌∙◌, arith}
use Rattle.egt_lanes.specs.Prelude.{bit_at, div-div-eq-div-mul, and_pow, bit_at_cat_low, bit_at-lt, div-add-mod'}
use Rattle.egt_lanes.specs.Prelude.{pow_pos}
use Rattle.egt_lanes.proofs.Tests.{agreed}

low_bit : (n k : ℕ) → k < 8 → bit_at (n % 256) k ≡ bit_at n k
low_bit n k k_in = sym (bit_at_cat_low (n / 256) 8 (n % 256) k k_in) ∙ ap (λ m. bit_at m k) (div-add-mod' n 256)

weights : (s : ℕ) → s < 64 → 256 ^ (s / 8) * 2 ^ (s % 8) ≡ 2 ^ s
weights s s_in = agreed (λ s. 256 ^ (s / 8) * 2 ^ (s % 8)) (λ s. 2 ^ s) 64 tt s s_in

bit_of_byte : (n s : ℕ) → s < 64 → bit_at (n / 256 ^ (s / 8) % 256) (s % 8) ≡ bit_at n s
bit_of_byte n s s_in = grind (arith, low_bit, div-div-eq-div-mul, weights)

scaled : (b w : ℕ) → b < 2 → 0 < w → eqb (b * w) w ≡ eqb b 1
scaled b w b_in w_in = grind (arith, eq-eqb)

-- the bit of a square, in the byte of its rank
pub has_bit : (n s : ℕ) → s < 64 → eqb (bit_and (n / 256 ^ (s / 8) % 256) (2 ^ (s % 8))) (2 ^ (s % 8)) ≡ eqb (bit_at n s) 1
has_bit n s s_in = grind (arith, eqb, and_pow, scaled, bit_at, bit_at-lt, pow_pos, bit_of_byte)
