use Rattle.std.specs.Prelude.{◌≡◌, ℕ, zero, suc, ◌+◌, ◌<◌, ◌≤◌}
use Rattle.std.proofs.Common.{arith, inl, inr, ap, sym, ◌∙◌}
use Rattle.std.proofs.lemmas.Bool.{cases_eq}
use Rattle.std.specs.Int.{bit_at}
use Rattle.egt_board.specs.declared.man.Kind.{Kind}
use Rattle.egt_board.specs.declared.man.Kind.TheVariants.{Q, R, B, N, P, K}
use Rattle.egt_board.specs.declared.square_set.SquareSet.{SquareSet}

-- the set has this square
abbrev pub Has : SquareSet → ℕ → Type 0
Has set s = bit_at set.bits s ≡ 1

-- f at each number below n, added up
abbrev pub total : (ℕ → ℕ) → ℕ → ℕ
total f zero = 0
total f (suc n) = total f n + f n

-- how many squares the set has
unfoldable pub size_of : SquareSet → ℕ
size_of set = total (bit_at set.bits) 64

-- at most so many squares are attacked from one: eight by a king, two by a pawn, and by any other man those of four
-- lines
abbrev pub most_reached : Kind → ℕ
most_reached Q = 28
most_reached R = 28
most_reached B = 28
most_reached N = 28
most_reached P = 2
most_reached K = 8

-- a set that has a square is not empty
pub size_of-some : (set : SquareSet) (k : ℕ) → k < 64 → Has set k → 1 ≤ size_of set
unfolding size_of
size_of-some set k k_in has = within 64 k_in
  where
    within : (n : ℕ) → k < n → 1 ≤ total (bit_at set.bits) n
    within zero lt = absurd (omega arith)
    within (suc n) lt = elim (cases_eq k n) [
      | inl e ↦ let here : bit_at set.bits n ≡ 1 = ap (bit_at set.bits) (sym e) ∙ has in omega arith
      | inr other ↦ let rest : 1 ≤ total (bit_at set.bits) n = within n (omega arith) in omega arith
    ]
