-- How many of each man stand on the board of a setup in a mirror.
use Rattle.std.proofs.Common.{◌≡◌, ℕ, ◌+◌, ◌*◌, cond, eqb, arith, Option, sym, ap, ◌∙◌}
use Rattle.egt_board.specs.Prelude.{option_map, eq-eqb, eqb_tells, Mirror, Side, Kind, Man, other_side, Placement}
use Rattle.egt_board.specs.Prelude.{total, square_by, man_by, kind_number, side_number, stands_here, count_of, men_by}
use Rattle.std.specs.FinMap as map
use Rattle.egt_board.proofs.Sizes.{total-same}
use Rattle.egt_board.proofs.Reflected.{men_by-shows}
use Rattle.egt_board.proofs.Sides.{kind_few}

-- a total over the board may be taken in a mirror
total_by : (m : Mirror) (f : ℕ → ℕ) → total (λ s. f (square_by m s)) 64 ≡ total f 64
total_by m f = grind arith

-- 1 where the numbers are the same
abbrev one_where_same : ℕ → ℕ → ℕ
one_where_same a b = cond (eqb a b) 1 0

-- two tests that say the same
same_test : (a b c d : ℕ) → (a ≡ b → c ≡ d) → (c ≡ d → a ≡ b) → one_where_same a b ≡ one_where_same c d
same_test a b c d f g = grind (arith, eqb_tells, eq-eqb)

-- men of the other sides are the same where the men are
numbers_exchanged : (s t : Side) (k l : Kind) → one_where_same (6 * side_number (other_side s) + kind_number k) (6 * side_number (other_side t) + kind_number l) ≡ one_where_same (6 * side_number s + kind_number k) (6 * side_number t + kind_number l)
numbers_exchanged s t k l = grind (arith, same_test, kind_few)

here_by : (m : Mirror) (man : Man) (o : Option Man) → stands_here (man_by m man) (option_map (man_by m) o) ≡ stands_here man o
here_by m man o = grind (arith, numbers_exchanged)

-- a mirror leaves as many men, each of them turned
pub count_by : (m : Mirror) (men : Placement) (man : Man) → count_of (men_by m men) (man_by m man) ≡ count_of men man
unfolding count_of
count_by m men man =
    sym (total_by m (λ s. stands_here (man_by m man) (map.get (men_by m men) s)))
    ∙ total-same _ _ 64 (λ t t_in. ap (stands_here (man_by m man)) (men_by-shows m men t t_in) ∙ here_by m man (map.get men t))
