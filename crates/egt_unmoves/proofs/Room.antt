-- A man taken back leaves as many men.
use Rattle.std.proofs.Common.{◌≡◌, ℕ, ◌+◌, ◌-◌, ◌<◌, ◌≤◌, Option, cond, Bool, true, false, arith, ap, ◌∙◌}
use Rattle.egt_unmoves.specs.Prelude.{is_some, nat_cmp_total, Man, Placement, Stands, men_before}
use Rattle.std.specs.FinMap as map

-- a man taken off leaves room for one
pub few_left : (men : Placement) (man : Man) (to : ℕ) → Stands men to man → map.len men ≤ 4 → map.len (map.remove men to) < 4
few_left men man to stands few =
    let gone : map.len (map.remove men to) ≡ map.len men - 1 =
    map.len-remove nat_cmp_total men to ∙ ap (λ (o : Option Man). cond (is_some o) (map.len men - 1) (map.len men)) stands in
    omega arith

pub few_before : (men : Placement) (man : Man) (to from : ℕ) → Stands men to man → map.len men ≤ 4 → map.len (men_before men man to from) ≤ 4
few_before men man to from stands few = by_key (is_some (map.get left from)) (map.len-insert nat_cmp_total left from man)
  where
    left : Placement
    left = map.remove men to

    gone : map.len left ≡ map.len men - 1
    gone = map.len-remove nat_cmp_total men to ∙ ap (λ (o : Option Man). cond (is_some o) (map.len men - 1) (map.len men)) stands

    by_key : (b : Bool) → map.len (map.insert left from man) ≡ cond b (map.len left) (map.len left + 1) → map.len (map.insert left from man) ≤ 4
    by_key true e = let g = gone in omega arith
    by_key false e = let g = gone in omega arith
