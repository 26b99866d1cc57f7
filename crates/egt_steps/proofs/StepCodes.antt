-- The men of positions before and after a step.
use Rattle.std.proofs.Common.{◌≡◌, ◌≢◌, ℕ, ◌<◌, ◌↔◌, Bool, false, refl, sym, ap, ◌∙◌, inl, inr, subst}
use Rattle.egt_steps.specs.Prelude.{men_of, other_side, IsFree, Placement, Stands, Setup, Man, Side, IsOf, IsMoved}
use Rattle.egt_steps.specs.Prelude.{IsListed, moved_stand, AllApart, HasStand, list_of, IsMovedStand, Stand, all_apart}
use Rattle.egt_steps.specs.Prelude.{free_off, men_are, listed, listed_stands, no_target, untargeted_settled, apart_all}
use Rattle.std.specs.FinMap as placement
use Rattle.egt_index.specs.Facts.{Facts}
use Rattle.egt_steps.proofs.Gone.{free_before, list_moved, men_moved, moved_list}
use Rattle.egt_steps.proofs.Moved.{stand_moved}

-- what a position has in which the men of p stand so after the one on `from` went to `to`
record HasCome (c : ℕ) (p : Setup) (from to : ℕ) (man : Man) (q : Setup) : Type 0 where
  free : IsFree p.men to
  men : q.men ≡ placement.insert (placement.remove p.men from) to man
  side : q.side ≡ other_side p.side
  class : (flipped : Bool) → IsOf c flipped p → IsOf c flipped q

has_come : Facts → (c : ℕ) (stand : Stand) (side : Side) (before targeted : Bool) (p : Setup) → c < 36 → HasStand c false stand side before p → (from to : ℕ) (man : Man) → to ≢ from → Stands p.men from man
    → (q : Setup) → HasStand c false (moved_stand from to stand) (other_side side) targeted q → HasCome c p from to man q
has_come facts c stand side before targeted p c_in has from to man other stands q there = record {
  free = (free_off c stand side before p has to).1 (free_before from to other (list_of stand) man apart his);
  men = men_are c (moved_stand from to stand) (other_side side) targeted q there ∙ ap men_of (list_moved from to other stand) ∙ men_moved from to other (list_of stand) man (apart_all (moved_list from to other (list_of stand)) apart) his
      ∙ ap (λ (men : Placement). placement.insert (placement.remove men from) to man) (sym (men_are c stand side before p has));
  side = there.side_is ∙ ap other_side (sym has.side_is);
  class = λ flipped is_of. elim (facts.one_flip p c flipped false c_in is_of has.is_of) [
    | inl same ↦ subst (λ f. IsOf c f q) (sym same) there.is_of
    | inr equal ↦ facts.both_flips q c false flipped c_in equal there.is_of
  ];
}
  where
    his : IsListed (list_of stand) man from
    his = listed (list_of stand) man from (subst (λ (men : Placement). Stands men from man) (men_are c stand side before p has) stands)

    apart : AllApart (moved_list from to other (list_of stand))
    apart = subst AllApart (list_moved from to other stand) (all_apart false q.men (list_of (moved_stand from to stand)) there.stood.all)

-- who stands in a position is one of its men
pub men_listed : (c : ℕ) (stand : Stand) (side : Side) (targeted : Bool) (p : Setup) (s : ℕ) (man : Man) → HasStand c false stand side targeted p → Stands p.men s man ↔ IsListed (list_of stand) man s
men_listed c stand side targeted p s man has = (
  λ stands. listed (list_of stand) man s (subst (λ (men : Placement). Stands men s man) men stands),
  λ h. subst (λ (men : Placement). Stands men s man) (sym men) (listed_stands (list_of stand) man s (apart_all (list_of stand) (all_apart false p.men (list_of stand) has.stood.all)) h),
)
  where
    men : p.men ≡ men_of (list_of stand)
    men = men_are c stand side targeted p has

-- the position after a man went has the men after it
pub moved_stands : (c from to : ℕ) (p q : Setup) (stand after : Stand) (side : Side) (targeted : Bool) → HasStand c false stand side targeted p → IsMovedStand from to stand after → IsMoved c p from to q → HasStand c false after (other_side side) false q
moved_stands c from to p q stand after side targeted has is moved = stand_moved c false targeted p q from to stand after side (other_side side) has moved (untargeted_settled q moved.target) refl is

-- and one that has them is the position after it
pub stands_moved : Facts → (c from to : ℕ) (p q : Setup) (man : Man) (stand after : Stand) (side : Side) (targeted : Bool) → c < 36 → to < 64 → to ≢ from → Stands p.men from man → HasStand c false stand side targeted p → IsMovedStand from to stand after
    → HasStand c false after (other_side side) false q → IsMoved c p from to q
stands_moved facts c from to p q man stand after side targeted c_in to_in other stands has is there = record {
  man = man;
  stands = stands;
  free = came.free;
  on_board = to_in;
  men = came.men;
  side = came.side;
  target = no_target q.target there.target_is;
  admissible = there.admissible;
  class = came.class;
}
  where
    same : after ≡ moved_stand from to stand
    same = λ i. record { white = is.white i; black = is.black i; first = is.first i; last = is.last i }

    came : HasCome c p from to man q
    came = has_come facts c stand side targeted false p c_in has from to man other stands q (subst (λ (s : Stand). HasStand c false s (other_side side) false q) same there)
