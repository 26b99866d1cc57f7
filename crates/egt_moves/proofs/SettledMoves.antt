-- A target that no pawn stands ready to take changes no move.
use Rattle.std.proofs.Common.{◌≡◌, ◌≢◌, ℕ, ◌≤◌, ◌⊎◌, ◌↔◌, Some, arith, sym, ◌∙◌, subst, inl, inr}
use Rattle.egt_moves.specs.Prelude.{cases_eq, rank_of, home_rank, Advances, IsSettled, SettlesTo, arriving, KeepsSteps}
use Rattle.egt_moves.specs.Prelude.{Side, Man, Stands, ahead, Setup, Move, chess, Zeroes, Goes, Leads, after, Alike}
use Rattle.egt_moves.specs.Prelude.{P, other_side, farthest_advance, target_rank, IsAdmissible, untargeted, IsCheckmate}
use Rattle.std.specs.FinMap as map
use Rattle.egt_moves.proofs.MenAfter.{target_is}
use Rattle.egt_moves.proofs.Admissible.{Forward, advances_forward, from_home}
use Rattle.egt_moves.proofs.Likeness.{alike_by_steps}

pub farthest_two : (side : Side) (s : ℕ) → farthest_advance side s ≤ 2
farthest_two side s = grind (arith, rank_of, home_rank)

-- a pawn that advances to the target comes from the square of the pawn that advanced
pub advances_from : (F : ℕ → Type 0) (side : Side) (from to : ℕ) → Advances F side from to → rank_of to ≡ target_rank side → from ≡ ahead (other_side side) to
unfolding Forward
advances_from h0 h1 from to a e = grind (arith, advances_forward, farthest_two, cases_eq, rank_of, from_home)

-- no pawn arrives on a target that none stands ready to take
not_to_target : (p : Setup) (man : Man) (from to : ℕ) → IsAdmissible p → ¬ IsSettled p → Stands p.men from man → man.side ≡ p.side → man.kind ≡ P → Goes p man from to → p.target ≢ Some to
not_to_target p man from to ok unsettled stands mine pawn goes e = grind (arith, target_is, rank_of, target_rank)

goes_without : (p : Setup) (man : Man) (from to : ℕ) → IsAdmissible p → ¬ IsSettled p → Stands p.men from man → man.side ≡ p.side → Goes p man from to → Goes (untargeted p) man from to
goes_without p man from to ok unsettled stands mine h = grind (arith, not_to_target)

goes_with : (p : Setup) (man : Man) (from to : ℕ) → Goes (untargeted p) man from to → Goes p man from to
goes_with p man from to h = grind arith

same_after : (p : Setup) (man : Man) (m : Move) → IsAdmissible p → ¬ IsSettled p → Stands p.men m.from man → man.side ≡ p.side → Goes p man m.from m.to → after p man m ≡ after (untargeted p) man m
same_after p man m ok unsettled stands mine goes = grind (arith, map.insert, map.remove, arriving)

-- the legal moves are the same, and lead to the same positions
leads_without : (p q : Setup) (m : Move) → IsAdmissible p → ¬ IsSettled p → Leads p m q → Leads (untargeted p) m q
leads_without p q m ok unsettled l = record {
  man = l.man;
  stands = l.stands;
  mine = l.mine;
  goes = goes_without p l.man m.from m.to ok unsettled l.stands l.mine l.goes;
  promotion = l.promotion;
  becomes = l.becomes ∙ same_after p l.man m ok unsettled l.stands l.mine l.goes;
  safe = l.safe;
}

leads_with : (p q : Setup) (m : Move) → IsAdmissible p → ¬ IsSettled p → Leads (untargeted p) m q → Leads p m q
leads_with p q m ok unsettled l = grind (arith, goes_with, same_after)

-- q is p without a target that no pawn stands ready to take
pub record Untargets (p q : Setup) : Type 0 where
  pub ok : IsAdmissible p
  pub unsettled : ¬ IsSettled p
  pub without : q ≡ untargeted p

keeps_steps : KeepsSteps chess Untargets
keeps_steps = record {
  checkmate = λ p p' u. subst (λ x. (IsCheckmate p → IsCheckmate x) × (IsCheckmate x → IsCheckmate p)) (sym u.without) (
    λ mate. record { stuck = λ m legal. mate.stuck m (legal.0, leads_with p legal.0 m u.ok u.unsettled legal.1); check = mate.check },
    λ mate. record { stuck = λ m legal. mate.stuck m (legal.0, leads_without p legal.0 m u.ok u.unsettled legal.1); check = mate.check },
  );
  there = λ p p' q u step. (
    (step.0, subst (λ x. Leads x step.0 q) (sym u.without) (leads_without p q step.0 u.ok u.unsettled step.1)),
    same_zeroes p p' step.0 u,
  );
  back = λ p p' q u step. (
    (step.0, leads_with p q step.0 u.ok u.unsettled (subst (λ x. Leads x step.0 q) u.without step.1)),
    (let same = same_zeroes p p' step.0 u in (same.1, same.0)),
  );
}
  where
    same_zeroes : (p p' : Setup) (m : Move) → Untargets p p' → (Zeroes p m → Zeroes p' m) × (Zeroes p' m → Zeroes p m)
    same_zeroes p p' m u = subst (λ x. (Zeroes p m → Zeroes x m) × (Zeroes x m → Zeroes p m)) (sym u.without) (λ z. z, λ z. z)

-- a position and its settled form play alike
-- the one is the other, or lacks its target
abbrev pub Settled : Setup → Setup → Type 0
Settled p q = (p ≡ q) ⊎ Untargets p q

pub settled_alike : Alike chess Settled
settled_alike = alike_by_steps chess Untargets keeps_steps

pub settles : (p q : Setup) → IsAdmissible p → SettlesTo p q → Settled p q
settles p q ok h = grind arith

pub same_leads : (p q r : Setup) (m : Move) → IsAdmissible p → SettlesTo p q → Leads p m r ↔ Leads q m r
same_leads p q r m ok s = elim (settles p q ok s) [
  | inl e ↦ (subst (λ x. Leads x m r) e, subst (λ x. Leads x m r) (sym e))
  | inr u ↦ subst (λ x. (Leads p m r → Leads x m r) × (Leads x m r → Leads p m r)) (sym u.without) (leads_without p r m ok u.unsettled, leads_with p r m ok u.unsettled)
]

pub same_checkmate : (p q : Setup) → IsAdmissible p → SettlesTo p q → IsCheckmate p ↔ IsCheckmate q
same_checkmate p q ok s = settled_alike.checkmate p q (settles p q ok s)
