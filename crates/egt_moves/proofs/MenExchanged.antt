-- Counts of men after a legal move.
use Rattle.std.proofs.Common.{◌≡◌, ◌≢◌, ℕ, ◌+◌, ◌<◌, Option, Some, None, IfSome, true, false, Bool, refl, sym, ap, ◌∙◌}
use Rattle.std.proofs.Common.{inl, inr, if◌then◌else◌, arith}
use Rattle.egt_moves.specs.Prelude.{IsSome, get-remove_other, target_rank, IsAdmissible, FitsPromotion, takes_in_passing}
use Rattle.egt_moves.specs.Prelude.{is_some, Side, Kind, K, rank_of, Stands, ahead, pawn_of, Setup, Move, is_pawn, Leads}
use Rattle.egt_moves.specs.Prelude.{and_parts, Man, other_side, Placement, last_rank, stands_here, side_twice, Exchanges}
use Rattle.egt_moves.specs.Prelude.{P, IsTarget, count_of, Captures, promotes, IsOfficer, arriving, is_target, men_left}
use Rattle.std.specs.FinMap as map
use Rattle.egt_moves.proofs.MenAfter.{one_man, not_free, target_is, goes_on_board, goes_not_own}
use Rattle.egt_moves.proofs.Admissible.{pawn_told}
use Rattle.egt_board.proofs.Sides.{side_cases}

-- what a change of one square does to the counts
pub record Changes : Type 0 where
  pub put : (men : Placement) (s : ℕ) (other man : Man) → s < 64 → count_of (map.insert men s other) man + stands_here man (map.get men s) ≡ count_of men man + stands_here man (Some other)
  pub cleared : (men : Placement) (s : ℕ) (man : Man) → s < 64 → count_of (map.remove men s) man + stands_here man (map.get men s) ≡ count_of men man

target_told : (o : Option ℕ) (to : ℕ) → is_target o to ≡ true → o ≡ Some to
target_told o to e = grind arith

is_some-at : (o : Option Man) → IsSome o → (man : Man) × (o ≡ Some man)
is_some-at o some = grind arith

some_is : (o : Option Man) (man : Man) → o ≡ Some man → IsSome o
some_is o man e = ap is_some e

-- a pawn is promoted on the last rank
promotion_told : (man : Man) (to : ℕ) (kind : Kind) → FitsPromotion (promotes man to) (Some kind) → (man.kind ≡ P) × IsOfficer kind × (rank_of to ≡ last_rank man.side)
promotion_told man to kind fits = grind (arith, promotes, rank_of, last_rank)

no_target_last : (side other : Side) → target_rank side ≡ last_rank other → ⊥
no_target_last side other e = grind arith

module _ (changes : Changes) (p q : Setup) (m : Move) (ok : IsAdmissible p) (step : Leads p m q) where
  from_in : m.from < 64
  from_in = ok.on_board m.from step.man step.stands

  to_in : m.to < 64
  to_in = goes_on_board p step.man m.from m.to step.goes

  apart : m.to ≢ m.from
  apart e = goes_not_own p step.man m.from m.to ok step.goes (record { man = step.man; stands = ap (map.get p.men) e ∙ step.stands; theirs = step.mine })

  abbrev left : Placement
  left = men_left p step.man m.to

  abbrev cap : ℕ
  cap = ahead (other_side p.side) m.to

  -- the men that are left, with the man that stood on the square arrived at
  counted : (o : Option Man) → map.get left m.from ≡ Some step.man → map.get left m.to ≡ o → (other : Man)
      → count_of q.men other + stands_here other o + stands_here other (Some step.man) ≡ count_of left other + stands_here other (Some (arriving step.man m.promo))
  counted o from to other = grind (arith, from_in, arriving, to_in, stands_here, get-remove_other, apart, count_of)

  -- a man on the square arrived at is an enemy, and no king
  enemy : (other : Man) → Stands p.men m.to other → (other.side ≡ other_side p.side) × (other.kind ≢ K)
  enemy other stands = grind (arith, side_cases, goes_not_own, side_twice)

  promoted_if : (taken : Option Man) → (rank_of m.to ≡ last_rank step.man.side → IfSome taken (λ other. other.kind ≢ P)) → (promo : Option Kind) → m.promo ≡ promo
      → IfSome promo (λ kind. (step.man.kind ≡ P) × IsOfficer kind × IfSome taken (λ other. other.kind ≢ P))
  promoted_if taken last h2 e = grind (arith, promotion_told, promotes)

  -- nothing is taken in passing
  module _ (none : takes_in_passing p step.man m.to ≡ false) where
    all_left : left ≡ p.men
    all_left = ap (λ b. if b then map.remove p.men cap else p.men) none

    captures : Captures p m → IsSome (map.get p.men m.to)
    captures h = grind (arith, some_is, map.get, one_man)

    captured : IsSome (map.get p.men m.to) → Captures p m
    captured some = let at = is_some-at (map.get p.men m.to) some in inl (record { man = at.0; stands = at.1; theirs = (enemy at.0 at.1).0 })

    enemies : (o : Option Man) → map.get p.men m.to ≡ o → IfSome o (λ other. (other.side ≡ other_side p.side) × (other.kind ≢ K))
    enemies o e = grind arith

    no_pawn : rank_of m.to ≡ last_rank step.man.side → (o : Option Man) → map.get p.men m.to ≡ o → IfSome o (λ other. other.kind ≢ P)
    no_pawn last h e = grind arith

    plainly : Exchanges p m q
    plainly = record {
      man = step.man;
      mine = step.mine;
      taken = map.get p.men m.to;
      counts = λ other.
          counted (map.get p.men m.to) (ap (λ men. map.get men m.from) all_left ∙ step.stands) (ap (λ men. map.get men m.to) all_left) other
          ∙ ap (λ men. count_of men other + stands_here other (Some (arriving step.man m.promo))) all_left;
      captures = (captures, captured);
      enemy = enemies (map.get p.men m.to) refl;
      promoted = promoted_if (map.get p.men m.to) (λ last. no_pawn last (map.get p.men m.to) refl) m.promo refl;
    }

  -- a pawn is taken in passing
  module _ (passing : takes_in_passing p step.man m.to ≡ true) where
    one_less : left ≡ map.remove p.men cap
    one_less = ap (λ b. if b then map.remove p.men cap else p.men) passing

    pawn : step.man.kind ≡ P
    pawn = pawn_told step.man.kind (and_parts (is_pawn step.man.kind) (is_target p.target m.to) passing).0

    target : p.target ≡ Some m.to
    target = target_told p.target m.to (and_parts (is_pawn step.man.kind) (is_target p.target m.to) passing).1

    is : IsTarget p.men p.side m.to
    is = target_is p m.to ok target

    cap_in : cap < 64
    cap_in = ok.on_board cap (pawn_of (other_side p.side)) is.advanced

    from_apart : m.from ≢ cap
    from_apart e = grind (arith, one_man, pawn_of, other_side)

    to_apart : m.to ≢ cap
    to_apart e = not_free p.men m.to (pawn_of (other_side p.side)) is.empty (ap (map.get p.men) e ∙ is.advanced)

    in_passing : Exchanges p m q
    in_passing = record {
      man = step.man;
      mine = step.mine;
      taken = Some (pawn_of (other_side p.side));
      counts = λ other.
          let all = counted None
          (ap (λ men. map.get men m.from) one_less ∙ get-remove_other p.men cap m.from from_apart ∙ step.stands)
          (ap (λ men. map.get men m.to) one_less ∙ get-remove_other p.men cap m.to to_apart ∙ is.empty) other in
          let gone = changes.cleared p.men cap other cap_in in
          let here : stands_here other (map.get p.men cap) ≡ stands_here other (Some (pawn_of (other_side p.side))) = ap (stands_here other) is.advanced in
          let fewer : count_of left other ≡ count_of (map.remove p.men cap) other = ap (λ men. count_of men other) one_less in
          let nothing : stands_here other None ≡ 0 = refl in
          omega arith;
      captures = (λ _. refl, λ _. inr (record { man = step.man; stands = step.stands; pawn = pawn }, target));
      enemy = (refl, λ king. let bad : P ≡ K = king in cc);
      promoted = promoted_if (Some (pawn_of (other_side p.side))) (λ last. absurd (no_target_last p.side step.man.side (sym is.rank ∙ last))) m.promo refl;
    }

  pub exchanged : Exchanges p m q
  exchanged = by_test (takes_in_passing p step.man m.to) refl
    where
      by_test : (b : Bool) → takes_in_passing p step.man m.to ≡ b → Exchanges p m q
      by_test true e = in_passing e
      by_test false e = plainly e
