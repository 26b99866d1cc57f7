-- The captures in passing lead to the three men who are left, and to all positions of them.
use Rattle.std.proofs.Common.{◌≡◌, ◌≢◌, ℕ, ◌<◌, ◌&&◌, if◌then◌else◌, Bool, true, false, Option, Some, None, IfSome}
use Rattle.std.proofs.Common.{refl, sym, ap, ◌∙◌, subst, inl, inr, arith}
use Rattle.egt_steps.specs.Prelude.{is_some, king_of, Reaches, pawn_of, one_man, arriving, promotes, not_free, stand_in}
use Rattle.egt_steps.specs.Prelude.{cases_eq, IsTarget, HasStand, ShelfMen, men_left, IsOfficer, target_is, IsClassOf}
use Rattle.egt_steps.specs.Prelude.{eq-eqb, ahead, Stands, IsFree, Setup, rank_of, White, Black, Stand, is_pawn, left_of}
use Rattle.egt_steps.specs.Prelude.{IsInCheck, other_side, Placement, Kind, side_twice, is_target, men_after, stand_left}
use Rattle.egt_steps.specs.Prelude.{decided_held, IsOccupiedBy, target_rank, K, sides_differ, IsPassingFrom, IsPastKings}
use Rattle.egt_steps.specs.Prelude.{get-remove_other, get-remove_same, P, FitsPromotion, IsOfFourKinds, IsPassingCapture}
use Rattle.egt_steps.specs.Prelude.{Man, Side, Goes, Leads, after, Move, Facts, Left}
use Rattle.std.specs.FinMap as placement
use Rattle.egt_steps.proofs.PawnAdvances.{none_of}
use Rattle.egt_steps.proofs.PawnCaptures.{takes_bare, takes_unpassed}
use Rattle.egt_steps.proofs.Still.{no_promotion}
use Rattle.egt_steps.proofs.Takings.{AreLeft, Telling, are_left, arrives, empties, not_promoting, one_left, placed, stands_left, stays}
use Rattle.egt_steps.proofs.MenListed.{AreTwo, are_in, who}
use Rattle.egt_moves.proofs.SettledMoves.{advances_from}

-- a target is on no last rank
target_within : (side : Side) (t : ℕ) → rank_of t ≡ target_rank side → (0 < rank_of t) × (rank_of t < 7)
target_within side t rank = grind arith

-- it is right ahead of the pawn who set it, as the other side goes
ahead_back : (side : Side) (t : ℕ) → rank_of t ≡ target_rank side → ahead side (ahead (other_side side) t) ≡ t
ahead_back side t rank = grind arith

some_of : (o : Option ℕ) → is_some o ≡ true → (t : ℕ) × (o ≡ Some t)
some_of o e = grind arith

module _ (facts : Facts) (telling : Telling) (c : ℕ) (men : ShelfMen) (first : Bool) (side : Side) (a b : ℕ) (p : Setup) (pawn : men.last.kind ≡ P) (has : HasStand c false (stand_in first men a b) side true p) where
  there : AreTwo p.men men.white men.black men.first a men.last b
  there = are_in c men first side true a b p has

  -- the square that the first man has just passed
  abbrev to : ℕ
  to = ahead side a

  module _ (mine : men.last.side ≡ side) where
    -- only he may have set the target
    record IsSet : Type 0 where
      target : p.target ≡ Some to
      is : IsTarget p.men p.side to
      back : ahead (other_side p.side) to ≡ a
      enemy : pawn_of (other_side p.side) ≡ men.first

    set : IsSet
    set = by_target (some_of p.target has.target_is)
      where
        no_king : (king : Side) → pawn_of (other_side p.side) ≡ king_of king → ⊥
        no_king king is = let kinds : P ≡ K = ap (λ (x : Man). x.kind) is in cc

        by_target : (t : ℕ) × (p.target ≡ Some t) → IsSet
        by_target (t, e) = record {
          target = e ∙ ap Some here;
          is = subst (IsTarget p.men p.side) here is;
          back = ap (ahead (other_side p.side)) (sym here) ∙ setter.0;
          enemy = setter.1;
        }
          where
            is : IsTarget p.men p.side t
            is = target_is p t has.admissible e

            setter : (ahead (other_side p.side) t ≡ a) × (pawn_of (other_side p.side) ≡ men.first)
            setter = elim (who p.men men.white men.black men.first a men.last b there _ _ is.advanced) [
              | inl h ↦ absurd (no_king White h.1)
              | inr rest ↦ elim rest [
                | inl h ↦ absurd (no_king Black h.1)
                | inr more ↦ elim more [
                  | inl h ↦ h
                  | inr h ↦ absurd (sides_differ side (sym mine ∙ ap (λ (x : Man). x.side) (sym h.1) ∙ ap other_side has.side_is))
                ]
              ]
            ]

            here : t ≡ to
            here = sym (ahead_back p.side t is.rank) ∙ ap (ahead p.side) setter.0 ∙ ap (λ (s : Side). ahead s a) has.side_is

    theirs : men.first.side ≡ other_side side
    theirs = ap (λ (x : Man). x.side) (sym set.enemy) ∙ ap other_side has.side_is

    -- ---- the men left

    abbrev left : Left
    left = left_of men men.last to

    abbrev without : Placement
    without = placement.remove p.men a

    off : (s : ℕ) (man : Man) → Stands p.men s man → s ≢ to
    off s man stands e = not_free p.men to man set.is.empty (subst (λ u. Stands p.men u man) e stands)

    still : (s : ℕ) (man : Man) → s ≢ a → Stands p.men s man → Stands without s man
    still s man apart stands = get-remove_other p.men a s apart ∙ stands

    free_left : (s : ℕ) → s ≢ men.white → s ≢ men.black → s ≢ b → IsFree without s
    free_left s w k l = elim (cases_eq s a) [
      | inl here ↦ get-remove_same p.men a s here
      | inr apart ↦ get-remove_other p.men a s apart ∙ there.free s w k apart l
    ]

    takes_so : AreLeft (placed without b to men.last) left
    takes_so = record {
      white = stays without b to men.last men.white (king_of White) (off men.white _ there.white_there) (λ e. there.other_white (sym e)) (still men.white _ (λ e. there.one_white (sym e)) there.white_there);
      black = stays without b to men.last men.black (king_of Black) (off men.black _ there.black_there) (λ e. there.other_black (sym e)) (still men.black _ (λ e. there.one_black (sym e)) there.black_there);
      man = arrives without b to men.last;
      kings_apart = there.kings_apart;
      off_white = λ e. off men.white _ there.white_there (sym e);
      off_black = λ e. off men.black _ there.black_there (sym e);
      free = λ s w k o. empties without b to men.last s o (λ l. free_left s w k l);
    }

    -- the pawn that has just passed is gone
    left_so : (man : Man) → man.kind ≡ P → men_left p man to ≡ without
    left_so man kind =
        ap (λ b. if b then placement.remove p.men (ahead (other_side p.side) to) else p.men) ((λ i. is_pawn (kind i) && is_target (set.target i) to) ∙ eq-eqb to to refl)
        ∙ ap (placement.remove p.men) set.back

    unpromoted : (man : Man) → promotes man to ≡ false
    unpromoted man = not_promoting man to (λ kind. target_within p.side to set.is.rank)

    not_a_king : men.last.kind ≢ K
    not_a_king king = let both : P ≡ K = sym pawn ∙ king in cc

  -- ---- from the move to the men left

  module _ (q : Setup) (m : Move) (leads : Leads p m q) (passing : IsPassingFrom p b m) where
    his : leads.man ≡ men.last
    his = one_man p.men b leads.man men.last (subst (λ s. Stands p.men s leads.man) passing.from leads.stands) there.other_there

    own : men.last.side ≡ side
    own = ap (λ (x : Man). x.side) (sym his) ∙ leads.mine ∙ has.side_is

    pawn_here : leads.man.kind ≡ P
    pawn_here = ap (λ (x : Man). x.kind) his ∙ pawn

    arrives_there : m.to ≡ to
    arrives_there = let same : Some m.to ≡ Some to = sym passing.target ∙ (set own).target in cc

    attacks : Goes p leads.man m.from m.to → Reaches (IsFree p.men) leads.man m.from m.to
    attacks (inl piece) = absurd (piece.piece pawn_here)
    attacks (inr (inr takes)) = takes.reaches
    attacks (inr (inl advances)) = absurd
        (there.apart
        (sym passing.from
        ∙ advances_from (IsFree p.men) leads.man.side m.from m.to advances.advances (ap rank_of arrives_there ∙ (set own).is.rank ∙ ap target_rank (sym leads.mine))
        ∙ (λ i. ahead (other_side (leads.mine i)) (arrives_there i))
        ∙ (set own).back))

    reached : Reaches (IsFree p.men) men.last b to
    reached =
        subst (λ (x : Man). Reaches (IsFree p.men) x b to) his
        (subst (λ s. Reaches (IsFree p.men) leads.man s to) passing.from (subst (λ s. Reaches (IsFree p.men) leads.man m.from s) arrives_there (attacks leads.goes)))

    is_capture : IsPassingCapture men side a b
    is_capture = record {
      pawn = pawn;
      mine = own;
      other_pawn = ap (λ (x : Man). x.kind) (sym (set own).enemy);
      theirs = theirs own;
      reaches = takes_bare men.last pawn b to (IsFree p.men) (IsPastKings men) reached;
    }

    promo_none : m.promo ≡ None
    promo_none = no_promotion (promotes leads.man m.to) m.promo (ap (promotes leads.man) arrives_there ∙ unpromoted own leads.man) leads.promotion

    men_are : placed (without own) b to men.last ≡ q.men
    men_are = grind (arith, placed, left_so, own, pawn_here, his, men_left, arrives_there, arriving, promo_none)

    pub goes : IsPassingCapture men side a b × ((d : ℕ) (flips : Bool) → IsClassOf d flips men.last → HasStand d flips (stand_left flips (left_of men men.last (ahead side a))) (other_side side) false q)
    goes = (
      is_capture,
      λ d flips class. stands_left telling d flips (left own) (other_side side) q (facts.step_admissible p q m has.admissible leads) (subst (λ (x : Placement). AreLeft x (left own)) men_are (takes_so own)) (not_a_king own)
          (ap (λ (s : Setup). s.side) leads.becomes ∙ ap other_side has.side_is) (ap (λ (s : Setup). s.target) leads.becomes ∙ takes_unpassed leads.man pawn_here m.from m.to (IsFree p.men) (attacks leads.goes)) class,
    )

  -- ---- from the men left to the move

  module _ (is : IsPassingCapture men side a b) (d : ℕ) (flips : Bool) (q : Setup) (has_left : HasStand d flips (stand_left flips (left_of men men.last (ahead side a))) (other_side side) false q) where
    abbrev move : Move
    move = record { from = b; to = to; promo = None }

    reaches : Reaches (IsFree p.men) men.last b to
    reaches = takes_bare men.last pawn b to (IsPastKings men) (IsFree p.men) is.reaches

    men_are_so : q.men ≡ men_after p men.last move
    men_are_so =
        one_left q.men (placed (without is.mine) b to men.last) (left is.mine) (are_left d flips (left is.mine) (other_side side) q has_left) (takes_so is.mine)
        ∙ ap (λ (x : Placement). placed x b to men.last) (sym (left_so is.mine men.last pawn))

    turn : q.side ≡ other_side p.side
    turn = has_left.side_is ∙ ap other_side (sym has.side_is)

    target : q.target ≡ (after p men.last move).target
    target = none_of q.target has_left.target_is ∙ sym (takes_unpassed men.last pawn b to (IsFree p.men) reaches)

    leads_so : Leads p move q
    leads_so = record {
      man = men.last;
      stands = there.other_there;
      mine = is.mine ∙ sym has.side_is;
      goes = inr (inr (record { pawn = pawn; reaches = reaches; takes = inr (set is.mine).target }));
      promotion = subst (λ (x : Bool). FitsPromotion x None) (sym (unpromoted is.mine men.last)) tt;
      becomes = λ i. record { men = men_are_so i; side = turn i; target = target i };
      safe = λ check. has_left.admissible.quiet (subst (λ (s : Side). IsInCheck q.men s) (sym (ap other_side turn ∙ side_twice p.side)) check);
    }

    pub comes : (m : Move) × Leads p m q × IsPassingFrom p b m
    comes = (move, leads_so, record { from = refl; target = (set is.mine).target })

-- ---- the kinds of a pawn's moves

-- without a target none is in passing
pub none_passing : (c : ℕ) (flips : Bool) (stand : Stand) (side : Side) (p : Setup) → HasStand c flips stand side false p → (p.target ≡ None) × ((b : ℕ) (m : Move) → ¬ IsPassingFrom p b m)
none_passing c flips stand side p has = grind (arith, target, none_of, target_is)

pub four_kinds : (p q : Setup) (b : ℕ) (m : Move) → Leads p m q → m.from ≡ b → IsOfFourKinds p b m
four_kinds p q b m leads from_is = elim (decided_held p.men m.to (other_side p.side)) [
  | inl held ↦ by_promotion m.promo refl held
  | inr free ↦ by_target p.target refl free
]
  where
    officer : (o : Option Kind) → m.promo ≡ o → IfSome o IsOfficer
    officer o e = grind arith

    by_promotion : (o : Option Kind) → m.promo ≡ o → IsOccupiedBy p.men m.to (other_side p.side) → IsOfFourKinds p b m
    by_promotion h0 e held = grind (arith, officer)

    advancing : ¬ IsOccupiedBy p.men m.to (other_side p.side) → p.target ≢ Some m.to → IsOfFourKinds p b m
    advancing free apart = inl (record { from = from_is; quiet = λ captures. elim captures [ inl held ↦ free held | inr passing ↦ apart passing.1 ]; promo_is = refl }, officer m.promo refl)

    by_target : (o : Option ℕ) → p.target ≡ o → ¬ IsOccupiedBy p.men m.to (other_side p.side) → IsOfFourKinds p b m
    by_target None e free = advancing free (λ is. let both : None ≡ Some m.to = sym e ∙ is in cc)
    by_target (Some t) e free = elim (cases_eq t m.to) [
      | inl here ↦ inr (inr (inr (record { from = from_is; target = e ∙ ap Some here })))
      | inr apart ↦ advancing free (λ is. let both : Some t ≡ Some m.to = sym e ∙ is in apart (taken both))
    ]
      where
        taken : {x y : ℕ} → Some x ≡ Some y → x ≡ y
        taken both = cc
