-- The advances of a pawn lead to the men after them, and to all positions of them.
use Rattle.std.proofs.Common.{◌≡◌, ◌≢◌, ◌↔◌, ℕ, ◌<◌, if◌then◌else◌, Bool, false, IsTrue, Option}
use Rattle.std.proofs.Common.{Some, None, refl, sym, ap, ◌∙◌, subst, inl, inr, arith}
use Rattle.egt_steps.specs.Prelude.{is_some, king_of, forward, pawn_of, Stands, one_man, K, not_free, stand_in, IsClear}
use Rattle.egt_steps.specs.Prelude.{IsInCheck, other_side, ahead, Placement, SettlesTo, side_twice, men_after, target_is}
use Rattle.egt_steps.specs.Prelude.{Advances, settles_settled, sides_differ, FitsPromotion, arriving_side, IsAdvanceFrom}
use Rattle.egt_steps.specs.Prelude.{IsFree, Setup, Away, Kind, Side, White, Black, Goes, Leads, after, Move, Facts}
use Rattle.egt_steps.specs.Prelude.{IsTarget, P, HasStand, ShelfMen, Captures, men_left, arriving, promotes, IsAdvance}
use Rattle.egt_steps.specs.Prelude.{target_rank, Man, settles_men, PawnAdvances, LeavesTarget, IsClassAfter, stand_after}
use Rattle.std.specs.FinMap as placement
use Rattle.egt_moves.specs.Legal as legal
use Rattle.egt_steps.proofs.LeftTargets.{IsAfter, settles_so, told}
use Rattle.egt_steps.proofs.Still.{not_passing}
use Rattle.egt_steps.proofs.Takings.{arrives, empties, placed, stays}
use Rattle.egt_steps.proofs.MenListed.{AreTwo, Counting, are_after, are_in, one_two, stands_after}
use Rattle.egt_moves.proofs.SettledMoves.{advances_from}

-- a pawn goes off the square from which it advances
off_start : (side : Side) (s t n : ℕ) → 0 < n → Away (forward side) n s t → t ≢ s
off_start side s t n some away e = grind arith

-- only which squares are free counts, and never the one from which it advances
advances_free : (F G : ℕ → Type 0) (side : Side) (s t : ℕ) → ((u : ℕ) → u ≢ s → F u → G u) → Advances F side s t → Advances G side s t
advances_free F G side s t free advances = grind (arith, off_start)

-- no king arrives
arriving_kind : (man : Man) (b : Bool) (promo : Option Kind) → man.kind ≡ P → FitsPromotion b promo → (arriving man promo).kind ≢ K
arriving_kind man b promo pawn fits king = grind arith

pub none_of : (o : Option ℕ) → is_some o ≡ false → o ≡ None
none_of o e = grind arith

module _ (facts : Facts) (counting : Counting) (c : ℕ) (men : ShelfMen) (first : Bool) (side : Side) (targeted : Bool) (a b : ℕ) (p : Setup) (one_other : men.first.kind ≢ K) (pawn : men.last.kind ≡ P)
    (has : HasStand c false (stand_in first men a b) side targeted p) where
  there : AreTwo p.men men.white men.black men.first a men.last b
  there = are_in c men first side targeted a b p has

  -- where the pawn goes to a square that is clear
  moved : (t : ℕ) (man : Man) → IsClear men a t → AreTwo (placed p.men b t man) men.white men.black men.first a man t
  moved t man clear = record {
    white_there = stays p.men b t man men.white (king_of White) (λ e. clear.0 (sym e)) (λ e. there.other_white (sym e)) there.white_there;
    black_there = stays p.men b t man men.black (king_of Black) (λ e. clear.1 (sym e)) (λ e. there.other_black (sym e)) there.black_there;
    one_there = stays p.men b t man a men.first (λ e. clear.2 (sym e)) (λ e. there.apart (sym e)) there.one_there;
    other_there = arrives p.men b t man;
    kings_apart = there.kings_apart;
    one_white = there.one_white;
    one_black = there.one_black;
    other_white = clear.0;
    other_black = clear.1;
    apart = clear.2;
    free = λ s w k o l. empties p.men b t man s l (λ off. there.free s w k o off);
  }

  clear_of : (u : ℕ) → IsFree p.men u → IsClear men a u
  clear_of u free = grind (arith, not_free, there)

  -- nobody is taken in passing, so that the pawn alone moves
  left_so : (man : Man) (t : ℕ) → (man.kind ≡ P → p.target ≡ Some t → ⊥) → men_left p man t ≡ p.men
  left_so man t none = ap (λ b. if b then placement.remove p.men (ahead (other_side p.side) t) else p.men) (not_passing man.kind p.target t none)

  -- ---- from the move to the men after it

  module _ (q : Setup) (m : Move) (leads : Leads p m q) (from_is : m.from ≡ b) (quiet : ¬ Captures p m) where
    his : leads.man ≡ men.last
    his = one_man p.men b leads.man men.last (subst (λ s. Stands p.men s leads.man) from_is leads.stands) there.other_there

    own : men.last.side ≡ side
    own = ap (λ (x : Man). x.side) (sym his) ∙ leads.mine ∙ has.side_is

    is_pawn : leads.man.kind ≡ P
    is_pawn = ap (λ (x : Man). x.kind) his ∙ pawn

    unpassed : leads.man.kind ≡ P → p.target ≡ Some m.to → ⊥
    unpassed kind target = quiet (inr (record { man = leads.man; stands = leads.stands; pawn = kind }, target))

    goes_so : Goes p leads.man m.from m.to → PawnAdvances p leads.man m.from m.to
    goes_so h = grind (arith, is_pawn, unpassed)

    advances : Advances (IsFree p.men) side b m.to
    advances =
        subst (λ (s : Side). Advances (IsFree p.men) s b m.to) (leads.mine ∙ has.side_is)
        (subst (λ s. Advances (IsFree p.men) leads.man.side s m.to) from_is (goes_so leads.goes).advances)

    is_advance : IsAdvance men side a b m.promo m.to
    is_advance = record {
      pawn = pawn;
      mine = own;
      advances = advances_free (IsFree p.men) (IsClear men a) side b m.to (λ u off free. clear_of u free) advances;
      fits = subst (λ (x : Man). FitsPromotion (promotes x m.to) m.promo) his leads.promotion;
    }

    abbrev man : Man
    man = arriving men.last m.promo

    man_mine : man.side ≡ side
    man_mine = arriving_side men.last m.promo ∙ own

    men_are : placed p.men b m.to man ≡ q.men
    men_are =
        (λ i. placed p.men (sym from_is i) m.to (arriving (sym his i) m.promo))
        ∙ ap (λ (x : Placement). placed x m.from m.to (arriving leads.man m.promo)) (sym (left_so leads.man m.to unpassed))
        ∙ ap (λ (s : Setup). s.men) (sym leads.becomes)

    are : AreTwo q.men men.white men.black men.first a man m.to
    are = subst (λ (x : Placement). AreTwo x men.white men.black men.first a man m.to) men_are (moved m.to man (clear_of m.to advances.free))

    is_after : IsAfter men side a b m.to man pawn man_mine (IsFree p.men) advances q
    is_after = record { are = are; side_is = ap (λ (s : Setup). s.side) leads.becomes ∙ ap other_side has.side_is }

    target : q.target ≡ legal.passed men.last b m.to
    target = ap (λ (s : Setup). s.target) leads.becomes ∙ (λ i. legal.passed (his i) (from_is i) m.to)

    form : (r : Setup) × SettlesTo q r
    form = facts.settles q

    same_side : (r : Setup) → SettlesTo q r → r.side ≡ q.side
    same_side r h = grind arith

    pub goes : IsAdvance men side a b m.promo m.to
        × ((d : ℕ) (before flips : Bool) → IsClassAfter before d flips men.first (arriving men.last m.promo)
        → (left : Bool) × (IsTrue left ↔ LeavesTarget men side a b m.to) × (r : Setup) × SettlesTo q r × HasStand d flips (stand_after before flips men a (arriving men.last m.promo) m.to) (other_side side) left r)
    goes = (
      is_advance,
      λ d before flips class. (
        is_some form.0.target,
        told men side a b m.to man pawn man_mine (IsFree p.men) advances q form.0 is_after target form.1,
        form.0,
        form.1,
        stands_after counting d before flips men a man m.to (other_side side) (is_some form.0.target) form.0 (facts.settled_admissible q form.0 (facts.step_admissible p q m has.admissible leads) form.1)
            (subst (λ (x : Placement). AreTwo x men.white men.black men.first a man m.to) (sym (settles_men q form.0 form.1)) are) one_other
            (arriving_kind men.last (promotes men.last m.to) m.promo pawn is_advance.fits) (same_side form.0 form.1 ∙ is_after.side_is) (settles_settled q form.0 form.1) refl class,
      ),
    )

  -- ---- from the men after it to the move

  module _ (promo : Option Kind) (t : ℕ) (is : IsAdvance men side a b promo t) (d : ℕ) (before flips left : Bool) (left_as_told : IsTrue left ↔ LeavesTarget men side a b t) (r : Setup)
      (has_after : HasStand d flips (stand_after before flips men a (arriving men.last promo) t) (other_side side) left r) where
    abbrev move : Move
    move = record { from = b; to = t; promo = promo }

    abbrev became : Man
    became = arriving men.last promo

    became_mine : became.side ≡ side
    became_mine = arriving_side men.last promo ∙ is.mine

    free_so : (u : ℕ) → u ≢ b → IsClear men a u → IsFree p.men u
    free_so u off clear = there.free u clear.0 clear.1 clear.2 off

    goes_there : Advances (IsFree p.men) side b t
    goes_there = advances_free (IsClear men a) (IsFree p.men) side b t free_so is.advances

    -- the pawn that set a target stands before it
    no_target : p.target ≡ Some t → ⊥
    no_target target = sides_differ side (sym is.mine ∙ ap (λ (x : Man). x.side) (one_man p.men b men.last (pawn_of (other_side p.side)) there.other_there set_there) ∙ ap other_side has.side_is)
      where
        set : IsTarget p.men p.side t
        set = target_is p t has.admissible target

        from_there : b ≡ ahead (other_side p.side) t
        from_there = advances_from (IsFree p.men) side b t goes_there (set.rank ∙ ap target_rank has.side_is) ∙ ap (λ (s : Side). ahead (other_side s) t) (sym has.side_is)

        set_there : Stands p.men b (pawn_of (other_side p.side))
        set_there = subst (λ s. Stands p.men s (pawn_of (other_side p.side))) (sym from_there) set.advanced

    r_are : AreTwo r.men men.white men.black men.first a became t
    r_are = are_after d before flips men a became t (other_side side) left r has_after

    men_are_so : r.men ≡ men_after p men.last move
    men_are_so =
        one_two r.men (placed p.men b t became) men.white men.black men.first a became t r_are (moved t became is.advances.free)
        ∙ ap (λ (x : Placement). placed x b t became) (sym (left_so men.last t (λ kind target. no_target target)))

    leads : Leads p move (after p men.last move)
    leads = record {
      man = men.last;
      stands = there.other_there;
      mine = is.mine ∙ sym has.side_is;
      goes = inr (inl (record { pawn = pawn; advances = subst (λ (s : Side). Advances (IsFree p.men) s b t) (sym is.mine) goes_there }));
      promotion = is.fits;
      becomes = refl;
      safe = λ check. has_after.admissible.quiet (subst (λ (s : Side). IsInCheck r.men s) (sym (ap other_side has_after.side_is ∙ side_twice side ∙ sym has.side_is)) (subst (λ (x : Placement). IsInCheck x p.side) (sym men_are_so) check));
    }

    abbrev next : Setup
    next = after p men.last move

    settled : SettlesTo next r
    settled =
        settles_so men side a b t became pawn became_mine (IsFree p.men) goes_there facts next r
        (record { are = subst (λ (x : Placement). AreTwo x men.white men.black men.first a became t) men_are_so r_are; side_is = ap other_side has.side_is })
        (record { are = r_are; side_is = has_after.side_is })
        (facts.step_admissible p next move has.admissible leads) has_after.admissible refl (subst (λ x. IsTrue x ↔ LeavesTarget men side a b t) (sym has_after.target_is) left_as_told)

    pub comes : (m : Move) × (q : Setup) × Leads p m q × SettlesTo q r × IsAdvanceFrom p b promo m × (m.to ≡ t)
    comes = (
      move,
      next,
      leads,
      settled,
      record {
        from = refl;
        quiet = λ captures. elim captures [ inl held ↦ not_free p.men t held.man goes_there.free held.stands | inr passing ↦ no_target passing.1 ];
        promo_is = refl;
      },
      refl,
    )
