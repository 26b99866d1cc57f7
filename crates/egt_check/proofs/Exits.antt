-- The greatest score of the moves that zero: that of the moves that leave the class, and of pawns' moves that do not.
use Rattle.std.proofs.Common.{◌≡◌, ◌↔◌, ◌∙◌, ℕ, max, Bool, IsTrue, true, false, Option, arith, inl, inr, refl, sym}
use Rattle.std.proofs.Common.{subst}
use Rattle.egt_check.specs.Prelude.{false≢true, P, TableValue, AreLeapCodes, AreStepCodes, column_score, FourMenTables}
use Rattle.egt_check.specs.Prelude.{pawn_of, Side, ShelfMen, Column, AreExits, Promotion, Promotions}
use Rattle.egt_check.specs.Prelude.{Man, AreOwnPawnMoves, ArePawnScores, IsBestPromotion, IsRaisedByPawn, raised_by_none}
use Rattle.egt_check.specs.Prelude.{men_swapped, AreZeroingMoves, AreAdvanceScores, ArePromotionScores, IsPromotionScore}

-- the man is no pawn of that side
pub no_own_pawn : (told : Bool) (man : Man) (side : Side) → IsTrue told ↔ (man ≡ pawn_of side) → told ≡ false → ¬ ((man.kind ≡ P) × (man.side ≡ side))
no_own_pawn told man side is not pawn = false≢true (sym not ∙ is.1 (λ i. record { side = pawn.1 i; kind = pawn.0 i }))

module _ (column : Column) (own : TableValue) (first : Bool) (men : ShelfMen) (side : Side) (a b : ℕ) where
  -- another man has no advances
  pub no_advances : ¬ ((men.last.kind ≡ P) × (men.last.side ≡ side)) → AreAdvanceScores column own first men side a b 0
  no_advances none = record {
    stepped = 0;
    leapt = 0;
    stepped_raised = raised_by_none 0 (AreStepCodes own.class first men side a b) (column_score own column) (λ code h. none (h.1.pawn, h.1.mine));
    leapt_raised = raised_by_none 0 (AreLeapCodes own.class first men side a b) (column_score own column) (λ code h. none (h.1.pawn, h.1.mine));
    is = refl;
  }

  nothing_advanced : (score : ℕ) → ¬ ((men.last.kind ≡ P) × (men.last.side ≡ side)) → AreAdvanceScores column own first men side a b score → score ≡ 0
  nothing_advanced score none s = grind arith

  -- raised from a greater number
  raised_more : (promotion : Promotion) (more low high : ℕ) → IsPromotionScore column promotion men side a b low high → IsPromotionScore column promotion men side a b (max more low) (max more high)
  raised_more promotion more low high s = grind arith

  of_pawn : (kinds : Promotions) (advanced promoted : ℕ) → AreAdvanceScores column own first men side a b advanced → ArePromotionScores column kinds men side a b 0 promoted → ArePawnScores column own first kinds men side a b (max advanced promoted)
  of_pawn kinds advanced promoted s p = record {
    stepped = s.stepped;
    leapt = s.leapt;
    queen = max advanced p.queen;
    rook = max advanced p.rook;
    bishop = max advanced p.bishop;
    stepped_raised = s.stepped_raised;
    leapt_raised = s.leapt_raised;
    queen_is =
        let is = s.is in
        let low : max advanced 0 ≡ max s.stepped s.leapt = omega (arith, is) in
        subst (λ n. IsPromotionScore column kinds.queen men side a b n (max advanced p.queen)) low (raised_more kinds.queen advanced 0 p.queen p.queen_is);
    rook_is = raised_more kinds.rook advanced p.queen p.rook p.rook_is;
    bishop_is = raised_more kinds.bishop advanced p.rook p.bishop p.bishop_is;
    knight_is = raised_more kinds.knight advanced p.bishop promoted p.knight_is;
  }

  by_pawn : (promotions : Option Promotions) (advanced promoted : ℕ) → AreAdvanceScores column own first men side a b advanced → IsBestPromotion column promotions men side a b promoted → IsRaisedByPawn column own first promotions men side a b 0 (max advanced promoted)
  by_pawn promotions advanced promoted s (inl (zero, none)) = let still = nothing_advanced advanced none s in inl (omega (arith, zero, still), none)
  by_pawn promotions advanced promoted s (inr (pawn, mine, kinds, some, scores)) = inr (pawn, mine, kinds, some, max advanced promoted, of_pawn kinds advanced promoted s scores, omega arith)

greatest : (taken last first stepped leapt : ℕ) → max (max taken (max last first)) (max stepped leapt) ≡ max taken (max (max stepped last) (max leapt first))
greatest taken last first stepped leapt = omega arith

-- the greater of both
pub zeroing_of : (column : Column) (four : FourMenTables) (men : ShelfMen) (side : Side) (a b exits own score : ℕ) → AreExits column four.children men side a b exits → AreOwnPawnMoves column four.own men side a b own → score ≡ max exits own → AreZeroingMoves column four men side a b score
zeroing_of column four men side a b exits own score e o is =
    let last = max o.by_last e.last_promoted in
    let first = max o.by_first e.first_promoted in record {
      by_first = e.by_first;
      by_last = e.by_last;
      by_pawns = max last first;
      first_raised = e.first_raised;
      last_raised = e.last_raised;
      pawns = record {
        by_first = first;
        by_last = last;
        first_is = by_pawn column four.own true (men_swapped men) side b a four.children.first_pawn o.by_first e.first_promoted o.first_is e.first_is;
        last_is = by_pawn column four.own false men side a b four.children.last_pawn o.by_last e.last_promoted o.last_is e.last_is;
        is = refl;
      };
      is = is ∙ both (max e.by_first e.by_last) e.last_promoted e.first_promoted o.by_last o.by_first exits own e.is o.is;
    }
  where
    both : (taken last first stepped leapt exits own : ℕ) → exits ≡ max taken (max last first) → own ≡ max stepped leapt → max exits own ≡ max taken (max (max stepped last) (max leapt first))
    both taken last first stepped leapt exits own e_is o_is = subst (λ n. max n own ≡ max taken (max (max stepped last) (max leapt first))) (sym e_is)
        (subst (λ n. max (max taken (max last first)) n ≡ max taken (max (max stepped last) (max leapt first))) (sym o_is) (greatest taken last first stepped leapt))

-- where neither man is a pawn of that side, that of the moves that leave the class
pub zeroed_alone : (column : Column) (four : FourMenTables) (men : ShelfMen) (side : Side) (a b exits : ℕ)
    → ¬ ((men.last.kind ≡ P) × (men.last.side ≡ side)) → ¬ ((men.first.kind ≡ P) × (men.first.side ≡ side))
    → AreExits column four.children men side a b exits → AreZeroingMoves column four men side a b exits
zeroed_alone column four men side a b exits last one e = grind (arith, zeroing_of, no_advances, men_swapped)

-- raised to one score and then to another
pub raised_twice : (low one two middle high : ℕ) → middle ≡ max low one → high ≡ max middle two
    → high ≡ max low (max one two)
raised_twice low one two middle high once again = omega (arith, once, again)
