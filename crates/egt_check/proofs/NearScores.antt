-- The greatest scores of moves in the column of the nearest mates are those in the tables where it is read as a mate column.
use Rattle.std.proofs.Common.{◌≡◌, ℕ, ◌<◌, ◌≤◌, ◌⊎◌, Bool, true, false, max, Option, IfSome, refl, ap, ◌∙◌, inl, inr}
use Rattle.std.proofs.Common.{subst}
use Rattle.egt_check.specs.Prelude.{Setup, Side, Spells, IsIndex, IsVoid, ShelfMen, IsRaised, zeroing_score, IsTable}
use Rattle.egt_check.specs.Prelude.{TableValue, Mate, Reach, FourMenTables, Promotion, Promotions, AreAllScores}
use Rattle.egt_check.specs.Prelude.{AreMoveScores, ArePassingCaptures, AreTablesOf, AreZeroingMoves, children_in}
use Rattle.egt_check.specs.Prelude.{four_in, promotion_in, promotions_in, some_promotions_in, ArePawnScores}
use Rattle.egt_check.specs.Prelude.{HasPromotion, HasPromotions, IsPromotionScore, IsRaisedByPawn, AreAllReachScores}
use Rattle.egt_check.specs.Prelude.{AreReachScores, Tables, men_swapped, HasBytes, column_score, score_at}
use Rattle.egt_table.specs.declared.column.Column.TheVariants as columns
use Rattle.egt_check.proofs.NearReading.{near, near_scores}

-- the greatest of equal numbers
raised_same : (low v : ℕ) (In : ℕ → Type 0) (f g : ℕ → ℕ) → ((t : ℕ) → f t ≡ g t) → IsRaised low In f v → IsRaised low In g v
raised_same low v In f g same raised = record {
  kept = raised.kept;
  above = λ t here. subst (λ n. n ≤ v) (same t) (raised.above t here);
  reached = elim raised.reached [ inl none ↦ inl none | inr h ↦ inr (h.0, h.1, h.2 ∙ same h.0) ];
}

module _ (or_void : (c code : ℕ) → c < 36 → ((p : Setup) × Spells c code p × IsIndex c p code) ⊎ IsVoid c code) where
  pub near_raised : (t : TableValue) (low v : ℕ) (In : ℕ → Type 0) → IsTable (near t) → HasBytes (near t) → IsRaised low In (column_score t columns.Reach) v → IsRaised low In (score_at (near t) Mate) v
  near_raised t low v In is_table bytes = raised_same low v In (column_score t columns.Reach) (score_at (near t) Mate) (near_scores t is_table bytes (λ i. or_void t.class i is_table.class_in))

  -- ---- of a pawn

  module _ (tables : Tables) (men : ShelfMen) (side : Side) (a b : ℕ) where
    by_promotion : (promotion : Promotion) (low high : ℕ) → HasPromotion tables (promotion_in Reach promotion) men → IsPromotionScore columns.Reach promotion men side a b low high → IsPromotionScore columns.Mate (promotion_in Reach promotion) men side a b low high
    by_promotion promotion low high has s = record {
      advanced = s.advanced;
      taken = s.taken;
      advanced_raised = near_raised promotion.both.now 0 s.advanced _ has.both.is_table has.both.bytes s.advanced_raised;
      taken_raised = near_raised promotion.alone.now 0 s.taken _ has.alone.is_table has.alone.bytes s.taken_raised;
      is = s.is;
    }

    module _ (own : TableValue) (first : Bool) (is_table : IsTable (near own)) (bytes : HasBytes (near own)) where
      by_promotions : (kinds : Promotions) (score : ℕ) → HasPromotions tables (promotions_in Reach kinds) men → ArePawnScores columns.Reach own first kinds men side a b score → ArePawnScores columns.Mate (near own) first (promotions_in Reach kinds) men side a b score
      by_promotions kinds score has s = record {
        stepped = s.stepped;
        leapt = s.leapt;
        queen = s.queen;
        rook = s.rook;
        bishop = s.bishop;
        stepped_raised = near_raised own 0 s.stepped _ is_table bytes s.stepped_raised;
        leapt_raised = near_raised own 0 s.leapt _ is_table bytes s.leapt_raised;
        queen_is = by_promotion kinds.queen (max s.stepped s.leapt) s.queen has.queen s.queen_is;
        rook_is = by_promotion kinds.rook s.queen s.rook has.rook s.rook_is;
        bishop_is = by_promotion kinds.bishop s.rook s.bishop has.bishop s.bishop_is;
        knight_is = by_promotion kinds.knight s.bishop score has.knight s.knight_is;
      }

      by_pawn : (some : Option Promotions) (low high : ℕ) → IfSome (some_promotions_in Reach some) (λ kinds. HasPromotions tables kinds men)
          → IsRaisedByPawn columns.Reach own first some men side a b low high → IsRaisedByPawn columns.Mate (near own) first (some_promotions_in Reach some) men side a b low high
      by_pawn some low high has (inl none) = inl none
      by_pawn some low high has (inr (pawn, mine, kinds, is_some, score, scores, is)) = inr (
        pawn,
        mine,
        promotions_in Reach kinds,
        ap (λ (o : Option Promotions). some_promotions_in Reach o) is_some,
        score,
        by_promotions kinds score (subst (λ (o : Option Promotions). IfSome (some_promotions_in Reach o) (λ k. HasPromotions tables k men)) is_some has) scores,
        is,
      )

  -- ---- of all moves

  module _ (tables : Tables) (four : FourMenTables) (men : ShelfMen) (side : Side) (a b : ℕ) (are : AreTablesOf tables (four_in Reach four) men) where
    of_zeroing : (score : ℕ) → AreZeroingMoves columns.Reach four men side a b score → AreZeroingMoves columns.Mate (four_in Reach four) men side a b score
    of_zeroing score s = record {
      by_first = s.by_first;
      by_last = s.by_last;
      by_pawns = s.by_pawns;
      first_raised = near_raised four.children.first.now 0 s.by_first _ are.first.is_table are.first.bytes s.first_raised;
      last_raised = near_raised four.children.last.now 0 s.by_last _ are.last.is_table are.last.bytes s.last_raised;
      pawns = record {
        by_first = s.pawns.by_first;
        by_last = s.pawns.by_last;
        first_is = by_pawn tables (men_swapped men) side b a four.own true are.is_table are.bytes four.children.first_pawn 0 s.pawns.by_first are.first_pawn s.pawns.first_is;
        last_is = by_pawn tables men side a b four.own false are.is_table are.bytes four.children.last_pawn 0 s.pawns.by_last are.last_pawn s.pawns.last_is;
        is = s.pawns.is;
      };
      is = s.is;
    }

    of_passing : (score : ℕ) → ArePassingCaptures columns.Reach four.children men side a b score → ArePassingCaptures columns.Mate (children_in Reach four.children) men side a b score
    of_passing score s = record {
      by_last = s.by_last;
      by_first = s.by_first;
      last_raised = near_raised four.children.last.now 0 s.by_last _ are.last.is_table are.last.bytes s.last_raised;
      first_raised = near_raised four.children.first.now 0 s.by_first _ are.first.is_table are.first.bytes s.first_raised;
      is = s.is;
    }

    of_plain : (reach : ℕ) → AreReachScores four men side a b reach → (zeroing : ℕ) × AreMoveScores (four_in Reach four) men side a b reach zeroing
    of_plain reach s =
        let quiet = near_raised four.own 0 s.quiet _ are.is_table are.bytes s.quiet_raised in (
          max s.quiet (zeroing_score s.zeroed),
          record {
            quiet_mate = s.quiet;
            quiet_zeroing = s.quiet;
            zeroed = s.zeroed;
            mate_raised = quiet;
            zeroing_raised = quiet;
            zeroed_are = of_zeroing s.zeroed s.zeroed_are;
            mate_is = s.is;
            zeroing_is = refl;
          },
        )

    pub reach_read : (targeted : Bool) (reach : ℕ) → AreAllReachScores targeted four men side a b reach → (zeroing : ℕ) × AreAllScores targeted (four_in Reach four) men side a b reach zeroing
    reach_read false reach s = of_plain reach s
    reach_read true reach s =
        let plain = of_plain s.plain s.plain_is in (
          max plain.0 (zeroing_score s.passing),
          record {
            plain_mate = s.plain;
            plain_zeroing = plain.0;
            passing = s.passing;
            plain = plain.1;
            passing_are = of_passing s.passing s.passing_are;
            mate_is = s.is;
            zeroing_is = refl;
          },
        )
