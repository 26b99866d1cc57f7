-- The greatest scores of all moves stay when entries that no move leads to are put.
use Rattle.std.proofs.Common.{◌≡◌, ◌⊎◌, ℕ, Bool, true, false, Option, refl, sym, ap, inl, inr, subst}
use Rattle.egt_sweep.specs.FillPrelude.{other_side, Man, Side, IsSomeTurnedCodeWith, ShelfMen, Stand, IsRaised, TableValue}
use Rattle.egt_sweep.specs.FillPrelude.{Column, AreLeapCodes, AreStepCodes, stand_after, AreQuietCodes, IsQuietStand}
use Rattle.egt_sweep.specs.FillPrelude.{IsBesideKing, with_king, men_swapped, AreAllScores, AreMoveScores, AreZeroingMoves}
use Rattle.egt_sweep.specs.FillPrelude.{ArePawnScores, AreRaisedByPawns, IsRaisedByPawn, AreAllReachScores, AreAllScoresOf}
use Rattle.egt_sweep.specs.FillPrelude.{AreReachScores, column_score, Children, FourMenTables, Part, Values, Reach, Promotions}
use Rattle.egt_sweep.specs.FillPrelude.{IsMended, IsOfKings, ReadsKings, TurnsTo}
use Rattle.egt_table.specs.declared.column.Column.TheVariants as columns
use Rattle.egt_sweep.proofs.KeptThrough.{raised_worth, read_of_kings, score_stays}

-- ---- codes that are read

-- the kings stand as those of the men do, or as they do after a step of that side's king
abbrev HasKings : ShelfMen → Side → Stand → Type 0
HasKings men side stand =
    ((stand.white ≡ men.white) × (stand.black ≡ men.black))
    ⊎ ((k : ℕ) × IsBesideKing men side k × (stand.white ≡ (with_king men side k).white) × (stand.black ≡ (with_king men side k).black))

-- the code tells of some men with such kings, wherever turns take them
record IsReadFor (c : ℕ) (men : ShelfMen) (side : Side) (code : ℕ) : Type 0 where
  pub targeted : Bool
  pub stand : Stand
  pub kings : HasKings men side stand
  pub is : IsSomeTurnedCodeWith targeted c code false stand (other_side side)

-- the scores of such codes are the old table's
record AreReadAlike (old new : TableValue) (men : ShelfMen) (side : Side) : Type 0 where
  pub class : new.class ≡ old.class
  pub same : (column : Column) (code : ℕ) → IsReadFor old.class men side code → column_score new column code ≡ column_score old column code

quiet_kings : (men : ShelfMen) (side : Side) (a b : ℕ) (stand : Stand) → IsQuietStand men side a b stand → HasKings men side stand
quiet_kings men side a b stand (inl step) = inr (step.0, step.1, ap (λ (o : Stand). o.white) step.2, ap (λ (o : Stand). o.black) step.2)
quiet_kings men side a b stand (inr (inl one)) = inl (ap (λ (o : Stand). o.white) one.5, ap (λ (o : Stand). o.black) one.5)
quiet_kings men side a b stand (inr (inr last)) = inl (ap (λ (o : Stand). o.white) last.5, ap (λ (o : Stand). o.black) last.5)

-- a move of a pawn leaves the kings where they stand
pawn_kings : (first : Bool) (men at : ShelfMen) (side : Side) (a : ℕ) (man : Man) (t : ℕ) → at.white ≡ men.white → at.black ≡ men.black → HasKings men side (stand_after first false at a man t)
pawn_kings false men at side a man t white black = inl (white, black)
pawn_kings true men at side a man t white black = inl (white, black)

turns_from : (c w b w' b' white black : ℕ) (side s : Side) → w ≡ w' → b ≡ b' → TurnsTo c w b side white black s → TurnsTo c w' b' side white black s
turns_from c w b w' b' white black side s w_is b_is turns = subst (λ k. TurnsTo c w' k side white black s) b_is (subst (λ k. TurnsTo c k b side white black s) w_is turns)

-- a code that is read is of kings that are read
reads_kings : (c code : ℕ) (men : ShelfMen) (side : Side) (white black : ℕ) (s : Side) → IsReadFor c men side code → IsOfKings c white black s code → ReadsKings c men side white black s
reads_kings c code men side white black s read of = elim read.kings [
  | inl still ↦ inl (turns_from c read.stand.white read.stand.black men.white men.black white black (other_side side) s still.0 still.1 turns)
  | inr step ↦ inr (step.0, step.1, turns_from c read.stand.white read.stand.black (with_king men side step.0).white (with_king men side step.0).black white black (other_side side) s step.2 step.3 turns)
]
  where
    turns : TurnsTo c read.stand.white read.stand.black (other_side side) white black s
    turns = read_of_kings read.targeted c code read.stand (other_side side) white black s read.is of

-- ---- scores of moves, by another table of the class

module _ (own next : TableValue) (children : Children) (men : ShelfMen) (side : Side) (alike : AreReadAlike own next men side) where
  abbrev before : FourMenTables
  before = record { own = own; children = children }

  abbrev after : FourMenTables
  after = record { own = next; children = children }

  raised : (column : Column) (In : ℕ → ℕ → Type 0) (high : ℕ) → ((code : ℕ) → In own.class code → IsReadFor own.class men side code)
      → IsRaised 0 (In own.class) (column_score own column) high → IsRaised 0 (In next.class) (column_score next column) high
  raised column In high read is = subst (λ c. IsRaised 0 (In c) (column_score next column) high) (sym alike.class)
      (raised_worth 0 high (In own.class) (column_score own column) (column_score next column) (λ code at. alike.same column code (read code at)) is)

  quiet : (column : Column) (a b high : ℕ) → IsRaised 0 (AreQuietCodes own.class men side a b) (column_score own column) high → IsRaised 0 (AreQuietCodes next.class men side a b) (column_score next column) high
  quiet column a b high = raised column (λ c. AreQuietCodes c men side a b) high (λ code is. record { targeted = false; stand = is.0; kings = quiet_kings men side a b is.0 is.1; is = is.2 })

  -- the men may be named in the other order
  module _ (column : Column) (first : Bool) (at : ShelfMen) (a b : ℕ) (white : at.white ≡ men.white) (black : at.black ≡ men.black) where
    stepped : (high : ℕ) → IsRaised 0 (AreStepCodes own.class first at side a b) (column_score own column) high → IsRaised 0 (AreStepCodes next.class first at side a b) (column_score next column) high
    stepped high = raised column (λ c. AreStepCodes c first at side a b) high
        (λ code is. record { targeted = false; stand = stand_after first false at a at.last is.0; kings = pawn_kings first men at side a at.last is.0 white black; is = is.3 })

    leapt : (high : ℕ) → IsRaised 0 (AreLeapCodes own.class first at side a b) (column_score own column) high → IsRaised 0 (AreLeapCodes next.class first at side a b) (column_score next column) high
    leapt high = raised column (λ c. AreLeapCodes c first at side a b) high
        (λ code is. record { targeted = true; stand = stand_after first false at a at.last is.0; kings = pawn_kings first men at side a at.last is.0 white black; is = is.3 })

    pawn : (kinds : Promotions) (score : ℕ) → ArePawnScores column own first kinds at side a b score → ArePawnScores column next first kinds at side a b score
    pawn kinds score is = record {
      stepped = is.stepped;
      leapt = is.leapt;
      queen = is.queen;
      rook = is.rook;
      bishop = is.bishop;
      stepped_raised = stepped is.stepped is.stepped_raised;
      leapt_raised = leapt is.leapt is.leapt_raised;
      queen_is = is.queen_is;
      rook_is = is.rook_is;
      bishop_is = is.bishop_is;
      knight_is = is.knight_is;
    }

    by_pawn : (promotions : Option Promotions) (low high : ℕ) → IsRaisedByPawn column own first promotions at side a b low high → IsRaisedByPawn column next first promotions at side a b low high
    by_pawn promotions low high (inl none) = inl none
    by_pawn promotions low high (inr is) = inr (is.0, is.1, is.2, is.3, is.4, pawn is.2 is.4 is.5, is.6)

  by_pawns : (column : Column) (first last : Option Promotions) (a b score : ℕ) → AreRaisedByPawns column own first last men side a b score → AreRaisedByPawns column next first last men side a b score
  by_pawns column first last a b score is = record {
    by_first = is.by_first;
    by_last = is.by_last;
    first_is = by_pawn column true (men_swapped men) b a refl refl first 0 is.by_first is.first_is;
    last_is = by_pawn column false men a b refl refl last 0 is.by_last is.last_is;
    is = is.is;
  }

  zeroed : (column : Column) (a b score : ℕ) → AreZeroingMoves column before men side a b score → AreZeroingMoves column after men side a b score
  zeroed column a b score is = record {
    by_first = is.by_first;
    by_last = is.by_last;
    by_pawns = is.by_pawns;
    first_raised = is.first_raised;
    last_raised = is.last_raised;
    pawns = by_pawns column children.first_pawn children.last_pawn a b is.by_pawns is.pawns;
    is = is.is;
  }

  moved : (a b mate zeroing : ℕ) → AreMoveScores before men side a b mate zeroing → AreMoveScores after men side a b mate zeroing
  moved a b mate zeroing is = record {
    quiet_mate = is.quiet_mate;
    quiet_zeroing = is.quiet_zeroing;
    zeroed = is.zeroed;
    mate_raised = quiet columns.Mate a b is.quiet_mate is.mate_raised;
    zeroing_raised = quiet columns.Zeroing a b is.quiet_zeroing is.zeroing_raised;
    zeroed_are = zeroed columns.Mate a b is.zeroed is.zeroed_are;
    mate_is = is.mate_is;
    zeroing_is = is.zeroing_is;
  }

  reached : (a b reach : ℕ) → AreReachScores before men side a b reach → AreReachScores after men side a b reach
  reached a b reach is = record {
    quiet = is.quiet;
    zeroed = is.zeroed;
    quiet_raised = quiet columns.Reach a b is.quiet is.quiet_raised;
    zeroed_are = zeroed columns.Reach a b is.zeroed is.zeroed_are;
    is = is.is;
  }

  all_values : (targeted : Bool) (a b mate zeroing : ℕ) → AreAllScores targeted before men side a b mate zeroing → AreAllScores targeted after men side a b mate zeroing
  all_values false a b mate zeroing is = moved a b mate zeroing is
  all_values true a b mate zeroing is = record {
    plain_mate = is.plain_mate;
    plain_zeroing = is.plain_zeroing;
    passing = is.passing;
    plain = moved a b is.plain_mate is.plain_zeroing is.plain;
    passing_are = is.passing_are;
    mate_is = is.mate_is;
    zeroing_is = is.zeroing_is;
  }

  all_reach : (targeted : Bool) (a b reach : ℕ) → AreAllReachScores targeted before men side a b reach → AreAllReachScores targeted after men side a b reach
  all_reach false a b reach is = reached a b reach is
  all_reach true a b reach is = record {
    plain = is.plain;
    passing = is.passing;
    plain_is = reached a b is.plain is.plain_is;
    passing_are = is.passing_are;
    is = is.is;
  }

  all_scores : (part : Part) (targeted : Bool) (a b score zeroing : ℕ) → AreAllScoresOf part targeted before men side a b score zeroing → AreAllScoresOf part targeted after men side a b score zeroing
  all_scores Values targeted a b score zeroing is = all_values targeted a b score zeroing is
  all_scores Reach targeted a b score zeroing is = all_reach targeted a b score is

-- the children's tables may be told by an equation
scores_alike : (part : Part) (four next : FourMenTables) (men : ShelfMen) (side : Side) → next.children ≡ four.children → AreReadAlike four.own next.own men side
    → (targeted : Bool) (a b score zeroing : ℕ) → AreAllScoresOf part targeted four men side a b score zeroing → AreAllScoresOf part targeted next men side a b score zeroing
scores_alike part four next men side children alike targeted a b score zeroing is =
    subst (λ c. AreAllScoresOf part targeted (record { own = next.own; children = c }) men side a b score zeroing) (sym children)
    (all_scores four.own next.own four.children men side alike part targeted a b score zeroing is)

-- ---- scores of all moves

-- entries of kings that are not read were put
pub scores_stay : (part : Part) (white black : ℕ) (s : Side) (four next : FourMenTables) → next.children ≡ four.children → IsMended part white black s four.own next.own
    → (targeted : Bool) (men : ShelfMen) (side : Side) → ¬ ReadsKings four.own.class men side white black s
    → (a b score zeroing : ℕ) → AreAllScoresOf part targeted four men side a b score zeroing → AreAllScoresOf part targeted next men side a b score zeroing
scores_stay part white black s four next children mended targeted men side apart = scores_alike part four next men side children alike targeted
  where
    alike : AreReadAlike four.own next.own men side
    alike = record {
      class = mended.class;
      same = λ column code read. score_stays part white black s four.own next.own mended column code (λ of. apart (reads_kings four.own.class code men side white black s read of));
    }

-- the table is seen through another reference
pub scores_same : (part : Part) (four next : FourMenTables) → next.own ≡ four.own → next.children ≡ four.children
    → (targeted : Bool) (men : ShelfMen) (side : Side) (a b score zeroing : ℕ) → AreAllScoresOf part targeted four men side a b score zeroing → AreAllScoresOf part targeted next men side a b score zeroing
scores_same part four next own children targeted men side = scores_alike part four next men side children alike targeted
  where
    alike : AreReadAlike four.own next.own men side
    alike = record {
      class = ap (λ (t : TableValue). t.class) own;
      same = λ column code read. ap (λ (t : TableValue). column_score t column code) own;
    }
