-- The greatest scores of the codes after advances of a pawn, after captures by which he is promoted, and after captures in
-- passing are those of these moves.
use Rattle.std.proofs.Common.{◌≡◌, ℕ, ◌<◌, ◌==◌, ◌⊎◌, ◌↔◌, if◌then◌else◌, max, Bool, true, false, IsTrue, Option, Some}
use Rattle.std.proofs.Common.{None, IsSome, refl, sym, ap, ◌∙◌, subst, inl, inr}
use Rattle.egt_check.specs.Prelude.{and_parts, eqb_tells, last_rank, SettlesTo, rank_of, raised_as, IsAdvance, IsTableOf}
use Rattle.egt_check.specs.Prelude.{false≢true, other_side, TableValue, officer_of, IsPastKings, stand_left, unpromoted}
use Rattle.egt_check.specs.Prelude.{Reaches-on_board, IsSomeTurnedCodeWith, IsPromotingCapture, IsPromotingCaptureFrom}
use Rattle.egt_check.specs.Prelude.{ahead, Zeroes, is_pawn, IsClear, left_of, Tables, score_at, promoted, AreTwo, are_in}
use Rattle.egt_check.specs.Prelude.{IsOccupiedBy, IsSomeTurnedCode, IsPassingCapture, AreAdvancedCodes, ArePromotedCodes}
use Rattle.egt_check.specs.Prelude.{Setup, Kind, Side, Stand, Leads, Move, Mate, Facts}
use Rattle.egt_check.specs.Prelude.{P, AreLeapCodes, AreStepCodes, LeavesTarget, IsClassAfter, stand_after, IsTableAfter}
use Rattle.egt_check.specs.Prelude.{Man, ShelfMen, IsRaised, Captures, arriving, promotes, AreGiven, stand_in, IsClassOf}
use Rattle.egt_check.specs.Prelude.{sides_differ, HasStand, zeroing_score, ArePassingCodes, IsPassingFrom, IsAdvanceFrom}
use Rattle.std.specs.FinMap as placement
use Rattle.egt_check.proofs.ByteJudged.{zeroing_max}
use Rattle.egt_check.proofs.EitherGiven.{same_given, union_given}
use Rattle.egt_check.proofs.PartGiven.{Parts, PartsWith, part_given, part_given_with}
use Rattle.egt_check.proofs.GreatestScores.{AreWhole, SpellsSettled, Turning}

-- either square is on the board
either : (f : Bool) (x y : ℕ) → x < 64 → y < 64 → (if f then x else y) < 64
either true x y left right = left
either false x y left right = right

-- what is told is told alike
one_answer : {L : Type 0} (x y : Bool) → IsTrue x ↔ L → IsTrue y ↔ L → x ≡ y
one_answer true true one other = refl
one_answer false false one other = refl
one_answer true false one other = sym (other.1 (one.0 refl))
one_answer false true one other = one.1 (other.0 refl)

unread : false ≡ true → SpellsSettled
unread some = absurd (false≢true some)

module _ (facts : Facts) (turning : Turning) (tables : Tables) (c : ℕ) (men : ShelfMen) (first : Bool) (side : Side) (targeted : Bool) (a b : ℕ) (p : Setup) (pawn : men.last.kind ≡ P) (has : HasStand c false (stand_in first men a b) side targeted p) where
  there : AreTwo p.men men.white men.black men.first a men.last b
  there = are_in c men first side targeted a b p has

  white_in : men.white < 64
  white_in = has.admissible.on_board men.white _ there.white_there

  black_in : men.black < 64
  black_in = has.admissible.on_board men.black _ there.black_there

  one_in : a < 64
  one_in = has.admissible.on_board a men.first there.one_there

  -- the last man is a pawn, so that each move of his zeroes
  pawn_zeroes : (m : Move) → m.from ≡ b → Zeroes p m
  pawn_zeroes m from_is = inr (record { man = men.last; stands = subst (λ s. placement.get p.men s ≡ Some men.last) (sym from_is) there.other_there; pawn = pawn })

  -- ---- advances

  -- a promotion leaves no target, nor does any advance where the first man is no pawn of the other side
  leaves_none : (promo : Option Kind) → IsSome promo ⊎ (men.first.kind ≡ P → men.first.side ≡ side) → (to : ℕ) → IsAdvance men side a b promo to → ¬ LeavesTarget men side a b to
  leaves_none promo (inr mine) to advance leaves = sides_differ side (sym (mine leaves.pawn) ∙ leaves.theirs)
  leaves_none None (inl some) to advance leaves = false≢true some
  leaves_none (Some kind) (inl some) to advance leaves =
      let both = and_parts (is_pawn men.last.kind) (rank_of to == last_rank men.last.side) (promoted (promotes men.last to) kind advance.fits).0 in
      elim (eqb_tells (rank_of to) (last_rank men.last.side)) [
        | inl last ↦ unpromoted (IsClear men a) side b to advance.advances leaves.two (last.1 ∙ ap last_rank advance.mine)
        | inr apart ↦ false≢true (sym apart.0 ∙ both.1)
      ]

  -- what the law says of them
  abbrev pub Going : Type 0
  Going =
      (q : Setup) (m : Move) → Leads p m q → m.from ≡ b → ¬ Captures p m → IsAdvance men side a b m.promo m.to × ((d : ℕ) (before flips : Bool) → IsClassAfter before d flips men.first (arriving men.last m.promo)
      → (left : Bool) × (IsTrue left ↔ LeavesTarget men side a b m.to) × (r : Setup) × SettlesTo q r × HasStand d flips (stand_after before flips men a (arriving men.last m.promo) m.to) (other_side side) left r)

  abbrev pub Coming : Option Kind → Type 0
  Coming promo =
      (to : ℕ) → IsAdvance men side a b promo to → (d : ℕ) (before flips : Bool) → IsClassAfter before d flips men.first (arriving men.last promo) → (left : Bool) → IsTrue left ↔ LeavesTarget men side a b to → (r : Setup)
      → HasStand d flips (stand_after before flips men a (arriving men.last promo) to) (other_side side) left r → (m : Move) × (q : Setup) × Leads p m q × SettlesTo q r × IsAdvanceFrom p b promo m × (m.to ≡ to)

  module _ (promo : Option Kind) (t : TableValue) (before flips : Bool) (is : IsTableAfter tables t before flips men.first (arriving men.last promo)) (goes : Going) (comes : Coming promo) where
    on_board : (order : Bool) (man : Man) (to : ℕ) → to < 64 → AreWhole (stand_after order flips men a man to)
    on_board false man to to_in = record {
      filled = λ none. let e = none in cc;
      on_board = record { white = either flips men.black men.white black_in white_in; black = either flips men.white men.black white_in black_in; first = one_in; last = to_in };
    }
    on_board true man to to_in = record {
      filled = λ none. let e = none in cc;
      on_board = record { white = either flips men.black men.white black_in white_in; black = either flips men.white men.black white_in black_in; first = to_in; last = one_in };
    }

    -- by the promotion that the move names
    abbrev Led : Setup → (to : ℕ) → Option Kind → Type 0
    Led q to o =
        IsAdvance men side a b o to
        × ((d : ℕ) (before flips : Bool) → IsClassAfter before d flips men.first (arriving men.last o)
        → (left : Bool) × (IsTrue left ↔ LeavesTarget men side a b to) × (r : Setup) × SettlesTo q r × HasStand d flips (stand_after before flips men a (arriving men.last o) to) (other_side side) left r)

    led : (q : Setup) (m : Move) → Leads p m q → IsAdvanceFrom p b promo m → Led q m.to promo
    led q m leads among = subst (Led q m.to) among.promo_is (goes q m leads among.from among.quiet)

    -- ---- those that leave a target, or those that leave none

    module _ (left : Bool) (settled : left ≡ true → SpellsSettled) where
      abbrev pub AsTold : ℕ → Type 0
      AsTold to = IsTrue left ↔ LeavesTarget men side a b to

      -- the men after some such advance
      abbrev pub Advanced : Stand → Type 0
      Advanced stand = (to : ℕ) × IsAdvance men side a b promo to × AsTold to × (stand ≡ stand_after before flips men a (arriving men.last promo) to)

      abbrev pub AmongTold : Move → Type 0
      AmongTold m = IsAdvanceFrom p b promo m × AsTold m.to

      abbrev pub ToldCodes : ℕ → Type 0
      ToldCodes code = (to : ℕ) × IsAdvance men side a b promo to × AsTold to × IsSomeTurnedCodeWith left t.class code flips (stand_after before flips men a (arriving men.last promo) to) (other_side side)

      whole : (stand : Stand) → Advanced stand → AreWhole stand
      whole stand (to, advance, told, e) = subst AreWhole (sym e) (on_board before (arriving men.last promo) to advance.advances.rides.away.on_board)

      parts : PartsWith left p side t.class flips Advanced AmongTold
      parts = record {
        zeroes = λ q m leads among. pawn_zeroes m among.0.from;
        whole = whole;
        goes = λ q m leads among.
            let (advance, after) = led q m leads among.0 in
            let (some, told, r, settles, has_after) = after t.class before flips is.class_after in
            let there : HasStand t.class flips (stand_after before flips men a (arriving men.last promo) m.to) (other_side side) left r =
            subst (λ x. HasStand t.class flips (stand_after before flips men a (arriving men.last promo) m.to) (other_side side) x r) (one_answer some left told among.1) has_after in
            (stand_after before flips men a (arriving men.last promo) m.to, (m.to, advance, among.1, refl), r, settles, there);
        comes = λ stand r in_stands has_after.
            let (m, q, leads, settles, from, arrives) =
            comes in_stands.0 in_stands.1 t.class before flips is.class_after left in_stands.2 r (subst (λ (s : Stand). HasStand t.class flips s (other_side side) left r) in_stands.3 has_after) in
            (m, q, leads, settles, (from, subst AsTold (sym arrives) in_stands.2));
      }

      told_given : (w : ℕ) → IsRaised 0 ToldCodes (score_at t Mate) w → AreGiven tables p AmongTold w (zeroing_score w)
      told_given w raised =
          part_given_with facts turning tables t is.is_table is.found is.bytes p has.admissible side left settled flips Advanced AmongTold parts w
          (raised_as 0 w ToldCodes (λ code. (stand : Stand) × Advanced stand × IsSomeTurnedCodeWith left t.class code flips stand (other_side side)) (score_at t Mate)
          (λ code in_codes. (stand_after before flips men a (arriving men.last promo) in_codes.0, (in_codes.0, in_codes.1, in_codes.2, refl), in_codes.3))
          (λ code in_stands. (in_stands.1.0, in_stands.1.1, in_stands.1.2, subst (λ (s : Stand). IsSomeTurnedCodeWith left t.class code flips s (other_side side)) in_stands.1.3 in_stands.2)) raised)

    told_none : (to : ℕ) → ¬ LeavesTarget men side a b to → AsTold false unread to
    told_none to none = ((λ no. absurd (false≢true no)), (λ leaves. absurd (none leaves)))

    -- ---- where none leaves a target

    pub advances_given : IsSome promo ⊎ (men.first.kind ≡ P → men.first.side ≡ side) → (w : ℕ) → IsRaised 0 (AreAdvancedCodes t.class before flips men side promo a b) (score_at t Mate) w → AreGiven tables p (IsAdvanceFrom p b promo) w (zeroing_score w)
    advances_given bare w raised =
        same_given tables p (IsAdvanceFrom p b promo) (AmongTold false unread) w (zeroing_score w)
        (told_given false unread w
        (raised_as 0 w (AreAdvancedCodes t.class before flips men side promo a b) (ToldCodes false unread) (score_at t Mate)
        (λ code in_codes. (in_codes.0, in_codes.1, told_none in_codes.0 (leaves_none promo bare in_codes.0 in_codes.1), in_codes.2))
        (λ code in_codes. (in_codes.0, in_codes.1, in_codes.3)) raised))
        (λ q m leads among. (among, told_none m.to (leaves_none promo bare m.to (led q m leads among).0)))
        (λ m among. among.0)

  -- ---- where the first man is a pawn who may take in passing

  pub advances_beside_given : SpellsSettled → (t : TableValue) (order : Bool) → IsTableAfter tables t order false men.first men.last → Going → Coming None → (u v : ℕ) → IsRaised 0 (AreStepCodes t.class order men side a b) (score_at t Mate) u
      → IsRaised 0 (AreLeapCodes t.class order men side a b) (score_at t Mate) v → AreGiven tables p (IsAdvanceFrom p b None) (max u v) (zeroing_score (max u v))
  advances_beside_given settled t order is goes comes u v steps leaps =
      subst (AreGiven tables p (IsAdvanceFrom p b None) (max u v)) (zeroing_max u v)
      (union_given tables p (IsAdvanceFrom p b None) (AmongTold None t order false is goes comes false unread) (AmongTold None t order false is goes comes true (λ some. settled)) u (zeroing_score u) v (zeroing_score v) step_given leap_given
      either_way (λ m among. among.0) (λ m among. among.0))
    where
      step_given : AreGiven tables p (AmongTold None t order false is goes comes false unread) u (zeroing_score u)
      step_given =
          told_given None t order false is goes comes false unread u
          (raised_as 0 u (AreStepCodes t.class order men side a b) (ToldCodes None t order false is goes comes false unread) (score_at t Mate)
          (λ code in_codes. (in_codes.0, in_codes.1, told_none None t order false is goes comes in_codes.0 in_codes.2, in_codes.3))
          (λ code in_codes. (in_codes.0, in_codes.1, (λ leaves. false≢true (in_codes.2.1 leaves)), in_codes.3)) steps)

      leap_given : AreGiven tables p (AmongTold None t order false is goes comes true (λ some. settled)) v (zeroing_score v)
      leap_given =
          told_given None t order false is goes comes true (λ some. settled) v
          (raised_as 0 v (AreLeapCodes t.class order men side a b) (ToldCodes None t order false is goes comes true (λ some. settled)) (score_at t Mate)
          (λ code in_codes. (in_codes.0, in_codes.1, ((λ some. in_codes.2), (λ leaves. refl)), in_codes.3))
          (λ code in_codes. (in_codes.0, in_codes.1, in_codes.2.0 refl, in_codes.3)) leaps)

      by_answer : (m : Move) (left : Bool) → IsAdvanceFrom p b None m → IsTrue left ↔ LeavesTarget men side a b m.to
          → AmongTold None t order false is goes comes false unread m ⊎ AmongTold None t order false is goes comes true (λ some. settled) m
      by_answer m false among told = inl (among, told)
      by_answer m true among told = inr (among, told)

      either_way : (q : Setup) (m : Move) → Leads p m q → IsAdvanceFrom p b None m → AmongTold None t order false is goes comes false unread m ⊎ AmongTold None t order false is goes comes true (λ some. settled) m
      either_way q m leads among =
          let (advance, after) = led None t order false is goes comes q m leads among in
          let answer = after t.class order false is.class_after in
          by_answer m answer.0 among answer.1

  -- ---- captures by which the pawn is promoted

  module _ (kind : Kind) (t : TableValue) (flips : Bool) (is : IsTableOf tables t flips (officer_of side kind))
      (goes : (q : Setup) (m : Move) → Leads p m q → m.from ≡ b → IsOccupiedBy p.men m.to (other_side p.side) → m.promo ≡ Some kind → IsPromotingCapture men side kind a b
      × ((d : ℕ) (flips : Bool) → IsClassOf d flips (officer_of side kind) → HasStand d flips (stand_left flips (left_of men (officer_of side kind) a)) (other_side side) false q))
      (comes : IsPromotingCapture men side kind a b → (d : ℕ) (flips : Bool) → IsClassOf d flips (officer_of side kind) → (q : Setup)
      → HasStand d flips (stand_left flips (left_of men (officer_of side kind) a)) (other_side side) false q → (m : Move) × Leads p m q × IsPromotingCaptureFrom p b kind m) where
    -- the men after the capture
    abbrev pub Promoted : Stand → Type 0
    Promoted stand = IsPromotingCapture men side kind a b × (stand ≡ stand_left flips (left_of men (officer_of side kind) a))

    three_whole : (stand : Stand) → Promoted stand → AreWhole stand
    three_whole stand (capture, e) = subst AreWhole (sym e) (record {
      filled = λ none. let e = none in cc;
      on_board = record { white = either flips men.black men.white black_in white_in; black = either flips men.white men.black white_in black_in; first = one_in; last = tt };
    })

    capture_parts : Parts p side t.class flips Promoted (IsPromotingCaptureFrom p b kind)
    capture_parts = record {
      zeroes = λ q m leads among. pawn_zeroes m among.from;
      whole = three_whole;
      goes = λ q m leads among.
          let (capture, after) = goes q m leads among.from among.takes among.promo_is in
          let has_left = after t.class flips is.class_of in
          (stand_left flips (left_of men (officer_of side kind) a), (capture, refl), q, inl (has_left.settled, refl), has_left);
      comes = λ stand r in_stands has_left.
          let there_left : HasStand t.class flips (stand_left flips (left_of men (officer_of side kind) a)) (other_side side) false r = subst (λ (s : Stand). HasStand t.class flips s (other_side side) false r) in_stands.1 has_left in
          let (m, leads, among) = comes in_stands.0 t.class flips is.class_of r there_left in
          (m, r, leads, inl (there_left.settled, refl), among);
    }

    pub promoting_captures_given : (w : ℕ) → IsRaised 0 (ArePromotedCodes t.class flips men side kind a b) (score_at t Mate) w → AreGiven tables p (IsPromotingCaptureFrom p b kind) w (zeroing_score w)
    promoting_captures_given w raised =
        part_given facts turning tables t is.is_table is.found is.bytes p has.admissible side flips Promoted (IsPromotingCaptureFrom p b kind) capture_parts w
        (raised_as 0 w (ArePromotedCodes t.class flips men side kind a b) (λ code. (stand : Stand) × Promoted stand × IsSomeTurnedCode t.class code flips stand (other_side side)) (score_at t Mate)
        (λ code in_codes. (stand_left flips (left_of men (officer_of side kind) a), (in_codes.0, refl), in_codes.1))
        (λ code in_stands. (in_stands.1.0, subst (λ (s : Stand). IsSomeTurnedCode t.class code flips s (other_side side)) in_stands.1.1 in_stands.2)) raised)

-- ---- captures in passing

module _ (facts : Facts) (turning : Turning) (tables : Tables) (c : ℕ) (men : ShelfMen) (first : Bool) (side : Side) (a b : ℕ) (p : Setup) (pawn : men.last.kind ≡ P) (has : HasStand c false (stand_in first men a b) side true p) (t : TableValue) (flips : Bool)
    (is : IsTableOf tables t flips men.last)
    (goes : (q : Setup) (m : Move) → Leads p m q → IsPassingFrom p b m → IsPassingCapture men side a b
    × ((d : ℕ) (flips : Bool) → IsClassOf d flips men.last → HasStand d flips (stand_left flips (left_of men men.last (ahead side a))) (other_side side) false q))
    (comes : IsPassingCapture men side a b → (d : ℕ) (flips : Bool) → IsClassOf d flips men.last → (q : Setup) → HasStand d flips (stand_left flips (left_of men men.last (ahead side a))) (other_side side) false q
    → (m : Move) × Leads p m q × IsPassingFrom p b m) where
  -- the men after the capture
  abbrev pub Passed : Stand → Type 0
  Passed stand = IsPassingCapture men side a b × (stand ≡ stand_left flips (left_of men men.last (ahead side a)))

  passed_whole : (stand : Stand) → Passed stand → AreWhole stand
  passed_whole stand (capture, e) = subst AreWhole (sym e) (record {
    filled = λ none. let e = none in cc;
    on_board = record {
      white = either flips men.black men.white (black_in facts turning tables c men first side true a b p pawn has) (white_in facts turning tables c men first side true a b p pawn has);
      black = either flips men.white men.black (white_in facts turning tables c men first side true a b p pawn has) (black_in facts turning tables c men first side true a b p pawn has);
      first = Reaches-on_board (IsPastKings men) men.last b (ahead side a) capture.reaches;
      last = tt;
    };
  })

  passing_parts : Parts p side t.class flips Passed (IsPassingFrom p b)
  passing_parts = record {
    zeroes = λ q m leads among. pawn_zeroes facts turning tables c men first side true a b p pawn has m among.from;
    whole = passed_whole;
    goes = λ q m leads among.
        let (capture, after) = goes q m leads among in
        let has_left = after t.class flips is.class_of in
        (stand_left flips (left_of men men.last (ahead side a)), (capture, refl), q, inl (has_left.settled, refl), has_left);
    comes = λ stand r in_stands has_left.
        let there_left : HasStand t.class flips (stand_left flips (left_of men men.last (ahead side a))) (other_side side) false r = subst (λ (s : Stand). HasStand t.class flips s (other_side side) false r) in_stands.1 has_left in
        let (m, leads, among) = comes in_stands.0 t.class flips is.class_of r there_left in
        (m, r, leads, inl (there_left.settled, refl), among);
  }

  pub captures_in_passing_given : (w : ℕ) → IsRaised 0 (ArePassingCodes t.class flips men side a b) (score_at t Mate) w → AreGiven tables p (IsPassingFrom p b) w (zeroing_score w)
  captures_in_passing_given w raised =
      part_given facts turning tables t is.is_table is.found is.bytes p has.admissible side flips Passed (IsPassingFrom p b) passing_parts w
      (raised_as 0 w (ArePassingCodes t.class flips men side a b) (λ code. (stand : Stand) × Passed stand × IsSomeTurnedCode t.class code flips stand (other_side side)) (score_at t Mate)
      (λ code in_codes. (stand_left flips (left_of men men.last (ahead side a)), (in_codes.0, refl), in_codes.1))
      (λ code in_stands. (in_stands.1.0, subst (λ (s : Stand). IsSomeTurnedCode t.class code flips s (other_side side)) in_stands.1.1 in_stands.2)) raised)
