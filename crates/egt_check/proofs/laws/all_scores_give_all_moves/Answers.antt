use Rattle.std.proofs.Common.{◌≡◌, ◌≢◌, ◌<◌, ℕ, Bool, true, false, Some, inl, max, refl, sym, subst, arith}
use Rattle.egt_check.specs.Prelude.{P, K, Side, Setup, HasStand, ShelfMen, zeroing_score, stand_on, AreGiven}
use Rattle.egt_check.specs.Prelude.{AreAllScores, AreMoveScores, AreTablesOf, stand_in, Tables, men_swapped, FourMenTables}
use Rattle.egt_check.proofs.ByteJudged.{zeroing_max}
use Rattle.egt_check.proofs.PawnsGiven.{IsEitherPassing, PawnLaws, loud_given, nothing_passing, passing_given}
use Rattle.egt_check.proofs.laws.all_scores_give_all_moves.Goals as goal

pub returns : goal.returns
returns c = λ tables four men side targeted a b p mate zeroing are one last has scores. all_given tables four men side a b p are one last targeted mate zeroing has scores
  where
    laws : (tables : Tables) (k : ℕ) → k < 36 → (men : ShelfMen) (first : Bool) (side : Side) (targeted : Bool) (a b : ℕ) (p : Setup) → men.first.kind ≢ K → HasStand k false (stand_in first men a b) side targeted p
        → men.last.kind ≡ P → men.last.side ≡ side → PawnLaws tables men first side a b p
    laws tables k class_in men first side targeted a b p one has pawn mine = record {
      advances = λ t u v after steps leaps. c.codes_after_advances_beside_pawns_give_them.ensures tables k men first side targeted a b p t u v class_in one pawn has after steps leaps;
      promotions = λ kind t before flips w after raised. c.codes_after_advances_give_the_advances.ensures tables k men first side targeted a b p (Some kind) t before flips w class_in one (inl refl) pawn has after raised;
      captures = λ kind t flips w is raised. c.codes_after_promoting_captures_give_them.ensures tables k men first side targeted a b p kind t flips w class_in one pawn has is raised;
    }

    -- with those of captures in passing
    with_passing : (tables : Tables) (four : FourMenTables) (men : ShelfMen) (side : Side) (a b : ℕ) (p : Setup) → AreTablesOf tables four men → men.first.kind ≢ K → men.last.kind ≢ K → (targeted : Bool) (mate zeroing passing : ℕ) → HasStand four.own.class false (stand_on men a b) side targeted p → AreMoveScores four men side a b mate zeroing
        → AreGiven tables p (IsEitherPassing men p a b) passing (zeroing_score passing) → AreGiven tables p (λ m. Unit {0}) (max mate passing) (max zeroing (zeroing_score passing))
    with_passing tables four men side a b p are one last targeted mate zeroing passing has s by_passing =
        let k = four.own.class in
        let class_in = are.is_table.class_in in
        let z = s.zeroed_are in
        let greatest = max (max z.by_first z.by_last) z.by_pawns in
        let zeroed = zeroing_max greatest passing in
        let mate_is = s.mate_is in
        let zeroing_is : zeroing ≡ max s.quiet_zeroing (zeroing_score greatest) = subst (λ n. zeroing ≡ max s.quiet_zeroing (zeroing_score n)) z.is s.zeroing_is in
        let greatest_is = z.is in
        let mate_same : max s.quiet_mate (max greatest passing) ≡ max mate passing = omega (arith, mate_is, greatest_is) in
        let zeroing_same : max s.quiet_zeroing (zeroing_score (max greatest passing)) ≡ max zeroing (zeroing_score passing) = omega (arith, zeroing_is, zeroed) in
        subst (λ x. AreGiven tables p (λ m. Unit {0}) x (max zeroing (zeroing_score passing))) mate_same
        (subst (AreGiven tables p (λ m. Unit {0}) (max s.quiet_mate (max greatest passing))) zeroing_same
        (c.moves_of_either_kind_give_all.ensures tables p s.quiet_mate s.quiet_zeroing (max greatest passing) (zeroing_score (max greatest passing))
        (c.quiet_codes_give_the_quiet_moves.ensures tables four.own men side targeted a b p s.quiet_mate s.quiet_zeroing are.is_table are.found are.bytes has s.mate_raised s.zeroing_raised)
        (loud_given tables k men side targeted a b p has (λ q m leads. c.pawns_moves_are_of_four_kinds.ensures.kinds p q m.from m leads refl)
        four.own four.children.first_pawn four.children.last_pawn (max z.by_first z.by_last) z.by_pawns passing
        (laws tables k class_in men false side targeted a b p one has)
        (laws tables k class_in (men_swapped men) true side targeted b a p last has)
        (record { is_table = are.is_table; found = are.found; bytes = are.bytes; class_after = are.own_after }) are.first_pawn are.last_pawn
        (c.codes_after_captures_give_the_captures.ensures tables k men side targeted a b p four.children.first.now four.children.last.now four.children.first_flips four.children.last_flips z.by_first z.by_last class_in one last
        has are.first are.last z.first_raised z.last_raised)
        z.pawns by_passing)))

    all_given : (tables : Tables) (four : FourMenTables) (men : ShelfMen) (side : Side) (a b : ℕ) (p : Setup) → AreTablesOf tables four men → men.first.kind ≢ K → men.last.kind ≢ K → (targeted : Bool) (mate zeroing : ℕ) → HasStand four.own.class false (stand_on men a b) side targeted p → AreAllScores targeted four men side a b mate zeroing → AreGiven tables p (λ m. Unit {0}) mate zeroing
    all_given tables four men side a b p are one last false mate zeroing has s =
        let mate_same : max mate 0 ≡ mate = omega arith in
        let zeroing_same : max zeroing (zeroing_score 0) ≡ zeroing = omega arith in
        subst (λ x. AreGiven tables p (λ m. Unit {0}) x zeroing) mate_same
        (subst (AreGiven tables p (λ m. Unit {0}) (max mate 0)) zeroing_same
        (with_passing tables four men side a b p are one last false mate zeroing 0 has s (nothing_passing tables men a b p (c.pawns_moves_are_of_four_kinds.ensures.without_a_target four.own.class false (stand_on men a b) side p has).1)))
    all_given tables four men side a b p are one last true mate zeroing has s =
        let k = four.own.class in
        let class_in = are.is_table.class_in in
        let by = s.passing_are in
        let passing_is : max by.by_last by.by_first ≡ s.passing = sym by.is in
        subst (λ x. AreGiven tables p (λ m. Unit {0}) x zeroing) (sym s.mate_is)
        (subst (AreGiven tables p (λ m. Unit {0}) (max s.plain_mate s.passing)) (sym s.zeroing_is)
        (with_passing tables four men side a b p are one last true s.plain_mate s.plain_zeroing s.passing has s.plain
        (subst (λ n. AreGiven tables p (IsEitherPassing men p a b) n (zeroing_score n)) passing_is
        (passing_given tables men side a b p four.children.first.now four.children.last.now four.children.first_flips four.children.last_flips by.by_last by.by_first
        (λ pawn raised. c.codes_after_captures_in_passing_give_them.ensures tables k men false side a b p four.children.last.now four.children.last_flips by.by_last class_in one pawn has are.last raised)
        (λ pawn raised. c.codes_after_captures_in_passing_give_them.ensures tables k (men_swapped men) true side b a p four.children.first.now four.children.first_flips by.by_first class_in last pawn has are.first raised)
        by.last_raised by.first_raised))))
