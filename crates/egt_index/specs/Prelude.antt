-- The names that contracts and proofs cite, passed on from one place.
pub use Rattle.egt_board.proofs.Facing.{PassesOver, attacks_back}
pub use Rattle.egt_board.proofs.Sides.{sides_differ}
pub use Rattle.egt_board.specs.AllMen.{HasAllMen, HasBeside, in_any_order}
pub use Rattle.egt_board.specs.Attack.{IsAttacked, IsInCheck, king_of}
pub use Rattle.egt_board.specs.AttackLines.{Reaches, Reaches-free, Rides}
pub use Rattle.egt_board.specs.Counting.{is_man}
pub use Rattle.egt_board.specs.Decided.{Decided, decided_eq, some_or_none_below}
unfoldable pub use Rattle.egt_board.specs.DecidedSetup.{settled_form}
pub use Rattle.egt_board.specs.Images.{AreImages, ExchangedMen, SameMen, kind_number, man_number, side_number}
pub use Rattle.egt_board.specs.Images.{stands_here}
unfoldable pub use Rattle.egt_board.specs.Images.{count_of}
pub use Rattle.egt_board.specs.Listed.{FitsBoard, entry_of, setup_of, squares_of}
unfoldable pub use Rattle.egt_board.specs.Listed.{men_of}
pub use Rattle.egt_board.specs.Man.{other_side}
pub use Rattle.egt_board.specs.Mirror.{man_by, side_by}
pub use Rattle.egt_board.specs.NonKings.{StandsBeside}
pub use Rattle.egt_board.specs.Pawn.{HasNoPawn, HasPawnBeside, IsBeside, MayStand, PawnsFit, ahead, facing, pawn_of}
pub use Rattle.egt_board.specs.Placement.{IsFree, Placement, Stands, get-insert_other, get-insert_same}
pub use Rattle.egt_board.specs.Placement.{get-remove_other, get-remove_same, one_man, same_men, tied, untied}
pub use Rattle.egt_board.specs.Safety.{IsKeptFrom}
pub use Rattle.egt_board.specs.Settled.{IsSettled, SettlesTo}
pub use Rattle.egt_board.specs.Setup.{HasKings, IsAdmissible, IsKingOn, Setup}
pub use Rattle.egt_board.specs.Square.{file_of, rank_of}
pub use Rattle.egt_board.specs.SquareSet.{Has, total}
pub use Rattle.egt_board.specs.Step.{Away}
pub use Rattle.egt_board.specs.Symmetry.{KeepsPlay}
pub use Rattle.egt_board.specs.Target.{FitsTarget, IsTarget}
pub use Rattle.egt_board.specs.Turned.{IsSetBy, IsTurnedBy, turned_man, turned_side, turned_square}
pub use Rattle.egt_board.specs.declared.man.Kind.{Kind}
pub use Rattle.egt_board.specs.declared.man.Kind.TheVariants.{B, K, N, P, Q, R}
pub use Rattle.egt_board.specs.declared.man.Man.{Man}
pub use Rattle.egt_board.specs.declared.man.Side.{Side}
pub use Rattle.egt_board.specs.declared.man.Side.TheVariants.{Black, White}
pub use Rattle.egt_board.specs.declared.mirror.Mirror.TheVariants.{Colours}
pub use Rattle.egt_board.specs.declared.step.Step.{Step}
pub use Rattle.egt_class.specs.Below.{passes_below}
unfoldable pub use Rattle.egt_class.specs.Below.{all_below}
pub use Rattle.egt_class.specs.Children.{man_of}
pub use Rattle.egt_class.specs.Material.{Material, beside, count_in, is_kind, kinds_of}
unfoldable pub use Rattle.egt_class.specs.Material.{has_equal_sides, material_of, materials, men_in}
pub use Rattle.egt_class.specs.Membership.{IsOf}
pub use Rattle.egt_class.specs.Pair.{AreNonKings}
pub use Rattle.egt_class.specs.Size.{base_by, base_of, bases, has_pawn, has_pawns, has_target, king_base, men_bases}
pub use Rattle.egt_class.specs.Size.{men_beside, men_in_order, product}
unfoldable pub use Rattle.egt_class.specs.Size.{size_of}
pub use Rattle.egt_index.specs.Beaten.{AllSpelled, AreBehind, Beats, HasPrefix, HasKingsOn, IfMoved, IsBeaten}
pub use Rattle.egt_index.specs.Beaten.{IsFirstOfTwo, Keeps, KeepsWith, SpellsAt, TurnBeats, TurnKeeps}
pub use Rattle.egt_index.specs.Code.{HasTargetDigit, Spells, SpellsBy, king_square, men_at, placed, square_by_digit}
pub use Rattle.egt_index.specs.Code.{square_of, target_digit, target_digits}
pub use Rattle.egt_index.specs.DecidedSpelled.{decided_spelled}
pub use Rattle.egt_index.specs.Digits.{AreDigits, number_from, number_of}
pub use Rattle.egt_index.specs.Facts.{Facts}
unfoldable pub use Rattle.egt_index.specs.First.{tells_colours}
pub use Rattle.egt_index.specs.Prefix.{IsBefore, IsPrefix, IsPrefixOf, IsNoneBefore, IsVoidPrefix, TellsLast}
pub use Rattle.egt_index.specs.Home.{AreHome, BringsHome, FlipCode, IsAtHome, IsTurnWith, LeastWith, symmetries}
pub use Rattle.egt_index.specs.Index.{IsIndex, IsVoid, SettleAlike}
pub use Rattle.egt_index.specs.LoneCodes.{IsLoneMan, IsLoneRow, lone_stand}
pub use Rattle.egt_index.specs.VoidByKings.{AreNearest, IsVoidAfter, KingsHome}
pub use Rattle.egt_index.specs.Numbers.{IsNumbered}
unfoldable pub use Rattle.egt_index.specs.Numbers.{code_of, half_of, places}
pub use Rattle.egt_index.specs.Picked.{AreCounted, CodeOf, DigitOf, Fits, Goes, IsLeastCode, Least, Picks, tally}
pub use Rattle.egt_index.specs.Places.{AreInOrder, AreMade, IsPrefixBefore, IsMade, IsNewDigit, IsPlaced, TellsIndex}
pub use Rattle.egt_index.specs.Places.{taking_rank, waiting}
pub use Rattle.egt_index.specs.Scales.{digits_at, ends_of, kind_digits, kind_less}
pub use Rattle.egt_index.specs.Shelf.{last_of, row_len}
pub use Rattle.egt_index.specs.ShelfCodes.{AreIndexed, AreIndexes, AreMenOf, HasShelf, HasTwoBeside, IsShelf}
pub use Rattle.egt_index.specs.ShelfCodes.{IsShelfBehind, IsShelfOf, IsWithin, PassesNothing, SpellsNothing, number_in}
pub use Rattle.egt_index.specs.ShelfCodes.{stand_with}
pub use Rattle.egt_index.specs.Spelled.{Ends, HasPawns, IsBehind, IsListed, IsTold, SpellsMen, SpellsNoMen, Splits}
pub use Rattle.egt_index.specs.Spelled.{Tells}
pub use Rattle.egt_index.specs.Stood.{AllApart, AllStand, AreEqual, AreExchanged, AreNear, Entry, HasDigit, HasStand}
pub use Rattle.egt_index.specs.Stood.{Holds, IsAmong, IsFilled, IsFirst, IsInNameOrder, IsInOrder, IsOff, IsOn}
pub use Rattle.egt_index.specs.Stood.{IsOrdered, IsStandAfter, IsTurned, Stood, before_last, entry_after, list_of}
pub use Rattle.egt_index.specs.Stood.{men_among, on_square_of, rest_of, with_entry, with_last}
pub use Rattle.egt_index.specs.TellsMen.{TellsMen}
pub use Rattle.egt_index.specs.TurnedMen.{IsInEitherOrder, IsSeenBy, IsSomeTurnedCodeWith, IsTurnedCodeWith}
pub use Rattle.egt_index.specs.TurnedMen.{seen_across, swapped, turned_by, turned_with}
pub use Rattle.egt_index.specs.Turns.{Best, BestOf, CodeAfter, IsInColours, IsTurn, TurnCode, lesser}
pub use Rattle.egt_index.specs.Went.{AreOnBoard}
pub use Rattle.egt_index.specs.declared.prefix.Prefix.{Prefix}
pub use Rattle.egt_index.specs.declared.home.TheConstants.{FIRST, LAST}
pub use Rattle.egt_index.specs.declared.men.TheConstants.{EQUAL_SIDES, NON_KINGS, PAWNS}
pub use Rattle.egt_index.specs.declared.places.Places.{Places}
pub use Rattle.egt_index.specs.declared.shelf_codes.ShelfMen.{ShelfMen}
pub use Rattle.egt_index.specs.declared.stand.Stand.{Stand}
pub use Rattle.egt_index.specs.declared.turning.TheConstants.{TURNED}
pub use Rattle.std.proofs.Math.ListN.{get_or-map}
pub use Rattle.std.proofs.Math.Nat.{div-le_self, div-lt_iff_lt-mul, lt_of_mul-lt-mul_left, mod-lt, mul-le-mul_right}
pub use Rattle.std.proofs.lemmas.Bool.{and_from, and_parts, cases_eq, cases_lt, eq-eqb, eqb-true, false≢true, leb-true}
pub use Rattle.std.proofs.lemmas.Bool.{lt-ltb, ltb-true}
pub use Rattle.std.proofs.lemmas.Bool.Decides.{eqb_tells, nat_tests}
pub use Rattle.std.proofs.lemmas.Grind.{common_steps}
pub use Rattle.std.proofs.lemmas.List.{get_or_default, get_or_past, map-append}
pub use Rattle.std.proofs.lemmas.List.FromFn.{get_or-map-range_with_len}
pub use Rattle.std.proofs.lemmas.List.Sums.{sum_by-append, sum_by-cons}
pub use Rattle.std.proofs.lemmas.Nat.{div-add-mod'}
pub use Rattle.std.proofs.lemmas.Nat.Bits.{bit_at-lt, bit_at-zero, bit_at_above, bit_at_and, bit_at_cat_high}
pub use Rattle.std.proofs.lemmas.Nat.Bits.{bit_at_mask_below, bit_at_mask_inside, bit_at_ones, bit_at_ones_above}
pub use Rattle.std.proofs.lemmas.Nat.Bits.{ones_shl}
pub use Rattle.std.specs.Cmp.{nat_cmp_total}
pub use Rattle.std.specs.Int.{bit_at}
pub use Rattle.std.specs.List.{range_with_len}
pub use Rattle.std.specs.Option.{IsSome, is_some, option_map, option_to_list}
pub use Rattle.std.specs.Ordering.{nat_cmp}
