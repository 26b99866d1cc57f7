-- The names that contracts and proofs cite, passed on from one place.
pub use Rattle.egt_blocks.specs.Blocks.{AreKingCodes, AreShelvesOf, IsCodeAfter, IsHomeCode, IsRaisedAfter}
pub use Rattle.egt_blocks.specs.Blocks.{IsRaisedHome, men_across, turned_from}
pub use Rattle.egt_blocks.specs.Kept.{AreKept, IsKept, IsOfMen, IsPlaced, key_of, wide_place}
pub use Rattle.egt_blocks.specs.Leaps.{AreStill, IsBesideWhere, leap_rank}
pub use Rattle.egt_blocks.specs.PassedRows.{IsAtPassed, IsPastPawns}
pub use Rattle.egt_blocks.specs.QuietSteps.{IsFirstStep, IsLastStep}
pub use Rattle.egt_blocks.specs.Scored.{IsRead, IsReadWith, ScoresNoVoids}
pub use Rattle.egt_blocks.specs.ShelfRow.{IsShelfRow}
pub use Rattle.egt_blocks.specs.Taken.{AreLeftCodes, men_swapped}
pub use Rattle.egt_blocks.specs.declared.kept_blocks.BlockKey.{BlockKey}
pub use Rattle.egt_board.specs.Attack.{king_of}
pub use Rattle.egt_board.specs.AttackLines.{Reaches, Reaches-free, Reaches-on_board, Rides-free}
pub use Rattle.egt_board.specs.Images.{side_number}
pub use Rattle.egt_board.specs.Man.{other_side}
pub use Rattle.egt_board.specs.Pawn.{Advances, IsBeside, MayStand, ahead, farthest_advance, forward, last_rank, pawn_of}
pub use Rattle.egt_board.specs.Square.{rank_of}
pub use Rattle.egt_board.specs.SquareSet.{Has}
pub use Rattle.egt_board.specs.Turned.{turned_man, turned_side, turned_square}
pub use Rattle.egt_board.specs.declared.man.Kind.{Kind}
pub use Rattle.egt_board.specs.declared.man.Kind.TheVariants.{B, K, N, P, Q, R}
pub use Rattle.egt_board.specs.declared.man.Man.{Man}
pub use Rattle.egt_board.specs.declared.man.Side.{Side}
pub use Rattle.egt_board.specs.declared.man.Side.TheVariants.{Black, White}
pub use Rattle.egt_board.specs.declared.square_set.SquareSet.{SquareSet}
pub use Rattle.egt_class.specs.Below.{passes_below}
unfoldable pub use Rattle.egt_class.specs.Below.{all_below}
pub use Rattle.egt_class.specs.Material.{Material}
unfoldable pub use Rattle.egt_class.specs.Material.{has_equal_sides, material_of, materials}
pub use Rattle.egt_index.proofs.NumbersOfCodes.{code_high, code_low, code_plain, half_targets, of_targets}
pub use Rattle.egt_index.proofs.OnePosition.{a_pawn_each, one_pawn_each}
pub use Rattle.egt_index.specs.Code.{king_square, men_at, placed, square_by_digit, square_of}
pub use Rattle.egt_index.specs.Digits.{AreDigits, number_from, number_of}
pub use Rattle.egt_index.specs.Home.{AreHome, IsTurnWith, symmetries}
pub use Rattle.egt_index.specs.Index.{IsVoid}
pub use Rattle.egt_index.specs.LoneCodes.{IsLoneMan, IsLoneRow, lone_stand}
unfoldable pub use Rattle.egt_index.specs.Numbers.{code_of, half_of, places}
pub use Rattle.egt_index.specs.Scales.{digits_at, kind_digits, kind_less}
pub use Rattle.egt_index.specs.Shelf.{last_of}
pub use Rattle.egt_index.specs.ShelfCodes.{AreMenOf, IsShelfOf, IsWithin, number_in, stand_with}
pub use Rattle.egt_class.specs.Size.{base_by, base_of, bases, has_pawns, has_target, king_base, men_bases}
pub use Rattle.egt_class.specs.Size.{men_beside, product}
unfoldable pub use Rattle.egt_class.specs.Size.{size_of}
pub use Rattle.egt_index.specs.Spelled.{IsListed, SpellsMen}
pub use Rattle.egt_index.specs.Stood.{list_of}
pub use Rattle.egt_index.specs.TellsMen.{TellsMen}
pub use Rattle.egt_index.specs.TurnedMen.{IsSomeTurnedCode, IsSomeTurnedCodeWith, IsTurnedCodeWith, swapped, turned_by}
pub use Rattle.egt_index.specs.Went.{AreOnBoard}
pub use Rattle.egt_index.specs.declared.shelf_codes.ShelfMen.{ShelfMen}
pub use Rattle.egt_index.specs.declared.stand.Stand.{Stand}
pub use Rattle.egt_lanes.proofs.Advancing.{kept_or_none, one_or_two_squares}
pub use Rattle.egt_lanes.proofs.RaisedTwice.{raised_among, raised_by_one, raised_is}
pub use Rattle.egt_lanes.proofs.Rowwise.{RowsRaised, rows_more}
pub use Rattle.egt_lanes.specs.Advances.{AdvancesBy}
pub use Rattle.egt_lanes.specs.Blocks.{IsOpen, at}
pub use Rattle.egt_lanes.specs.Pieces.{IsPiece}
pub use Rattle.egt_lanes.specs.Raised.{IsRaised}
pub use Rattle.egt_moves.specs.Promotion.{FitsPromotion, IsOfficer, arriving, is_pawn, promotes}
pub use Rattle.egt_steps.proofs.Leaping.{one_off_home}
pub use Rattle.egt_steps.proofs.LeftTargets.{unpromoted}
pub use Rattle.egt_steps.specs.InPassing.{AreLeapCodes, ArePassingCodes, AreStepCodes, AreTwoRanksApart, LeavesTarget}
pub use Rattle.egt_steps.specs.PawnMoves.{AreAdvancedCodes, ArePromotedCodes, IsAdvance, men_after, men_two, officer_of}
pub use Rattle.egt_steps.specs.PawnMoves.{stand_after}
pub use Rattle.egt_steps.specs.QuietAlone.{AreCodesAlone, AreKingCodesAlone, stand_alone}
pub use Rattle.egt_steps.specs.QuietStands.{AreQuietCodes, IsClear}
pub use Rattle.egt_steps.specs.Stands.{IsBesideKing, king_of_men, men_on, stand_on, with_king}
pub use Rattle.egt_steps.specs.Takings.{IsPastKings, Left, left_of, stand_left}
pub use Rattle.egt_table.specs.declared.column.Column.{Column}
pub use Rattle.std.proofs.Math.ListN.{length-set, set}
pub use Rattle.std.proofs.Math.Nat.{mul-le-mul_right}
pub use Rattle.std.proofs.lemmas.Bool.{cases_eq, cases_lt, eqb-true, false≢true, le-ltb, lt-ltb, ltb-true, ne_eqb}
pub use Rattle.std.proofs.lemmas.Bool.Decides.{eqb_tells}
pub use Rattle.std.proofs.lemmas.Grind.{get_or-set_at}
pub use Rattle.std.proofs.lemmas.List.{get_or-drop, get_or-replicate, get_or-set_same, get_or-take, get_or_default}
pub use Rattle.std.proofs.lemmas.Nat.{div-add-mod'}
pub use Rattle.std.proofs.lemmas.Nat.Bits.{bit_at-lt, bit_at_ones}
pub use Rattle.std.specs.Int.{bit_at}
pub use Rattle.std.specs.List.{list_any}
