-- The names that contracts and proofs cite, passed on from one place.
pub use Rattle.egt_board.specs.Attack.{AttacksFrom, IsAttacked, IsInCheck, king_of}
pub use Rattle.egt_board.specs.AttackLines.{OneOf, Reaches, Reaches-free, Reaches-on_board, Rides, Rides-free}
pub use Rattle.egt_board.specs.AttackLines.{diagonal_steps, farthest, is_slider, knight_steps, pawn_steps, steps_of}
pub use Rattle.egt_board.specs.AttackLines.{straight_steps}
pub use Rattle.egt_board.specs.Between.{IsBetween, IsRoyal, size_of_way, unit}
pub use Rattle.egt_board.specs.Board.{AreKept, AreOnBoard, InOrder, Slot, greater, is_side, lesser, listed, man_on}
pub use Rattle.egt_board.specs.Board.{marks, padded, place, placed, takes}
pub use Rattle.egt_board.specs.Coordinate.{Further}
pub use Rattle.egt_board.specs.Corners.{corners}
pub use Rattle.egt_board.specs.Counting.{is_man}
pub use Rattle.egt_board.specs.Decided.{Decided, tells}
pub use Rattle.egt_board.specs.DecidedSetup.{decided_settled}
unfoldable pub use Rattle.egt_board.specs.DecidedSetup.{settled_form}
pub use Rattle.egt_board.specs.DecidedTurns.{IsTurn}
pub use Rattle.egt_board.specs.Images.{AreImages, Comes, ExchangedMen, IsTurnOf, Reflects, SameMen, kind_number}
pub use Rattle.egt_board.specs.Images.{man_number, side_number, stands_here}
unfoldable pub use Rattle.egt_board.specs.Images.{count_of}
pub use Rattle.egt_board.specs.Listed.{FitsBoard, entry_of, man_entry, squares_of}
unfoldable pub use Rattle.egt_board.specs.Listed.{men_of}
pub use Rattle.egt_board.specs.Lookup.{below, beyond, line_of, row_by}
pub use Rattle.egt_board.specs.Man.{other_side}
pub use Rattle.egt_board.specs.Mirror.{Allows, IsMirrored, man_by, side_by, square_by}
pub use Rattle.egt_board.specs.MirrorLaws.{OnBoard, ShowsMen, Suits, ahead_by, attacked_back, man_by-twice, no_pawn_by}
pub use Rattle.egt_board.specs.MirrorLaws.{shows_back, side_by-turned, side_by-turned_twice, side_by-twice}
pub use Rattle.egt_board.specs.MirrorLaws.{square_by-twice, square_by-within, stands_back, suits_of, target_between}
pub use Rattle.egt_board.specs.Mirrored.{AreMirrored, AreMirroredIf, ComesByMirrors}
pub use Rattle.egt_board.specs.NonKings.{AreBeside, holds_king, without_king}
pub use Rattle.egt_board.specs.Occupancy.{IsOccupancy, IsOccupied}
pub use Rattle.egt_board.specs.Pawn.{Advances, HasNoPawn, HasPawnBeside, IsBeside, MayStand, PawnsFit, ahead, facing}
pub use Rattle.egt_board.specs.Pawn.{farthest_advance, forward, home_rank, last_rank, pawn_of}
pub use Rattle.egt_board.specs.Placement.{IsFree, IsOccupiedBy, Placement, Stands, get-insert_other, get-insert_same}
pub use Rattle.egt_board.specs.Placement.{get-remove_other, get-remove_same, one_man, same_men, tied, untied}
pub use Rattle.egt_board.specs.Position.{find-below, first_half, is_king_kind, second_half}
pub use Rattle.egt_board.specs.Safety.{IsKeptFrom, IsSeenAs, Stops, StopsSlot}
pub use Rattle.egt_board.specs.Settled.{IsSettled, SettlesTo, untargeted}
pub use Rattle.egt_board.specs.Setup.{HasKings, IsAdmissible, IsKingOn, Setup}
pub use Rattle.egt_board.specs.Slots.{slots_of}
pub use Rattle.egt_board.specs.Square.{file_of, rank_of}
pub use Rattle.egt_board.specs.SquareSet.{Has, most_reached, total}
unfoldable pub use Rattle.egt_board.specs.SquareSet.{size_of}
pub use Rattle.egt_board.specs.Step.{Away}
pub use Rattle.egt_board.specs.Symmetry.{IsCarried, IsImage, IsKeepingSides, IsTurned, KeepsPlay, square_if, square_of}
pub use Rattle.egt_board.specs.Target.{FitsTarget, IsTarget, target_rank}
pub use Rattle.egt_board.specs.Turned.{IsSetBy, IsTurnedBy, setup_by, turned_man, turned_side, turned_square}
unfoldable pub use Rattle.egt_board.specs.Turned.{men_below, men_by, put_some, setup_if, turned_by}
pub use Rattle.egt_board.specs.contracts.man.Side.{the_type}
pub use Rattle.egt_board.specs.declared.board.Board.TheInside.{Inside}
pub use Rattle.egt_board.specs.declared.man.Kind.{Kind}
pub use Rattle.egt_board.specs.declared.man.Kind.TheVariants.{B, K, N, P, Q, R}
pub use Rattle.egt_board.specs.declared.man.Man.{Man}
pub use Rattle.egt_board.specs.declared.man.Side.{Side}
pub use Rattle.egt_board.specs.declared.man.Side.TheVariants.{Black, White}
pub use Rattle.egt_board.specs.declared.mirror.Mirror.{Mirror}
pub use Rattle.egt_board.specs.declared.mirror.Mirror.TheVariants.{Colours, Diagonal, Files, Ranks}
pub use Rattle.egt_board.specs.declared.square_set.SquareSet.{SquareSet}
pub use Rattle.egt_board.specs.declared.step.Step.{Step}
pub use Rattle.egt_board.specs.declared.step.Way.{Way}
pub use Rattle.egt_board.specs.declared.step.Way.TheVariants.{Down, Still, Up}
pub use Rattle.egt_board.specs.declared.tables.TheConstants.{LONE}
pub use Rattle.std.proofs.Math.Nat.{add-mul, mul-le-mul_right}
pub use Rattle.std.proofs.Math.Seq.{drop-cons}
pub use Rattle.std.proofs.lemmas.Bool.{and_from, and_parts, cases_eq, cases_lt, cases_order, eq-eqb, eqb-true}
pub use Rattle.std.proofs.lemmas.Bool.{false≢true, le-leb, le-ltb, leb-true, lt-ltb, ltb-false, ltb-true}
pub use Rattle.std.proofs.lemmas.Bool.Decides.{eqb_tells}
pub use Rattle.std.proofs.lemmas.List.{drop_all, get_or-map, get_or-take, length-append, length-drop, length-map}
pub use Rattle.std.proofs.lemmas.List.{length-take, map-append, take-map, take_all, take_more}
pub use Rattle.std.proofs.lemmas.List.Sums.{sum_by-cons}
pub use Rattle.std.proofs.lemmas.Nat.{and_le_l}
pub use Rattle.std.proofs.lemmas.Nat.Bits.{bit_at-lt, bit_at-pow_other, bit_at-pow_same, bit_at-trailing_zeros}
pub use Rattle.std.proofs.lemmas.Nat.Bits.{bit_at-zero, bit_at_above, bit_at_and, bit_at_clear_other, bit_at_clear_same}
pub use Rattle.std.proofs.lemmas.Nat.Bits.{bit_at_not, bit_at_ones, bit_at_or, bit_at_set_other, bit_at_set_same}
pub use Rattle.std.proofs.lemmas.Nat.Bits.{same_from_bits}
pub use Rattle.std.specs.Cmp.{alike_right, nat_cmp_total, unsigned_tied}
pub use Rattle.std.specs.FinMap.Entries.{below_all, by_order, find-where_key, is_sorted-where_key, where_key}
pub use Rattle.std.specs.Int.{bit_at, bit_not, trailing_zeros}
pub use Rattle.std.specs.Int.Bits.{bit_and, bit_xor}
pub use Rattle.std.specs.Int.RustNames.{bit_or}
pub use Rattle.std.specs.List.{list_all}
pub use Rattle.std.specs.Option.{is_some, option_map, option_or}
pub use Rattle.std.specs.Ordering.{eq_by_cmp, is_eq, is_lt, nat_cmp}
pub use Rattle.std.specs.declared.cmp.Ordering.{Ordering}
pub use Rattle.std.specs.declared.cmp.Ordering.TheVariants.{Equal, Greater, Less}
