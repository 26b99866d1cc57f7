-- The names that contracts and proofs cite, passed on from one place.
pub use Rattle.egt_board.specs.Listed.{FitsBoard, setup_of}
pub use Rattle.egt_board.specs.Placement.{Placement, Stands, same_men, tied, untied}
pub use Rattle.egt_board.specs.Setup.{IsAdmissible, Setup}
pub use Rattle.egt_board.specs.Square.{file_of, rank_of}
pub use Rattle.egt_board.specs.Target.{FitsTarget, target_rank}
pub use Rattle.egt_board.specs.declared.fault.PosFault.{PosFault}
pub use Rattle.egt_board.specs.declared.fault.PosFault.TheVariants.{EpMismatch, KingCount, MenCount, PawnRank}
pub use Rattle.egt_board.specs.declared.fault.PosFault.TheVariants.{WaitingInCheck}
pub use Rattle.egt_board.specs.declared.man.Kind.{Kind}
pub use Rattle.egt_board.specs.declared.man.Kind.TheVariants.{B, K, N, P, Q, R}
pub use Rattle.egt_board.specs.declared.man.Man.{Man}
pub use Rattle.egt_board.specs.declared.man.Side.{Side}
pub use Rattle.egt_board.specs.declared.man.Side.TheVariants.{Black, White}
pub use Rattle.egt_fen.specs.Canonical.{fields_text, gap_text, rank_text, ranks_text, side_text, squares_text}
pub use Rattle.egt_fen.specs.Canonical.{target_text}
unfoldable pub use Rattle.egt_fen.specs.Canonical.{canonical, placement_text, squares_of}
pub use Rattle.egt_fen.specs.Castling.{castling_of}
pub use Rattle.egt_fen.specs.Counter.{both, clocks_of, counter_of}
pub use Rattle.egt_fen.specs.Fault.{fault_of, name_of, number_of}
pub use Rattle.egt_fen.specs.Fen.{IsFirstFault, IsSetupFault, Spells}
pub use Rattle.egt_fen.specs.Fields.{Fields, fields_of, has_bytes, is_other, is_space, line_of, named}
unfoldable pub use Rattle.egt_fen.specs.Fields.{runs_of}
pub use Rattle.egt_fen.specs.Letter.{letter_of, man_of}
pub use Rattle.egt_fen.specs.Parts.{Parts, expect, ◌>>=◌}
unfoldable pub use Rattle.egt_fen.specs.Parts.{parts_of}
pub use Rattle.egt_fen.specs.Placement.{has_width, is_rank, is_slash, men_from, men_of_ranks, on_square, ranks_of}
pub use Rattle.egt_fen.specs.Placement.{width_of}
unfoldable pub use Rattle.egt_fen.specs.Placement.{placement_of}
pub use Rattle.egt_fen.specs.Shown.{shown_fields, shown_parts, shown_result}
pub use Rattle.egt_fen.specs.Side.{side_of}
pub use Rattle.egt_fen.specs.Target.{is_file, is_passed_rank, target_of}
pub use Rattle.egt_fen.specs.Walk.{men_left}
pub use Rattle.egt_fen.specs.Walked.{walked}
pub use Rattle.egt_fen.specs.declared.fault.FenFault.{FenFault}
pub use Rattle.egt_fen.specs.declared.fen.Fen.{Fen}
pub use Rattle.std.proofs.Math.Nat.{add-zero, pow-le-pow_right, zero-add}
pub use Rattle.std.proofs.Props.{props}
pub use Rattle.std.proofs.lemmas.Bool.{agree_below_at, and_from, and_parts, cases_Bool, cases_eq, cases_lt, eq-eqb}
pub use Rattle.std.proofs.lemmas.Bool.{eqb-false, eqb-true, false≢true, le-leb, leb-false, lt-ltb, ltb-false, ltb-true}
pub use Rattle.std.proofs.lemmas.Bool.{ne_eqb}
pub use Rattle.std.proofs.lemmas.Bool.Decides.{nat_tests}
pub use Rattle.std.proofs.lemmas.Fmt.{decimal_is_IsNumeral, decimal_nonempty, length-decimal-le}
pub use Rattle.std.proofs.lemmas.Int.Digits.{digits_value-lt, digits_value_more}
pub use Rattle.std.proofs.lemmas.List.{append-nil, append_assoc, at_drop_all, at_drop_more, nil_from_length, take_all}
pub use Rattle.std.proofs.lemmas.List.Folds.{list_all-append}
pub use Rattle.std.proofs.lemmas.List.Splits.{slice_split-cons_yes}
pub use Rattle.std.proofs.lemmas.List.Sums.{prefix_len-le-length, sum_by-cons}
pub use Rattle.std.proofs.lemmas.Result.{on_ok_weaker}
pub use Rattle.std.proofs.lemmas.Str.Parse.{digits_value-take-le}
pub use Rattle.std.specs.Char.{digit_value, is_ascii_digit}
pub use Rattle.std.specs.Cmp.{nat_cmp_total}
pub use Rattle.std.specs.Fmt.{decimal}
pub use Rattle.std.specs.List.{join_with_byte, list_all, onto_first, position, position_or_len, slice_split, sum_by}
pub use Rattle.std.specs.Option.{is_some, option_map, option_or}
pub use Rattle.std.specs.Ordering.{eq_by_cmp, nat_cmp}
pub use Rattle.std.specs.Result.{IsErr, IsOk, MatchResult}
pub use Rattle.std.specs.Str.Parse.{AllDigits, digits_value}
