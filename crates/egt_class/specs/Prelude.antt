-- The names that contracts and proofs cite, passed on from one place.
pub use Rattle.arrayvec.specs.ArrayString.{array_string_len}
pub use Rattle.egt_board.specs.AllMen.{HasBeside, in_any_order}
pub use Rattle.egt_board.specs.Attack.{king_of}
pub use Rattle.egt_board.specs.Counting.{is_man}
pub use Rattle.egt_board.specs.Images.{AreImages, ExchangedMen, SameMen, kind_number, man_number, side_number}
pub use Rattle.egt_board.specs.Images.{stands_here}
unfoldable pub use Rattle.egt_board.specs.Images.{count_of}
pub use Rattle.egt_board.specs.Listed.{man_entry}
pub use Rattle.egt_board.specs.Man.{other_side}
pub use Rattle.egt_board.specs.NonKings.{AreBeside}
pub use Rattle.egt_board.specs.Placement.{Placement, Stands, get-remove_other, get-remove_same}
pub use Rattle.egt_board.specs.Settled.{SettlesTo}
pub use Rattle.egt_board.specs.Setup.{IsAdmissible, IsKingOn, Setup}
pub use Rattle.egt_board.specs.SquareSet.{total}
pub use Rattle.egt_board.specs.declared.man.Kind.{Kind}
pub use Rattle.egt_board.specs.declared.man.Kind.TheVariants.{B, K, N, P, Q, R}
pub use Rattle.egt_board.specs.declared.man.Man.{Man}
pub use Rattle.egt_board.specs.declared.man.Side.{Side}
pub use Rattle.egt_board.specs.declared.man.Side.TheVariants.{Black, White}
pub use Rattle.egt_class.specs.Below.{passes_below}
unfoldable pub use Rattle.egt_class.specs.Below.{all_below}
pub use Rattle.egt_class.specs.Children.{Change, agree_at, follows, is_child_of, is_possible, man_of, men_beside}
pub use Rattle.egt_class.specs.Children.{men_of, promotions, takings}
unfoldable pub use Rattle.egt_class.specs.Children.{children_of}
unfoldable pub use Rattle.egt_class.specs.Listing.{child_at, listed}
pub use Rattle.egt_class.specs.Material.{Material, count_in, kinds_of}
unfoldable pub use Rattle.egt_class.specs.Material.{has_equal_sides, material_of, materials, men_in}
pub use Rattle.egt_class.specs.Membership.{IsOf}
pub use Rattle.egt_class.specs.Name.{is_letter}
unfoldable pub use Rattle.egt_class.specs.Name.{name_of}
pub use Rattle.egt_class.specs.Pair.{AreNonKings, first_slot, kind_slot, slot_of}
unfoldable pub use Rattle.egt_class.specs.Pair.{class_at, flip_at}
unfoldable pub use Rattle.egt_class.specs.Size.{size_of}
pub use Rattle.egt_class.specs.declared.descent.TheConstants.{CHILDREN, STARTS}
pub use Rattle.egt_class.specs.declared.naming.TheConstants.{NAMES}
pub use Rattle.egt_class.specs.declared.sizes.TheConstants.{SIZES}
pub use Rattle.std.proofs.lemmas.Bool.{and_parts, eq-eqb, eqb-true, false≢true, leb-true, ltb-true}
pub use Rattle.std.proofs.lemmas.Bool.Decides.{eqb_tells}
pub use Rattle.std.proofs.lemmas.Grind.{common_steps}
pub use Rattle.std.proofs.lemmas.List.{length-map}
pub use Rattle.std.proofs.lemmas.List.FromFn.{get_or-range_with_len, length-range_with_len}
pub use Rattle.std.proofs.lemmas.List.Kept.{IsStrictlyIncreasing-filter}
pub use Rattle.std.proofs.lemmas.List.Sums.{sum_by-cons}
pub use Rattle.std.specs.List.{Contains, filter, list_all, list_any, range_with_len, sum_by}
pub use Rattle.std.specs.List.Sorted.{IsStrictlyIncreasing}
pub use Rattle.std.specs.Option.{option_map}
