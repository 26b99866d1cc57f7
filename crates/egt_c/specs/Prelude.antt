-- The names that contracts and proofs cite, passed on from one place.
pub use Rattle.arrayvec.specs.ArrayVec.{array_vec_len}
pub use Rattle.egt_board.specs.declared.fault.PosFault.{PosFault}
pub use Rattle.egt_board.specs.declared.man.Man.{Man}
pub use Rattle.egt_c.specs.Calls.{Added, Adds, Answered, Best, IsOfText, IsTextFault, Listed, NoTable, NotLoaded}
pub use Rattle.egt_c.specs.Calls.{NotRead, OfMen, OfText, Opened, Opens, Ranked, Refused, Shares, TellsMove, TellsMoves}
pub use Rattle.egt_c.specs.Calls.{TellsRoot, TellsVerdict, Told, TurnedAway, Unloaded, level}
pub use Rattle.egt_c.specs.Fault.{closed}
pub use Rattle.egt_c.specs.Contents.{Places, contents, if_open}
pub use Rattle.egt_c.specs.Lent.{with_library}
pub use Rattle.egt_c.specs.Men.{NoPosition, joined, man_of, men_of}
pub use Rattle.egt_c.specs.Move.{padded_name, written, written_or_none, zeros}
pub use Rattle.egt_c.specs.Names.{call_name, check_name, fault_name, fen_name, file_name, padded_fault, probe_name}
pub use Rattle.egt_c.specs.Names.{version_text}
pub use Rattle.egt_c.specs.Owned.{heap, owned}
pub use Rattle.egt_c.specs.Places.{column_place, rule_place, winner_number}
pub use Rattle.egt_c.specs.RootMoves.{shown_root}
pub use Rattle.egt_c.specs.Shared.{Shared, shared_coded, shared_row}
pub use Rattle.egt_c.specs.declared.handle.EgtbLibrary.{EgtbLibrary}
pub use Rattle.egt_c.specs.declared.men.EgtbMan.{EgtbMan}
unfoldable pub use Rattle.egt_class.specs.Children.{children_of}
unfoldable pub use Rattle.egt_class.specs.Name.{name_of}
pub use Rattle.egt_entries.specs.Tables.{table_at}
pub use Rattle.egt_entries.specs.declared.reject.Reject.{Reject}
pub use Rattle.egt_fen.specs.declared.fault.FenFault.{FenFault}
pub use Rattle.egt_moves.specs.declared.chess_move.Move.{Move}
pub use Rattle.egt_probe.specs.Shelves.{loaded_in}
pub use Rattle.egt_probe.specs.declared.ranking.RootMove.{RootMove}
pub use Rattle.egt_table.specs.File.{IsAnswer}
pub use Rattle.egt_table.specs.Reading.{CountsFault}
pub use Rattle.egt_table.specs.declared.fault.FileFault.{FileFault}
pub use Rattle.egt_table.specs.declared.fault.FileFault.TheVariants.{Device}
pub use Rattle.std.specs.Arc.{arc_value}
pub use Rattle.std.specs.Box.Ownership.{box_owns}
pub use Rattle.std.specs.declared.alloc.Allocator.{Ghosts}
