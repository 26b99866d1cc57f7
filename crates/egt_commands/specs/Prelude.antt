-- The names that contracts and proofs cite, passed on from one place.
unfoldable pub use Rattle.egt_class.specs.Children.{children_of}
pub use Rattle.egt_commands.specs.Classes.{class_line}
unfoldable pub use Rattle.egt_commands.specs.Classes.{lines_below}
pub use Rattle.egt_commands.specs.Descent.{Descends, DescendsBy, HasExactly, IsMarked}
pub use Rattle.egt_commands.specs.Mates.{TellsMate, mate_line, no_mate_line, side_name}
pub use Rattle.egt_commands.specs.Moves.{ListsMoves, lines_of}
pub use Rattle.egt_commands.specs.Statistics.{IsLongest, plies_of, shows}
pub use Rattle.egt_entries.specs.Library.{IsAccepted}
pub use Rattle.egt_entries.specs.Tables.{Tables, table_at}
pub use Rattle.egt_fen.specs.Fen.{IsFirstFault, Spells}
pub use Rattle.egt_fen.specs.declared.fault.FenFault.{FenFault}
pub use Rattle.egt_fen.specs.declared.fen.Fen.{Fen}
unfoldable pub use Rattle.egt_class.specs.Size.{size_of}
pub use Rattle.egt_table.specs.Table.{HasColumn, entries_of}
pub use Rattle.egt_table.specs.declared.column.Column.TheVariants.{Mate}
pub use Rattle.std.proofs.lemmas.Bool.{cases_lt, false≢true}
pub use Rattle.std.proofs.lemmas.Bool.Decides.{eqb_tells}
pub use Rattle.std.proofs.lemmas.List.{get_or-set_other, get_or-set_same, length-set, take_all, take_more}
pub use Rattle.std.proofs.lemmas.List.Elements.{Contains-append_left, Contains-push, Contains-push_cases}
pub use Rattle.std.specs.List.{Contains}
