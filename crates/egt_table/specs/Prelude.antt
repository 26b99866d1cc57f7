-- The names that contracts and proofs cite, passed on from one place.
pub use Rattle.byteorder.specs.Endian.{IsRead, little_bytes, little_from, little_number}
pub use Rattle.byteorder.specs.Numbers.{length-bytes_low_first, little_from-append, little_from-cons}
pub use Rattle.byteorder.specs.Numbers.{little_number-reads_back}
unfoldable pub use Rattle.egt_class.specs.Size.{size_of}
pub use Rattle.egt_table.specs.File.{AreBytes, Field, HasHeader, IsAnswer, Reads, bytes_of, column_bytes, columns_in}
pub use Rattle.egt_table.specs.File.{entries_bytes, field_bytes, file_fault, file_length, first_fault, header_fault}
pub use Rattle.egt_table.specs.File.{header_of, stated_version, version_of}
unfoldable pub use Rattle.egt_table.specs.File.{header_fields}
pub use Rattle.egt_table.specs.Offsets.{EntriesFit, EntriesStand, HeaderStands, number_at}
pub use Rattle.egt_table.specs.Reading.{CountsDevice, CountsFault, IsAll, IsCut, IsMisfit, IsVersion, length_in}
pub use Rattle.egt_table.specs.Reading.{reach_in}
pub use Rattle.egt_table.specs.Stream.{AppendsFront, CountsFailure}
pub use Rattle.egt_table.specs.Table.{HasColumn, IsTable, TableValue, columns_of, entries_of, entries_or_none}
pub use Rattle.egt_table.specs.Table.{reach_columns}
pub use Rattle.egt_table.specs.declared.column.Column.{Column}
pub use Rattle.egt_table.specs.declared.column.Column.TheVariants.{Mate, Reach, Zeroing}
pub use Rattle.egt_table.specs.declared.fault.FileFault.{FileFault}
pub use Rattle.std.proofs.Math.Nat.{div-div-eq-div-mul, pow-succ'}
pub use Rattle.std.proofs.Math.Seq.{drop-append-add, take-append-add, take-append_seam}
pub use Rattle.std.proofs.lemmas.Bool.{eqb-true}
pub use Rattle.std.proofs.lemmas.Grind.{common_steps, flat_map-append}
pub use Rattle.std.proofs.lemmas.List.{append-nil, drop-append-le, drop_at, ext_get_or, get_or-drop, length-take}
pub use Rattle.std.proofs.lemmas.List.{length-take-le, take-append-drop, take-append-le, take_all, take_min}
pub use Rattle.std.proofs.lemmas.Result.{IfErr-weaker, err_from_is_err_and}
pub use Rattle.std.specs.Int.{byte_at, bytes_low_first}
pub use Rattle.std.specs.Io.KnownBytes.{Appends, Consumes, IsAtEnd, Keeps, ReadConsumes, WriteAppends}
pub use Rattle.std.specs.List.{flat_map, slice_get}
