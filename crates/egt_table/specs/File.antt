-- The file of a table. All numbers have the lowest byte first.
use Rattle.std.specs.Prelude.{◌≡◌, ℕ, ◌+◌, ◌*◌, ◌<◌, ◌≤◌, ◌==◌, nat_lt, if◌then◌else◌, List, [], ◌∷◌, ◌++◌, length, drop, slice_index, Option, Some, None, Result, Ok, Err}
use Rattle.std.specs.List.{flat_map}
use Rattle.byteorder.specs.Endian.{little_bytes, little_number}
use Rattle.egt_class.specs.Size.{size_of}
use Rattle.egt_table.specs.declared.column.Column.{Column}
use Rattle.egt_table.specs.declared.fault.FileFault.{FileFault}
use Rattle.egt_table.specs.declared.fault.FileFault.TheVariants as faults
use Rattle.egt_table.specs.Table.{TableValue, entries_of, columns_of}

abbrev pub AreBytes : List ℕ → Type 0
AreBytes xs = (i : ℕ) → slice_index xs i < 256

-- the bytes 45 47 54 42, which spell EGTB
abbrev pub magic : ℕ
magic = 0x42544745

-- a file without the column of the nearest mates is of version 1, one with it of version 2
abbrev pub version_of : Option (List ℕ) → ℕ
version_of None = 1
version_of (Some entries) = 2

abbrev pub columns_in : ℕ → ℕ
columns_in version = version + 1

abbrev pub layout : ℕ
layout = 1

-- a number of so many bytes, and the fault of a file that has another one in its place
pub record Field : Type 0 where
  pub width : ℕ
  pub value : ℕ
  pub fault : FileFault

-- the header's fields in their order
unfoldable pub header_fields : (version class : ℕ) → List Field
header_fields version class =
    record { width = 4; value = magic; fault = faults.Magic }
    ∷ record { width = 2; value = version; fault = faults.Version }
    ∷ record { width = 2; value = layout; fault = faults.Layout }
    ∷ record { width = 2; value = class; fault = faults.Class }
    ∷ record { width = 2; value = columns_in version; fault = faults.Columns }
    ∷ record { width = 4; value = size_of class; fault = faults.Count }
    ∷ []

abbrev pub field_bytes : Field → List ℕ
field_bytes field = little_bytes field.width field.value

abbrev pub header_length : ℕ
header_length = 16

abbrev pub header_of : (version class : ℕ) → List ℕ
header_of version class = flat_map field_bytes (header_fields version class)

-- two bytes an entry
abbrev pub entries_bytes : List ℕ → List ℕ
entries_bytes entries = flat_map (little_bytes 2) entries

abbrev pub column_bytes : TableValue → Column → List ℕ
column_bytes t column = entries_bytes (entries_of column t)

-- the header, and then each column that is there
abbrev pub bytes_of : TableValue → List ℕ
bytes_of t = header_of (version_of t.reach) t.class ++ flat_map (column_bytes t) (columns_of t)

abbrev pub file_length : (version class : ℕ) → ℕ
file_length version class = header_length + columns_in version * (2 * size_of class)

-- the fault of the first field that has another number than it is to have
abbrev pub first_fault : List Field → List ℕ → Option FileFault
first_fault [] bytes = None
first_fault (field ∷ fields) bytes =
    if little_number field.width bytes == field.value then first_fault fields (drop field.width bytes) else Some field.fault

-- the version that the bytes tell; any other than 2 is to be 1
abbrev pub stated_version : List ℕ → ℕ
stated_version bytes = if little_number 2 (drop 4 bytes) == 2 then 2 else 1

abbrev pub header_fault : ℕ → List ℕ → Option FileFault
header_fault class bytes = first_fault (header_fields (stated_version bytes) class) bytes

-- too few bytes, or too many
abbrev pub length_fault : ℕ → List ℕ → Option FileFault
length_fault class bytes =
    if nat_lt (length bytes) (file_length (stated_version bytes) class) then Some faults.Short
    else (if nat_lt (file_length (stated_version bytes) class) (length bytes) then Some faults.Trailing else None)

abbrev pub or_else : Option FileFault → Option FileFault → Option FileFault
or_else None later = later
or_else (Some fault) later = Some fault

-- the first fault of bytes that are to be the file of a table of the class
abbrev pub file_fault : ℕ → List ℕ → Option FileFault
file_fault class bytes =
    if nat_lt (length bytes) header_length then Some faults.Short
    else or_else (header_fault class bytes) (length_fault class bytes)

-- the bytes begin with a header that has no fault
abbrev pub HasHeader : ℕ → List ℕ → Type 0
HasHeader class bytes = (header_length ≤ length bytes) × (header_fault class bytes ≡ None)

-- what may be answered to these bytes in place of a table: the first fault that they have, want of memory once the header is
-- right, or a failure of the device
abbrev pub IsAnswer : ℕ → List ℕ → FileFault → Type 0
IsAnswer class bytes faults.Device = Unit {0}
IsAnswer class bytes faults.NoMemory = HasHeader class bytes
IsAnswer class bytes fault = file_fault class bytes ≡ Some fault

-- what reading these bytes gives: the table whose file they are, or why they are none
abbrev pub Reads : ℕ → List ℕ → Result TableValue FileFault → Type 0
Reads class bytes (Ok t) = (t.class ≡ class) × (bytes ≡ bytes_of t)
Reads class bytes (Err fault) = IsAnswer class bytes fault
