-- Files of both versions: what their bytes tell of the version, and what stands behind the header.
use Rattle.std.proofs.Common.{◌≡◌, ℕ, ◌+◌, ◌*◌, ◌≤◌, List, ◌++◌, length, drop, Option, IsSome, refl, ap, arith}
use Rattle.std.proofs.Common.{length-append, length-drop}
use Rattle.egt_table.specs.Prelude.{flat_map, append-nil, drop-append-le, little_number, little_from-append, size_of}
use Rattle.egt_table.specs.Prelude.{Column, Mate, Zeroing, Reach, bytes_of, column_bytes, columns_in, entries_bytes}
use Rattle.egt_table.specs.Prelude.{file_length, header_fields, header_of, version_of, stated_version, IsVersion}
use Rattle.egt_table.specs.Prelude.{length_in, IsTable, TableValue, columns_of, entries_or_none, reach_columns}
use Rattle.egt_table.proofs.Entries.{entries_length}

-- the version stands in the first six bytes
pub told_of_all : (bytes header rest : List ℕ) → bytes ≡ header ++ rest → 6 ≤ length header → stated_version bytes ≡ stated_version header
told_of_all bytes header rest p h =
    let behind : drop 4 (header ++ rest) ≡ drop 4 header ++ rest = drop-append-le 4 header rest (omega arith) in
    let number : little_number 2 (drop 4 header ++ rest) ≡ little_number 2 (drop 4 header) = little_from-append 2 (drop 4 header) rest (omega (arith, length-drop {A = ℕ})) in
    rw (p, behind, number) refl

pub version_small : (reach : Option (List ℕ)) → version_of reach ≤ 2
version_small reach = grind arith

told_of_header : (reach : Option (List ℕ)) (class : ℕ) → stated_version (header_of (version_of reach) class) ≡ version_of reach
unfolding header_fields
told_of_header reach class = grind arith

pub told_of_table : (t : TableValue) → stated_version (bytes_of t) ≡ version_of t.reach
unfolding header_fields
told_of_table t = grind (arith, header_of, version_of, told_of_all, bytes_of, flat_map, column_bytes, columns_of, told_of_header)

-- the bytes of the columns, by name
third_bytes : (f : Column → List ℕ) (reach : Option (List ℕ)) → f Reach ≡ entries_bytes (entries_or_none reach)
    → flat_map f (reach_columns reach) ≡ entries_bytes (entries_or_none reach)
third_bytes f reach e = grind (arith, append-nil)

pub body_is : (t : TableValue) → flat_map (column_bytes t) (columns_of t) ≡ entries_bytes t.mate ++ (entries_bytes t.zeroing ++ entries_bytes (entries_or_none t.reach))
body_is t = ap (λ (w : List ℕ). entries_bytes t.mate ++ (entries_bytes t.zeroing ++ w)) (third_bytes (column_bytes t) t.reach refl)

third_length : (reach : Option (List ℕ)) (size : ℕ) → (IsSome reach → length (entries_or_none reach) ≡ size)
    → 2 * size + (2 * size + 2 * length (entries_or_none reach)) ≡ columns_in (version_of reach) * (2 * size)
third_length reach size h = grind arith

pub body_length : (t : TableValue) → IsTable t → length (flat_map (column_bytes t) (columns_of t)) ≡ columns_in (version_of t.reach) * (2 * size_of t.class)
body_length t h =
    let reach = entries_or_none t.reach in
    omega (
      arith,
      ap length (body_is t),
      third_length t.reach (size_of t.class) (h.sizes Reach),
      h.sizes Mate tt,
      h.sizes Zeroing tt,
      entries_length t.mate,
      entries_length t.zeroing,
      entries_length reach,
      length-append (entries_bytes t.mate) (entries_bytes t.zeroing ++ entries_bytes reach),
      length-append (entries_bytes t.zeroing) (entries_bytes reach),
    )

-- how many bytes a file of the version has
pub length_of_file : (version class mate zeroing reach : ℕ) → IsVersion version → mate ≡ size_of class → zeroing ≡ size_of class → reach ≡ length_in version class
    → 16 + (2 * mate + 2 * zeroing + 2 * reach) ≡ file_length version class
length_of_file version class mate zeroing reach h m z r = grind (arith, length_in, columns_in, size_of)
