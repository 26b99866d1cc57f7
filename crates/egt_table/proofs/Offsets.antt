-- Where the numbers of a table's file stand, and that they determine the table.
use Rattle.std.proofs.Common.{◌≡◌, ℕ, zero, suc, ◌+◌, ◌*◌, ◌^◌, ◌<◌, ◌≤◌, List, [], ◌∷◌, ◌++◌, length, drop, get_or}
use Rattle.std.proofs.Common.{Option, Some, IsSome, refl, sym, ap, ◌∙◌, arith}
use Rattle.egt_table.specs.Prelude.{flat_map, drop-append-add, little_number-reads_back, stated_version, entries_or_none}
use Rattle.egt_table.specs.Prelude.{slice_get, Mate, header_of, number_at, HasColumn, TableValue, columns_of, entries_of}
use Rattle.egt_table.specs.Prelude.{ext_get_or, little_number, column_bytes, entries_bytes, header_fields, reach_columns}
use Rattle.egt_table.specs.Prelude.{size_of, columns_in, field_bytes, version_of, EntriesFit, EntriesStand, HeaderStands}
use Rattle.egt_table.specs.Prelude.{Column, Zeroing, Reach, bytes_of, IsTable}
use Rattle.egt_table.proofs.Answers.{header_of_length}
use Rattle.egt_table.proofs.Entries.{entries_length}
use Rattle.egt_table.proofs.Versions.{told_of_table, version_small}

columns_counted : (reach : Option (List ℕ)) → columns_in (version_of reach) ≡ length (Mate ∷ Zeroing ∷ reach_columns reach)
columns_counted reach = grind arith

class_stands : (version class : ℕ) (body : List ℕ) → class < 36 → number_at 2 8 (header_of version class ++ body) ≡ class
unfolding header_fields
class_stands version class body c = little_number-reads_back 2 class (flat_map field_bytes (drop 4 (header_fields version class)) ++ body) (omega arith)

header_stands : (version class : ℕ) (body : List ℕ) → version ≤ 2 → class < 36 → size_of class < 2 ^ 32
    → (number_at 4 0 (header_of version class ++ body) ≡ 0x42544745)
    × (number_at 2 4 (header_of version class ++ body) ≡ version)
    × (number_at 2 6 (header_of version class ++ body) ≡ 1)
    × (number_at 2 8 (header_of version class ++ body) ≡ class)
    × (number_at 2 10 (header_of version class ++ body) ≡ columns_in version)
    × (number_at 4 12 (header_of version class ++ body) ≡ size_of class)
unfolding header_fields
header_stands version class body v c s =
    let behind : ℕ → List ℕ = λ n. flat_map field_bytes (drop n (header_fields version class)) ++ body in (
      little_number-reads_back 4 0x42544745 (behind 1) (omega arith),
      little_number-reads_back 2 version (behind 2) (omega arith),
      little_number-reads_back 2 1 (behind 3) (omega arith),
      class_stands version class body c,
      little_number-reads_back 2 (columns_in version) (behind 5) (omega arith),
      little_number-reads_back 4 (size_of class) (behind 6) s,
    )

pub header_in_place : (t : TableValue) → IsTable t → size_of t.class < 2 ^ 32 → HeaderStands t (bytes_of t)
header_in_place t h s =
    let all = header_stands (version_of t.reach) t.class (flat_map (column_bytes t) (columns_of t)) (version_small t.reach) h.class_in s in
    (all.0, all.1, all.2, all.3, all.4 ∙ columns_counted t.reach, all.5)

-- an entry among the bytes of entries
entry_stands : (xs rest : List ℕ) (i : ℕ) → i < length xs → ((j : ℕ) → get_or xs j 0 < 65536) → little_number 2 (drop (2 * i) (entries_bytes xs ++ rest)) ≡ get_or xs i 0
entry_stands [] rest i h fit = absurd (omega arith)
entry_stands (x ∷ xs) rest zero h fit = little_number-reads_back 2 x (entries_bytes xs ++ rest) (fit 0)
entry_stands (x ∷ xs) rest (suc i) h fit =
    let step : 2 * suc i ≡ suc (suc (2 * i)) = omega arith in
    rw step (entry_stands xs rest i (omega arith) (λ j. fit (suc j)))

same_column : (c d : Column) → Some c ≡ Some d → c ≡ d
same_column c d e = cc

-- an entry of the k-th column among the bytes of columns that are of one size
entry_of_columns : (t : TableValue) (columns : List Column) (size k i : ℕ) (column : Column)
    → ((j : ℕ) (c : Column) → slice_get columns j ≡ Some c → length (entries_of c t) ≡ size)
    → ((j : ℕ) (c : Column) → slice_get columns j ≡ Some c → (n : ℕ) → get_or (entries_of c t) n 0 < 65536)
    → slice_get columns k ≡ Some column → i < size
    → little_number 2 (drop (2 * (k * size + i)) (flat_map (column_bytes t) columns)) ≡ get_or (entries_of column t) i 0
entry_of_columns t [] size k i column sizes fit e h = absurd (cc)
entry_of_columns t (c ∷ columns) size zero i column sizes fit e h =
    let rest = flat_map (column_bytes t) columns in
    let its_size : length (entries_of c t) ≡ size = sizes 0 c refl in
    let start : 2 * (0 * size + i) ≡ 2 * i = omega arith in
    let here : little_number 2 (drop (2 * i) (entries_bytes (entries_of c t) ++ rest)) ≡ get_or (entries_of c t) i 0 =
    entry_stands (entries_of c t) rest i (omega arith) (fit 0 c refl) in
    ap (λ (n : ℕ). little_number 2 (drop n (entries_bytes (entries_of c t) ++ rest))) start ∙ here ∙ ap (λ (d : Column). get_or (entries_of d t) i 0) (same_column c column e)
entry_of_columns t (c ∷ columns) size (suc k) i column sizes fit e h =
    let rest = flat_map (column_bytes t) columns in
    let front = entries_bytes (entries_of c t) in
    let its_size : length (entries_of c t) ≡ size = sizes 0 c refl in
    let start : 2 * (suc k * size + i) ≡ length front + 2 * (k * size + i) = omega (arith, entries_length (entries_of c t)) in
    ap (λ (n : ℕ). little_number 2 (drop n (front ++ rest))) start ∙ ap (λ (w : List ℕ). little_number 2 w) (drop-append-add front rest (2 * (k * size + i)))
    ∙ entry_of_columns t columns size k i column (λ j. sizes (suc j)) (λ j. fit (suc j)) e h

third_is_there : (reach : Option (List ℕ)) (j : ℕ) (c : Column) → slice_get (reach_columns reach) j ≡ Some c → (c ≡ Reach) × IsSome reach
third_is_there reach j c e = grind arith

-- a column of a table is there
is_there : (t : TableValue) (j : ℕ) (c : Column) → slice_get (columns_of t) j ≡ Some c → HasColumn c t
is_there t j c e = grind (arith, same_column, third_is_there)

pub entries_in_place : (t : TableValue) → IsTable t → EntriesFit t → EntriesStand t (bytes_of t)
entries_in_place t h fit k i column e l =
    let header = header_of (version_of t.reach) t.class in
    let body = flat_map (column_bytes t) (columns_of t) in
    let place = 2 * (k * size_of t.class + i) in
    let start : 16 + place ≡ length header + place = omega (arith, header_of_length (version_of t.reach) t.class) in
    ap (λ (n : ℕ). little_number 2 (drop n (header ++ body))) start ∙ ap (λ (w : List ℕ). little_number 2 w) (drop-append-add header body place)
    ∙ entry_of_columns t (columns_of t) (size_of t.class) k i column (λ j c at. h.sizes c (is_there t j c at)) (λ j c at. fit c (is_there t j c at)) e l

-- a column that both tables have at one place
same_entries : (t u : TableValue) → IsTable t → IsTable u → EntriesFit t → EntriesFit u → bytes_of t ≡ bytes_of u → t.class ≡ u.class
    → (k : ℕ) (column : Column) → slice_get (columns_of t) k ≡ Some column → slice_get (columns_of u) k ≡ Some column → entries_of column t ≡ entries_of column u
same_entries t u ht hu ft fu same class k column et eu =
    let size : size_of t.class ≡ size_of u.class = ap (λ (n : ℕ). size_of n) class in
    let lt : length (entries_of column t) ≡ size_of t.class = ht.sizes column (is_there t k column et) in
    let lu : length (entries_of column u) ≡ size_of u.class = hu.sizes column (is_there u k column eu) in
    ext_get_or 0 (entries_of column t) (entries_of column u) (lt ∙ size ∙ sym lu)
    (λ i h. let it : i < size_of t.class = omega arith in
    let iu : i < size_of u.class = omega arith in
    let place : 16 + 2 * (k * size_of t.class + i) ≡ 16 + 2 * (k * size_of u.class + i) = ap (λ (n : ℕ). 16 + 2 * (k * n + i)) size in
    sym (entries_in_place t ht ft k i column et it)
    ∙ ap (λ (n : ℕ). number_at 2 n (bytes_of t)) place
    ∙ ap (λ (w : List ℕ). number_at 2 (16 + 2 * (k * size_of u.class + i)) w) same
    ∙ entries_in_place u hu fu k i column eu iu)

same_class : (t u : TableValue) → IsTable t → IsTable u → bytes_of t ≡ bytes_of u → t.class ≡ u.class
same_class t u ht hu same = grind (arith, class_stands, version_of, flat_map)

same_reach : (a b : Option (List ℕ)) → version_of a ≡ version_of b
    → (slice_get (reach_columns a) 0 ≡ Some Reach → slice_get (reach_columns b) 0 ≡ Some Reach → entries_or_none a ≡ entries_or_none b) → a ≡ b
same_reach a b v e = grind arith

same_parts : (t u : TableValue) → t.class ≡ u.class → t.mate ≡ u.mate → t.zeroing ≡ u.zeroing → t.reach ≡ u.reach → t ≡ u
same_parts t u c m z r = grind arith

-- a file is of one table
pub one_table : (t u : TableValue) → IsTable t → IsTable u → EntriesFit t → EntriesFit u → bytes_of t ≡ bytes_of u → t ≡ u
one_table t u ht hu ft fu same =
    let class = same_class t u ht hu same in
    let version : version_of t.reach ≡ version_of u.reach = sym (told_of_table t) ∙ ap (λ (w : List ℕ). stated_version w) same ∙ told_of_table u in
    let columns = same_entries t u ht hu ft fu same class in
    same_parts t u class (columns 0 Mate refl refl) (columns 1 Zeroing refl refl) (same_reach t.reach u.reach version (columns 2 Reach))
