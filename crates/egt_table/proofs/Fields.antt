-- A header's fields: what bytes have no fault, and that no byte behind the fields matters.
use Rattle.std.proofs.Common.{◌≡◌, ℕ, ◌+◌, ◌^◌, ◌<◌, ◌≤◌, ◌==◌, Bool, true, List, [], ◌∷◌, ◌++◌, length, take}
use Rattle.std.proofs.Common.{drop, Option, Some, None, refl, sym, ap, ◌∙◌, arith, length-drop, append_assoc, eq-eqb}
use Rattle.std.proofs.Common.{if◌then◌else◌}
use Rattle.egt_table.specs.Prelude.{flat_map, little_bytes, little_number, little_from-append, little_number-reads_back}
use Rattle.egt_table.specs.Prelude.{length-bytes_low_first, eqb-true, take-append-drop, get_or-drop, drop_at}
use Rattle.egt_table.specs.Prelude.{drop-append-le, FileFault, AreBytes, Field, field_bytes, first_fault}
use Rattle.egt_table.proofs.Digits.{bytes_back}

abbrev pub widths : List Field → ℕ
widths [] = 0
widths (field ∷ fields) = field.width + widths fields

abbrev pub AllFit : List Field → Type 0
AllFit [] = Unit {0}
AllFit (field ∷ fields) = (field.value < 256 ^ field.width) × AllFit fields

bytes_behind : (n : ℕ) (xs : List ℕ) → AreBytes xs → AreBytes (drop n xs)
bytes_behind n xs b i = rw (get_or-drop n xs i 0) (b (n + i))

passes : (right : Bool) (later : Option FileFault) (fault : FileFault) → if right then later else Some fault ≡ None → (right ≡ true) × (later ≡ None)
passes right later fault e = grind arith

-- bytes without a fault are those of the fields
pub fields_right : (fields : List Field) (bytes : List ℕ) → AreBytes bytes → length bytes ≡ widths fields → first_fault fields bytes ≡ None → bytes ≡ flat_map field_bytes fields
fields_right [] [] b e f = refl
fields_right [] (x ∷ bytes) b e f = absurd (omega arith)
fields_right (field ∷ fields) bytes b e f =
    let tests = passes (little_number field.width bytes == field.value) (first_fault fields (drop field.width bytes)) field.fault f in
    let is : little_number field.width bytes ≡ field.value = eqb-true (little_number field.width bytes) field.value tests.0 in
    let front : little_bytes field.width (little_number field.width bytes) ≡ take field.width bytes = bytes_back field.width bytes (omega arith) b in
    let behind : drop field.width bytes ≡ flat_map field_bytes fields =
    fields_right fields (drop field.width bytes) (bytes_behind field.width bytes b) (omega (arith, length-drop {A = ℕ})) tests.1 in
    sym (take-append-drop field.width bytes)
    ∙ ap (λ (w : List ℕ). w ++ drop field.width bytes) (sym front ∙ ap (little_bytes field.width) is)
    ∙ ap (λ (w : List ℕ). little_bytes field.width field.value ++ w) behind

-- the bytes of fields have no fault
pub no_fault : (fields : List Field) (rest : List ℕ) → AllFit fields → first_fault fields (flat_map field_bytes fields ++ rest) ≡ None
no_fault [] rest fit = refl
no_fault (field ∷ fields) rest fit =
    let later = flat_map field_bytes fields ++ rest in
    let number : little_number field.width (field_bytes field ++ later) ≡ field.value = little_number-reads_back field.width field.value later fit.0 in
    let behind : drop field.width (field_bytes field ++ later) ≡ later = drop_at (field_bytes field) later field.width (length-bytes_low_first 0 field.width field.value) in
    let right : (field.value == field.value) ≡ true = eq-eqb field.value field.value refl in
    let none : first_fault fields later ≡ None = no_fault fields rest fit.1 in
    rw (append_assoc, number, behind, right) none

-- what stands behind the fields does not matter
pub fault_in_front : (fields : List Field) (bytes rest : List ℕ) → widths fields ≤ length bytes → first_fault fields (bytes ++ rest) ≡ first_fault fields bytes
fault_in_front [] bytes rest h = refl
fault_in_front (field ∷ fields) bytes rest h =
    let number : little_number field.width (bytes ++ rest) ≡ little_number field.width bytes = little_from-append field.width bytes rest (omega arith) in
    let behind : drop field.width (bytes ++ rest) ≡ drop field.width bytes ++ rest = drop-append-le field.width bytes rest (omega arith) in
    let later : first_fault fields (drop field.width bytes ++ rest) ≡ first_fault fields (drop field.width bytes) =
    fault_in_front fields (drop field.width bytes) rest (omega (arith, length-drop {A = ℕ})) in
    rw (number, behind, later) refl
