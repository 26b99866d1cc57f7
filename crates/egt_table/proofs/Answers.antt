-- All bytes of a file, told by the parts that were read.
use Rattle.std.proofs.Common.{◌≡◌, ℕ, ◌+◌, ◌^◌, ◌<◌, ◌≤◌, nat_lt, ◌==◌, ◌⊎◌, inl, inr, Bool, true, false, le-ltb, List}
use Rattle.std.proofs.Common.{[], ◌∷◌, ◌++◌, length, drop, Option, Some, None, refl, sym, ap, subst, ◌∙◌, arith}
use Rattle.std.proofs.Common.{length-append, IfSome, if◌then◌else◌}
use Rattle.egt_table.specs.Prelude.{Consumes, little_number, size_of, FileFault, AreBytes, Field, bytes_of}
use Rattle.egt_table.specs.Prelude.{column_bytes, HasHeader, IsAnswer, first_fault, header_fields, header_fault}
use Rattle.egt_table.specs.Prelude.{header_of, file_fault, file_length, version_of, stated_version, CountsFault, IsCut}
use Rattle.egt_table.specs.Prelude.{IsMisfit, TableValue, IsTable, columns_of, flat_map}
use Rattle.egt_table.specs.declared.fault.FileFault.TheVariants as faults
use Rattle.egt_table.proofs.Fields.{AllFit, fault_in_front, fields_right, no_fault, widths}
use Rattle.egt_table.proofs.Versions.{body_length, told_of_all, told_of_table, version_small}

-- the faults of fields
abbrev pub IsOfField : FileFault → Type 0
IsOfField faults.Device = ⊥
IsOfField faults.Short = ⊥
IsOfField faults.Trailing = ⊥
IsOfField faults.NoMemory = ⊥
IsOfField fault = Unit {0}

abbrev AllOfFields : List Field → Type 0
AllOfFields [] = Unit {0}
AllOfFields (field ∷ fields) = IsOfField field.fault × AllOfFields fields

found : (right : Bool) (later : Option FileFault) (here fault : FileFault) → if right then later else Some here ≡ Some fault → (later ≡ Some fault) ⊎ (here ≡ fault)
found true later here fault e = inl e
found false later here fault e = inr (cc)

found_in : (fields : List Field) (bytes : List ℕ) (fault : FileFault) → AllOfFields fields → first_fault fields bytes ≡ Some fault → IsOfField fault
found_in [] bytes fault all e = absurd (cc)
found_in (field ∷ fields) bytes fault all e =
    elim (found (little_number field.width bytes == field.value) (first_fault fields (drop field.width bytes)) field.fault fault e) [
      | inl later ↦ found_in fields (drop field.width bytes) fault all.1 later
      | inr here ↦ subst IsOfField here all.0
    ]

pub of_field : (version class : ℕ) (bytes : List ℕ) (fault : FileFault) → first_fault (header_fields version class) bytes ≡ Some fault → IsOfField fault
unfolding header_fields
of_field version class bytes fault e = found_in (header_fields version class) bytes fault (tt, (tt, (tt, (tt, (tt, (tt, tt)))))) e

header_widths : (version class : ℕ) → widths (header_fields version class) ≡ 16
unfolding header_fields
header_widths version class = refl

-- a fault of a field is the file's
file_fault_of : (class : ℕ) (bytes : List ℕ) (fault : FileFault) → 16 ≤ length bytes → header_fault class bytes ≡ Some fault → file_fault class bytes ≡ Some fault
file_fault_of class bytes fault h e = let long : nat_lt (length bytes) 16 ≡ false = le-ltb (length bytes) 16 h in rw (long, e) refl

answer_of : (class : ℕ) (bytes : List ℕ) (fault : FileFault) → IsOfField fault → file_fault class bytes ≡ Some fault → IsAnswer class bytes fault
answer_of class bytes fault k e = grind arith

pub not_counted : (fault : FileFault) (old new : ℕ) → IsOfField fault → new ≡ old → CountsFault fault old new
not_counted fault old new k e = grind arith

-- the fault of a header is that of all bytes
fault_of_all : (version class : ℕ) (bytes header rest : List ℕ) → bytes ≡ header ++ rest → length header ≡ 16 → version ≡ stated_version header
    → header_fault class bytes ≡ first_fault (header_fields version class) header
fault_of_all version class bytes header rest p l v =
    let told : stated_version bytes ≡ version = told_of_all bytes header rest p (omega arith) ∙ sym v in
    let front = fault_in_front (header_fields version class) header rest (omega (arith, header_widths version class)) in
    ap (λ (n : ℕ). first_fault (header_fields n class) bytes) told ∙ ap (λ (w : List ℕ). first_fault (header_fields version class) w) p ∙ front

-- what a header tells of all bytes
pub header_answer : (version class : ℕ) (left new : Option (List ℕ)) (header : List ℕ) (fault : FileFault) → Consumes left new header → length header ≡ 16 → version ≡ stated_version header
    → first_fault (header_fields version class) header ≡ Some fault → IfSome left (λ bytes. IsAnswer class bytes fault)
header_answer version class None new header fault p l v e = tt
header_answer version class (Some bytes) None header fault p l v e = absurd p
header_answer version class (Some bytes) (Some rest) header fault p l v e =
    let here : header_fault class bytes ≡ Some fault = fault_of_all version class bytes header rest p l v ∙ e in
    answer_of class bytes fault (of_field (stated_version bytes) class bytes fault here)
    (file_fault_of class bytes fault (omega (arith, ap length p, length-append {A = ℕ})) here)

pub header_is_right : (version class : ℕ) (left new : Option (List ℕ)) (header : List ℕ) → Consumes left new header → length header ≡ 16 → version ≡ stated_version header
    → first_fault (header_fields version class) header ≡ None → IfSome left (λ bytes. HasHeader class bytes × (stated_version bytes ≡ version))
header_is_right version class None new header p l v e = tt
header_is_right version class (Some bytes) None header p l v e = absurd p
header_is_right version class (Some bytes) (Some rest) header p l v e =
    ((omega (arith, ap length p, length-append {A = ℕ}), fault_of_all version class bytes header rest p l v ∙ e), told_of_all bytes header rest p (omega arith) ∙ sym v)

pub header_is : (version class : ℕ) (header : List ℕ) → AreBytes header → length header ≡ 16 → first_fault (header_fields version class) header ≡ None → header ≡ header_of version class
header_is version class header b l e = fields_right (header_fields version class) header b (l ∙ sym (header_widths version class)) e

-- what came before a cut
pub cut_more : (left mid : Option (List ℕ)) (done : List ℕ) (n m : ℕ) (fault : FileFault) → Consumes left mid done → IsCut n mid fault → length done + n ≤ m → IsCut m left fault
cut_more left mid done n m h5 p q h = grind (arith, length-append)

pub misfit_of_cut : (n : ℕ) (left : Option (List ℕ)) (fault : FileFault) → IsCut n left fault → IsMisfit n left fault
misfit_of_cut n left fault q = grind arith

-- what came before the end
pub misfit_more : (left mid : Option (List ℕ)) (done : List ℕ) (n : ℕ) (fault : FileFault) → Consumes left mid done → IsMisfit 0 mid fault → length done ≡ n → IsMisfit n left fault
misfit_more left mid done n h4 p q h = grind (arith, length-append)

too_short : (class : ℕ) (bytes : List ℕ) → HasHeader class bytes → length bytes < file_length (stated_version bytes) class → file_fault class bytes ≡ Some faults.Short
too_short class bytes h l = grind (arith, nat_lt, length, le-ltb)

too_long : (class : ℕ) (bytes : List ℕ) → HasHeader class bytes → file_length (stated_version bytes) class < length bytes → file_fault class bytes ≡ Some faults.Trailing
too_long class bytes h l = grind (arith, nat_lt, length, le-ltb)

-- what the columns tell of all bytes
pub columns_answer : (version class : ℕ) (left mid : Option (List ℕ)) (header : List ℕ) (n : ℕ) (fault : FileFault)
    → Consumes left mid header → length header ≡ 16 → 16 + n ≡ file_length version class → IfSome left (λ bytes. HasHeader class bytes × (stated_version bytes ≡ version)) → IsMisfit n mid fault
    → IfSome left (λ bytes. IsAnswer class bytes fault)
columns_answer version class h2 mid header n fault p l s h q = grind (arith, length-append, file_length, too_short, too_long)

pub header_of_length : (version class : ℕ) → length (header_of version class) ≡ 16
unfolding header_fields
header_of_length version class = refl

fields_fit : (version class : ℕ) → version ≤ 2 → class < 36 → size_of class < 2 ^ 32 → AllFit (header_fields version class)
unfolding header_fields
fields_fit version class v c s = (omega arith, (omega arith, (omega arith, (omega arith, (omega arith, (s, tt))))))

-- the header of a table's file has no fault
header_right : (t : TableValue) → IsTable t → size_of t.class < 2 ^ 32 → header_fault t.class (bytes_of t) ≡ None
header_right t h s =
    ap (λ (n : ℕ). first_fault (header_fields n t.class) (bytes_of t)) (told_of_table t)
    ∙ no_fault (header_fields (version_of t.reach) t.class) (flat_map (column_bytes t) (columns_of t)) (fields_fit (version_of t.reach) t.class (version_small t.reach) h.class_in s)

written_length : (t : TableValue) → IsTable t → length (bytes_of t) ≡ file_length (stated_version (bytes_of t)) t.class
written_length t h =
    let is : length (bytes_of t) ≡ file_length (version_of t.reach) t.class =
    omega (arith, header_of_length (version_of t.reach) t.class, length-append (header_of (version_of t.reach) t.class) (flat_map (column_bytes t) (columns_of t)), body_length t h) in
    is ∙ ap (λ (n : ℕ). file_length n t.class) (sym (told_of_table t))

-- the file of a table has no fault
pub written_right : (t : TableValue) → IsTable t → size_of t.class < 2 ^ 32 → file_fault t.class (bytes_of t) ≡ None
written_right t h s = grind (arith, header_right, written_length, nat_lt)
