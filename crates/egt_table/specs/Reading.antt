-- The result of reading a part of a file.
use Rattle.std.specs.Prelude.{◌≡◌, ℕ, ◌<◌, ◌==◌, ◌⊎◌, if◌then◌else◌, List, length, Option, Some, None, Result, MatchResult}
use Rattle.egt_class.specs.Size.{size_of}
use Rattle.egt_table.specs.declared.fault.FileFault.{FileFault}
use Rattle.egt_table.specs.declared.fault.FileFault.TheVariants as faults
use Rattle.egt_table.specs.Stream.{risen}

abbrev pub CountsFault : FileFault → ℕ → ℕ → Type 0
CountsFault faults.Device old new = new ≡ risen old
CountsFault fault old new = new ≡ old

-- a failure of the device is counted, and nothing else is
abbrev pub CountsDevice : {A : Type 0} → Result A FileFault → ℕ → ℕ → Type 0
CountsDevice result old new = MatchResult result (λ _. new ≡ old) (λ fault. CountsFault fault old new)

-- the device failed, or there was no memory, or fewer than n bytes were left
abbrev pub IsCut : ℕ → Option (List ℕ) → FileFault → Type 0
IsCut n left faults.Device = Unit {0}
IsCut n left faults.NoMemory = Unit {0}
IsCut n None faults.Short = Unit {0}
IsCut n (Some bytes) faults.Short = length bytes < n
IsCut n left fault = ⊥

-- the device failed, or there was no memory, or fewer than n bytes were left, or more
abbrev pub IsMisfit : ℕ → Option (List ℕ) → FileFault → Type 0
IsMisfit n left faults.Device = Unit {0}
IsMisfit n left faults.NoMemory = Unit {0}
IsMisfit n None faults.Short = Unit {0}
IsMisfit n (Some bytes) faults.Short = length bytes < n
IsMisfit n None faults.Trailing = Unit {0}
IsMisfit n (Some bytes) faults.Trailing = n < length bytes
IsMisfit n left fault = ⊥

-- these bytes were all that was left, where that is known
abbrev pub IsAll : Option (List ℕ) → List ℕ → Type 0
IsAll None bytes = Unit {0}
IsAll (Some left) bytes = left ≡ bytes

abbrev pub IsVersion : ℕ → Type 0
IsVersion version = (version ≡ 1) ⊎ (version ≡ 2)

-- how many entries the column of the nearest mates has in a file of the version
abbrev pub length_in : (version class : ℕ) → ℕ
length_in version class = if version == 2 then size_of class else 0

-- the column of the nearest mates, where a file of the version has it
abbrev pub reach_in : ℕ → List ℕ → Option (List ℕ)
reach_in version entries = if version == 2 then Some entries else None
