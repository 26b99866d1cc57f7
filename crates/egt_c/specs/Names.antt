-- The names of faults by family and number, and the version.
use Rattle.std.specs.Prelude.{ℕ, ◌==◌, if◌then◌else◌, List, [], ◌∷◌, ◌++◌, length, drop, codes}

abbrev pub fen_name : ℕ → List ℕ
fen_name n =
    if n == 1 then codes "FieldCount" else (if n == 2 then codes "Placement" else (if n == 3 then codes "Colour" else (if n == 4 then codes "Castling" else (if n == 5 then codes "EpField" else (if n == 6 then codes "Counter" else (if n == 7 then codes "MenCount" else (if n == 8 then codes "KingCount" else (if n == 9 then codes "PawnRank" else (if n == 10 then codes "EpMismatch" else (if n == 11 then codes "WaitingInCheck" else ([])))))))))))

abbrev pub file_name : ℕ → List ℕ
file_name n =
    if n == 2 then codes "Short" else (if n == 3 then codes "Magic" else (if n == 4 then codes "Version" else (if n == 5 then codes "Layout" else (if n == 6 then codes "Class" else (if n == 7 then codes "Columns" else (if n == 8 then codes "Count" else (if n == 9 then codes "Trailing" else (if n == 10 then codes "NoMemory" else ([])))))))))

abbrev pub check_name : ℕ → List ℕ
check_name n =
    if n == 11 then codes "Missing" else (if n == 12 then codes "Rejected" else (if n == 13 then codes "AlreadyThere" else (if n == 17 then codes "NoReach" else ([]))))

abbrev pub probe_name : ℕ → List ℕ
probe_name n =
    if n == 10 then codes "NoMemory" else (if n == 11 then codes "Missing" else ([]))

abbrev pub call_name : ℕ → List ℕ
call_name n =
    if n == 1 then codes "Closed" else (if n == 2 then codes "NoClass" else (if n == 3 then codes "Shared" else (if n == 4 then codes "NoMan" else ([]))))

abbrev pub fault_name : (family number : ℕ) → List ℕ
fault_name family number =
    if family == 1 then fen_name number else (if family == 2 then file_name number else (if family == 3 then check_name number else (if family == 4 then probe_name number else (if family == 5 then call_name number else []))))

-- with zeros behind it, sixteen in all
abbrev pub padded_fault : List ℕ → List ℕ
padded_fault text = text ++ drop (length text) (0 ∷ 0 ∷ 0 ∷ 0 ∷ 0 ∷ 0 ∷ 0 ∷ 0 ∷ 0 ∷ 0 ∷ 0 ∷ 0 ∷ 0 ∷ 0 ∷ 0 ∷ 0 ∷ [])

abbrev pub version_text : List ℕ
version_text = codes "1.0" ++ 0 ∷ 0 ∷ 0 ∷ 0 ∷ 0 ∷ []
