-- Promotion of a pawn on the last rank: FIDE Laws of Chess 2023, article 3.7.3.3.
use Rattle.std.specs.Prelude.{ℕ, ◌==◌, ◌&&◌, Bool, true, false, Option, Some, None}
use Rattle.egt_board.specs.Prelude.{rank_of, last_rank}
use Rattle.egt_board.specs.declared.man.Kind.{Kind}
use Rattle.egt_board.specs.declared.man.Kind.TheVariants.{Q, R, B, N, P, K}
use Rattle.egt_board.specs.declared.man.Man.{Man}

abbrev pub is_pawn : Kind → Bool
is_pawn P = true
is_pawn Q = false
is_pawn R = false
is_pawn B = false
is_pawn N = false
is_pawn K = false

-- the man is a pawn and arrives on its last rank
abbrev pub promotes : Man → ℕ → Bool
promotes man to = is_pawn man.kind && (rank_of to == last_rank man.side)

-- a pawn becomes one of these
abbrev pub IsOfficer : Kind → Type 0
IsOfficer Q = Unit {0}
IsOfficer R = Unit {0}
IsOfficer B = Unit {0}
IsOfficer N = Unit {0}
IsOfficer P = ⊥
IsOfficer K = ⊥

-- a queen, rook, bishop or knight where a pawn is promoted, and else nothing
abbrev pub FitsPromotion : Bool → Option Kind → Type 0
FitsPromotion true None = ⊥
FitsPromotion true (Some kind) = IsOfficer kind
FitsPromotion false None = Unit {0}
FitsPromotion false (Some kind) = ⊥

-- what stands on the square arrived at
abbrev pub arriving : Man → Option Kind → Man
arriving man None = man
arriving man (Some kind) = record { side = man.side; kind = kind }
