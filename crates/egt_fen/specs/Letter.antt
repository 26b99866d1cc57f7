-- The letters of the men (PGN standard of 1994, section 16.1.3.1): capitals are White.
use Rattle.std.specs.Prelude.{ℕ, ◌==◌, if◌then◌else◌, Option, Some, None}
use Rattle.egt_board.specs.declared.man.Side.{Side}
use Rattle.egt_board.specs.declared.man.Side.TheVariants.{White, Black}
use Rattle.egt_board.specs.declared.man.Kind.{Kind}
use Rattle.egt_board.specs.declared.man.Kind.TheVariants.{Q, R, B, N, P, K}
use Rattle.egt_board.specs.declared.man.Man.{Man}

abbrev pub white : Kind → Man
white kind = record { side = White; kind = kind }

abbrev pub black : Kind → Man
black kind = record { side = Black; kind = kind }

-- the man of a letter: P, N, B, R, Q, K, and p, n, b, r, q, k
abbrev pub man_of : ℕ → Option Man
man_of c =
    if c == 81 then Some (white Q) else (if c == 82 then Some (white R) else (if c == 66 then Some (white B) else (if c == 78 then Some (white N) else (if c == 80 then Some (white P) else (if c == 75 then Some (white K) else
    (if c == 113 then Some (black Q) else (if c == 114 then Some (black R) else (if c == 98 then Some (black B) else (if c == 110 then Some (black N) else (if c == 112 then Some (black P) else (if c == 107 then Some (black K) else
    None)))))))))))

abbrev letter : Side → Kind → ℕ
letter White Q = 81
letter White R = 82
letter White B = 66
letter White N = 78
letter White P = 80
letter White K = 75
letter Black Q = 113
letter Black R = 114
letter Black B = 98
letter Black N = 110
letter Black P = 112
letter Black K = 107

-- and the letter of a man
abbrev pub letter_of : Man → ℕ
letter_of man = letter man.side man.kind
