-- The text of a move: its two squares and, for a promotion, a small letter.
use Rattle.std.specs.Prelude.{ℕ, ◌+◌, List, [], ◌∷◌, ◌++◌, Option, Some, None}
use Rattle.egt_board.specs.declared.man.Kind.{Kind}
use Rattle.egt_board.specs.declared.man.Kind.TheVariants.{Q, R, B, N, P, K}
use Rattle.egt_board.specs.Square.{file_of, rank_of}
use Rattle.egt_moves.specs.declared.chess_move.Move.{Move}

-- 97 is `a`, and 49 is `1`
abbrev pub square_text : ℕ → List ℕ
square_text s = (97 + file_of s) ∷ (49 + rank_of s) ∷ []

-- the codes of q, r, b, n, p and k
abbrev pub kind_letter : Kind → ℕ
kind_letter Q = 113
kind_letter R = 114
kind_letter B = 98
kind_letter N = 110
kind_letter P = 112
kind_letter K = 107

abbrev pub promotion_text : Option Kind → List ℕ
promotion_text None = []
promotion_text (Some kind) = kind_letter kind ∷ []

abbrev pub text_of : Move → List ℕ
text_of m = square_text m.from ++ square_text m.to ++ promotion_text m.promo
