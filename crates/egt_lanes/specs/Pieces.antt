-- Men whose moves are their attacks, whichever side they belong to.
use Rattle.egt_board.specs.declared.man.Kind.{Kind}
use Rattle.egt_board.specs.declared.man.Kind.TheVariants.{Q, R, B, N, P, K}

-- neither a pawn nor a king
abbrev pub IsPiece : Kind → Type 0
IsPiece Q = Unit {0}
IsPiece R = Unit {0}
IsPiece B = Unit {0}
IsPiece N = Unit {0}
IsPiece P = ⊥
IsPiece K = ⊥
