-- Moves with what they lead to, as texts and numbers.
use Rattle.egt_probe.specs.declared.ranking.RootMove.{RootMove}
use Rattle.egt_c.specs.declared.root_moves.EgtbRootMove.{EgtbRootMove}
use Rattle.egt_c.specs.Move.{written}
use Rattle.egt_c.specs.Verdict.{shown}

abbrev pub shown_root : RootMove → EgtbRootMove
shown_root r = record { chess_move = written r.chess_move; after = shown r.verdict }
