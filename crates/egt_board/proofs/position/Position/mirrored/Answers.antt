use Rattle.std.proofs.Common.{ap, ◌∙◌}
use Rattle.egt_board.specs.Prelude.{option_map, square_by}
use Rattle.egt_board.proofs.MirroredPosition.{admissible_by}
use Rattle.egt_board.proofs.position.Position.mirrored.Goals as goal

pub admitted-requires : goal.admitted-requires
admitted-requires c =
    rw (c.side-side.ensures, c.side.ensures.side)
    (admissible_by c.args.mirror c.args.self.now c.mirrored_board-board.result _ c.side.ensures.admissible c.requires c.mirrored_board-board.ensures.shows c.mirrored_board-board.ensures.on_board c.mirrored_board-board.ensures.few (c.target-target.ensures ∙ ap (option_map (square_by c.args.mirror)) c.target.ensures))
