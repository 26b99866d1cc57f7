use Rattle.std.proofs.Common.{◌==◌, ◌%◌, ◌/◌, ◌∙◌}
use Rattle.egt_lanes.specs.Prelude.{Files, Ranks, Diagonal, square_if}
use Rattle.egt_lanes.proofs.turn.turned.Goals as goal
use Rattle.egt_board.proofs.Images.{square_if-within}

pub returns : goal.returns
returns c s s_in =
    let turn = c.args.turn in
    let by_files = square_if (turn % 8 % 2 == 1) Files s in
    let by_ranks = square_if (turn % 8 / 2 % 2 == 1) Ranks by_files in
    let by_diagonal = square_if (turn % 8 / 4 == 1) Diagonal by_ranks in
    let files_in = square_if-within (turn % 8 % 2 == 1) Files s s_in in
    let ranks_in = square_if-within (turn % 8 / 2 % 2 == 1) Ranks by_files files_in in
    let diagonal_in = square_if-within (turn % 8 / 4 == 1) Diagonal by_ranks ranks_in in
    c.mirrored_if.ensures s s_in ∙ c.mirrored_if-by_ranks.ensures by_files files_in
    ∙ c.mirrored_if-by_diagonal.ensures by_ranks ranks_in ∙ c.mirrored_if-by_colours.ensures by_diagonal diagonal_in
