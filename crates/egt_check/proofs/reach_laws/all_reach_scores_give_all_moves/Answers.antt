use Rattle.egt_check.specs.Prelude.{near_tables, four_in, Reach}
use Rattle.egt_check.proofs.NearScores.{reach_read}
use Rattle.egt_check.proofs.reach_laws.all_reach_scores_give_all_moves.Goals as goal

pub returns : goal.returns
returns c = λ tables four men side targeted a b p reach are one last has scores.
    let read = reach_read c.a_code_is_an_index_or_void.ensures (near_tables tables) four men side a b are targeted reach scores in
    (read.0, c.all_scores_give_all_moves.ensures (near_tables tables) (four_in Reach four) men side targeted a b p reach read.0 are one last has read.1)
