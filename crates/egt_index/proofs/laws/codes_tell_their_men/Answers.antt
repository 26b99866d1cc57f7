use Rattle.egt_index.proofs.ToldMen.{told_stands}
use Rattle.egt_index.proofs.laws.codes_tell_their_men.Goals as goal

pub returns : goal.returns
returns c = λ targeted k code p stand side k_in. told_stands targeted k code p stand side
