use Rattle.egt_probe.proofs.Meaning.{forced, suffered}
use Rattle.egt_probe.proofs.laws.what_a_verdict_means.Goals as goal

pub returns-clause-mover_mates : goal.returns-clause-mover_mates
returns-clause-mover_mates c loaded p class n z v = forced p n v.mate

pub returns-clause-mover_is_mated : goal.returns-clause-mover_is_mated
returns-clause-mover_is_mated c loaded p class n z v = suffered p n v.mate

pub returns-clause-draw : goal.returns-clause-draw
returns-clause-draw c loaded p class v = v.mate

pub returns-clause-dead : goal.returns-clause-dead
returns-clause-dead c loaded p class v = (v.mate, v.dead.1)

pub returns-clause-alive : goal.returns-clause-alive
returns-clause-alive c loaded p class v column moves dead = (v.dead column dead).stuck moves.move moves.legal
