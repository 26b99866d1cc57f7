use Rattle.egt_sweep.proofs.beginning.begin_at.Goals as goal

pub returns-clause-targeted : goal.returns-clause-targeted
returns-clause-targeted c = λ told _. c.begin_with-2.ensures told
