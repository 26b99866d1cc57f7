use Rattle.std.proofs.Common.{◌∙◌, ℕ, List, ap, slice_index}
use Rattle.egt_sweep.proofs.BegunWay.{zeros}
use Rattle.egt_sweep.proofs.stamps.no_marks.Goals as goal

pub returns-clause-none : goal.returns-clause-none
returns-clause-none c = λ i. ap (λ (l : List ℕ). slice_index l i) (c.in_ok-stamps.ensures.items_if_clones_equal (λ y e. e)) ∙ zeros 8192 i
