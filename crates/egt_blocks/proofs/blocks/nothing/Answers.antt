use Rattle.std.proofs.Common.{List, [], ℕ, ap, get_or, replicate, ◌∙◌}
use Rattle.egt_blocks.specs.Prelude.{get_or-replicate}
use Rattle.egt_blocks.proofs.blocks.nothing.Goals as goal

pub returns : goal.returns
returns c = λ a b a_in b_in. ap (λ (r : List ℕ). get_or r b 0) (get_or-replicate 64 a (replicate 64 0) [] a_in) ∙ get_or-replicate 64 b 0 0 b_in
