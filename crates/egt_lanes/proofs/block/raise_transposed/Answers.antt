use Rattle.std.proofs.Common.{max, arith, ap, ◌∙◌}
use Rattle.egt_lanes.specs.Prelude.{at}
use Rattle.egt_lanes.proofs.Weaving.{exchanged}
use Rattle.egt_lanes.proofs.block.raise_transposed.Goals as goal

pub returns : goal.returns
returns c a b a_in b_in =
    c.raise_to_max.ensures a b a_in b_in
    ∙ ap (max (at c.args.out.now a b)) (exchanged c.args.from.now _ _ _ _ _ _ c.interleaved.ensures c.interleaved-2.ensures c.interleaved-3.ensures c.interleaved-4.ensures c.interleaved-5.ensures c.interleaved-6.ensures a b a_in b_in)

pub returns-then-is_blank : goal.returns-then-is_blank
returns-then-is_blank c = λ a b a_in b_in. let none = c.is_blank.ensures c.if-is_blank.true b a b_in a_in in omega (arith, none)
