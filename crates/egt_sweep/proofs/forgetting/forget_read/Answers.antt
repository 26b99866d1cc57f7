use Rattle.std.proofs.Common.{◌∙◌, sym}
use Rattle.egt_sweep.proofs.KeysForgotten.{none_forgotten, others_forgotten, same_forgotten}
use Rattle.egt_sweep.proofs.forgetting.forget_read.Goals as goal

pub returns-then-has_equal_sides-clause-same : goal.returns-then-has_equal_sides-clause-same
returns-then-has_equal_sides-clause-same c = λ side. same_forgotten c.args.class c.args.white c.args.black side c.args.same.now c.forget_turned.new.keys c.forget_turned.ensures.fewer c.forget_turned.ensures.gone

pub returns-then-has_equal_sides-clause-others : goal.returns-then-has_equal_sides-clause-others
returns-then-has_equal_sides-clause-others c = λ side.
    others_forgotten c.args.class c.args.white c.args.black side c.args.others.now c.forget_turned-then-has_equal_sides.new.keys c.forget_turned-then-has_equal_sides.ensures.fewer c.forget_turned-then-has_equal_sides.ensures.gone

pub returns-else-has_equal_sides-clause-same : goal.returns-else-has_equal_sides-clause-same
returns-else-has_equal_sides-clause-same c = λ side. same_forgotten c.args.class c.args.white c.args.black side c.args.same.now c.forget_turned.new.keys c.forget_turned.ensures.fewer c.forget_turned.ensures.gone

pub returns-else-has_equal_sides-clause-others : goal.returns-else-has_equal_sides-clause-others
returns-else-has_equal_sides-clause-others c = λ side. none_forgotten c.args.class c.args.white c.args.black side c.args.others.now (sym c.has_equal_sides.ensures ∙ c.if-has_equal_sides.false)
