use Rattle.std.proofs.Common.{◌<◌, ◌∙◌, ap, arith}
use Rattle.egt_class.specs.Prelude.{children_of}
use Rattle.egt_class.proofs.ChildTable.{children_are_right, spans_are_right}
use Rattle.egt_class.proofs.descent.span.Goals as goal

pub returns : goal.returns
returns c =
    let c_in : c.from-number.result < 36 = omega (arith, c.number.ensures.below, c.from-number.ensures) in
    let span = spans_are_right c.from-number.result c_in in
    record {
      all = children_are_right c.from-number.result c_in ∙ ap children_of (c.from-number.ensures ∙ c.number.ensures.value);
      order = span.order;
      end = span.within;
      few = span.few;
    }
