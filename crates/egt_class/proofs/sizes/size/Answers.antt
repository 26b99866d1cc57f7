use Rattle.std.proofs.Common.{arith}
use Rattle.egt_class.specs.Prelude.{size_of}
use Rattle.egt_class.proofs.SizeTable.{sizes_are_right}
use Rattle.egt_class.proofs.sizes.size.Goals as goal

pub returns : goal.returns
returns c = grind (arith, sizes_are_right, size_of, c.number.ensures.below, c.from.ensures, c.number.ensures.value)
