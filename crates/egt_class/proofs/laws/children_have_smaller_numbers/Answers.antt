use Rattle.std.proofs.Common.{◌+◌, arith}
use Rattle.egt_class.specs.Prelude.{range_with_len, length-range_with_len, get_or-range_with_len}
use Rattle.egt_class.specs.Prelude.{IsStrictlyIncreasing-filter, is_child_of, children_of}
use Rattle.egt_class.proofs.ClassTests.{smaller}
use Rattle.egt_class.proofs.laws.children_have_smaller_numbers.Goals as goal

pub returns-clause-smaller : goal.returns-clause-smaller
returns-clause-smaller c = smaller

pub returns-clause-ascending : goal.returns-clause-ascending
unfolding children_of
returns-clause-ascending c n = IsStrictlyIncreasing-filter (is_child_of n) (range_with_len 0 36) (λ k k_in.
    let long = length-range_with_len 0 36 in
    let here = get_or-range_with_len 0 36 k 0 (omega arith) in
    let next = get_or-range_with_len 0 36 (k + 1) 0 (omega arith) in omega arith)
