use Rattle.std.proofs.lemmas.Nat.Bits.{bit_at_or}
use Rattle.egt_board.proofs.Sizes.{size_of-either}
use Rattle.egt_board.proofs.square_set.SquareSet.union.Goals as goal

pub returns-clause-squares : goal.returns-clause-squares
returns-clause-squares c = λ t. bit_at_or c.args.self.bits c.args.other.bits t

pub returns-clause-few : goal.returns-clause-few
returns-clause-few c = size_of-either c.args.self c.args.other _ (returns-clause-squares c)
