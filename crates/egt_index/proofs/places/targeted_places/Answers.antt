use Rattle.std.proofs.Common.{arith}
use Rattle.egt_index.proofs.TargetsMade.{next_there}
use Rattle.egt_index.proofs.places.targeted_places.Goals as goal

pub unwrap-on-requires : goal.unwrap-on-requires
unwrap-on-requires c = next_there c.args.class c.args.prefix.now c.args.man (omega (arith, c.number-number.ensures.below, c.number-number.ensures.value)) c.requires.targets c.requires.before
