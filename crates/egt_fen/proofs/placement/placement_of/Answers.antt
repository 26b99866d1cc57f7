use Rattle.std.proofs.Common.{◌∙◌}
use Rattle.egt_fen.proofs.Ranks.{men_left_is}
use Rattle.egt_fen.proofs.placement.placement_of.Goals as goal

pub loop-byte-init : goal.loop-byte-init
loop-byte-init c = c.new-walk.ensures c.args.field.now ∙ men_left_is c.args.field.now
