use Rattle.std.proofs.lemmas.Simd.{get_or-chunk}
use Rattle.egt_lanes.proofs.load.loaded.Goals as goal

pub returns : goal.returns
returns c i i_in = get_or-chunk c.args.from 64 c.args.entries.now i 0 i_in
