use Rattle.std.proofs.Common.{◌≡◌, arith, ◌∙◌}
use Rattle.egt_check.proofs.Shelving.{no_places, free_library, free_more}
use Rattle.egt_check.proofs.library.Library.new.Goals as goal

pub loop-init : goal.loop-init
loop-init c = no_places c.in_ok-places.places.items c.in_ok-places.ensures.items

pub loop-preserved : goal.loop-preserved
loop-preserved c = free_more c.loop.places.items c.push.new.self.items c.loop.counter c.loop.invariant c.in_ok-push.ensures.items

pub invariant_of-result : goal.invariant_of-result
invariant_of-result c =
    let all : c.loop.counter ≡ 36 = omega arith in
    free_library c.loop.places.items (c.loop.invariant.count ∙ all) c.loop.invariant.free

pub returns : goal.returns
returns c = record { empty = c.loop.invariant.free }
