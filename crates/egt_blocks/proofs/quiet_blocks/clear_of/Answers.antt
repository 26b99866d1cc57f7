use Rattle.std.proofs.Common.{◌∙◌}
use Rattle.egt_blocks.specs.Prelude.{bit_at_ones}
use Rattle.egt_blocks.proofs.QuietRaising.{left_without}
use Rattle.egt_blocks.proofs.quiet_blocks.clear_of.Goals as goal

pub returns : goal.returns
returns c = λ u u_in.
    let men = c.args.men.now in (
      (λ has.
          let third = left_without c.without-2.result.bits c.without-3.result.bits c.args.other u c.without-3.ensures.same c.without-3.ensures.others has in
          let second = left_without c.without.result.bits c.without-2.result.bits men.black u c.without-2.ensures.same c.without-2.ensures.others third.0 in
          let first = left_without 18446744073709551615 c.without.result.bits men.white u c.without.ensures.same c.without.ensures.others second.0 in
          (first.1, second.1, third.1)),
      (λ clear. c.without-3.ensures.others u clear.2 ∙ c.without-2.ensures.others u clear.1 ∙ c.without.ensures.others u clear.0 ∙ bit_at_ones 64 u u_in),
    )
