use Rattle.std.proofs.Common.{arith, refl}
use Rattle.egt_blocks.specs.Prelude.{AreOnBoard, stand_on}
use Rattle.egt_blocks.proofs.blocks.are_void_after.Goals as goal

pub returns : goal.returns
returns c = λ void targeted code a b side a_in b_in turned.
    let stand = stand_on c.args.men.now a b in
    let on_board : AreOnBoard stand = record {
      white = omega (arith, c.number.ensures.on_board, c.number.ensures.value);
      black = omega (arith, c.number-2.ensures.on_board, c.number-2.ensures.value);
      first = a_in;
      last = b_in;
    } in
    c.is_void_after.ensures.void void targeted code stand side on_board refl refl turned
