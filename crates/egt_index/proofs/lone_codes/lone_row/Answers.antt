use Rattle.std.proofs.Common.{◌≡◌, ◌+◌, ◌*◌, ◌<◌, arith, sym, subst}
use Rattle.egt_index.specs.Prelude.{king_square, IsLoneRow, kind_digits, king_base}
use Rattle.egt_index.proofs.LoneCodes.{lone_told}
use Rattle.egt_index.proofs.lone_codes.lone_row.Goals as goal

pub returns-clause-row : goal.returns-clause-row
returns-clause-row c = subst (λ first. IsLoneRow c.args.class first c.args.white c.args.black c.args.man) (sym is)
    (lone_told c.args.class c.in_ok-high.high c.args.white c.args.black c.args.man c.requires (subst (λ b. c.in_ok-high.high < king_base b) c.has_pawns.ensures c.in_ok-high.ensures.found)
    (subst (λ b. king_square b c.in_ok-high.high ≡ c.args.white) c.has_pawns.ensures c.in_ok-high.ensures.is) (omega (arith, c.number-black.ensures.on_board, c.number-black.ensures.value)))
  where
    is : (c.from.result * 64 + c.from-2.result) * c.digits_of.result * 2 ≡ (c.in_ok-high.high * 64 + c.args.black) * kind_digits c.args.man.kind * 2
    is = grind arith
