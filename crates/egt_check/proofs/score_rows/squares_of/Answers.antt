use Rattle.std.proofs.Common.{◌≡◌, ◌∙◌, ◌+◌, ◌-◌, ap, arith, sym}
use Rattle.egt_check.specs.Prelude.{bit_at, kind_less, pawn_digits}
use Rattle.egt_check.proofs.ScoresDrawn.{shifted_high, shifted_low}
use Rattle.egt_check.proofs.score_rows.squares_of.Goals as goal

pub returns-then-is_pawn-clause-digits : goal.returns-then-is_pawn-clause-digits
returns-then-is_pawn-clause-digits c = λ k k_in.
    let pawn = pawn_digits c.args.man.kind (sym c.is_pawn.ensures ∙ c.if-is_pawn.true) in
    let digits = pawn.1 in
    let less = pawn.2 in
    shifted_high c.args.digits (k + kind_less c.args.man.kind) (omega (arith, less)) (omega (arith, less, digits, k_in))
    ∙ ap (bit_at c.args.digits) (let is : k + kind_less c.args.man.kind - 8 ≡ k = omega (arith, less) in is)

pub returns-then-is_pawn-clause-edges : goal.returns-then-is_pawn-clause-edges
returns-then-is_pawn-clause-edges c = grind (arith, pawn_digits, shifted_low, shifted_high, c.is_pawn.ensures, c.if-is_pawn.true, c.requires)
