use Rattle.std.proofs.Common.{◌≡◌, ◌↔◌, ◌+◌, ◌<◌, bit_and, ◌/◌, sym, subst, arith}
use Rattle.egt_index.specs.Prelude.{bit_at, Kind, kind_digits, kind_less}
use Rattle.egt_index.proofs.Placing.{man_bits, pawn_bits}
use Rattle.egt_index.proofs.places.digits_on.Goals as goal

pub returns-in-P : goal.returns-in-P
returns-in-P c = λ k.
    subst (λ (kind : Kind). (bit_at (bit_and (c.args.squares.bits / 256) 281474976710655) k ≡ 1) ↔ ((k < kind_digits kind) × (bit_at c.args.squares.bits (k + kind_less kind) ≡ 1))) (sym c.in-P.is)
    (pawn_bits c.args.squares.bits k)

pub returns-in_default : goal.returns-in_default
returns-in_default c = λ k. man_bits c.args.man.kind c.args.squares.bits k c.in_default.not-P (omega arith)
