use Rattle.std.proofs.Common.{◌≡◌, ◌∙◌, ℕ, ◌+◌, ◌/◌, ◌%◌, ◌==◌, ◌<◌, Bool, true, false, cond, arith, ap, sym}
use Rattle.egt_sweep.specs.FillPrelude.{nat_tests, material_of, IsTurnWith, has_pawns}
use Rattle.egt_sweep.proofs.turns.turns_of.Goals as goal
use Rattle.egt_sweep.proofs.turns.turns_of.Goals.{then-flips, else-flips, then-has_pawns, else-has_pawns}

-- a turn by whether it exchanges colours, and its symmetry
eighth : (t : ℕ) (flips : Bool) → t < 16 → (t / 8 == 1) ≡ flips → t ≡ cond flips 8 0 + t % 8
eighth t true below is = grind (arith, nat_tests)
eighth t false below is = grind (arith, nat_tests)

-- how many symmetries there are
few : (t : ℕ) (pawns flips : Bool) → IsTurnWith pawns flips t → t % 8 < cond pawns 2 8
few t h1 flips is = grind arith

pub returns-clause-all : goal.returns-clause-all
returns-clause-all c = λ t is.
    let first_is : c.if-flips.first ≡ cond c.args.flips 8 0 = elim c.if-flips.branch [
      | then-flips w ↦ w.first-is ∙ ap (λ f. cond f 8 0) (sym w.if-flips.true)
      | else-flips w ↦ w.first-is ∙ ap (λ f. cond f 8 0) (sym w.if-flips.false)
    ] in
    let many_is : c.if-has_pawns.many ≡ cond (has_pawns (material_of c.args.class)) 2 8 = elim c.if-has_pawns.branch [
      | then-has_pawns w ↦ w.many-is ∙ ap (λ p. cond p 2 8) (sym w.if-has_pawns.true ∙ c.has_pawns.ensures)
      | else-has_pawns w ↦ w.many-is ∙ ap (λ p. cond p 2 8) (sym w.if-has_pawns.false ∙ c.has_pawns.ensures)
    ] in
    let at = eighth t c.args.flips is.below is.flips_is in
    let within = few t (has_pawns (material_of c.args.class)) c.args.flips is in
    (omega (arith, first_is, at), omega (arith, first_is, many_is, at, within))
