use Rattle.std.proofs.Common.{arith, inl, inr}
use Rattle.egt_moves.specs.Prelude.{bit_at, cases_eq, bit_at-lt}
use Rattle.egt_moves.proofs.going.pawn_targets.Goals as goal

pub returns-clause-goes : goal.returns-clause-goes
returns-clause-goes c = λ t.
    let either = c.union.ensures.squares t in
    let both = c.intersection-takes.ensures.squares t in
    let advance = bit_at-lt c.advances-advances.result.bits t in
    let reach = bit_at-lt c.reach_past.result.bits t in
    let taken = bit_at-lt c.takeable.result.bits t in
    let advances = c.advances-advances.ensures.advances t in
    let reached = c.reach_past.ensures.reached t in
    let takes = c.takeable.ensures t in (
      λ one. elim (cases_eq (bit_at c.advances-advances.result.bits t) 1) [
        | inl e ↦ inr (inl (record { pawn = c.requires.pawn; advances = rw (← c.board.ensures) (advances.0 e) }))
        | inr not ↦ inr (inr (record { pawn = c.requires.pawn; reaches = rw (← c.board-2.ensures) (reached.0 (omega arith)); takes = takes.0 (omega arith) }))
      ],
      λ goes. elim goes [
        | inl piece ↦ absurd (piece.piece c.requires.pawn)
        | inr rest ↦ elim rest [
          | inl on ↦ let e = advances.1 (rw (c.board.ensures) on.advances) in omega arith
          | inr takes' ↦ let e = reached.1 (rw (c.board-2.ensures) takes'.reaches) in let f = takes.1 takes'.takes in omega arith
        ]
      ],
    )
