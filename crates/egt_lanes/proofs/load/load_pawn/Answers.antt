use Rattle.std.proofs.Common.{◌≡◌, ℕ, ◌+◌, ◌*◌, ◌-◌, ◌<◌, ◌∙◌, length, get_or, refl, ap, inl, inr, arith}
use Rattle.egt_lanes.specs.Prelude.{cases_lt, get_or_past, side_number, PAWN_SQUARES}
use Rattle.egt_lanes.proofs.Picks.{picked_or_none}
use Rattle.egt_lanes.proofs.Entries.{joined_at, side_number-small, pawn_place, pawn_place-low, pawn_place-high, pawn_place-edge}
use Rattle.egt_lanes.proofs.load.load_pawn.Goals as goal

pub returns-clause-middle : goal.returns-clause-middle
returns-clause-middle c s s_from s_to =
    let every = c.of_side-every_second.result in
    let long : length every ≡ 64 = omega arith in
    let side : ℕ = side_number c.args.side in
    let small : side_number c.args.side < 2 = side_number-small c.args.side in
    let j : ℕ = 2 * (s - 8) + side in
    picked_or_none every PAWN_SQUARES pawn_place long refl tt tt s (omega arith)
    ∙ elim (cases_lt s 40) [
      | inl l ↦
          ap (λ p. get_or every p 0) (pawn_place-low s s_from l) ∙ c.of_side-every_second.ensures (s - 8) (omega arith)
          ∙ joined_at c.loaded.result c.loaded-2.result c.args.entries.now 32 (2 * (s - 8) + side) j (omega arith) c.loaded.ensures c.loaded-2.ensures (omega arith) (λ below. omega arith) (λ above. omega arith)
      | inr g ↦
          ap (λ p. get_or every p 0) (pawn_place-high s g s_to) ∙ c.of_side-every_second.ensures (s + 8) (omega arith)
          ∙ joined_at c.loaded.result c.loaded-2.result c.args.entries.now 32 (2 * (s + 8) + side) j (omega arith) c.loaded.ensures c.loaded-2.ensures (omega arith) (λ below. omega arith) (λ above. omega arith)
    ]

pub returns-clause-edge : goal.returns-clause-edge
returns-clause-edge c s s_in edge =
    let every = c.of_side-every_second.result in
    let long : length every ≡ 64 = omega arith in
    picked_or_none every PAWN_SQUARES pawn_place long refl tt tt s s_in ∙ ap (λ p. get_or every p 0) (pawn_place-edge s edge) ∙ get_or_past every 64 0 (omega arith)
