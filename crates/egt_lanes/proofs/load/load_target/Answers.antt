use Rattle.std.proofs.Common.{◌≡◌, ℕ, if◌then◌else◌, ◌+◌, ◌*◌, ◌-◌, ◌<◌, ◌∙◌, length, get_or, replicate, refl, ap, inl}
use Rattle.std.proofs.Common.{inr, arith}
use Rattle.egt_lanes.specs.Prelude.{cases_lt, get_or_past, get_or_append_left, get_or-append_right, side_number}
use Rattle.egt_lanes.specs.Prelude.{TARGET_SQUARES}
use Rattle.egt_lanes.proofs.Picks.{picked_or_none}
use Rattle.egt_lanes.proofs.Entries.{joined_at, side_number-small, bit-small, target_place, target_place-middle, target_place-edge}
use Rattle.egt_lanes.proofs.load.load_target.Goals as goal

pub returns-clause-middle : goal.returns-clause-middle
returns-clause-middle c s s_from s_to =
    let entries = c.args.entries.now in
    let every = c.of_side-every_fourth.result in
    let front = c.parted-front.result in
    let back = c.parted-back.result in
    let long : length every ≡ 64 = omega arith in
    let front_long : length front ≡ 64 = omega arith in
    let side : ℕ = side_number c.args.side in
    let side_in : side_number c.args.side < 2 = side_number-small c.args.side in
    let bit : ℕ = if c.args.target then 1 else 0 in
    let bit_in : bit < 2 = bit-small c.args.target in
    let j : ℕ = 2 * (s - 8) + side in
    let k : ℕ = 4 * (s - 8) + 2 * side + bit in
    picked_or_none every TARGET_SQUARES target_place long refl tt tt s (omega arith)
    ∙ ap (λ p. get_or every p 0) (target_place-middle s s_from s_to) ∙ c.of_side-every_fourth.ensures (s - 8) (omega arith)
    ∙ elim (cases_lt j 64) [
      | inl l ↦
          get_or_append_left front back 0 j (omega arith) ∙ c.parted-front.ensures j l
          ∙ joined_at c.loaded.result c.loaded-2.result entries 64 (2 * j + bit) k (omega arith) c.loaded.ensures c.loaded-2.ensures (omega arith) (λ below. omega arith) (λ above. omega arith)
      | inr g ↦
          let place : 128 + (2 * (j - 64) + bit) ≡ k = omega arith in
          get_or-append_right front back 64 j 0 front_long g ∙ c.parted-back.ensures (j - 64) (omega arith)
          ∙ get_or_append_left c.loaded-3.result (replicate 64 0) 0 (2 * (j - 64) + bit) (omega arith) ∙ c.loaded-3.ensures (2 * (j - 64) + bit) (omega arith)
          ∙ ap (λ i. get_or entries i 0) place
    ]

pub returns-clause-edge : goal.returns-clause-edge
returns-clause-edge c s s_in edge =
    let every = c.of_side-every_fourth.result in
    let long : length every ≡ 64 = omega arith in
    picked_or_none every TARGET_SQUARES target_place long refl tt tt s s_in ∙ ap (λ p. get_or every p 0) (target_place-edge s edge) ∙ get_or_past every 64 0 (omega arith)
