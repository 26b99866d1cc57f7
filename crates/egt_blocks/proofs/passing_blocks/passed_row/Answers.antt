use Rattle.std.proofs.Common.{◌∙◌, List, [], ℕ, ap, arith, get_or, inl, inr}
use Rattle.egt_blocks.specs.Prelude.{get_or-replicate}
use Rattle.egt_blocks.proofs.passing_blocks.passed_row.Goals.{in-Some, in-None}
use Rattle.egt_blocks.proofs.passing_blocks.passed_row.Goals as goal

pub returns : goal.returns
returns c = elim c.match-passed_square.branch [
  | in-Some w ↦ λ b b_in.
      let place = w.number.ensures.value ∙ w.in-Some.ensures.is in
      inl (omega (arith, place, w.number.ensures.on_board), ap (λ (r : List ℕ). get_or r b 0) w.result-is ∙ ap (λ k. get_or (get_or c.args.arrived.now k []) b 0) place)
  | in-None w ↦ λ b b_in. inr (w.in-None.ensures.none, ap (λ (r : List ℕ). get_or r b 0) w.result-is ∙ get_or-replicate 64 b 0 0 b_in)
]
