use Rattle.std.proofs.Common.{◌≡◌, ◌∙◌, ℕ, ◌/◌, ◌%◌, ◌==◌, List, Option, None, length, slice_index_or, arith, sym}
use Rattle.std.proofs.Common.{subst, inl, inr}
use Rattle.egt_sweep.specs.FillPrelude.{cases_eq, turned_square, wide_place, BlockKey, AreFewer}
use Rattle.egt_sweep.proofs.forgetting.forget_turned.Goals as goal

-- what is gone stays so
stay_gone : (old new : List (Option BlockKey)) (i : ℕ) → AreFewer old new → slice_index_or old i None ≡ None → slice_index_or new i None ≡ None
stay_gone old new i fewer gone = elim (fewer i) [ inl same ↦ same ∙ gone | inr none ↦ none ]

pub loop-turn-preserved : goal.loop-turn-preserved
loop-turn-preserved c =
    let l = c.loop-turn in
    let after = c.forget_at.new.keys in
    let same_length : length after ≡ length l.keys = search in (
      λ i. elim (c.forget_at.ensures.fewer i) [
        | inl same ↦ elim (l.invariant.0 i) [ inl as_first ↦ inl (same ∙ as_first) | inr gone ↦ inr (same ∙ gone) ]
        | inr none ↦ inr none
      ],
      λ t column from before. elim (cases_eq t l.turn) [
        | inl same ↦
            subst (λ (n : ℕ). slice_index_or after (wide_place column (turned_square (n % 8) (n / 8 == 1) c.args.white) (turned_square (n % 8) (n / 8 == 1) c.args.black) (length c.args.keys.now)) None ≡ None) (sym same)
            (subst (λ w. slice_index_or after (wide_place column w (turned_square (l.turn % 8) (l.turn / 8 == 1) c.args.black) (length c.args.keys.now)) None ≡ None) c.turned_square.ensures
            (subst (λ b. slice_index_or after (wide_place column c.turned_square.result b (length c.args.keys.now)) None ≡ None) c.turned_square-in-loop-turn.ensures
            (subst (λ n. slice_index_or after (wide_place column c.turned_square.result c.turned_square-in-loop-turn.result n) None ≡ None) l.invariant.2 (c.forget_at.ensures.gone column))))
        | inr other ↦
            stay_gone l.keys after (wide_place column (turned_square (t % 8) (t / 8 == 1) c.args.white) (turned_square (t % 8) (t / 8 == 1) c.args.black) (length c.args.keys.now)) c.forget_at.ensures.fewer
            (l.invariant.1 t column from (omega (arith, before, other)))
      ],
      same_length ∙ l.invariant.2,
    )

pub returns-clause-gone : goal.returns-clause-gone
returns-clause-gone c = grind (arith, wide_place, turned_square, c.turns_of-first.ensures.all, c.loop-turn-test.false, c.loop-turn.invariant.1)
