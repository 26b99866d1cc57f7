use Rattle.std.proofs.Common.{◌<◌, ◌≤◌, ap, sym, ◌∙◌, subst, IfNone}
use Rattle.egt_index.specs.Prelude.{material_of, king_square, IsNoneBefore, king_base, has_pawns}
use Rattle.egt_index.proofs.Prefixes.{is_before, none_before}
use Rattle.egt_index.proofs.spelling.stand_before.Goals as goal

pub returns-in_err-white-clause-none : goal.returns-in_err-white-clause-none
returns-in_err-white-clause-none c =
    subst (λ o. IfNone o (IsNoneBefore c.args.class c.args.number)) (sym c.from_residual.ensures)
    (none_before c.args.class c.args.number c.take-before_next.result.0 c.split-high.result.0 c.split-high.result.1 _ _ c.take-before_next.result.1 c.non_kings-first.ensures.men c.non_kings-first.ensures.from_first
    (c.take-before_next.ensures.tells (has_pawns (material_of c.args.class))) c.split-high.ensures (subst (λ pawns. king_base pawns ≤ c.split-high.result.0) c.has_pawns.ensures c.in_err-white.ensures.none))

pub returns-clause-some : goal.returns-clause-some
returns-clause-some c =
    is_before c.args.class c.args.number c.take-before_next.result.0 c.split-high.result.0 c.split-high.result.1 _ _ c.take-before_next.result.1 c.non_kings-first.ensures.men c.non_kings-first.ensures.from_first
    (c.take-before_next.ensures.tells (has_pawns (material_of c.args.class))) c.split-high.ensures c.in_ok-white.white (subst (λ pawns. c.split-high.result.0 < king_base pawns) c.has_pawns.ensures c.in_ok-white.ensures.below)
    (c.in_ok-white.ensures.found ∙ ap (λ pawns. king_square pawns c.split-high.result.0) c.has_pawns.ensures) c.take-before_next.ensures.none.0
