use Rattle.std.proofs.Common.{◌≢◌, ◌∙◌, IfSome, IfNone, Option, arith, refl, sym, subst}
use Rattle.egt_index.specs.Prelude.{king_of, Man, White, material_of, HasTwoBeside, IsWithin, men_beside}
use Rattle.egt_index.proofs.Prefixes.{last_beside}
use Rattle.egt_index.proofs.ShelfCodes.{first_beside, shelf_before}
use Rattle.egt_index.proofs.ShelfFound.{none_within, one_before, some_before}
use Rattle.egt_index.proofs.shelf_codes.shelf_men.Goals as goal

pub returns-clause-shelf : goal.returns-clause-shelf
returns-clause-shelf c =
    shelf_before _ c.args.class c.args.shelf c.in_ok-prefix.prefix _ (omega (arith, c.number-number.ensures.below, c.number-number.ensures.value))
    (last_beside _ _ (men_beside (material_of c.args.class)) c.non_kings-last.ensures.men c.non_kings-last.ensures.from_first ∙ c.in_ok-last.was)
    (subst (λ (o : Option Man). IfSome o (λ man. man ≢ king_of White)) c.in_ok-last.was c.non_kings-last.ensures.second) c.in_ok-prefix.ensures.behind
    (first_beside _ _ _ _ (men_beside (material_of c.args.class)) c.non_kings-last.ensures.men c.non_kings-last.ensures.first c.non_kings-last.ensures.from_first)
    c.in_ok-stand.stand c.in_ok-stand.ensures.some refl refl c.in_ok-first.was

pub returns-in_err-prefix-clause-none : goal.returns-in_err-prefix-clause-none
returns-in_err-prefix-clause-none c = grind (arith, none_within, c.from_residual-in_err-prefix.ensures, c.in_err-prefix.ensures.past)

pub returns-in_err-stand-clause-none : goal.returns-in_err-stand-clause-none
returns-in_err-stand-clause-none c =
    subst (λ o. IfNone o (HasTwoBeside c.args.class → IsWithin c.args.class c.args.shelf → ⊥)) (sym c.from_residual-in_err-stand.ensures)
    (λ two within. some_before c.args.class two.0 two.1 _ c.args.shelf c.in_ok-prefix.prefix (omega (arith, c.number-number.ensures.below, c.number-number.ensures.value)) c.in_ok-prefix.ensures.behind c.in_err-stand.ensures.none)

pub returns-in_err-first-clause-none : goal.returns-in_err-first-clause-none
returns-in_err-first-clause-none c =
    subst (λ o. IfNone o (HasTwoBeside c.args.class → IsWithin c.args.class c.args.shelf → ⊥)) (sym c.from_residual-in_err-first.ensures)
    (λ two within. one_before c.args.class two.0 two.1 _ c.args.shelf c.in_ok-prefix.prefix (omega (arith, c.number-number.ensures.below, c.number-number.ensures.value)) c.in_ok-prefix.ensures.behind c.in_ok-stand.stand c.in_ok-stand.ensures.some c.in_err-first.was)
