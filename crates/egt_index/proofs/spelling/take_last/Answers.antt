use Rattle.std.proofs.Common.{ap, sym, subst}
use Rattle.egt_index.specs.Prelude.{option_to_list, material_of, men_beside, Tells}
use Rattle.egt_index.proofs.Prefixes.{last_beside}
use Rattle.egt_index.proofs.spelling.take_last.Goals as goal

pub returns : goal.returns
returns c = λ pawns.
    subst (λ men. Tells pawns c.args.number men c.take.result.0 (option_to_list c.take.result.1))
    (sym (ap option_to_list (last_beside _ _ (men_beside (material_of c.args.class)) c.non_kings-last.ensures.men c.non_kings-last.ensures.from_first))) (c.take.ensures.tells pawns)
