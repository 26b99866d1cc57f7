use Rattle.std.proofs.Common.{ap, sym, subst, ◌∷◌, []}
use Rattle.egt_index.specs.Prelude.{option_to_list, Tells}
use Rattle.egt_index.proofs.DigitsTaken.{tells_one}
use Rattle.egt_index.proofs.spelling.take.Goals as goal

pub returns-in-Some-clause-tells : goal.returns-in-Some-clause-tells
returns-in-Some-clause-tells c = λ pawns.
    subst (λ men. Tells pawns c.args.number men c.split-high.result.0 ((c.in-Some.man, c.split-high.result.1) ∷ [])) (sym (ap option_to_list c.in-Some.is))
    (tells_one pawns c.args.number c.in-Some.man c.split-high.result.0 c.split-high.result.1 c.split-high.ensures)
