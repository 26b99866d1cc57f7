use Rattle.std.proofs.Common.{Some, sym, subst}
use Rattle.egt_index.specs.Prelude.{option_to_list, Tells, Entry, HasDigit, men_among}
use Rattle.egt_index.proofs.DigitsTaken.{tells_one}
use Rattle.egt_index.proofs.codes.entry_behind.Goals as goal

pub returns-in-Some-clause-tells : goal.returns-in-Some-clause-tells
returns-in-Some-clause-tells c = λ digit pawns.
    subst (λ (e : Entry). Tells pawns c.behind.result (men_among (option_to_list e)) c.args.number (option_to_list e)) (sym c.in-Some.is)
    (tells_one pawns c.behind.result _ c.args.number _ (c.behind.ensures.splits (here digit).0 (here digit).1))
  where
    here : HasDigit c.args.entry → HasDigit (Some c.in-Some.placed)
    here digit = subst HasDigit c.in-Some.is digit
