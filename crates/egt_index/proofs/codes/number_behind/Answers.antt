use Rattle.std.proofs.Common.{sym, ap, arith, ◌++◌, ◌≢◌}
use Rattle.egt_index.specs.Prelude.{map-append, option_to_list, king_of, side_number, kind_number, MayStand, White}
use Rattle.egt_index.specs.Prelude.{Black, men_among}
use Rattle.egt_index.proofs.DigitsTaken.{all_told}
use Rattle.egt_index.proofs.codes.number_behind.Goals as goal

pub returns-clause-tells : goal.returns-clause-tells
returns-clause-tells c = λ next last pawns.
    all_told pawns c.entry_behind.result c.behind-king.result c.entry_behind-next.result c.args.high c.args.stand.now.black (men_among (option_to_list c.args.stand.now.first ++ option_to_list c.args.stand.now.last))
    (men_among (option_to_list c.args.stand.now.first)) (men_among (option_to_list c.args.stand.now.last)) (option_to_list c.args.stand.now.first) (option_to_list c.args.stand.now.last)
    (sym (map-append (λ e. e.0) (option_to_list c.args.stand.now.first) (option_to_list c.args.stand.now.last)))
    (c.entry_behind.ensures.tells last pawns) (c.entry_behind-next.ensures.tells next pawns) (c.behind-king.ensures.splits other stands)
  where
    other : king_of Black ≢ king_of White
    other e = let sides = ap (λ m. side_number m.side) e in omega arith

    stands : MayStand (king_of Black) c.args.stand.now.black
    stands e = absurd (let kinds = ap kind_number e in omega arith)
