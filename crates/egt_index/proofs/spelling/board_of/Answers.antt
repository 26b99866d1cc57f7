use Rattle.std.proofs.Common.{◌≡◌, ℕ, List, ◌∷◌, [], ◌++◌, IfSome, arith, sym, ap, subst}
use Rattle.egt_index.specs.Prelude.{option_to_list, king_of, men_of, Placement, IsFree, Man, White, Black, list_of}
use Rattle.egt_index.specs.Prelude.{Stand}
use Rattle.std.specs.FinMap as map
use Rattle.egt_index.proofs.Boarding.{apart_before, entry_free, entry_put, one_at_most, two_at_most}
use Rattle.egt_index.proofs.spelling.board_of.Goals.{After-with_entry}
use Rattle.egt_index.proofs.spelling.board_of.Goals as goal
use Rattle.egt_board.proofs.Lists.{len-men_of}

kings : Stand → List (Man × ℕ)
kings stand = (king_of White, stand.white) ∷ (king_of Black, stand.black) ∷ []

pub with_entry-board-requires-clause-free : goal.with_entry-board-requires-clause-free
unfolding kings
with_entry-board-requires-clause-free c =
    let list = option_to_list c.args.stand.now.first in
    subst (λ (men : Placement). IfSome c.args.stand.now.first (λ e. IsFree men e.1)) (sym c.kings_on-kings.ensures)
    (entry_free (kings c.args.stand.now) c.args.stand.now.first (apart_before (kings c.args.stand.now ++ list) (option_to_list c.args.stand.now.last) c.requires))

pub with_entry-board-requires-clause-room : goal.with_entry-board-requires-clause-room
unfolding kings
with_entry-board-requires-clause-room c =
    let is = ap map.len c.kings_on-kings.ensures in let few = len-men_of (kings c.args.stand.now) in omega arith

-- the board with the first man beside the kings
board_is : (c : goal.After-with_entry-arg-2-1) → c.with_entry-board.result ≡ men_of (kings c.args.stand.now ++ option_to_list c.args.stand.now.first)
unfolding kings
board_is c = grind (arith, entry_put, kings, apart_before)

pub with_entry-requires-clause-free : goal.with_entry-requires-clause-free
unfolding kings
with_entry-requires-clause-free c =
    subst (λ (men : Placement). IfSome c.args.stand.now.last (λ e. IsFree men e.1)) (sym (board_is c))
    (entry_free (kings c.args.stand.now ++ option_to_list c.args.stand.now.first) c.args.stand.now.last c.requires)

pub with_entry-requires-clause-room : goal.with_entry-requires-clause-room
unfolding kings
with_entry-requires-clause-room c =
    let is = ap map.len (board_is c) in
    let few = len-men_of (kings c.args.stand.now ++ option_to_list c.args.stand.now.first) in let one = one_at_most c.args.stand.now.first in omega arith

all_is : (c : After-with_entry) → c.with_entry.result ≡ men_of (list_of c.args.stand.now)
unfolding kings
all_is c = grind (arith, board_is, entry_put, kings)

pub returns-clause-men : goal.returns-clause-men
returns-clause-men c = all_is c

pub returns-clause-few : goal.returns-clause-few
returns-clause-few c =
    let is = ap map.len (all_is c) in
    let few = len-men_of (list_of c.args.stand.now) in let two = two_at_most c.args.stand.now.first c.args.stand.now.last in omega arith
