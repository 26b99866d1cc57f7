use Rattle.std.proofs.Common.{◌≡◌, ◌≢◌, ℕ, List, ◌∷◌, [], Some, sym, ap, ◌∙◌, arith, subst, refl}
use Rattle.egt_index.specs.Prelude.{king_of, men_of, Placement, IsFree, Man, White, Black, with_entry, AllApart}
use Rattle.std.specs.FinMap as map
use Rattle.egt_index.proofs.Boarding.{entry_free, entry_put}
use Rattle.egt_index.proofs.spelling.kings_on.Goals.{After-with_entry-board}
use Rattle.egt_index.proofs.spelling.kings_on.Goals as goal
use Rattle.egt_board.proofs.Lists.{len-men_of}

one : ℕ → List (Man × ℕ)
one white = (king_of White, white) ∷ []

apart : (white black : ℕ) → white ≢ black → AllApart ((king_of White, white) ∷ (king_of Black, black) ∷ [])
apart white black h = (((λ e. h (sym e)), tt), (tt, tt))

none_is : map.empty ≡ men_of []
unfolding men_of
none_is = refl

white_is : (c : After-with_entry-board) → c.with_entry-board.result ≡ men_of (one c.args.white)
unfolding one
white_is c =
    c.with_entry-board.ensures ∙ ap (λ (men : Placement). with_entry men (Some (king_of White, c.args.white))) (c.new.ensures ∙ none_is)
    ∙ entry_put [] (Some (king_of White, c.args.white)) (tt, tt)

pub with_entry-board-requires-clause-free : goal.with_entry-board-requires-clause-free
with_entry-board-requires-clause-free c =
    subst (λ (men : Placement). IsFree men c.args.white) (sym (c.new.ensures ∙ none_is)) (entry_free [] (Some (king_of White, c.args.white)) (tt, tt))

pub with_entry-board-requires-clause-room : goal.with_entry-board-requires-clause-room
with_entry-board-requires-clause-room c = let is = ap map.len (c.new.ensures ∙ none_is) in let few = len-men_of [] in omega arith

pub with_entry-requires-clause-free : goal.with_entry-requires-clause-free
unfolding one
with_entry-requires-clause-free c =
    subst (λ (men : Placement). IsFree men c.args.black) (sym (white_is c))
    (entry_free (one c.args.white) (Some (king_of Black, c.args.black)) (apart c.args.white c.args.black c.requires))

pub with_entry-requires-clause-room : goal.with_entry-requires-clause-room
unfolding one
with_entry-requires-clause-room c = let is = ap map.len (white_is c) in let few = len-men_of (one c.args.white) in omega arith

pub returns : goal.returns
unfolding one
returns c =
    c.with_entry.ensures ∙ ap (λ (men : Placement). with_entry men (Some (king_of Black, c.args.black))) (white_is c.before)
    ∙ entry_put (one c.args.white) (Some (king_of Black, c.args.black)) (apart c.args.white c.args.black c.requires)
