use Rattle.std.proofs.Common.{◌≡◌, ◌≤◌, arith, rules, sym, ap, ◌∙◌, inl, inr, ℕ, List}
use Rattle.egt_board.specs.Prelude.{false≢true, White, Black, Man, other_side, Placement, IsKingOn, men_of, FitsBoard}
use Rattle.std.specs.FinMap as map
use Rattle.egt_board.proofs.Lists.{len-men_of}
use Rattle.egt_board.proofs.Positions.{waiting_king, fits_some, fits_none}
use Rattle.egt_board.proofs.position.Position.new.Goals as goal
use Rattle.egt_board.proofs.position.Position.new.Goals.{in-White, in-Black, in-Some-target+else-not-is_target}
use Rattle.egt_board.proofs.position.Position.new.Goals.{in_default-target}

few : (board : Placement) (list : List (Man × ℕ)) → FitsBoard list → board ≡ men_of list → map.len board ≤ 4
few board list fits placed = let le = len-men_of list in let n = fits.few in let e = ap map.len placed in omega arith

pub invariant_of-result : goal.invariant_of-result
invariant_of-result c =
    let white : IsKingOn c.in-Some.board White c.in-Some-king.white_king = c.in-Some-king.ensures.found in
    let black : IsKingOn c.in-Some.board Black c.in-Some-king-2.black_king = c.in-Some-king-2.ensures.found in
    let fits : FitsBoard c.args.men.now = c.in-Some.ensures.fits.0 (search rules) in
    let waiting : IsKingOn c.in-Some.board (other_side c.args.side) c.match-side.waiting =
    waiting_king c.in-Some.board c.args.side c.in-Some-king.white_king c.in-Some-king-2.black_king c.match-side.waiting white black
    (elim c.match-side.branch [ in-White w ↦ inl (w.in-White.is, w.waiting-is) | in-Black w ↦ inr (w.in-Black.is, w.waiting-is) ]) in
    record {
      admissible = record {
        few = few c.in-Some.board c.args.men.now fits c.in-Some.ensures.placed;
        on_board = c.in-Some.ensures.on_board;
        kings = record { white = c.in-Some-king.white_king; black = c.in-Some-king-2.black_king; white_there = white; black_there = black };
        pawns = c.pawns_fit.ensures.0 (search rules);
        target = elim c.match-target.branch [
          | in-Some-target+else-not-is_target w ↦ fits_some _ _ _ w.in-Some-target.square w.target-is (w.is_target.ensures.0 (search rules))
          | in_default-target w ↦ fits_none _ _ _ (w.target-is ∙ w.in_default-target.is)
        ];
        quiet = λ check. false≢true (sym c.if-is_in_check.false ∙ c.is_in_check.ensures.1 (rw c.other.ensures check));
      };
      white = white;
      black = black;
    }

-- a target that was judged is the one that was given
same_target : (c : goal.Else-is_in_check) → c.match-target.target ≡ c.args.target
same_target c = grind arith

pub returns-clause-admits : goal.returns-clause-admits
returns-clause-admits c = grind (arith, invariant_of-result, same_target, c.in-Some.ensures.fits.0, c.in-Some.ensures.placed)
