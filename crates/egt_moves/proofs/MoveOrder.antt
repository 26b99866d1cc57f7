-- Lists of moves in order.
use Rattle.std.proofs.Common.{suc, ◌<◌, List, [], ◌∷◌, ◌++◌, arith, refl, subst, inl, inr}
use Rattle.egt_moves.specs.Prelude.{Contains, Contains-push_cases, Move, place_of, IsInOrder}

pub Contains-head : (m : Move) (ms : List Move) → Contains (m ∷ ms) m
Contains-head m ms = (0, omega arith, refl)

pub Contains-tail : (m n : Move) (ms : List Move) → Contains ms n → Contains (m ∷ ms) n
Contains-tail m n ms w = (suc w.0, omega (arith, w.1), w.2)

-- a move that comes after all others may stand last
pub IsInOrder-push : (ms : List Move) (n : Move) → IsInOrder ms → ((m : Move) → Contains ms m → place_of m < place_of n) → IsInOrder (ms ++ n ∷ [])
IsInOrder-push [] n ordered before = ((λ m none. let k = none.1 in absurd (omega arith)), tt)
IsInOrder-push (x ∷ ms) n ordered before = (
  (λ m there. elim (Contains-push_cases ms n m there) [
    | inl old ↦ ordered.0 m old
    | inr e ↦ subst (λ y. place_of x < place_of y) e (before x (Contains-head x ms))
  ]),
  IsInOrder-push ms n ordered.1 (λ m there. before m (Contains-tail x m ms there)),
)
