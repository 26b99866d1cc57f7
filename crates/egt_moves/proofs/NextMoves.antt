-- The legal moves are among finitely many: those of the men that stand on the board, to each of its squares.
use Rattle.std.proofs.Common.{◌≡◌, ℕ, zero, suc, ◌<◌, inl, inr, List, [], ◌∷◌, Option, Some, None, refl, sym, subst}
use Rattle.std.proofs.Common.{arith}
use Rattle.egt_moves.specs.Prelude.{Any, IsSomeAnd, ⊎_elim, cases_eq, Kind, Q, R, B, N, P, K, any_here, any_there}
use Rattle.egt_moves.specs.Prelude.{any_cons, Decided, squares_of, on_square, Setup, Move, Next, SameStep, Successors}
use Rattle.egt_moves.specs.Prelude.{chess, goes_on_board, leads_to_one, decided_legal, decided_zeroes}
use Rattle.egt_moves.specs.Prelude.{decided_checkmate, Leads, IsLegal}
use Rattle.egt_moves.proofs.Deciding.{successors_among}
use Rattle.egt_moves.proofs.MenAfter.{MayBecome, may_become}

-- the moves between two squares that promote to these
choices : ℕ → ℕ → List (Option Kind) → List Move → List Move
choices from to [] others = others
choices from to (promo ∷ promos) others = record { from = from; to = to; promo = promo } ∷ choices from to promos others

found_past : (Holds : Move → Type 0) (from to : ℕ) (promos : List (Option Kind)) (others : List Move) → Any Holds others → Any Holds (choices from to promos others)
unfolding choices
found_past Holds from to [] others found = found
found_past Holds from to (promo ∷ promos) others found = any_there Holds (record { from = from; to = to; promo = promo }) (choices from to promos others) (found_past Holds from to promos others found)

found_among_choices : (Holds : Move → Type 0) (from to : ℕ) (promo : Option Kind) (promos : List (Option Kind)) (others : List Move) → Any (λ o. o ≡ promo) promos → Holds (record { from = from; to = to; promo = promo }) → Any Holds (choices from to promos others)
unfolding choices
found_among_choices Holds from to promo [] others among here = absurd (omega (arith, among.2))
found_among_choices Holds from to promo (o ∷ promos) others among here = ⊎_elim
    (λ (e : o ≡ promo). any_here Holds (record { from = from; to = to; promo = o }) (choices from to promos others) (subst (λ x. Holds (record { from = from; to = to; promo = x })) (sym e) here))
    (λ (later : Any (λ x. x ≡ promo) promos). any_there Holds (record { from = from; to = to; promo = o }) (choices from to promos others) (found_among_choices Holds from to promo promos others later here))
    (any_cons (λ x. x ≡ promo) o promos among)

-- no promotion, and each
becoming : List (Option Kind)
becoming = None ∷ Some Q ∷ Some R ∷ Some B ∷ Some N ∷ []

among_becoming : (promo : Option Kind) → MayBecome promo → Any (λ o. o ≡ promo) becoming
unfolding becoming
among_becoming None may = (0, None, omega arith, refl, refl)
among_becoming (Some Q) may = (1, Some Q, omega arith, refl, refl)
among_becoming (Some R) may = (2, Some R, omega arith, refl, refl)
among_becoming (Some B) may = (3, Some B, omega arith, refl, refl)
among_becoming (Some N) may = (4, Some N, omega arith, refl, refl)
among_becoming (Some P) may = absurd may
among_becoming (Some K) may = absurd may

-- the moves from one square to each below n, and then the others
moves_to_each : ℕ → ℕ → List Move → List Move
moves_to_each from zero others = others
moves_to_each from (suc n) others = choices from n becoming (moves_to_each from n others)

found_later : (Holds : Move → Type 0) (from n : ℕ) (others : List Move) → Any Holds others → Any Holds (moves_to_each from n others)
unfolding moves_to_each
found_later Holds from zero others found = found
found_later Holds from (suc n) others found = found_past Holds from n becoming (moves_to_each from n others) (found_later Holds from n others found)

found_from : (Holds : Move → Type 0) (from t n : ℕ) (promo : Option Kind) (others : List Move) → t < n → MayBecome promo → Holds (record { from = from; to = t; promo = promo }) → Any Holds (moves_to_each from n others)
unfolding moves_to_each
found_from Holds from t zero promo others less may here = absurd (omega arith)
found_from Holds from t (suc n) promo others less may here = elim (cases_eq t n) [
  | inl e ↦ found_among_choices Holds from n promo becoming (moves_to_each from n others) (among_becoming promo may) (subst (λ x. Holds (record { from = from; to = x; promo = promo })) e here)
  | inr other ↦ found_past Holds from n becoming (moves_to_each from n others) (found_from Holds from t n promo others (omega arith) may here)
]

-- the moves from each of the squares
moves_of_squares : List ℕ → List Move
moves_of_squares [] = []
moves_of_squares (from ∷ squares) = moves_to_each from 64 (moves_of_squares squares)

found_of : (Holds : Move → Type 0) (squares : List ℕ) (m : Move) → m.to < 64 → MayBecome m.promo → Holds m → Any (λ s. s ≡ m.from) squares → Any Holds (moves_of_squares squares)
unfolding moves_of_squares
found_of Holds [] m to_in may here among = absurd (omega (arith, among.2))
found_of Holds (from ∷ squares) m to_in may here among = ⊎_elim
    (λ (e : from ≡ m.from). found_from Holds from m.to 64 m.promo (moves_of_squares squares) to_in may (subst (λ s. Holds (record { from = s; to = m.to; promo = m.promo })) (sym e) here))
    (λ (later : Any (λ s. s ≡ m.from) squares). found_later Holds from 64 (moves_of_squares squares) (found_of Holds squares m to_in may here later))
    (any_cons (λ s. s ≡ m.from) from squares among)

-- the moves of the men on the board
candidates : Setup → List Move
candidates p = moves_of_squares (squares_of p.men)

found_candidate : (Holds : Move → Type 0) (p : Setup) (m : Move) → IsLegal p m → Holds m → Any Holds (candidates p)
unfolding candidates
found_candidate Holds p m legal here = found_of Holds (squares_of p.men) m
    (goes_on_board p legal.1.man m.from m.to legal.1.goes) (may_become _ m.promo legal.1.promotion) here
    (on_square (λ s. s ≡ m.from) p.men m.from legal.1.man legal.1.stands refl)

-- where the move leads, if it is legal
step_where : (p : Setup) (m : Move) → Decided (IsLegal p m) → Option (Next chess p)
step_where p m (inl legal) = Some (legal.0, (m, legal.1))
step_where p m (inr illegal) = None

step_found : (p q : Setup) (m : Move) (leads : Leads p m q) (d : Decided (IsLegal p m)) → IsSomeAnd (step_where p m d) (λ s. SameStep chess p s (q, (m, leads)))
unfolding step_where
step_found p q m leads (inl legal) = (leads_to_one p legal.0 q m legal.1 leads, (λ z. z, λ z. z))
step_found p q m leads (inr illegal) = illegal (q, leads)

tried : (p : Setup) → Move → Option (Next chess p)
tried p m = step_where p m (decided_legal p m)

all_found : (p q : Setup) (step : chess.Move p q) → Any (λ m. IsSomeAnd (tried p m) (λ s. SameStep chess p s (q, step))) (candidates p)
unfolding tried
all_found p q step = found_candidate (λ m. IsSomeAnd (tried p m) (λ s. SameStep chess p s (q, step))) p step.0 (q, step.1)
    (step_found p q step.0 step.1 (decided_legal p step.0))

-- the legal moves are finitely many
pub chess_steps : Successors chess
chess_steps = successors_among chess candidates tried all_found decided_checkmate (λ p q step. decided_zeroes p step.0)
