-- The list of moves over all men of the side to move.
use Rattle.std.proofs.Common.{◌≡◌, ◌≢◌, ℕ, ◌+◌, ◌*◌, ◌<◌, ◌≤◌, ◌↔◌, ◌⊎◌, List, length, arith, sym, ap, ◌∙◌, inl, inr}
use Rattle.std.proofs.Common.{subst}
use Rattle.egt_moves.specs.Prelude.{bit_at, Contains, cases_eq, cases_lt, Man, SquareSet, Stands, IsOccupiedBy, Has, size_of}
use Rattle.egt_moves.specs.Prelude.{Setup, IsAdmissible, Move, IsLegal, most_moves, HasRoom, room_for_man}
use Rattle.egt_moves.specs.Prelude.{room_for_others, place_of, IsInOrder, goes_on_board}
use Rattle.egt_moves.proofs.ListGrows.{promotion_small}
use Rattle.egt_board.proofs.Bits.{not_both}

-- the legal moves from the squares that are no longer left are listed, and there is room for the others
pub record Walks (p : Setup) (moves : List Move) (rest : SquareSet) : Type 0 where
  pub ordered : IsInOrder moves
  pub legal : (m : Move) → Contains moves m ↔ (IsLegal p m × (bit_at rest.bits m.from ≡ 0))
  pub later : (m : Move) → Contains moves m → (t : ℕ) → Has rest t → m.from < t
  pub held : (t : ℕ) → Has rest t → IsOccupiedBy p.men t p.side
  pub room : HasRoom p (length moves) rest

pub Walks-room : (p : Setup) (moves : List Move) (rest rest' : SquareSet) (s : ℕ) (man : Man) → IsAdmissible p → Has rest s → bit_at rest'.bits s ≡ 0 → ((t : ℕ) → t ≢ s → bit_at rest'.bits t ≡ bit_at rest.bits t)
    → size_of rest' + 1 ≡ size_of rest → Stands p.men s man → Walks p moves rest → length moves + most_moves man.kind ≤ 64
Walks-room p moves rest rest' s man ok has gone others size stands walks = room_for_man p (length moves) rest rest' s man ok has gone others size stands walks.room

-- a legal move from a lesser square comes before all moves from a greater one
pub place-before : (p : Setup) (m : Move) (s : ℕ) → IsLegal p m → m.from < s → place_of m < s * 512
place-before p m s legal less = grind (arith, goes_on_board, promotion_small)

pub Walks-before : (p : Setup) (moves : List Move) (rest : SquareSet) (s : ℕ) → Has rest s → Walks p moves rest → (m : Move) → Contains moves m → place_of m < s * 512
Walks-before p moves rest s has walks m there = place-before p m s ((walks.legal m).0 there).0 (walks.later m there s has)

-- the moves of one man more
pub Walks-more : (p : Setup) (moves moves' : List Move) (rest rest' : SquareSet) (s : ℕ) (man : Man) → IsAdmissible p → Has rest s → ((t : ℕ) → t < s → bit_at rest.bits t ≡ 0) → bit_at rest'.bits s ≡ 0
    → ((t : ℕ) → t ≢ s → bit_at rest'.bits t ≡ bit_at rest.bits t) → size_of rest' + 1 ≡ size_of rest → Stands p.men s man
    → IsInOrder moves' → ((m : Move) → Contains moves' m ↔ (Contains moves m ⊎ ((m.from ≡ s) × IsLegal p m))) → length moves' ≤ length moves + most_moves man.kind
    → Walks p moves rest → Walks p moves' rest'
Walks-more p moves moves' rest rest' s man ok has least gone others size stands ordered legal few walks = record {
  ordered = ordered;
  legal = λ m. (
    λ there. elim ((legal m).0 there) [
      | inl before ↦ let w = (walks.legal m).0 before in (w.0, still m.from w.1)
      | inr w ↦ (w.1, ap (bit_at rest'.bits) w.0 ∙ gone)
    ],
    λ w. (legal m).1 (elim (cases_eq m.from s) [
      | inl e ↦ inr (e, w.0)
      | inr other ↦ inl ((walks.legal m).1 (w.0, sym (others m.from other) ∙ w.1))
    ]),
  );
  later = λ m there t left. elim ((legal m).0 there) [
    | inl before ↦ walks.later m before t (was_left t left)
    | inr w ↦ subst (λ x. x < t) (sym w.0) (above t left)
  ];
  held = λ t left. walks.held t (was_left t left);
  room = room_for_others p (length moves) (length moves') rest rest' s man ok has gone others size stands few walks.room;
}
  where
    still : (t : ℕ) → bit_at rest.bits t ≡ 0 → bit_at rest'.bits t ≡ 0
    still t none = elim (cases_eq t s) [ inl e ↦ ap (bit_at rest'.bits) e ∙ gone | inr other ↦ others t other ∙ none ]

    was_left : (t : ℕ) → Has rest' t → Has rest t
    was_left t one = elim (cases_eq t s) [ inl e ↦ not_both (bit_at rest'.bits s) gone (ap (bit_at rest'.bits) (sym e) ∙ one) | inr other ↦ sym (others t other) ∙ one ]

    above : (t : ℕ) → Has rest' t → s < t
    above t one = grind (arith, cases_lt, cases_eq, not_both)

-- no man is left
pub Walks-all : (p : Setup) (moves : List Move) (rest : SquareSet) → Walks p moves rest → ((t : ℕ) → bit_at rest.bits t ≡ 0) → (m : Move) → Contains moves m ↔ IsLegal p m
Walks-all p moves rest walks none m = (λ there. ((walks.legal m).0 there).0, λ legal. (walks.legal m).1 (legal, none m.from))
