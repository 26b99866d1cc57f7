-- How many moves a man has at most, and that there is room for those of a side.
use Rattle.std.specs.Prelude.{◌≡◌, ◌≢◌, ℕ, ◌+◌, ◌*◌, ◌<◌, ◌≤◌}
use Rattle.std.proofs.Common.{arith, sym, ap, ◌∙◌, inl, inr, subst}
use Rattle.egt_board.specs.Prelude.{cases_eq, bit_at-lt, bit_at, king_of, Stands, one_man, Setup, IsAdmissible}
use Rattle.egt_board.specs.Prelude.{IsKingOn, Has, size_of}
use Rattle.egt_board.specs.declared.man.Kind.{Kind}
use Rattle.egt_board.specs.declared.man.Kind.TheVariants.{Q, R, B, N, P, K}
use Rattle.egt_board.specs.declared.man.Man.{Man}
use Rattle.egt_board.specs.declared.man.Side.{Side}
use Rattle.egt_board.specs.declared.man.Side.TheVariants.{White, Black}
use Rattle.egt_board.specs.declared.square_set.SquareSet.{SquareSet}
use Rattle.egt_board.specs.SquareSet.{size_of-some}

-- the squares that it may go to: a pawn two by an advance and two by a capture, a king eight, any other man those of
-- four lines
abbrev pub most_goals : Kind → ℕ
most_goals Q = 28
most_goals R = 28
most_goals B = 28
most_goals N = 28
most_goals P = 4
most_goals K = 8

-- what it may become on each of them
abbrev pub most_choices : Kind → ℕ
most_choices Q = 1
most_choices R = 1
most_choices B = 1
most_choices N = 1
most_choices P = 4
most_choices K = 1

-- at most so many moves
abbrev pub most_moves : Kind → ℕ
most_moves kind = most_goals kind * most_choices kind

-- beside n of 64 there is room for the moves of the men who are left: 28 for a man, 8 for the king
abbrev pub HasRoom : Setup → ℕ → SquareSet → Type 0
HasRoom p n rest = (k : ℕ) → IsKingOn p.men p.side k → n + 28 * size_of rest ≤ 64 + 20 * bit_at rest.bits k

-- the king of the side to move stands somewhere
pub king_square : (p : Setup) → IsAdmissible p → (k : ℕ) × IsKingOn p.men p.side k
king_square p ok = by_side p.side
  where
    by_side : (side : Side) → (k : ℕ) × IsKingOn p.men side k
    by_side White = (ok.kings.white, ok.kings.white_there)
    by_side Black = (ok.kings.black, ok.kings.black_there)

few_moves : (kind : Kind) → most_moves kind ≤ 28
few_moves Q = omega arith
few_moves R = omega arith
few_moves B = omega arith
few_moves N = omega arith
few_moves P = omega arith
few_moves K = omega arith

king_moves_few : (p : Setup) (man : Man) (k : ℕ) → Stands p.men k man → IsKingOn p.men p.side k → most_moves man.kind ≡ 8
king_moves_few p man k stands king = ap (λ (x : Man). most_moves x.kind) (one_man p.men k man (king_of p.side) stands king.stands)

room_beside : (p : Setup) (n : ℕ) (rest rest' : SquareSet) (s : ℕ) (man : Man) (k : ℕ) → IsAdmissible p → Has rest s → bit_at rest'.bits s ≡ 0 → ((t : ℕ) → t ≢ s → bit_at rest'.bits t ≡ bit_at rest.bits t)
    → size_of rest' + 1 ≡ size_of rest → Stands p.men s man → IsKingOn p.men p.side k → n + 28 * size_of rest ≤ 64 + 20 * bit_at rest.bits k
    → ((n + most_moves man.kind) + 28 * size_of rest' ≤ 64 + 20 * bit_at rest'.bits k) × (n + most_moves man.kind ≤ 64)
room_beside p n rest rest' s man k ok has gone others size stands king room = elim (cases_eq s k) [
  | inl e ↦
      let eight : most_moves man.kind ≡ 8 = king_moves_few p man k (subst (λ x. Stands p.men x man) e stands) king in
      let one : bit_at rest.bits k ≡ 1 = ap (bit_at rest.bits) (sym e) ∙ has in
      let none : bit_at rest'.bits k ≡ 0 = ap (bit_at rest'.bits) (sym e) ∙ gone in
      (omega arith, omega arith)
  | inr other ↦
      let few : most_moves man.kind ≤ 28 = few_moves man.kind in
      let same : bit_at rest'.bits k ≡ bit_at rest.bits k = others k (λ e. other (sym e)) in
      elim (cases_eq (bit_at rest.bits k) 1) [
        | inl one ↦
            let some : 1 ≤ size_of rest' = size_of-some rest' k (ok.on_board k _ king.stands) (same ∙ one) in
            (omega arith, omega arith)
        | inr not_one ↦
            let small : bit_at rest.bits k < 2 = bit_at-lt rest.bits k in
            (omega arith, omega arith)
      ]
]

-- for those of one man who is left
pub room_for_man : (p : Setup) (n : ℕ) (rest rest' : SquareSet) (s : ℕ) (man : Man) → IsAdmissible p → Has rest s → bit_at rest'.bits s ≡ 0 → ((t : ℕ) → t ≢ s → bit_at rest'.bits t ≡ bit_at rest.bits t)
    → size_of rest' + 1 ≡ size_of rest → Stands p.men s man → HasRoom p n rest → n + most_moves man.kind ≤ 64
room_for_man p n rest rest' s man ok has gone others size stands room =
    let k = king_square p ok in
    (room_beside p n rest rest' s man k.0 ok has gone others size stands k.1 (room k.0 k.1)).1

-- and for those of the others beside them
pub room_for_others : (p : Setup) (n n' : ℕ) (rest rest' : SquareSet) (s : ℕ) (man : Man) → IsAdmissible p → Has rest s → bit_at rest'.bits s ≡ 0 → ((t : ℕ) → t ≢ s → bit_at rest'.bits t ≡ bit_at rest.bits t)
    → size_of rest' + 1 ≡ size_of rest → Stands p.men s man → n' ≤ n + most_moves man.kind → HasRoom p n rest → HasRoom p n' rest'
room_for_others p n n' rest rest' s man ok has gone others size stands few room k king =
    let all = (room_beside p n rest rest' s man k ok has gone others size stands king (room k king)).0 in omega arith
