-- The unmoves of all men of the side that waits, and room for them: two a goal, of which a man has 28 and the king 8.
use Rattle.std.proofs.Common.{◌≡◌, ◌≢◌, ℕ, ◌+◌, ◌*◌, ◌<◌, ◌≤◌, ◌↔◌, List, [], length, arith, refl, sym, ap, ◌∙◌, inl}
use Rattle.std.proofs.Common.{inr, subst}
use Rattle.egt_unmoves.specs.Prelude.{bit_at, cases_eq, bit_at-lt, Side, White, Black, Kind}
use Rattle.egt_unmoves.specs.Prelude.{Man, SquareSet, other_side, king_of, Stands, IsOccupiedBy, one_man, Has, size_of}
use Rattle.egt_unmoves.specs.Prelude.{size_of-some, Setup, IsAdmissible, IsKingOn, most_goals, Unmove, ListsBelow}
use Rattle.egt_unmoves.proofs.Came.{came}
use Rattle.egt_unmoves.proofs.UnmoveList.{squares_within, target_place_small, ListsBelow-none, ListsBelow-skip}
use Rattle.egt_board.proofs.Bits.{not_both}

-- that side's king stands somewhere
king_square : (p : Setup) (side : Side) → IsAdmissible p → (k : ℕ) × IsKingOn p.men side k
king_square p White ok = (ok.kings.white, ok.kings.white_there)
king_square p Black ok = (ok.kings.black, ok.kings.black_there)

-- the unmoves of the men on squares before `next` are listed, and the other men are left
pub record ListsMen (q : Setup) (now : List Unmove) (left : SquareSet) : Type 0 where
  pub next : ℕ
  pub within : next ≤ 64
  pub listed : ListsBelow q (next * 128) now
  pub left_is : (t : ℕ) → Has left t ↔ (IsOccupiedBy q.men t (other_side q.side) × (next ≤ t))
  pub room : (k : ℕ) → IsKingOn q.men (other_side q.side) k → length now + 56 * size_of left ≤ 128 + 40 * bit_at left.bits k

pub ListsMen-none : (q : Setup) (left : SquareSet) → ((t : ℕ) → Has left t ↔ IsOccupiedBy q.men t (other_side q.side)) → size_of left ≤ 3 → ListsMen q [] left
ListsMen-none q left held few = record {
  next = 0;
  within = omega arith;
  listed = ListsBelow-none q;
  left_is = λ t. (λ h. ((held t).0 h, omega arith), λ h. (held t).1 h.0);
  room = λ k king.
      let one : bit_at left.bits k ≡ 1 = (held k).1 (record { man = king_of (other_side q.side); stands = king.stands; theirs = refl }) in
      rw one (omega arith);
}

few_goals : (kind : Kind) → most_goals kind ≤ 28
few_goals kind = grind arith

room_for : (q : Setup) (now : List Unmove) (left left' : SquareSet) (s : ℕ) (man : Man) (k : ℕ) → IsAdmissible q → Has left s → bit_at left'.bits s ≡ 0 → ((t : ℕ) → t ≢ s → bit_at left'.bits t ≡ bit_at left.bits t)
    → size_of left' + 1 ≡ size_of left → Stands q.men s man → IsKingOn q.men (other_side q.side) k → length now + 56 * size_of left ≤ 128 + 40 * bit_at left.bits k
    → ((length now + 2 * most_goals man.kind) + 56 * size_of left' ≤ 128 + 40 * bit_at left'.bits k) × (length now + 2 * most_goals man.kind ≤ 128)
room_for q now left left' s man k ok has gone others size stands king room = elim (cases_eq s k) [
  | inl e ↦
      let eight : most_goals man.kind ≡ 8 = ap (λ (x : Man). most_goals x.kind) (one_man q.men k man (king_of (other_side q.side)) (subst (λ x. Stands q.men x man) e stands) king.stands) in
      let one : bit_at left.bits k ≡ 1 = ap (bit_at left.bits) (sym e) ∙ has in
      let none : bit_at left'.bits k ≡ 0 = ap (bit_at left'.bits) (sym e) ∙ gone in
      (omega arith, omega arith)
  | inr other ↦
      let few : most_goals man.kind ≤ 28 = few_goals man.kind in
      let same : bit_at left'.bits k ≡ bit_at left.bits k = others k (λ e. other (sym e)) in
      elim (cases_eq (bit_at left.bits k) 1) [
        | inl one ↦
            let some : 1 ≤ size_of left' = size_of-some left' k (ok.on_board k _ king.stands) (same ∙ one) in
            (omega arith, omega arith)
        | inr not_one ↦
            let small : bit_at left.bits k < 2 = bit_at-lt left.bits k in
            (omega arith, omega arith)
      ]
]

pub ListsMen-room : (q : Setup) (now : List Unmove) (left left' : SquareSet) (s : ℕ) (man : Man) → IsAdmissible q → Has left s → bit_at left'.bits s ≡ 0 → ((t : ℕ) → t ≢ s → bit_at left'.bits t ≡ bit_at left.bits t)
    → size_of left' + 1 ≡ size_of left → Stands q.men s man → ListsMen q now left → length now + 2 * most_goals man.kind ≤ 128
ListsMen-room q now left left' s man ok has gone others size stands l = grind (arith, king_square, other_side, room_for)

-- no man that has moved stands on a square between
skipped : (q : Setup) (now : List Unmove) (left : SquareSet) (n : ℕ) → n ≤ 64 → (l : ListsMen q now left) → l.next ≤ n → ((t : ℕ) → t < n → bit_at left.bits t ≡ 0) → ListsBelow q (n * 128) now
skipped q now left n n_in l le least = ListsBelow-skip q _ _ now (omega arith) l.listed (λ w m takes low high.
    let within = squares_within w.before m q takes.comes in
    let m_in = within.0 in
    let few = target_place_small w.before.target in
    let to_low : l.next ≤ m.to = omega arith in
    let to_high : m.to < n = omega arith in
    let x = came w.before m q takes.comes in
    not_both (bit_at left.bits m.to) (least m.to to_high) ((l.left_is m.to).1 (record { man = x.man; stands = x.stands; theirs = x.mine ∙ x.side }, to_low)))

pub ListsMen-before : (q : Setup) (now : List Unmove) (left : SquareSet) (s : ℕ) → s < 64 → Has left s → ((t : ℕ) → t < s → bit_at left.bits t ≡ 0) → ListsMen q now left → ListsBelow q (s * 128) now
ListsMen-before q now left s s_in has least l = skipped q now left s (omega arith) l ((l.left_is s).0 has).1 least

-- one man less is left
pub ListsMen-more : (q : Setup) (now new : List Unmove) (left left' : SquareSet) (s : ℕ) (man : Man) → IsAdmissible q → s < 64 → Has left s → ((t : ℕ) → t < s → bit_at left.bits t ≡ 0) → bit_at left'.bits s ≡ 0
    → ((t : ℕ) → t ≢ s → bit_at left'.bits t ≡ bit_at left.bits t) → size_of left' + 1 ≡ size_of left → Stands q.men s man → ListsBelow q ((s + 1) * 128) new → length new ≤ length now + 2 * most_goals man.kind
    → ListsMen q now left → ListsMen q new left'
ListsMen-more q now new left left' s man ok s_in has least gone others size stands lists few l = record {
  next = s + 1;
  within = omega arith;
  listed = lists;
  left_is = λ t. (there t, back t);
  room = λ k king. let all = (room_for q now left left' s man k ok has gone others size stands king (l.room k king)).0 in omega arith;
}
  where
    there : (t : ℕ) → Has left' t → IsOccupiedBy q.men t (other_side q.side) × (s + 1 ≤ t)
    there t h = grind (arith, cases_eq, not_both, bit_at)

    back : (t : ℕ) → IsOccupiedBy q.men t (other_side q.side) × (s + 1 ≤ t) → Has left' t
    back t h = grind arith

-- no man is left
pub ListsMen-all : (q : Setup) (now : List Unmove) (left : SquareSet) → ListsMen q now left → ((t : ℕ) → bit_at left.bits t ≡ 0) → ListsBelow q (64 * 128) now
ListsMen-all q now left l none = skipped q now left 64 (omega arith) l l.within (λ t _. none t)
