-- The list of moves as it grows.
use Rattle.std.proofs.Common.{◌≡◌, ◌≢◌, ℕ, ◌+◌, ◌*◌, ◌<◌, ◌≤◌, ◌↔◌, ◌⊎◌, List, length, Option, Some}
use Rattle.std.proofs.Common.{None, arith, refl, sym, ap, ◌∙◌, inl, inr, subst}
use Rattle.egt_moves.specs.Prelude.{bit_at, Contains, cases_eq, cases_lt, Kind, P, K, Man}
use Rattle.egt_moves.specs.Prelude.{SquareSet, Stands, Has, size_of, IsInCheck, Setup, Move, Goes, promotes}
use Rattle.egt_moves.specs.Prelude.{FitsPromotion, IsLegal, men_after, after, plain, IsSafeGoal, most_goals}
use Rattle.egt_moves.specs.Prelude.{most_choices, most_moves, place_of, promotion_place, IsInOrder, one_man}
use Rattle.egt_moves.proofs.MenAfter.{not_king_of, may_become, check_whatever}
use Rattle.egt_board.proofs.Bits.{not_both}

-- the legal moves of a man go to its targets, promote as they must, and leave the king safe
pub legal_of : (p : Setup) (man : Man) (m : Move) → Stands p.men m.from man → man.side ≡ p.side → Goes p man m.from m.to → FitsPromotion (promotes man m.to) m.promo → ¬ IsInCheck (men_after p man m) p.side → IsLegal p m
legal_of p man m stands mine goes fits safe = (after p man m, record { man = man; stands = stands; mine = mine; goes = goes; promotion = fits; becomes = refl; safe = safe })

pub goes_of : (p : Setup) (man : Man) (m : Move) → Stands p.men m.from man → IsLegal p m → Goes p man m.from m.to
goes_of p man m stands legal = subst (λ x. Goes p x m.from m.to) (one_man p.men m.from legal.1.man man legal.1.stands stands) legal.1.goes

pub fits_of : (p : Setup) (man : Man) (m : Move) → Stands p.men m.from man → IsLegal p m → FitsPromotion (promotes man m.to) m.promo
fits_of p man m stands legal = subst (λ x. FitsPromotion (promotes x m.to) m.promo) (one_man p.men m.from legal.1.man man legal.1.stands stands) legal.1.promotion

pub safe_of : (p : Setup) (man : Man) (m : Move) → Stands p.men m.from man → IsLegal p m → ¬ IsInCheck (men_after p man m) p.side
safe_of p man m stands legal = grind (arith, men_after, one_man)

-- a man that is promoted is a pawn
promoted_pawn : (man : Man) (to : ℕ) (kind : Kind) → FitsPromotion (promotes man to) (Some kind) → man.kind ≡ P
promoted_pawn man to kind fits = grind (arith, promotes)

-- the king is safe whatever a pawn becomes
pub same_safety : (p : Setup) (man : Man) (from to : ℕ) (promo : Option Kind) → man.side ≡ p.side → FitsPromotion (promotes man to) promo
    → IsInCheck (men_after p man (record { from = from; to = to; promo = promo })) p.side ↔ IsInCheck (men_after p man (plain from to)) p.side
same_safety p man from to None mine fits = (λ check. check, λ check. check)
same_safety p man from to (Some kind) mine fits =
    let pawn = promoted_pawn man to kind fits in
    let not_king : man.kind ≢ K = (λ e. let bad = sym pawn ∙ e in cc) in
    let never = not_king_of man (Some kind) p.side (may_become _ (Some kind) fits) not_king in
    let nor = not_king_of man None p.side tt not_king in
    (check_whatever p man from to (Some kind) None mine never nor, check_whatever p man from to None (Some kind) mine nor never)

-- a number below the next square's
pub promotion_small : (promo : Option Kind) → promotion_place promo < 8
promotion_small promo = grind arith

-- the legal moves from this square to the squares that are no longer left have been added
pub record Lists (p : Setup) (man : Man) (from : ℕ) (old new : List Move) (left : SquareSet) : Type 0 where
  pub ordered : IsInOrder new
  pub legal : (m : Move) → Contains new m ↔ (Contains old m ⊎ ((m.from ≡ from) × IsLegal p m × (bit_at left.bits m.to ≡ 0)))
  pub later : (m : Move) → Contains new m → (place_of m < from * 512) ⊎ ((m.from ≡ from) × ((t : ℕ) → bit_at left.bits t ≡ 1 → m.to < t))
  pub safe : (t : ℕ) → bit_at left.bits t ≡ 1 → IsSafeGoal p man from t
  pub room : length new + most_choices man.kind * size_of left ≤ length old + most_moves man.kind

-- at first nothing has been added
pub Lists-none : (p : Setup) (man : Man) (from : ℕ) (old : List Move) (left : SquareSet) → Stands p.men from man → IsInOrder old → ((m : Move) → Contains old m → place_of m < from * 512)
    → man.side ≡ p.side → ((t : ℕ) → Has left t ↔ IsSafeGoal p man from t) → size_of left ≤ most_goals man.kind → Lists p man from old old left
Lists-none p man from old left stands ordered before mine safe few = record {
  ordered = ordered;
  legal = λ m. (λ there. inl there, λ h. elim h [ inl there ↦ there | inr w ↦ absurd (not_left m w) ]);
  later = λ m there. inl (before m there);
  safe = λ t has. (safe t).0 has;
  room = room_first man.kind (size_of left) (length old) few;
}
  where
    not_left : (m : Move) → (m.from ≡ from) × IsLegal p m × (bit_at left.bits m.to ≡ 0) → ⊥
    not_left m w =
        let stands_there = subst (λ s. Stands p.men s man) (sym w.0) stands in
        let goes_there = goes_of p man m stands_there w.1 in
        let fits = fits_of p man m stands_there w.1 in
        let safe_there : ¬ IsInCheck (men_after p man (plain m.from m.to)) p.side = λ check. safe_of p man m stands_there w.1 ((same_safety p man m.from m.to m.promo mine fits).1 check) in
        not_both (bit_at left.bits m.to) w.2 ((safe m.to).1 (subst (λ s. IsSafeGoal p man s m.to) w.0 (goes_there, safe_there)))

    room_first : (kind : Kind) (n l : ℕ) → n ≤ most_goals kind → l + most_choices kind * n ≤ l + most_moves kind
    room_first kind n l le = grind arith

-- the first square that is left, whether its moves are legal or not
pub record Added (p : Setup) (man : Man) (from s : ℕ) (old new : List Move) : Type 0 where
  pub more : (m : Move) → Contains new m ↔ (Contains old m ⊎ ((m.from ≡ from) × (m.to ≡ s) × IsLegal p m))
  pub ordered : IsInOrder new
  pub few : length new ≤ length old + most_choices man.kind

-- the moves to that square are legal where the king is safe
pub Added-all : (p : Setup) (man : Man) (from s : ℕ) (old new : List Move) → Stands p.men from man → man.side ≡ p.side → Goes p man from s → ¬ IsInCheck (men_after p man (plain from s)) p.side
    → ((m : Move) → Contains new m ↔ (Contains old m ⊎ ((m.from ≡ from) × (m.to ≡ s) × FitsPromotion (promotes man s) m.promo))) → IsInOrder new → length new ≤ length old + most_choices man.kind → Added p man from s old new
Added-all p man from s old new stands mine goes safe choices ordered few = record {
  more = λ m. (
    λ there. elim ((choices m).0 there) [ inl o ↦ inl o | inr w ↦ inr (w.0, w.1, legal m w.0 w.1 w.2) ],
    λ h. (choices m).1 (elim h [
      | inl o ↦ inl o
      | inr w ↦ inr (w.0, w.1, subst (λ t. FitsPromotion (promotes man t) m.promo) w.1 (fits_of p man m (subst (λ x. Stands p.men x man) (sym w.0) stands) w.2))
    ]),
  );
  ordered = ordered;
  few = few;
}
  where
    legal : (m : Move) → m.from ≡ from → m.to ≡ s → FitsPromotion (promotes man s) m.promo → IsLegal p m
    legal m e f fits = subst (IsLegal p) (λ i. record { from = sym e i; to = sym f i; promo = m.promo })
        (legal_of p man (record { from = from; to = s; promo = m.promo }) stands mine goes fits (λ check. safe ((same_safety p man from s m.promo mine fits).0 check)))

-- one square less is left
pub Lists-more : (p : Setup) (man : Man) (from s : ℕ) (old now new : List Move) (left left' : SquareSet) → Stands p.men from man → s < 64 → Has left s → ((t : ℕ) → t < s → bit_at left.bits t ≡ 0)
    → bit_at left'.bits s ≡ 0 → ((t : ℕ) → t ≢ s → bit_at left'.bits t ≡ bit_at left.bits t) → size_of left' + 1 ≡ size_of left
    → Added p man from s now new → Lists p man from old now left → Lists p man from old new left'
Lists-more p man from s old now new left left' stands s_in has least gone others size added lists = record {
  ordered = added.ordered;
  legal = λ m. (there m, back m);
  later = λ m there. elim ((added.more m).0 there) [
    | inl before ↦ elim (lists.later m before) [ inl lt ↦ inl lt | inr h ↦ inr (h.0, λ t one. h.1 t (was_left t one)) ]
    | inr w ↦ inr (w.0, λ t one. subst (λ x. x < t) (sym w.1) (above t one))
  ];
  safe = λ t one. lists.safe t (was_left t one);
  room = room_less man.kind (size_of left') (size_of left) _ _ _ size added.few lists.room;
}
  where
    was_left : (t : ℕ) → bit_at left'.bits t ≡ 1 → bit_at left.bits t ≡ 1
    was_left t one = elim (cases_eq t s) [ inl e ↦ absurd (not_both (bit_at left'.bits s) gone (ap (bit_at left'.bits) (sym e) ∙ one)) | inr other ↦ sym (others t other) ∙ one ]

    above : (t : ℕ) → bit_at left'.bits t ≡ 1 → s < t
    above t one = grind (arith, cases_lt, cases_eq, not_both)

    room_less : (kind : Kind) (n' n l l' o : ℕ) → n' + 1 ≡ n → l' ≤ l + most_choices kind → l + most_choices kind * n ≤ o + most_moves kind → l' + most_choices kind * n' ≤ o + most_moves kind
    room_less kind n' n l l' o e a b = grind arith

    there : (m : Move) → Contains new m → Contains old m ⊎ ((m.from ≡ from) × IsLegal p m × (bit_at left'.bits m.to ≡ 0))
    there m h = elim ((added.more m).0 h) [
      | inl before ↦ elim ((lists.legal m).0 before) [
        | inl o ↦ inl o
        | inr w ↦ inr (w.0, w.1, still m.to w.2)
      ]
      | inr w ↦ inr (w.0, w.2, ap (bit_at left'.bits) w.1 ∙ gone)
    ]
      where
        still : (t : ℕ) → bit_at left.bits t ≡ 0 → bit_at left'.bits t ≡ 0
        still t none = elim (cases_eq t s) [ inl e ↦ ap (bit_at left'.bits) e ∙ gone | inr other ↦ others t other ∙ none ]

    back : (m : Move) → Contains old m ⊎ ((m.from ≡ from) × IsLegal p m × (bit_at left'.bits m.to ≡ 0)) → Contains new m
    back m h = elim h [
      | inl o ↦ (added.more m).1 (inl ((lists.legal m).1 (inl o)))
      | inr w ↦ elim (cases_eq m.to s) [
        | inl e ↦ (added.more m).1 (inr (w.0, e, w.1))
        | inr other ↦ (added.more m).1 (inl ((lists.legal m).1 (inr (w.0, w.1, sym (others m.to other) ∙ w.2))))
      ]
    ]

-- what is listed comes before the moves to the first square that is left
pub Lists-before : (p : Setup) (man : Man) (from s : ℕ) (old now : List Move) (left : SquareSet) → Has left s → Lists p man from old now left → (m : Move) → Contains now m → place_of m < (from * 64 + s) * 8
Lists-before p man from s old now left has lists m there = grind (arith, promotion_small)

-- there is room for its moves
pub Lists-room : (p : Setup) (man : Man) (from : ℕ) (old now : List Move) (left left' : SquareSet) → size_of left' + 1 ≡ size_of left → length old + most_moves man.kind ≤ 64 → Lists p man from old now left → length now + most_choices man.kind ≤ 64
Lists-room p man from old now left left' size room lists = grind (arith, size_of, length, most_moves)

-- no square is left
pub Lists-all : (p : Setup) (man : Man) (from : ℕ) (old new : List Move) (left : SquareSet) → Lists p man from old new left → ((t : ℕ) → bit_at left.bits t ≡ 0)
    → (m : Move) → Contains new m ↔ (Contains old m ⊎ ((m.from ≡ from) × IsLegal p m))
Lists-all p man from old new left lists none m = (
  λ there. elim ((lists.legal m).0 there) [ inl o ↦ inl o | inr w ↦ inr (w.0, w.1) ],
  λ h. (lists.legal m).1 (elim h [ inl o ↦ inl o | inr w ↦ inr (w.0, w.1, none m.to) ]),
)
