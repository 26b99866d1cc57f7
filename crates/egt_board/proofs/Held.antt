-- Whose men stand on the squares of a set.
use Rattle.std.proofs.Common.{◌≡◌, ℕ, ◌<◌, ◌↔◌, true, false, cond, eqb, List, [], ◌∷◌, Option, Some, None, arith, refl}
use Rattle.std.proofs.Common.{sym, ap, ◌∙◌, max, inl, inr}
use Rattle.egt_board.specs.Prelude.{nat_cmp, unsigned_tied, cases_eq, eqb_tells, Side, Man, Placement, Stands, IsFree}
use Rattle.egt_board.specs.Prelude.{IsOccupiedBy, Slot, listed, marks, takes, is_side, InOrder, AreOnBoard, AreKept}
use Rattle.egt_board.specs.Prelude.{find-below, first_half, second_half}
use Rattle.std.specs.FinMap as map
use Rattle.egt_board.proofs.Placed.{find-later}
use Rattle.egt_board.proofs.Slots.{AreShown, listed-shown}

is_side-same : (a b : Side) → (is_side a b ≡ 1) ↔ (b ≡ a)
is_side-same a b = grind arith

-- 1 where a man of this side is there
bit_of : Side → Option Man → ℕ
bit_of side None = 0
bit_of side (Some man) = is_side side man.side

-- a bit that is 1 where a man of the side stands
bit_of-IsOccupiedBy : (men : Placement) (t : ℕ) (side : Side) (slot : Option Man) (b : ℕ) → map.get men t ≡ slot → b ≡ bit_of side slot → (b ≡ 1) ↔ IsOccupiedBy men t side
unfolding bit_of
bit_of-IsOccupiedBy men t side slot b is e = grind (arith, is_side-same)

marked : Side → List Slot → ℕ → ℕ
marked side [] t = 0
marked side (x ∷ xs) t = max (marks side x t) (marked side xs t)

-- the slots mark the squares of the side's men
marked-found : (side : Side) (xs : List Slot) (t : ℕ) → InOrder (listed xs) → marked side xs t ≡ bit_of side (map.find nat_cmp t (listed xs))
unfolding marked bit_of
marked-found side [] t sorted = refl
marked-found side (None ∷ xs) t sorted = let h = marked-found side xs t sorted in plain _ ∙ h
  where
    plain : (n : ℕ) → max 0 n ≡ n
    plain n = omega arith
marked-found side (Some e ∷ xs) t sorted =
    elim (eqb t e.0) as (λ b. eqb t e.0 ≡ b → max (cond b (is_side side e.1.side) 0) (marked side xs t) ≡ bit_of side (cond b (Some e.1) (map.find nat_cmp t (listed xs)))) [
      | true ↦ λ h.
          let none : marked side xs t ≡ 0 = marked-found side xs t (second_half _ _ sorted) ∙ ap (bit_of side) (ap (λ q. map.find nat_cmp q (listed xs)) (same h) ∙ find-below e.0 (listed xs) (first_half _ _ sorted)) in
          omega arith
      | false ↦ λ h. let rest = marked-found side xs t (second_half _ _ sorted) in plain _ ∙ rest
    ] refl
    ∙ ap (λ b. bit_of side (cond b (Some e.1) (map.find nat_cmp t (listed xs)))) (sym (unsigned_tied t e.0))
  where
    plain : (n : ℕ) → max 0 n ≡ n
    plain n = omega arith

    same : eqb t e.0 ≡ true → t ≡ e.0
    same h = elim (eqb_tells t e.0) [ inl here ↦ here.1 | inr apart ↦ let bad : false ≡ true = sym apart.0 ∙ h in absurd (cc) ]

four : (p q r s : ℕ) → max (max p q) (max r s) ≡ max p (max q (max r (max s 0)))
four p q r s = omega arith

-- the squares that the four slots mark are those on which the side's men stand
pub marked-IsOccupiedBy : (side : Side) (a b c d : Slot) (men : Placement) (t n : ℕ) → AreKept (a ∷ b ∷ c ∷ d ∷ []) → AreShown (a ∷ b ∷ c ∷ d ∷ []) men
    → n ≡ max (max (marks side a t) (marks side b t)) (max (marks side c t) (marks side d t)) → (n ≡ 1) ↔ IsOccupiedBy men t side
unfolding marked
marked-IsOccupiedBy side a b c d men t n kept shown is =
    bit_of-IsOccupiedBy men t side (map.find nat_cmp t (map.entries men)) n (map.get-entries men t)
    (is ∙ four (marks side a t) (marks side b t) (marks side c t) (marks side d t) ∙ marked-found side (a ∷ b ∷ c ∷ d ∷ []) t kept.in_order
    ∙ ap (λ es. bit_of side (map.find nat_cmp t es)) (listed-shown (a ∷ b ∷ c ∷ d ∷ []) men shown))

-- 1 where a man is there
bit_if : Option Man → ℕ
bit_if None = 0
bit_if (Some man) = 1

taken : List Slot → ℕ → ℕ
taken [] t = 0
taken (x ∷ xs) t = max (takes x t) (taken xs t)

bit_if-small : (o : Option Man) → bit_if o < 2
unfolding bit_if
bit_if-small o = grind arith

-- the slots take the squares on which men stand
taken-found : (xs : List Slot) (t : ℕ) → taken xs t ≡ bit_if (map.find nat_cmp t (listed xs))
unfolding taken bit_if
taken-found [] t = refl
taken-found (None ∷ xs) t = plain _ ∙ taken-found xs t
  where
    plain : (n : ℕ) → max 0 n ≡ n
    plain n = omega arith
taken-found (Some e ∷ xs) t =
    elim (eqb t e.0) as (λ b. max (cond b 1 0) (taken xs t) ≡ bit_if (cond b (Some e.1) (map.find nat_cmp t (listed xs)))) [
      | true ↦ (let rest = taken-found xs t in let small = bit_if-small (map.find nat_cmp t (listed xs)) in omega arith)
      | false ↦ (let rest = taken-found xs t in plain _ ∙ rest)
    ]
    ∙ ap (λ b. bit_if (cond b (Some e.1) (map.find nat_cmp t (listed xs)))) (sym (unsigned_tied t e.0))
  where
    plain : (n : ℕ) → max 0 n ≡ n
    plain n = omega arith

-- the squares that the four slots take are those on which men stand
pub taken-free : (a b c d : Slot) (men : Placement) (t n : ℕ) → AreShown (a ∷ b ∷ c ∷ d ∷ []) men → n ≡ max (max (takes a t) (takes b t)) (max (takes c t) (takes d t)) → (n ≡ 0) ↔ IsFree men t
unfolding taken bit_if
taken-free a b c d men t n shown is =
    let same : n ≡ bit_if (map.get men t) = is ∙ four (takes a t) (takes b t) (takes c t) (takes d t) ∙ taken-found (a ∷ b ∷ c ∷ d ∷ []) t
    ∙ ap (λ es. bit_if (map.find nat_cmp t es)) (listed-shown (a ∷ b ∷ c ∷ d ∷ []) men shown) ∙ ap bit_if (sym (map.get-entries men t)) in
    go (map.get men t) refl same
  where
    go : (o : Option Man) → map.get men t ≡ o → n ≡ bit_if o → (n ≡ 0) ↔ IsFree men t
    go o e none = grind arith

found-within : (es : List (ℕ × Man)) (s : ℕ) (man : Man) → AreOnBoard es → map.find nat_cmp s es ≡ Some man → s < 64
found-within [] s man on found = let bad : None ≡ Some man = found in absurd (cc)
found-within (e ∷ es) s man on found = elim (cases_eq s e.0) [
  | inl same ↦ let less = on.0 in omega arith
  | inr other ↦ found-within es s man on.1 (sym (find-later s e.0 e.1 es other) ∙ found)
]

-- where a man stands there is a square
pub stands-within : (xs : List Slot) (men : Placement) (s : ℕ) (man : Man) → AreShown xs men → Stands men s man → s < 64
stands-within xs men s man shown stands = found-within (map.entries men) s man shown.on_board (sym (map.get-entries men s) ∙ stands)
