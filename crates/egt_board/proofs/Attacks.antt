-- Attacks by the men of a board's slots.
use Rattle.std.proofs.Common.{arith, ◌≡◌, ◌≢◌, ◌↔◌, ◌⊎◌, ℕ, List, [], ◌∷◌, Some, None, refl, sym, ap, ◌∙◌, subst, inl, inr}
use Rattle.egt_board.specs.Prelude.{bit_at, Side, Man, Stands, IsFree, Slot, listed, placed, InOrder, AreKept, Inside}
use Rattle.egt_board.specs.Prelude.{nat_cmp, cases_eq, Reaches, slots_of, find-below, first_half, IsAttacked, IsSeenAs}
use Rattle.egt_board.specs.Prelude.{Placement, get-remove_same, get-remove_other, Reaches-free, second_half, AttacksFrom}
use Rattle.std.specs.FinMap as map
use Rattle.egt_board.proofs.Placed.{find-here, find-later}
use Rattle.egt_board.proofs.Slots.{shown, listed-shown}

-- one of the slots' men attacks the square
AnyAttacks : (ℕ → Type 0) → Side → ℕ → List Slot → Type 0
AnyAttacks Free side t [] = ⊥
AnyAttacks Free side t (x ∷ xs) = AttacksFrom Free side t x ⊎ AnyAttacks Free side t xs

-- a man found among these attacks the square
FoundAttacks : (ℕ → Type 0) → Side → ℕ → List (ℕ × Man) → Type 0
FoundAttacks Free side t es = (s : ℕ) × (man : Man) × (map.find nat_cmp s es ≡ Some man) × (man.side ≡ side) × Reaches Free man s t

found_later : (Free : ℕ → Type 0) (side : Side) (t : ℕ) (e : ℕ × Man) (es : List (ℕ × Man)) → InOrder (e ∷ es) → FoundAttacks Free side t es → FoundAttacks Free side t (e ∷ es)
unfolding FoundAttacks
found_later Free side t e es sorted h = elim (cases_eq h.0 e.0) [
  | inl same ↦
      let none : map.find nat_cmp h.0 es ≡ None = ap (λ q. map.find nat_cmp q es) same ∙ find-below e.0 es (first_half _ _ sorted) in
      let bad : None ≡ Some h.1 = sym none ∙ h.2 in absurd (cc)
  | inr other ↦ (h.0, h.1, find-later h.0 e.0 e.1 es other ∙ h.2, h.3, h.4)
]

slots_found : (Free : ℕ → Type 0) (side : Side) (t : ℕ) (xs : List Slot) → InOrder (listed xs) → AnyAttacks Free side t xs → FoundAttacks Free side t (listed xs)
unfolding AnyAttacks FoundAttacks
slots_found Free side t [] sorted none = absurd none
slots_found Free side t (None ∷ xs) sorted some = elim some [ inl none ↦ absurd none | inr rest ↦ slots_found Free side t xs sorted rest ]
slots_found Free side t (Some e ∷ xs) sorted some = elim some [
  | inl here ↦ (e.0, e.1, find-here e.0 e.0 e.1 (listed xs) refl, here.0, here.1)
  | inr rest ↦ found_later Free side t e (listed xs) sorted (slots_found Free side t xs (second_half _ _ sorted) rest)
]

found_slots : (Free : ℕ → Type 0) (side : Side) (t : ℕ) (xs : List Slot) → FoundAttacks Free side t (listed xs) → AnyAttacks Free side t xs
unfolding AnyAttacks FoundAttacks
found_slots Free side t [] h = let bad : None ≡ Some h.1 = h.2 in absurd (cc)
found_slots Free side t (None ∷ xs) h = inr (found_slots Free side t xs h)
found_slots Free side t (Some e ∷ xs) h = elim (cases_eq h.0 e.0) [
  | inl same ↦
      let both : Some e.1 ≡ Some h.1 = sym (find-here h.0 e.0 e.1 (listed xs) same) ∙ h.2 in
      let man : e.1 ≡ h.1 = cc in
      inl (ap (λ (m : Man). m.side) man ∙ h.3, subst (λ (m : Man). Reaches Free m e.0 t) (sym man) (subst (λ s. Reaches Free h.1 s t) same h.4))
  | inr other ↦ inr (found_slots Free side t xs (h.0, h.1, sym (find-later h.0 e.0 e.1 (listed xs) other) ∙ h.2, h.3, h.4))
]

-- one of the board's four men attacks the square exactly where a man of that side does among the men as which the board is seen
pub attacked_as : (a : Inside) (board men : Placement) (occupied : ℕ) (side : Side) (t : ℕ) → AreKept (slots_of a) → placed (slots_of a) ≡ board → IsSeenAs board side occupied men
    → (AttacksFrom (λ u. bit_at occupied u ≡ 0) side t a.first ⊎ (AttacksFrom (λ u. bit_at occupied u ≡ 0) side t a.second ⊎ (AttacksFrom (λ u. bit_at occupied u ≡ 0) side t a.third ⊎ AttacksFrom (λ u. bit_at occupied u ≡ 0) side t a.fourth)))
    ↔ IsAttacked men t side
unfolding AnyAttacks FoundAttacks
attacked_as a board men occupied side t kept is seen =
    let Free : ℕ → Type 0 = λ u. bit_at occupied u ≡ 0 in
    let xs = slots_of a in
    let same = listed-shown xs board (shown xs board kept is) in (
      λ some.
          let h = slots_found Free side t xs kept.in_order (elim some [ inl p ↦ inl p | inr r ↦ inr (elim r [ inl p ↦ inl p | inr q ↦ inr (elim q [ inl p ↦ inl p | inr o ↦ inr (inl o) ]) ]) ]) in
          let stands : Stands board h.0 h.1 = map.get-entries board h.0 ∙ ap (map.find nat_cmp h.0) (sym same) ∙ h.2 in
          record { from = h.0; man = h.1; stands = (seen.stand h.0 h.1 h.3).1 stands; theirs = h.3; reaches = Reaches-free Free (IsFree men) h.1 h.0 t (λ u u_in. (seen.free u).0) h.4 },
      λ attacked.
          let some = found_slots Free side t xs (
            attacked.from,
            attacked.man,
            ap (map.find nat_cmp attacked.from) same ∙ sym (map.get-entries board attacked.from) ∙ (seen.stand attacked.from attacked.man attacked.theirs).0 attacked.stands,
            attacked.theirs,
            Reaches-free (IsFree men) Free attacked.man attacked.from t (λ u u_in. (seen.free u).1) attacked.reaches,
          ) in
          elim some [ inl p ↦ inl p | inr r ↦ inr (elim r [ inl p ↦ inl p | inr q ↦ inr (elim q [ inl p ↦ inl p | inr o ↦ inr (elim o [ inl p ↦ p | inr none ↦ absurd none ]) ]) ]) ],
    )

-- the squares that are free once the man on one of them is taken off
pub free_without : (board : Placement) (all left lifted : ℕ) → ((u : ℕ) → (bit_at all u ≡ 0) ↔ IsFree board u) → bit_at left lifted ≡ 0 → ((u : ℕ) → u ≢ lifted → bit_at left u ≡ bit_at all u)
    → (u : ℕ) → (bit_at left u ≡ 0) ↔ IsFree (map.remove board lifted) u
free_without board all left lifted free gone others u = grind (arith, cases_eq, get-remove_same, get-remove_other)

-- a board is seen as it is
pub seen_itself : (board : Placement) (side : Side) (occupied : ℕ) → ((u : ℕ) → (bit_at occupied u ≡ 0) ↔ IsFree board u) → IsSeenAs board side occupied board
seen_itself board side occupied free = record { stand = λ s man own. (λ h. h, λ h. h); free = free }

-- and, where none of that side's men stands on the square, as it is without the man there
pub seen_without : (board : Placement) (side : Side) (all left lifted : ℕ) → ((man : Man) → Stands board lifted man → man.side ≢ side) → ((u : ℕ) → (bit_at all u ≡ 0) ↔ IsFree board u) →
    bit_at left lifted ≡ 0 → ((u : ℕ) → u ≢ lifted → bit_at left u ≡ bit_at all u) → IsSeenAs board side left (map.remove board lifted)
seen_without board side all left lifted foreign free gone others = record { stand = stand; free = free_without board all left lifted free gone others }
  where
    stand : (s : ℕ) (man : Man) → man.side ≡ side → Stands (map.remove board lifted) s man ↔ Stands board s man
    stand s man own = grind (arith, cases_eq, get-remove_same, get-remove_other)

-- one of the board's four men attacks the square exactly where a man of that side does
pub attacked_by : (a : Inside) (men : Placement) (occupied : ℕ) (side : Side) (t : ℕ) → AreKept (slots_of a) → placed (slots_of a) ≡ men → ((u : ℕ) → (bit_at occupied u ≡ 0) ↔ IsFree men u)
    → (AttacksFrom (λ u. bit_at occupied u ≡ 0) side t a.first ⊎ (AttacksFrom (λ u. bit_at occupied u ≡ 0) side t a.second ⊎ (AttacksFrom (λ u. bit_at occupied u ≡ 0) side t a.third ⊎ AttacksFrom (λ u. bit_at occupied u ≡ 0) side t a.fourth)))
    ↔ IsAttacked men t side
attacked_by a men occupied side t kept is free = attacked_as a men men occupied side t kept is (seen_itself men side occupied free)
