-- The men that a man may become, one choice after the other.
use Rattle.std.proofs.Common.{◌≡◌, ℕ, ◌+◌, ◌*◌, ◌<◌, ◌≤◌, ◌↔◌, ◌⊎◌, List, [], ◌∷◌, ◌++◌, length, get_or}
use Rattle.std.proofs.Common.{true, false, Option, Some, None, arith, sym, ap, ◌∙◌, inl, inr, subst}
use Rattle.egt_moves.specs.Prelude.{Contains, cases_eq, length-append, Contains-push, Contains-push_cases}
use Rattle.egt_moves.specs.Prelude.{Contains-append_left, Kind, Q, R, B, N, Move, FitsPromotion, plain, place_of}
use Rattle.egt_moves.specs.Prelude.{promotion_place, IsInOrder}
use Rattle.egt_moves.proofs.MoveOrder.{IsInOrder-push}

-- the moves to one square that promote to the first n of four kinds have been added
pub record Chosen (from to : ℕ) (old new : List Move) (n : ℕ) : Type 0 where
  pub ordered : IsInOrder new
  pub choices : (m : Move) → Contains new m ↔ (Contains old m ⊎ ((m.from ≡ from) × (m.to ≡ to) × ((0 < promotion_place m.promo) × (promotion_place m.promo ≤ n))))
  pub few : length new ≡ length old + n

-- the kinds in their order
pub officer_place : (n : ℕ) (other : Kind) → n < 4 → promotion_place (Some (get_or (Q ∷ R ∷ B ∷ N ∷ []) n other)) ≡ n + 1
officer_place n other less = grind arith

-- a number tells the promotion
same_place : (a b : Option Kind) → promotion_place a ≡ promotion_place b → a ≡ b
same_place a b e = grind (arith, promotion_place)

pub Chosen-more : (from to : ℕ) (old now : List Move) (n : ℕ) (kind : Kind) → promotion_place (Some kind) ≡ n + 1 → ((m : Move) → Contains old m → place_of m < (from * 64 + to) * 8) → Chosen from to old now n
    → Chosen from to old (now ++ record { from = from; to = to; promo = Some kind } ∷ []) (n + 1)
Chosen-more from to old now n kind place before chosen = record {
  ordered = IsInOrder-push now here chosen.ordered (λ m there. elim ((chosen.choices m).0 there) [
    | inl o ↦ let lt = before m o in omega arith
    | inr w ↦ let e = w.0 in let f = w.1 in let most = w.2.1 in omega arith
  ]);
  choices = λ m. (
    λ there. elim (Contains-push_cases now here m there) [
      | inl earlier ↦ elim ((chosen.choices m).0 earlier) [ inl o ↦ inl o | inr w ↦ inr (w.0, w.1, (w.2.0, let most = w.2.1 in omega arith)) ]
      | inr e ↦ inr (ap (λ (x : Move). x.from) (sym e), ap (λ (x : Move). x.to) (sym e), placed m e)
    ],
    λ h. elim h [
      | inl o ↦ Contains-append_left now (here ∷ []) m ((chosen.choices m).1 (inl o))
      | inr w ↦ elim (cases_eq (promotion_place m.promo) (n + 1)) [
        | inl e ↦ subst (Contains (now ++ here ∷ [])) (is_here m w.0 w.1 (same_place m.promo (Some kind) (e ∙ sym place))) (Contains-push now here)
        | inr other ↦ Contains-append_left now (here ∷ []) m ((chosen.choices m).1 (inr (w.0, w.1, (w.2.0, let most = w.2.1 in omega arith))))
      ]
    ],
  );
  few = let l = length-append now (here ∷ []) in let e = chosen.few in omega arith;
}
  where
    here : Move
    here = record { from = from; to = to; promo = Some kind }

    placed : (m : Move) → here ≡ m → (0 < promotion_place m.promo) × (promotion_place m.promo ≤ n + 1)
    placed m e = subst (λ (x : Move). (0 < promotion_place x.promo) × (promotion_place x.promo ≤ n + 1)) e (omega arith, omega arith)

    is_here : (m : Move) → m.from ≡ from → m.to ≡ to → m.promo ≡ Some kind → here ≡ m
    is_here m e f g = λ i. record { from = sym e i; to = sym f i; promo = sym g i }

-- all four: what a pawn may become
four : (promo : Option Kind) → FitsPromotion true promo ↔ ((0 < promotion_place promo) × (promotion_place promo ≤ 4))
four promo = grind arith

pub Chosen-all : (from to : ℕ) (old new : List Move) → Chosen from to old new 4 → (m : Move) → Contains new m ↔ (Contains old m ⊎ ((m.from ≡ from) × (m.to ≡ to) × FitsPromotion true m.promo))
Chosen-all from to old new chosen m = (
  λ there. elim ((chosen.choices m).0 there) [ inl o ↦ inl o | inr w ↦ inr (w.0, w.1, (four m.promo).1 w.2) ],
  λ h. (chosen.choices m).1 (elim h [ inl o ↦ inl o | inr w ↦ inr (w.0, w.1, (four m.promo).0 w.2) ]),
)

-- no promotion
pub plain_choice : (from to : ℕ) (old : List Move) (m : Move) → Contains (old ++ plain from to ∷ []) m ↔ (Contains old m ⊎ ((m.from ≡ from) × (m.to ≡ to) × FitsPromotion false m.promo))
plain_choice from to old m = (
  λ there. elim (Contains-push_cases old (plain from to) m there) [
    | inl o ↦ inl o
    | inr e ↦ inr (ap (λ (x : Move). x.from) (sym e), ap (λ (x : Move). x.to) (sym e), subst (λ (x : Move). FitsPromotion false x.promo) e tt)
  ],
  λ h. elim h [
    | inl o ↦ Contains-append_left old (plain from to ∷ []) m o
    | inr w ↦ subst (Contains (old ++ plain from to ∷ [])) (is_plain m w.0 w.1 w.2) (Contains-push old (plain from to))
  ],
)
  where
    none : (o : Option Kind) → FitsPromotion false o → None ≡ o
    none o f = grind arith

    is_plain : (m : Move) → m.from ≡ from → m.to ≡ to → FitsPromotion false m.promo → plain from to ≡ m
    is_plain m e f g = λ i. record { from = sym e i; to = sym f i; promo = none m.promo g i }
