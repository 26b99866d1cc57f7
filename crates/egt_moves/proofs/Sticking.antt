-- The search for a legal move.
use Rattle.std.proofs.Common.{◌≡◌, ◌≢◌, ◌↔◌, ℕ, ◌∙◌, subst, inl, inr, arith}
use Rattle.egt_moves.specs.Prelude.{bit_at, cases_eq, IsOccupiedBy, Setup, Move, IsLegal, IsLegalTarget, IsStuck, CanMove}

-- legal moves leave squares of the set alone
abbrev pub LeavesSet : Setup → ℕ → Type 0
LeavesSet p rest = (m : Move) → IsLegal p m → bit_at rest m.from ≡ 1

pub LeavesSet-none : (p : Setup) (rest : ℕ) → ((t : ℕ) → (bit_at rest t ≡ 1) ↔ IsOccupiedBy p.men t p.side) → LeavesSet p rest
LeavesSet-none p rest held m legal = (held m.from).1 (record { man = legal.1.man; stands = legal.1.stands; theirs = legal.1.mine })

pub LeavesSet-less : (p : Setup) (rest rest' from targets : ℕ) → ((t : ℕ) → t ≢ from → bit_at rest' t ≡ bit_at rest t) → ((t : ℕ) → (bit_at targets t ≡ 1) ↔ IsLegalTarget p from t) → ((t : ℕ) → bit_at targets t ≡ 0)
    → LeavesSet p rest → LeavesSet p rest'
LeavesSet-less p rest rest' from targets others is none leaves m legal = elim (cases_eq m.from from) [
  | inl e ↦
      let one = (is m.to).1 (m.promo, subst (IsLegal p) (λ i. record { from = e i; to = m.to; promo = m.promo }) legal) in
      let zero_bit = none m.to in absurd (omega arith)
  | inr other ↦ others m.from other ∙ leaves m legal
]

pub LeavesSet-all : (p : Setup) (rest : ℕ) → LeavesSet p rest → ((t : ℕ) → bit_at rest t ≡ 0) → IsStuck p
LeavesSet-all p rest leaves none m legal = let one = leaves m legal in let zero_bit = none m.from in omega arith

pub can_go : (p : Setup) (from to : ℕ) → IsLegalTarget p from to → CanMove p
can_go p from to w = record { move = record { from = from; to = to; promo = w.0 }; legal = w.1 }
