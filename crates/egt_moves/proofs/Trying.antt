-- Trying the legal moves one after the other.
use Rattle.std.proofs.Common.{◌≡◌, ℕ, suc, ◌+◌, ◌-◌, ◌<◌, ◌≤◌, ◌↔◌, inl, inr, List, get_or, length, sym, subst, arith}
use Rattle.std.proofs.Common.{◌∙◌}
use Rattle.egt_moves.specs.Prelude.{Contains, cases_lt, get_or_default, Setup, Move, HasMove, EachMove, IsMatedWithin}
use Rattle.egt_moves.specs.Prelude.{MatesWithin, AvoidsMateFor, CannotMateWithin, chess, Leads, IsLegal, leads_to_one}
use Rattle.egt_moves.specs.Standing.{IsCheckmate, IsStalemate, CanMove}
use Rattle.egt_moves.proofs.Searching.{stalemate_avoids}

-- each of the first n moves leads to a position with P
pub record Tried (P : Setup → Type 0) (p : Setup) (moves : List Move) (n : ℕ) : Type 0 where
  pub each : (k : ℕ) (m : Move) → k < n → get_or moves k m ≡ m → (q : Setup) → Leads p m q → P q

pub tried_more : (P : Setup → Type 0) (p q : Setup) (moves : List Move) (n : ℕ) (m : Move) → n < length moves → m ≡ get_or moves n m → Leads p m q → P q → Tried P p moves n → Tried P p moves (n + 1)
tried_more P p q moves n m inside here leads holds tried = record {
  each = λ k x lt at r goes. elim (cases_lt k n) [
    | inl before ↦ tried.each k x before at r goes
    | inr ge ↦
        let last : k ≡ n = omega arith in
        let same : m ≡ x = here ∙ get_or_default moves n m x inside ∙ subst (λ j. get_or moves j x ≡ x) last at in
        subst P (leads_to_one p q r x (subst (λ y. Leads p y q) same leads) goes) holds
  ];
}

-- once all were tried, each legal move leads to such a position
pub tried_all : (P : Setup → Type 0) (p : Setup) (moves listed : List Move) (n : ℕ) → length moves ≤ n → moves ≡ listed → ((m : Move) → Contains listed m ↔ IsLegal p m) → Tried P p moves n → EachMove chess p P
tried_all P p moves listed n all same legal tried q step =
    let there = subst (λ ms. Contains ms step.0) (sym same) ((legal step.0).1 (q, step.1)) in
    tried.each there.0 step.0 (omega (arith, there.1)) there.2 q step.1

-- a listed move is legal
pub listed_is_legal : (p : Setup) (moves listed : List Move) (n : ℕ) (m : Move) → n < length moves → m ≡ get_or moves n m → moves ≡ listed → ((x : Move) → Contains listed x ↔ IsLegal p x) → IsLegal p m
listed_is_legal p moves listed n m inside here same legal = (legal m).0 (subst (λ ms. Contains ms m) same (n, inside, sym here))

-- stalemate is no mate
pub stalemate_is_no_mate : (n : ℕ) (p : Setup) → IsStalemate p → AvoidsMateFor chess n p
stalemate_is_no_mate n p stale = stalemate_avoids chess n p ((λ q step. stale.stuck step.0 (q, step.1)), (λ mate. stale.quiet mate.check))

-- who can move is not checkmated now
pub not_mated_now : (p : Setup) → CanMove p → ¬ IsCheckmate p
not_mated_now p can mate = mate.stuck can.move can.legal

pub can_move : (p : Setup) → CanMove p → HasMove chess p
can_move p can = (can.legal.0, (can.move, can.legal.1))

next : (n : ℕ) → 0 < n → suc (n - 1) ≡ n
next n some = omega arith

-- with n plies to play, what the moves tell
pub wins_by : (n : ℕ) (p q : Setup) (m : Move) → 0 < n → Leads p m q → IsMatedWithin chess (n - 1) q → MatesWithin chess n p
wins_by n p q m some leads mated = subst (λ k. MatesWithin chess k p) (next n some) (q, (m, leads), mated)

pub cannot_win : (n : ℕ) (p : Setup) → 0 < n → EachMove chess p (AvoidsMateFor chess (n - 1)) → CannotMateWithin chess n p
cannot_win n p some each = subst (λ k. CannotMateWithin chess k p) (next n some) each

pub escapes_by : (n : ℕ) (p q : Setup) (m : Move) → 0 < n → CanMove p → Leads p m q → CannotMateWithin chess (n - 1) q → AvoidsMateFor chess n p
escapes_by n p q m some can leads cannot = subst (λ k. AvoidsMateFor chess k p) (next n some) (not_mated_now p can, inr (q, (m, leads), cannot))

pub loses : (n : ℕ) (p : Setup) → 0 < n → CanMove p → EachMove chess p (MatesWithin chess (n - 1)) → IsMatedWithin chess n p
loses n p some can each = subst (λ k. IsMatedWithin chess k p) (next n some) (inr (can_move p can, each))
