-- Laws of play, texts and classes, by the laws of the crates below.
use Rattle.std.specs.Prelude.{◌≡◌, ℕ, suc, ◌<◌, ◌≤◌, ◌⊎◌, Bool, List}
use Rattle.egt_moves.specs.Prelude.{Contains, Setup, IsAdmissible, Value, Win, Loss, SomeMove, HasValue, IsMatedWithin}
use Rattle.egt_moves.specs.Prelude.{MatesWithin, AvoidsMateFor, CannotMateWithin, chess, Leads, HasZeroing}
use Rattle.egt_check.specs.Prelude.{children_of, IsOf, IsIndex, size_of}
use Rattle.egt_fen.specs.Prelude.{Spells, IsFirstFault}
use Rattle.egt_fen.specs.declared.fault.FenFault.{FenFault}
use Rattle.egt_fen.specs.declared.fen.Fen.{Fen}
use Rattle.egt_moves.specs.declared.chess_move.Move.{Move}

pub record Facts : Type 0 where
  -- values
  pub one_value : (p : Setup) (v w : Value) → HasValue chess p v → HasValue chess p w → v ≡ w
  pub won_or_lost : (m n : ℕ) (p : Setup) → MatesWithin chess m p → IsMatedWithin chess n p → ⊥
  pub mated_once : (n : ℕ) (p : Setup) → IsMatedWithin chess n p → AvoidsMateFor chess n p → ⊥
  pub mates_once : (n : ℕ) (p : Setup) → MatesWithin chess n p → CannotMateWithin chess n p → ⊥
  pub more_mates : (m n : ℕ) (p : Setup) → m ≤ n → MatesWithin chess m p → MatesWithin chess n p
  pub win_goes_on : (n : ℕ) (p : Setup) → HasValue chess p (Win (suc n)) → SomeMove chess p (λ q. HasValue chess q (Loss n))
  pub loss_goes_on : (n : ℕ) (p : Setup) → HasValue chess p (Loss (suc n)) → SomeMove chess p (λ q. HasValue chess q (Win n))
  pub one_zeroing : (p : Setup) (v w : Value) → HasZeroing chess p v → HasZeroing chess p w → v ≡ w
  -- moves
  pub one_next : (p q r : Setup) (m : Move) → Leads p m q → Leads p m r → q ≡ r
  pub step_admissible : (p q : Setup) (m : Move) → IsAdmissible p → Leads p m q → IsAdmissible q
  pub within : (p q : Setup) (m : Move) → IsAdmissible p → Leads p m q → (m.from < 64) × (m.to < 64)
  -- texts
  pub one_fault : (text : List ℕ) (one other : FenFault) → IsFirstFault text one → IsFirstFault text other → one ≡ other
  pub no_fault : (text : List ℕ) (fen : Fen) (fault : FenFault) → Spells text fen → IsFirstFault text fault → ⊥
  pub one_meaning : (text : List ℕ) (one other : Fen) → Spells text one → Spells text other → one ≡ other
  -- classes and indexes
  pub one_class : (p : Setup) (c d : ℕ) (flipped turned : Bool) → c < 36 → d < 36 → IsOf c flipped p → IsOf d turned p → c ≡ d
  pub step_class : (p q : Setup) (m : Move) (c : ℕ) (flipped : Bool) → c < 36 → IsAdmissible p → IsOf c flipped p → Leads p m q →
      IsOf c flipped q ⊎ ((d : ℕ) × (turned : Bool) × Contains (children_of c) d × IsOf d turned q)
  pub child_below : (c d : ℕ) → c < 36 → Contains (children_of c) d → d < c
  pub index_below : (p : Setup) (c i : ℕ) → IsIndex c p i → i < size_of c
