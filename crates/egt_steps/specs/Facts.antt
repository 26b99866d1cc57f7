-- Laws of play, images, classes and indexes, by the laws of the crates below.
use Rattle.std.specs.Prelude.{◌≡◌, ℕ, ◌<◌, ◌⊎◌, ◌↔◌, Bool, Option, IsTrue}
use Rattle.egt_moves.specs.Prelude.{Contains, AreImages, SettlesTo, Setup, IsAdmissible, Value, HasValue, chess, Zeroes}
use Rattle.egt_moves.specs.Prelude.{JudgedOver, ZeroingJudgedOver, HasReach, ReachJudgedOver, Leads, IsCheckmate}
use Rattle.egt_moves.specs.Prelude.{HasZeroing}
use Rattle.egt_index.specs.Prelude.{IsOf, Spells, IsIndex, SettleAlike, size_of}
use Rattle.egt_class.specs.Prelude.{children_of}
use Rattle.egt_moves.specs.declared.chess_move.Move.{Move}

pub record Facts : Type 0 where
  -- images and settled forms
  pub images_back : (p q : Setup) → IsAdmissible p → AreImages p q → AreImages q p
  pub image_admissible : (p q : Setup) → IsAdmissible p → AreImages p q → IsAdmissible q
  pub settles : (p : Setup) → (q : Setup) × SettlesTo p q
  pub settled_admissible : (p q : Setup) → IsAdmissible p → SettlesTo p q → IsAdmissible q
  pub images_settle : (p p' q q' : Setup) → IsAdmissible p → AreImages p p' → SettlesTo p q → SettlesTo p' q' → AreImages q q'
  -- steps
  pub step_admissible : (p q : Setup) (m : Move) → IsAdmissible p → Leads p m q → IsAdmissible q
  pub image_steps : (p p' q : Setup) (m : Move) → IsAdmissible p → AreImages p p' → Leads p m q →
      (m' : Move) × (q' : Setup) × Leads p' m' q' × AreImages q q' × (Zeroes p m ↔ Zeroes p' m')
  pub image_checkmate : (p p' : Setup) → IsAdmissible p → AreImages p p' → IsCheckmate p ↔ IsCheckmate p'
  pub settled_steps : (p q r : Setup) (m : Move) → IsAdmissible p → SettlesTo p q → Leads p m r ↔ Leads q m r
  pub settled_zeroes : (p q : Setup) (m : Move) → IsAdmissible p → SettlesTo p q → Zeroes p m ↔ Zeroes q m
  pub settled_checkmate : (p q : Setup) → IsAdmissible p → SettlesTo p q → IsCheckmate p ↔ IsCheckmate q
  -- classes
  pub classes : (p : Setup) → IsAdmissible p → (c : ℕ) × (flipped : Bool) × (c < 36) × IsOf c flipped p
  pub one_class : (p : Setup) (c d : ℕ) (flipped turned : Bool) → c < 36 → d < 36 → IsOf c flipped p → IsOf d turned p → c ≡ d
  pub settled_class : (p q : Setup) (c : ℕ) (flipped : Bool) → SettlesTo p q → IsOf c flipped p ↔ IsOf c flipped q
  pub image_class : (p q : Setup) (c : ℕ) (flipped : Bool) → IsAdmissible p → AreImages p q → IsOf c flipped p → (turned : Bool) × IsOf c turned q
  pub step_class : (p q : Setup) (m : Move) (c : ℕ) (flipped : Bool) → c < 36 → IsAdmissible p → IsOf c flipped p → Leads p m q →
      IsOf c flipped q ⊎ ((d : ℕ) × (turned : Bool) × Contains (children_of c) d × IsOf d turned q)
  pub child_below : (c d : ℕ) → c < 36 → Contains (children_of c) d → d < c
  -- indexes
  pub spelled_class : (c code : ℕ) (p : Setup) → Spells c code p → (flipped : Bool) × IsOf c flipped p
  pub some_index : (p : Setup) (c : ℕ) (flipped : Bool) → c < 36 → IsAdmissible p → IsOf c flipped p → (i : ℕ) × IsIndex c p i
  pub one_index : (p : Setup) (c i j : ℕ) → IsAdmissible p → IsIndex c p i → IsIndex c p j → i ≡ j
  pub index_below : (p : Setup) (c i : ℕ) → IsIndex c p i → i < size_of c
  pub like_index : (p q : Setup) (c i j : ℕ) → IsAdmissible p → IsAdmissible q → IsIndex c p i → IsIndex c q j → (i ≡ j) ↔ SettleAlike p q
  pub index_spells : (p q : Setup) (c i : ℕ) → IsAdmissible p → IsIndex c p i → Spells c i q → IsIndex c q i
  -- entries
  pub values_by_rules : (own : Setup → Bool) (e : Setup → Value) → JudgedOver chess (λ p. IsTrue (own p)) e →
      (p : Setup) → IsTrue (own p) → HasValue chess p (e p)
  pub distances_by_rules : (own : Setup → Bool) (e z : Setup → Value) →
      JudgedOver chess (λ p. IsTrue (own p)) e → ZeroingJudgedOver chess (λ p. IsTrue (own p)) e z →
      (p : Setup) → IsTrue (own p) → HasZeroing chess p (z p)
  pub rules_by_values : (own : Setup → Bool) (e : Setup → Value) →
      ((p : Setup) → IsTrue (own p) → HasValue chess p (e p)) →
      ((p q : Setup) → IsTrue (own p) → chess.Move p q → IsTrue (own q) ⊎ HasValue chess q (e q)) →
      JudgedOver chess (λ p. IsTrue (own p)) e
  pub rules_by_distances : (own : Setup → Bool) (e z : Setup → Value) →
      ((p : Setup) → IsTrue (own p) → HasValue chess p (e p)) →
      ((p : Setup) → IsTrue (own p) → HasZeroing chess p (z p)) →
      ((p q : Setup) → IsTrue (own p) → chess.Move p q → IsTrue (own q) ⊎ HasValue chess q (e q)) →
      ((p q : Setup) → IsTrue (own p) → chess.Move p q → IsTrue (own q) ⊎ HasZeroing chess q (z q)) →
      ZeroingJudgedOver chess (λ p. IsTrue (own p)) e z
  pub reach_by_rules : (own : Setup → Bool) (e : Setup → Option ℕ) → ReachJudgedOver chess (λ p. IsTrue (own p)) e →
      (p : Setup) → IsTrue (own p) → HasReach chess p (e p)
  pub rules_by_reach : (own : Setup → Bool) (e : Setup → Option ℕ) →
      ((p : Setup) → IsTrue (own p) → HasReach chess p (e p)) →
      ((p q : Setup) → IsTrue (own p) → chess.Move p q → IsTrue (own q) ⊎ HasReach chess q (e q)) →
      ReachJudgedOver chess (λ p. IsTrue (own p)) e
