-- Laws of images and classes, by the laws of the crates below.
use Rattle.std.specs.Prelude.{◌≡◌, ℕ, ◌<◌, ◌⊎◌, ◌↔◌, Bool, IsTrue}
use Rattle.egt_board.specs.Prelude.{Setup, IsAdmissible, IsSettled, SettlesTo, KeepsPlay, AreImages, SameMen}
use Rattle.egt_board.specs.Prelude.{ExchangedMen, IsTurnedBy, IsSetBy}
use Rattle.egt_class.specs.Prelude.{has_equal_sides, IsOf}

pub record Facts : Type 0 where
  pub turns : (p q : Setup) → IsAdmissible p → AreImages p q → (n : ℕ) × (flipped : Bool) × (n < 8) × KeepsPlay n p.men × IsTurnedBy n flipped p q
  pub images : (p q : Setup) (n : ℕ) (flipped : Bool) → IsAdmissible p → n < 8 → KeepsPlay n p.men → IsTurnedBy n flipped p q → AreImages p q
  pub made : (n : ℕ) (flipped : Bool) (p : Setup) → IsAdmissible p → (q : Setup) × IsTurnedBy n flipped p q
  pub set : (n : ℕ) (flipped : Bool) (p q : Setup) → IsAdmissible p → IsTurnedBy n flipped p q → IsSetBy n flipped p q
  pub once : (n : ℕ) (flipped : Bool) (p q r : Setup) → IsTurnedBy n flipped p q → IsTurnedBy n flipped p r → q ≡ r
  pub same : (p : Setup) → AreImages p p
  pub back : (p q : Setup) → IsAdmissible p → AreImages p q → AreImages q p
  pub on : (p q r : Setup) → AreImages p q → AreImages q r → AreImages p r
  pub admissible : (p q : Setup) → IsAdmissible p → AreImages p q → IsAdmissible q
  pub settled : (p q : Setup) → IsAdmissible p → AreImages p q → IsSettled p ↔ IsSettled q
  pub men : (p q : Setup) → IsAdmissible p → AreImages p q → SameMen p q ⊎ ExchangedMen p q
  pub settles : (p : Setup) → (q : Setup) × SettlesTo p q
  pub settles_once : (p q r : Setup) → SettlesTo p q → SettlesTo p r → q ≡ r
  pub settled_admissible : (p q : Setup) → IsAdmissible p → SettlesTo p q → IsAdmissible q
  pub is_settled : (p q : Setup) → SettlesTo p q → IsSettled q
  pub settled_men : (p q : Setup) → SettlesTo p q → q.men ≡ p.men
  pub classes : (p : Setup) → IsAdmissible p → (c : ℕ) × (flipped : Bool) × (c < 36) × IsOf c flipped p
  pub one_class : (p : Setup) (c d : ℕ) (flipped turned : Bool) → c < 36 → d < 36 → IsOf c flipped p → IsOf d turned p → c ≡ d
  pub one_flip : (p : Setup) (c : ℕ) (flipped turned : Bool) → c < 36 → IsOf c flipped p → IsOf c turned p → (flipped ≡ turned) ⊎ IsTrue (has_equal_sides c)
  pub both_flips : (p : Setup) (c : ℕ) (flipped turned : Bool) → c < 36 → IsTrue (has_equal_sides c) → IsOf c flipped p → IsOf c turned p
