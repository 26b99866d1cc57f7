-- Laws of play, images, classes and indexes, by the laws of the crates below.
use Rattle.std.specs.Prelude.{◌≡◌, ℕ, ◌<◌, ◌⊎◌, ◌↔◌, Bool, Some, None, IsSome}
use Rattle.egt_check.specs.Prelude.{Contains, AreImages, IsSettled, SettlesTo, Setup, IsAdmissible, children_of, IsOf}
use Rattle.egt_check.specs.Prelude.{Spells, IsIndex, IsVoid, Captures, Leads, IsLegal, StepAlike, Facts}
use Rattle.egt_board.specs.Prelude.{settled_form, IsTurn}
use Rattle.egt_moves.specs.Prelude.{moves_of, played}
use Rattle.egt_unmoves.specs.Prelude.{IsUnmove}
use Rattle.egt_moves.specs.declared.chess_move.Move.{Move}
use Rattle.egt_unmoves.specs.declared.unmove.Unmove.{Unmove}

pub record Laws : Type 0 where
  pub facts : Facts
  pub settles : (p : Setup) → SettlesTo p (settled_form p)
  pub settled_once : (p q : Setup) → SettlesTo p q → q ≡ settled_form p
  pub turns : (p q : Setup) → IsAdmissible p → AreImages p q ↔ IsTurn p q
  pub one_spelled : (c code : ℕ) (p q : Setup) → Spells c code p → Spells c code q → p ≡ q
  pub index_or_void : (c code : ℕ) → c < 36 → ((p : Setup) × Spells c code p × IsIndex c p code) ⊎ IsVoid c code
  pub listed : (p : Setup) (m : Move) → IsAdmissible p → Contains (moves_of p) m ↔ IsLegal p m
  pub played : (p q : Setup) (m : Move) → Leads p m q ↔ (played p m ≡ Some q)
  pub indexed_class : (p : Setup) (c i : ℕ) → IsAdmissible p → IsIndex c p i → (flipped : Bool) × IsOf c flipped p
  pub plays_alike : (p q : Setup) (c i : ℕ) → IsAdmissible p → IsIndex c p i → Spells c i q → StepAlike p q
  pub quiet_class : (p q : Setup) (m : Move) (c : ℕ) (flipped : Bool) → IsAdmissible p → IsOf c flipped p → Leads p m q → ¬ Captures p m → m.promo ≡ None → IsOf c flipped q
  pub other_class : (p q : Setup) (m : Move) (c : ℕ) (flipped : Bool) → c < 36 → IsAdmissible p → IsOf c flipped p → Leads p m q → Captures p m ⊎ IsSome m.promo →
      (d : ℕ) × (turned : Bool) × Contains (children_of c) d × IsOf d turned q
  pub images_settled : (p q : Setup) → IsAdmissible p → AreImages p q → IsSettled p ↔ IsSettled q
  pub settled : (p q : Setup) → SettlesTo p q → IsSettled q
  pub like_unmoves : (q q' : Setup) (u : Unmove) → IsAdmissible q → AreImages q q' → IsUnmove q u →
      (w : Unmove) × IsUnmove q' w × AreImages u.before w.before × (w.pawn ≡ u.pawn)
  pub same_image : (p : Setup) → AreImages p p
