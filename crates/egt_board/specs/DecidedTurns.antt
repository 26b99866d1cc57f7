-- Which turns the men allow, and whether one of them leads from one setup to another, can be told.
use Rattle.std.specs.Prelude.{◌≡◌, ℕ, ◌<◌, ◌⊎◌, true, false}
use Rattle.egt_board.specs.declared.man.Kind.TheVariants.{P}
use Rattle.egt_board.specs.Decided.{Decided, decided_as, decided_not, decided_both, decided_either, decided_lt, decided_some_below}
use Rattle.egt_board.specs.DecidedMen.{decided_kind, decided_everywhere}
use Rattle.egt_board.specs.DecidedSetup.{decided_same_setup}
use Rattle.egt_board.specs.Pawn.{HasNoPawn}
use Rattle.egt_board.specs.Placement.{Placement}
use Rattle.egt_board.specs.Setup.{Setup}
use Rattle.egt_board.specs.Symmetry.{KeepsPlay}
use Rattle.egt_board.specs.Turned.{turned_by}

pub decided_no_pawn : (men : Placement) → Decided (HasNoPawn men)
decided_no_pawn men = decided_everywhere men (λ s man. man.kind ≡ P → ⊥) (λ s man. decided_not (decided_kind man.kind P))

pub decided_keeps_play : (n : ℕ) (men : Placement) → Decided (KeepsPlay n men)
decided_keeps_play n men = decided_either (decided_no_pawn men) (decided_lt n 2)

-- q is what one of the turns that p's men allow makes of p
abbrev pub IsTurn : Setup → Setup → Type 0
IsTurn p q = (n : ℕ) × (n < 8) × KeepsPlay n p.men × ((q ≡ turned_by n false p) ⊎ (q ≡ turned_by n true p))

pub decided_turn : (p q : Setup) → Decided (IsTurn p q)
decided_turn p q = decided_as
    (λ (h : (n : ℕ) × (n < 8) × Turns n). (h.0, h.1, h.2.0, h.2.1))
    (λ (h : IsTurn p q). (h.0, h.1, (h.2, h.3)))
    (decided_some_below Turns (λ n. decided_both (decided_keeps_play n p.men)
    (λ _. decided_either (decided_same_setup q (turned_by n false p)) (decided_same_setup q (turned_by n true p)))) 8)
  where
    Turns : ℕ → Type 0
    Turns n = KeepsPlay n p.men × ((q ≡ turned_by n false p) ⊎ (q ≡ turned_by n true p))
