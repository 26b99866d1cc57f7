-- Whether two setups are the same, whether one is admissible, and whether it is settled, can be told.
use Rattle.std.proofs.Common.{◌≡◌, ℕ, ◌+◌, ◌<◌, if◌then◌else◌, IfSome, ◌≤◌, inl, Option, Some, None, refl, ap, ◌∙◌}
use Rattle.std.specs.FinMap as map
use Rattle.egt_board.specs.declared.man.Side.{Side}
use Rattle.egt_board.specs.declared.man.Side.TheVariants.{White, Black}
use Rattle.egt_board.specs.declared.man.Kind.TheVariants.{P}
use Rattle.egt_board.specs.declared.man.Man.{Man}
use Rattle.egt_board.specs.Man.{other_side}
use Rattle.egt_board.specs.Square.{file_of, rank_of}
use Rattle.egt_board.specs.Placement.{Placement, Stands, IsFree}
use Rattle.egt_board.specs.Attack.{king_of, IsInCheck}
use Rattle.egt_board.specs.Pawn.{pawn_of, ahead, MayStand, PawnsFit, IsBeside, HasPawnBeside}
use Rattle.egt_board.specs.Target.{target_rank, IsTarget, FitsTarget}
use Rattle.egt_board.specs.Setup.{Setup, setup_code, IsKingOn, HasKings, IsAdmissible}
use Rattle.egt_board.specs.Settled.{IsSettled, untargeted}
use Rattle.egt_board.specs.Decided.{Decided, tells, decided_as, decided_not, decided_both, decided_either, decided_implies, decided_eq, decided_lt, decided_le, decided_same}
use Rattle.egt_board.specs.DecidedMen.{decided_kind, decided_man, decided_stands, decided_anywhere, decided_everywhere, decided_free, decided_check}

-- two setups are the same
pub decided_same_setup : (p q : Setup) → Decided (p ≡ q)
decided_same_setup = decided_same setup_code

decided_king_on : (men : Placement) (side : Side) (s : ℕ) → Decided (IsKingOn men side s)
decided_king_on men side s = decided_as
    (λ (h : Stands men s (king_of side) × ((t : ℕ) (man : Man) → Stands men t man → man ≡ king_of side → t ≡ s)). record { stands = h.0; only = λ t there. h.1 t (king_of side) there refl })
    (λ (k : IsKingOn men side s). (k.stands, λ t man there is. k.only t (there ∙ ap Some is)))
    (decided_both (decided_stands men s (king_of side))
    (λ _. decided_everywhere men (λ t man. man ≡ king_of side → t ≡ s) (λ t man. decided_implies (decided_man man (king_of side)) (λ _. decided_eq t s))))

decided_has_king : (men : Placement) (side : Side) → Decided ((s : ℕ) × IsKingOn men side s)
decided_has_king men side = decided_as
    (λ (h : (s : ℕ) × (man : Man) × Stands men s man × IsKingOn men side s). (h.0, h.3))
    (λ (k : (s : ℕ) × IsKingOn men side s). (k.0, king_of side, k.1.stands, k.1))
    (decided_anywhere men (λ s man. IsKingOn men side s) (λ s man. decided_king_on men side s))

decided_kings : (men : Placement) → Decided (HasKings men)
decided_kings men = decided_as
    (λ (h : ((s : ℕ) × IsKingOn men White s) × ((s : ℕ) × IsKingOn men Black s)). record { white = h.0.0; black = h.1.0; white_there = h.0.1; black_there = h.1.1 })
    (λ (kings : HasKings men). ((kings.white, kings.white_there), (kings.black, kings.black_there)))
    (decided_both (decided_has_king men White) (λ _. decided_has_king men Black))

decided_pawns : (men : Placement) → Decided (PawnsFit men)
decided_pawns men = decided_everywhere men (λ s man. MayStand man s)
    (λ s man. decided_implies (decided_kind man.kind P) (λ _. decided_both (decided_lt 0 (rank_of s)) (λ _. decided_lt (rank_of s) 7)))

decided_target : (men : Placement) (mover : Side) (target : Option ℕ) → Decided (FitsTarget men mover target)
decided_target men mover None = inl tt
decided_target men mover (Some t) = decided_as
    (λ (h : (rank_of t ≡ target_rank mover) × (IsFree men t × (IsFree men (ahead mover t) × Stands men (ahead (other_side mover) t) (pawn_of (other_side mover))))).
    record { rank = h.0; empty = h.1.0; left = h.1.1.0; advanced = h.1.1.1 })
    (λ (is : IsTarget men mover t). (is.rank, (is.empty, (is.left, is.advanced))))
    (decided_both (decided_eq (rank_of t) (target_rank mover))
    (λ _. decided_both (decided_free men t)
    (λ _. decided_both (decided_free men (ahead mover t)) (λ _. decided_stands men (ahead (other_side mover) t) (pawn_of (other_side mover))))))

abbrev OnBoard : Placement → Type 0
OnBoard men = (s : ℕ) (man : Man) → Stands men s man → s < 64

-- the setup is a position
pub decided_admissible : (p : Setup) → Decided (IsAdmissible p)
decided_admissible p = decided_as
    (λ (h : (map.len p.men ≤ 4) × (OnBoard p.men × (HasKings p.men × (PawnsFit p.men × (FitsTarget p.men p.side p.target × ¬ IsInCheck p.men (other_side p.side)))))).
    record { few = h.0; on_board = h.1.0; kings = h.1.1.0; pawns = h.1.1.1.0; target = h.1.1.1.1.0; quiet = h.1.1.1.1.1 })
    (λ (ok : IsAdmissible p). (ok.few, (ok.on_board, (ok.kings, (ok.pawns, (ok.target, ok.quiet))))))
    (decided_both (decided_le (map.len p.men) 4)
    (λ _. decided_both (decided_everywhere p.men (λ s man. s < 64) (λ s man. decided_lt s 64))
    (λ _. decided_both (decided_kings p.men)
    (λ _. decided_both (decided_pawns p.men)
    (λ _. decided_both (decided_target p.men p.side p.target) (λ _. decided_not (decided_check p.men (other_side p.side))))))))

decided_beside : (s t : ℕ) → Decided (IsBeside s t)
decided_beside s t = decided_both (decided_eq (rank_of s) (rank_of t))
    (λ _. decided_either (decided_eq (file_of s) (file_of t + 1)) (decided_eq (file_of t) (file_of s + 1)))

decided_ready : (men : Placement) (side : Side) (t : ℕ) → Decided (HasPawnBeside men side t)
decided_ready men side t = decided_as
    (λ (h : (s : ℕ) × (man : Man) × Stands men s man × ((man ≡ pawn_of side) × IsBeside s t)). record { square = h.0; stands = h.2 ∙ ap Some h.3.0; beside = h.3.1 })
    (λ (h : HasPawnBeside men side t). (h.square, pawn_of side, h.stands, (refl, h.beside)))
    (decided_anywhere men (λ s man. (man ≡ pawn_of side) × IsBeside s t) (λ s man. decided_both (decided_man man (pawn_of side)) (λ _. decided_beside s t)))

-- the setup is settled
pub decided_settled : (p : Setup) → Decided (IsSettled p)
decided_settled p = by_target p.target
  where
    by_target : (o : Option ℕ) → Decided (IfSome o (λ t. HasPawnBeside p.men p.side (ahead (other_side p.side) t)))
    by_target None = inl tt
    by_target (Some t) = decided_ready p.men p.side (ahead (other_side p.side) t)

-- what it settles to
unfoldable pub settled_form : Setup → Setup
settled_form p = if tells (decided_settled p) then p else untargeted p
