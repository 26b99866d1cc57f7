-- The squares to which legal moves go.
use Rattle.std.proofs.Common.{◌≡◌, ◌≢◌, ◌↔◌, ℕ, ◌-◌, ◌<◌, ◌≤◌, Bool, true, false, cond, min, arith, Some}
use Rattle.std.proofs.Common.{None, refl, sym, ap, ◌∙◌, subst}
use Rattle.egt_moves.specs.Prelude.{bit_at, Side, Q, P, K, Man, other_side, Placement, Stands}
use Rattle.egt_moves.specs.Prelude.{ahead, IsAttacked, IsInCheck, IsKeptFrom, Setup, IsAdmissible, IsKingOn, size_of}
use Rattle.egt_moves.specs.Prelude.{sides_differ, Move, Goes, is_pawn, promotes, FitsPromotion, men_after, plain}
use Rattle.egt_moves.specs.Prelude.{is_target, takes_in_passing, IsLegalTarget, IsSafeGoal, king_square}
use Rattle.std.specs.FinMap as map
use Rattle.egt_moves.proofs.MenAfter.{goes_on_board, king_moves, king_stays}
use Rattle.egt_moves.proofs.ListGrows.{legal_of, goes_of, fits_of, safe_of, same_safety}

-- nothing is taken in passing by another man than a pawn, or on another square than the target
pub not_passing : (p : Setup) (man : Man) (t : ℕ) → (man.kind ≡ P → p.target ≡ Some t → ⊥) → takes_in_passing p man t ≡ false
not_passing p man t none = grind (arith, is_pawn, is_target)

-- the man is lifted and put down
plain_after : (p : Setup) (man : Man) (from t : ℕ) → takes_in_passing p man t ≡ false → men_after p man (plain from t) ≡ map.insert (map.remove p.men from) t man
plain_after p man from t e = ap (λ b. map.insert (map.remove (cond b (map.remove p.men (ahead (other_side p.side) t)) p.men) from) t man) e

-- a king is in check where its square is attacked
pub in_check_at : (men : Placement) (side : Side) (k : ℕ) → IsKingOn men side k → IsInCheck men side ↔ IsAttacked men k (other_side side)
in_check_at men side k king = grind (arith, other_side)

abbrev pub OccupantPassedOver : Type 0
OccupantPassedOver = (men : Placement) (t : ℕ) (side : Side) (occupant : Man) → occupant.side ≢ side → IsAttacked (map.insert men t occupant) t side ↔ IsAttacked men t side

foreign : (p : Setup) (man : Man) → man.side ≡ p.side → man.side ≢ other_side p.side
foreign p man mine e = sides_differ p.side (sym mine ∙ e)

-- a king goes where it is not attacked once it has left its square
pub king_safe : (p : Setup) (man : Man) (from t : ℕ) → OccupantPassedOver → IsAdmissible p → Stands p.men from man → man.side ≡ p.side → man.kind ≡ K
    → IsAttacked (map.remove p.men from) t (other_side p.side) ↔ IsInCheck (men_after p man (plain from t)) p.side
king_safe p man from t law ok stands mine is_king =
    let is = plain_after p man from t (not_passing p man t (λ pawn. let bad : K ≡ P = sym is_king ∙ pawn in absurd (cc))) in
    let own = king_square p ok in
    let there : IsKingOn (men_after p man (plain from t)) man.side t = king_moves p man (plain from t) own.0 ok stands (subst (λ s. IsKingOn p.men s own.0) (sym mine) own.1) is_king refl in
    let at = in_check_at (men_after p man (plain from t)) p.side t (subst (λ s. IsKingOn (men_after p man (plain from t)) s t) mine there) in
    let passed = law (map.remove p.men from) t (other_side p.side) man (foreign p man mine) in (
      λ attacked. at.1 (subst (λ men. IsAttacked men t (other_side p.side)) (sym is) (passed.1 attacked)),
      λ check. passed.0 (subst (λ men. IsAttacked men t (other_side p.side)) is (at.0 check)),
    )

-- another man leaves its king safe where it keeps the enemy from attacking it
pub shielded : (p : Setup) (man : Man) (from t k : ℕ) → IsAdmissible p → Stands p.men from man → man.side ≡ p.side → (man.kind ≡ K → ⊥) → IsKingOn p.men man.side k → Goes p man from t → takes_in_passing p man t ≡ false
    → IsKeptFrom (map.remove p.men from) t man k (other_side p.side) ↔ (¬ IsInCheck (men_after p man (plain from t)) p.side)
shielded p man from t k ok stands mine other king goes none =
    let is = plain_after p man from t none in
    let there : IsKingOn (men_after p man (plain from t)) man.side k = king_stays p man (plain from t) k ok stands mine goes tt king other in
    let at = in_check_at (men_after p man (plain from t)) p.side k (subst (λ s. IsKingOn (men_after p man (plain from t)) s k) mine there) in (
      λ kept check. kept (subst (λ men. IsAttacked men k (other_side p.side)) is (at.0 check)),
      λ safe attacked. safe (at.1 (subst (λ men. IsAttacked men k (other_side p.side)) (sym is) attacked)),
    )

-- the safe goals of a man of the side to move are the squares to which its legal moves go
pub legal_target : (p : Setup) (man : Man) (from t : ℕ) → Stands p.men from man → man.side ≡ p.side → IsSafeGoal p man from t ↔ IsLegalTarget p from t
legal_target p man from t stands mine = (
  λ h. by_test (promotes man t) refl h,
  λ w.
      let m : Move = record { from = from; to = t; promo = w.0 } in
      let fits = fits_of p man m stands w.1 in
      (goes_of p man m stands w.1, λ check. safe_of p man m stands w.1 ((same_safety p man from t w.0 mine fits).1 check)),
)
  where
    by_test : (b : Bool) → promotes man t ≡ b → IsSafeGoal p man from t → IsLegalTarget p from t
    by_test true e h =
        let fits : FitsPromotion (promotes man t) (Some Q) = subst (λ b. FitsPromotion b (Some Q)) (sym e) tt in
        (Some Q, legal_of p man (record { from = from; to = t; promo = Some Q }) stands mine h.0 fits (λ check. h.1 ((same_safety p man from t (Some Q) mine fits).0 check)))
    by_test false e h =
        let fits : FitsPromotion (promotes man t) None = subst (λ b. FitsPromotion b None) (sym e) tt in
        (None, legal_of p man (plain from t) stands mine h.0 fits h.1)

-- a king's goals less the danger
pub king_goal : (p : Setup) (man : Man) (from t goals danger n : ℕ) → OccupantPassedOver → IsAdmissible p → Stands p.men from man → man.side ≡ p.side → man.kind ≡ K → goals < 2 → danger < 2 → n ≡ min goals (1 - danger)
    → (goals ≡ 1) ↔ Goes p man from t → (t < 64 → (danger ≡ 1) ↔ IsAttacked (map.remove p.men from) t (other_side p.side)) → (n ≡ 1) ↔ IsSafeGoal p man from t
king_goal p man from t goals danger n law ok stands mine is_king goals_bit danger_bit is goes attacked =
    let safe = king_safe p man from t law ok stands mine is_king in (
      λ one.
          let there : Goes p man from t = goes.0 (omega arith) in
          let at = attacked (goes_on_board p man from t there) in
          (there, λ check. let bad : danger ≡ 1 = at.1 (safe.1 check) in absurd (omega arith)),
      λ h.
          let at = attacked (goes_on_board p man from t h.0) in
          let there : goals ≡ 1 = goes.1 h.0 in
          let none : danger ≢ 1 = λ one. h.1 (safe.0 (at.0 one)) in
          omega arith,
    )

-- the goals of another man that shield its king
pub shield_goal : (p : Setup) (man : Man) (from t goals shields n : ℕ) → goals < 2 → shields < 2 → n ≡ min goals shields → (goals ≡ 1) ↔ Goes p man from t
    → (Goes p man from t → (shields ≡ 1) ↔ (¬ IsInCheck (men_after p man (plain from t)) p.side)) → (n ≡ 1) ↔ IsSafeGoal p man from t
shield_goal p man from t goals shields n goals_bit shields_bit is goes shield = grind arith

-- the square that was tried by playing
pub changed_bit : (p : Setup) (man : Man) (from t target : ℕ) (safe : Bool) (set : ℕ) → t ≡ target → bit_at set target ≡ cond safe 1 0
    → (safe ≡ true) ↔ (¬ IsInCheck (men_after p man (plain from target)) p.side) → (bit_at set t ≡ 1) ↔ (¬ IsInCheck (men_after p man (plain from t)) p.side)
changed_bit p man from t target safe set e is tried = grind (arith, bit_at, men_after, plain)

pub same_target : (t s : ℕ) → Some t ≡ Some s → t ≡ s
same_target t s e = cc

-- no squares are few
pub none_few : (n : ℕ) → size_of (record { bits = 0 }) ≤ n
unfolding size_of
none_few n = omega arith
