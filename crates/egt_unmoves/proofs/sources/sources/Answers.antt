use Rattle.std.proofs.Common.{◌≡◌, ℕ, ◌-◌, ◌<◌, min, arith, sym, ◌∙◌, ap, inl, inr, subst}
use Rattle.egt_unmoves.specs.Prelude.{bit_at, false≢true, bit_at-lt, SquareSet, IsInCheck, Reaches, Advances, Placement}
use Rattle.egt_unmoves.specs.Prelude.{IsFree, Went, men_before}
use Rattle.std.specs.FinMap as map
use Rattle.egt_unmoves.proofs.Quiet.{king_left, free_left}
use Rattle.egt_unmoves.proofs.sources.sources.Goals as goal
use Rattle.egt_unmoves.proofs.sources.sources.Goals.{then-is_pawn, else-is_pawn}

kept : (a o m k n : ℕ) → m ≡ min a (1 - o) → n ≡ min m k → a ≡ 1 → o ≡ 0 → k ≡ 1 → n ≡ 1
kept a o m k n e f one none too = omega arith

parts : (a o m k n : ℕ) → a < 2 → o < 2 → k < 2 → m ≡ min a (1 - o) → n ≡ min m k → n ≡ 1 → (a ≡ 1) × (o ≡ 0) × (k ≡ 1)
parts a o m k n a_bit o_bit k_bit e f one = (omega arith, omega arith, omega arith)

pub quiet-requires-clause-king : goal.quiet-requires-clause-king
quiet-requires-clause-king c = λ k king. rw c.requires.left (king_left c.args.position.now c.args.man c.args.to k c.requires.stands c.requires.theirs king)

pub returns-clause-complete : goal.returns-clause-complete
returns-clause-complete c = λ s (w : Went c.args.position.now c.args.man c.args.to s).
    let men : map.insert c.args.left.now s c.args.man ≡ men_before c.args.position.now.men c.args.man c.args.to s = ap (λ (l : Placement). map.insert l s c.args.man) c.requires.left in
    let free : IsFree c.args.left.now s = subst (λ (l : Placement). IsFree l s) (sym c.requires.left) (free_left c.args.position.now.men c.args.to s w.free) in
    let reached : bit_at c.if-is_pawn.reached.bits s ≡ 1 = elim c.if-is_pawn.branch [
      | then-is_pawn p ↦ elim w.goes [
        | inl piece ↦ absurd (piece.0 (c.is_pawn.ensures.0 p.if-is_pawn.true))
        | inr advance ↦ subst (λ (r : SquareSet). bit_at r.bits s ≡ 1) (sym p.reached-is)
            (p.pawn_sources-reached.ensures.sources s w.within free (subst (λ (x : Placement). Advances (IsFree x) c.args.man.side s c.args.to) (sym men) advance.1))
      ]
      | else-is_pawn p ↦ elim w.goes [
        | inl piece ↦ subst (λ (r : SquareSet). bit_at r.bits s ≡ 1) (sym p.reached-is)
            ((p.attackers-reached.ensures.attackers s w.within).1 (subst (λ (x : Placement). Reaches (IsFree x) c.args.man s c.args.to) (sym men) piece.1))
        | inr advance ↦ absurd (false≢true (sym p.if-is_pawn.false ∙ c.is_pawn.ensures.1 advance.0))
      ]
    ] in
    let quiet = (c.quiet.ensures s w.within free).1 (λ check. w.quiet (subst (λ (x : Placement). IsInCheck x c.args.position.now.side) men check)) in
    kept _ _ _ _ _ (c.difference.ensures.squares s) (c.intersection.ensures.squares s) reached ((c.occupied.ensures.free s).1 (subst (λ (x : Placement). IsFree x s) (sym c.board.ensures) w.free)) quiet

pub returns-clause-sound : goal.returns-clause-sound
returns-clause-sound c = grind (arith, men_before, parts, bit_at-lt, free_left, then-is_pawn, else-is_pawn, bit_at, c.requires.left, c.difference.ensures.squares, c.intersection.ensures.squares, c.board.ensures, c.occupied.ensures.free, c.quiet.ensures, c.is_pawn.ensures.0)
