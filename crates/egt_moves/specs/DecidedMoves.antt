-- Whether a move is legal, and whether a step leads from one setup to another, can be told.
use Rattle.std.proofs.Common.{◌≡◌, ◌≢◌, ℕ, ◌<◌, ◌⊎◌, Bool, true, false, Option, Some, None, refl, sym, ap, ◌∙◌, subst}
use Rattle.std.proofs.Common.{inl, inr}
use Rattle.egt_board.specs.Prelude.{other_side, IsInCheck, Reaches, Reaches-on_board, Advances, Stands, IsFree, IsOccupiedBy}
use Rattle.egt_board.specs.Prelude.{one_man, Setup, Decided}
use Rattle.egt_board.specs.declared.man.Man.{Man}
use Rattle.egt_board.specs.declared.man.Kind.{Kind}
use Rattle.egt_board.specs.declared.man.Kind.TheVariants.{Q, R, B, N, P, K}
use Rattle.egt_board.specs.Decided.{decided_as, decided_not, decided_both, decided_either, decided_eq}
use Rattle.egt_board.specs.Decided.{decided_some_below}
use Rattle.egt_board.specs.DecidedMen.{decided_side, decided_kind, decided_on, decided_anywhere, decided_free}
use Rattle.egt_board.specs.DecidedMen.{decided_held, decided_reaches, decided_advances, decided_check}
use Rattle.egt_moves.specs.declared.chess_move.Move.{Move}
use Rattle.egt_moves.specs.Chess.{Zeroes, IsPawnOn}
use Rattle.egt_moves.specs.Going.{Goes, PieceGoes, PawnAdvances, PawnTakes}
use Rattle.egt_moves.specs.Promotion.{FitsPromotion, promotes}
use Rattle.egt_moves.specs.Legal.{Leads, IsLegal, men_after, after}
use Rattle.egt_moves.specs.Standing.{IsStuck, IsCheckmate}

decided_takes : (p : Setup) (to : ℕ) → Decided (IsOccupiedBy p.men to (other_side p.side) ⊎ (p.target ≡ Some to))
decided_takes p to = decided_either (decided_held p.men to (other_side p.side)) (is_it p.target)
  where
    is_it : (o : Option ℕ) → Decided (o ≡ Some to)
    is_it None = inr (λ e. cc)
    is_it (Some t) = decided_as (λ e. ap Some e) (λ e. cc) (decided_eq t to)

decided_goes : (p : Setup) (man : Man) (from to : ℕ) → Decided (Goes p man from to)
decided_goes p man from to = decided_either piece (decided_either advance takes)
  where
    piece : Decided (PieceGoes p man from to)
    piece = decided_as
        (λ (h : (man.kind ≢ P) × (Reaches (IsFree p.men) man from to × ¬ IsOccupiedBy p.men to p.side)). record { piece = h.0; reaches = h.1.0; not_own = h.1.1 })
        (λ (g : PieceGoes p man from to). (g.piece, (g.reaches, g.not_own)))
        (decided_both (decided_not (decided_kind man.kind P))
        (λ _. decided_both (decided_reaches (IsFree p.men) (decided_free p.men) man from to) (λ _. decided_not (decided_held p.men to p.side))))

    advance : Decided (PawnAdvances p man from to)
    advance = decided_as
        (λ (h : (man.kind ≡ P) × Advances (IsFree p.men) man.side from to). record { pawn = h.0; advances = h.1 })
        (λ (g : PawnAdvances p man from to). (g.pawn, g.advances))
        (decided_both (decided_kind man.kind P) (λ _. decided_advances (IsFree p.men) (decided_free p.men) man.side from to))

    takes : Decided (PawnTakes p man from to)
    takes = decided_as
        (λ (h : (man.kind ≡ P) × (Reaches (IsFree p.men) man from to × (IsOccupiedBy p.men to (other_side p.side) ⊎ (p.target ≡ Some to)))). record { pawn = h.0; reaches = h.1.0; takes = h.1.1 })
        (λ (g : PawnTakes p man from to). (g.pawn, (g.reaches, g.takes)))
        (decided_both (decided_kind man.kind P) (λ _. decided_both (decided_reaches (IsFree p.men) (decided_free p.men) man from to) (λ _. decided_takes p to)))

decided_fits : (b : Bool) (promo : Option Kind) → Decided (FitsPromotion b promo)
decided_fits true None = inr (λ h. h)
decided_fits true (Some Q) = inl tt
decided_fits true (Some R) = inl tt
decided_fits true (Some B) = inl tt
decided_fits true (Some N) = inl tt
decided_fits true (Some P) = inr (λ h. h)
decided_fits true (Some K) = inr (λ h. h)
decided_fits false None = inl tt
decided_fits false (Some kind) = inr (λ h. h)

-- the man may make the move
abbrev May : Setup → Move → Man → Type 0
May p m man = (man.side ≡ p.side) × (Goes p man m.from m.to × (FitsPromotion (promotes man m.to) m.promo × ¬ IsInCheck (men_after p man m) p.side))

-- the move is legal
pub decided_legal : (p : Setup) (m : Move) → Decided (IsLegal p m)
decided_legal p m = decided_as
    (λ (h : (man : Man) × Stands p.men m.from man × May p m man).
    (after p h.0 m, record { man = h.0; stands = h.1; mine = h.2.0; goes = h.2.1.0; promotion = h.2.1.1.0; becomes = refl; safe = h.2.1.1.1 }))
    (λ (l : IsLegal p m). (l.1.man, l.1.stands, (l.1.mine, (l.1.goes, (l.1.promotion, subst (λ (q : Setup). ¬ IsInCheck q.men p.side) l.1.becomes l.1.safe)))))
    (decided_on p.men m.from (May p m)
    (λ man. decided_both (decided_side man.side p.side)
    (λ _. decided_both (decided_goes p man m.from m.to)
    (λ _. decided_both (decided_fits (promotes man m.to) m.promo) (λ _. decided_not (decided_check (men_after p man m) p.side))))))

-- a move leads to one position
pub leads_to_one : (p q r : Setup) (m : Move) → Leads p m q → Leads p m r → q ≡ r
leads_to_one p q r m there here =
    let same : there.man ≡ here.man = one_man p.men m.from there.man here.man there.stands here.stands in
    there.becomes ∙ ap (λ (x : Man). after p x m) same ∙ sym here.becomes

-- it captures, or a pawn makes it
pub decided_zeroes : (p : Setup) (m : Move) → Decided (Zeroes p m)
decided_zeroes p m = decided_either (decided_held p.men m.to (other_side p.side)) (decided_as
    (λ (h : (man : Man) × Stands p.men m.from man × (man.kind ≡ P)). record { man = h.0; stands = h.1; pawn = h.2 })
    (λ (on : IsPawnOn p.men m.from). (on.man, on.stands, on.pawn))
    (decided_on p.men m.from (λ man. man.kind ≡ P) (λ man. decided_kind man.kind P)))

-- something that a man becomes, or none
decided_some_promotion : (Holds : Option Kind → Type 0) → ((promo : Option Kind) → Decided (Holds promo)) → Decided ((promo : Option Kind) × Holds promo)
decided_some_promotion Holds each = decided_as there back
    (decided_either (each None) (decided_either (each (Some Q)) (decided_either (each (Some R)) (decided_either (each (Some B)) (decided_either (each (Some N)) (decided_either (each (Some P)) (each (Some K))))))))
  where
    there : Holds None ⊎ (Holds (Some Q) ⊎ (Holds (Some R) ⊎ (Holds (Some B) ⊎ (Holds (Some N) ⊎ (Holds (Some P) ⊎ Holds (Some K)))))) → (promo : Option Kind) × Holds promo
    there (inl h) = (None, h)
    there (inr (inl h)) = (Some Q, h)
    there (inr (inr (inl h))) = (Some R, h)
    there (inr (inr (inr (inl h)))) = (Some B, h)
    there (inr (inr (inr (inr (inl h))))) = (Some N, h)
    there (inr (inr (inr (inr (inr (inl h)))))) = (Some P, h)
    there (inr (inr (inr (inr (inr (inr h)))))) = (Some K, h)

    one : (promo : Option Kind) → Holds promo → Holds None ⊎ (Holds (Some Q) ⊎ (Holds (Some R) ⊎ (Holds (Some B) ⊎ (Holds (Some N) ⊎ (Holds (Some P) ⊎ Holds (Some K))))))
    one None h = inl h
    one (Some Q) h = inr (inl h)
    one (Some R) h = inr (inr (inl h))
    one (Some B) h = inr (inr (inr (inl h)))
    one (Some N) h = inr (inr (inr (inr (inl h))))
    one (Some P) h = inr (inr (inr (inr (inr (inl h)))))
    one (Some K) h = inr (inr (inr (inr (inr (inr h)))))

    back : (promo : Option Kind) × Holds promo → Holds None ⊎ (Holds (Some Q) ⊎ (Holds (Some R) ⊎ (Holds (Some B) ⊎ (Holds (Some N) ⊎ (Holds (Some P) ⊎ Holds (Some K))))))
    back h = one h.0 h.1

-- no man goes off the board
pub goes_on_board : (p : Setup) (man : Man) (from to : ℕ) → Goes p man from to → to < 64
goes_on_board p man from to (inl piece) = Reaches-on_board (IsFree p.men) man from to piece.reaches
goes_on_board p man from to (inr (inl advance)) = advance.advances.rides.away.on_board
goes_on_board p man from to (inr (inr takes)) = Reaches-on_board (IsFree p.men) man from to takes.reaches

-- some legal move of which can be told what holds
pub decided_some_move : (p : Setup) (Holds : Move → Type 0) → ((m : Move) → Decided (Holds m)) → Decided ((m : Move) × IsLegal p m × Holds m)
decided_some_move p Holds each = decided_as
    (λ (h : (s : ℕ) × (man : Man) × Stands p.men s man × From s). (record { from = h.0; to = h.3.0; promo = h.3.2.0 }, h.3.2.1.0, h.3.2.1.1))
    (λ (h : (m : Move) × IsLegal p m × Holds m).
    (h.0.from, h.1.1.man, h.1.1.stands, (h.0.to, goes_on_board p h.1.1.man h.0.from h.0.to h.1.1.goes, (h.0.promo, (h.1, h.2)))))
    (decided_anywhere p.men (λ s man. From s) (λ s man. decided_some_below (λ t. To s t)
    (λ t. decided_some_promotion (λ promo. Made (record { from = s; to = t; promo = promo }))
    (λ promo. decided_both (decided_legal p (record { from = s; to = t; promo = promo })) (λ _. each (record { from = s; to = t; promo = promo })))) 64))
  where
    Made : Move → Type 0
    Made m = IsLegal p m × Holds m

    To : ℕ → ℕ → Type 0
    To s t = (promo : Option Kind) × Made (record { from = s; to = t; promo = promo })

    From : ℕ → Type 0
    From s = (t : ℕ) × (t < 64) × To s t

-- there is no legal move
pub decided_stuck : (p : Setup) → Decided (IsStuck p)
decided_stuck p = decided_as
    (λ (none : ¬ ((m : Move) × IsLegal p m × Unit {0})) (m : Move) (legal : IsLegal p m). none (m, legal, tt))
    (λ (stuck : IsStuck p) (some : (m : Move) × IsLegal p m × Unit {0}). stuck some.0 some.1)
    (decided_not (decided_some_move p (λ _. Unit {0}) (λ _. inl tt)))

pub decided_checkmate : (p : Setup) → Decided (IsCheckmate p)
decided_checkmate p = decided_as
    (λ (h : IsStuck p × IsInCheck p.men p.side). record { stuck = h.0; check = h.1 })
    (λ (c : IsCheckmate p). (c.stuck, c.check))
    (decided_both (decided_stuck p) (λ _. decided_check p.men p.side))
