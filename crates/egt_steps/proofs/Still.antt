-- A move that does not zero takes one man to a free square, and changes nothing else on the board.
use Rattle.std.proofs.Common.{◌≡◌, ◌≢◌, ℕ, ◌+◌, ◌/◌, if◌then◌else◌, ◌&&◌, Bool, true, false, Option, Some, None, refl}
use Rattle.std.proofs.Common.{ap, ◌∙◌, inl, inr, ◌⊎◌, subst, ◌||◌, arith}
use Rattle.egt_steps.specs.Prelude.{Kind, P, Man, other_side, Placement, Stands, IsFree, get-insert_same, IsOccupiedBy}
use Rattle.egt_steps.specs.Prelude.{one_man, Setup, IsAdmissible, ahead, IsOf, IsMoved, Zeroes, IsPawnOn, Captures}
use Rattle.egt_steps.specs.Prelude.{Goes, Leads, men_left, is_target, is_two_ranks, IsLegal, plain, passed, is_pawn}
use Rattle.egt_steps.specs.Prelude.{FitsPromotion, Move, IsLegalTarget, IsQuietTarget}
use Rattle.egt_board.proofs.Sides.{side_cases}
use Rattle.std.specs.FinMap as map

-- the law on moves that keep the class
abbrev pub KeepsClass : Type 0
KeepsClass = (p q : Setup) (m : Move) (c : ℕ) (flipped : Bool) → IsAdmissible p → IsOf c flipped p → Leads p m q → ¬ Captures p m → m.promo ≡ None → IsOf c flipped q

pub no_pawn : (kind : Kind) → kind ≢ P → is_pawn kind ≡ false
no_pawn kind not = grind arith

pub no_pawn_is : (kind : Kind) → is_pawn kind ≡ false → kind ≢ P
no_pawn_is kind not pawn = let told = ap is_pawn pawn in cc

pub pawn_is : (kind : Kind) → is_pawn kind ≡ true → kind ≡ P
pawn_is kind e = grind arith

pub neither : (a b : Bool) → a ≡ false → b ≡ false → (a || b) ≡ false
neither a b e f = grind arith

pub no_promotion : (b : Bool) (promo : Option Kind) → b ≡ false → FitsPromotion b promo → promo ≡ None
no_promotion b promo e fits = grind arith

-- no man but a pawn is promoted
pub piece_promo : (p q : Setup) (m : Move) (leads : Leads p m q) → leads.man.kind ≢ P → m.promo ≡ None
piece_promo p q m leads piece = grind (arith, no_promotion, is_pawn, no_pawn)

-- a move to a square is a legal target of it
pub targeted : (p : Setup) (m : Move) (from : ℕ) → m.from ≡ from → IsLegal p m → IsLegalTarget p from m.to
targeted p m from is legal = (m.promo, subst (IsLegal p) (λ i. record { from = is i; to = m.to; promo = m.promo }) legal)

-- a man that is no pawn, or does not go to the target, takes nothing in passing
pub not_passing : (kind : Kind) (target : Option ℕ) (t : ℕ) → (kind ≡ P → target ≡ Some t → ⊥) → (is_pawn kind && is_target target t) ≡ false
not_passing kind target t none = grind arith

-- no pawn passes a square
pub piece_unpassed : (man : Man) (from t : ℕ) → man.kind ≢ P → passed man from t ≡ None
piece_unpassed man from t piece = ap (λ b. if b then Some ((from + t) / 2) else None) (ap (λ a. a && is_two_ranks from t) (no_pawn man.kind piece))

module _ (p : Setup) (from t : ℕ) (man : Man) (stands : Stands p.men from man) where
  man_is : (q : Setup) (m : Move) → m.from ≡ from → (leads : Leads p m q) → man ≡ leads.man
  man_is q m is leads = one_man p.men from man leads.man stands (subst (λ s. Stands p.men s leads.man) is leads.stands)

  same_move : (m : Move) → m.from ≡ from → m.to ≡ t → m.promo ≡ None → m ≡ plain from t
  same_move m f e n = λ i. record { from = f i; to = e i; promo = n i }

  plain_legal : ((m : Move) → m.from ≡ from → m.to ≡ t → IsLegal p m → m.promo ≡ None) → IsLegalTarget p from t → IsLegal p (plain from t)
  plain_legal none target = subst (λ (promo : Option Kind). IsLegal p (record { from = from; to = t; promo = promo })) (none (record { from = from; to = t; promo = target.0 }) refl refl target.1) target.1

  piece_plain : man.kind ≢ P → (m : Move) → m.from ≡ from → m.to ≡ t → IsLegal p m → m.promo ≡ None
  piece_plain piece m is to legal = piece_promo p legal.0 m legal.1 (λ pawn. piece (ap (λ (x : Man). x.kind) (man_is legal.0 m is legal.1) ∙ pawn))

  -- a piece's move to a square where no enemy stands
  pub quiet_piece : man.kind ≢ P → ¬ IsOccupiedBy p.men t (other_side p.side) → IsLegalTarget p from t → IsQuietTarget p false from t
  quiet_piece piece free target = record {
    legal = plain_legal (piece_plain piece) target;
    only = λ m is to legal. same_move m is to (piece_plain piece m is to legal);
    quiet = λ captures. elim captures [
      | inl held ↦ free held
      | inr passing ↦ piece (no_pawn_here passing.0)
    ];
    unpassed = λ other here. piece_unpassed other from t (λ pawn. piece (ap (λ (x : Man). x.kind) (one_man p.men from man other stands here) ∙ pawn));
    zeroes = (λ no. absurd (let false = no in cc), λ zeroes. absurd (elim zeroes [ inl held ↦ free held | inr pawn ↦ piece (no_pawn_here pawn) ]));
  }
    where
      no_pawn_here : IsPawnOn p.men from → man.kind ≡ P
      no_pawn_here pawn = ap (λ (x : Man). x.kind) (one_man p.men from man pawn.man stands pawn.stands) ∙ pawn.pawn

module _ (keeps : KeepsClass) (c : ℕ) (p q : Setup) (pawn : Bool) (from t : ℕ) (ok : IsAdmissible p) (fine : IsAdmissible q) (leads : Leads p (plain from t) q) (quiet : IsQuietTarget p pawn from t) where
  held : (man : Man) → Stands p.men t man → (man.side ≡ p.side) ⊎ (man.side ≡ other_side p.side) → Goes p leads.man from t → IsFree p.men t
  held man stands (inr enemy) goes = absurd (quiet.quiet (inl (record { man = man; stands = stands; theirs = enemy })))
  held man stands (inl own) (inl piece) = absurd (piece.not_own (record { man = man; stands = stands; theirs = own }))
  held man stands (inl own) (inr (inl advances)) = advances.advances.free
  held man stands (inl own) (inr (inr takes)) = elim takes.takes [
    | inl enemy ↦ absurd (quiet.quiet (inl enemy))
    | inr passing ↦ absurd (quiet.quiet (inr (record { man = leads.man; stands = leads.stands; pawn = takes.pawn }, passing)))
  ]

  free_to : (o : Option Man) → map.get p.men t ≡ o → IsFree p.men t
  free_to o is = grind (arith, held, side_cases)

  left : men_left p leads.man t ≡ p.men
  left = grind (arith, ahead, not_passing)

  men : q.men ≡ map.insert (map.remove p.men from) t leads.man
  men = grind (arith, left)

  pub is_moved : IsMoved c p from t q
  is_moved = record {
    man = leads.man;
    stands = leads.stands;
    free = free_to (map.get p.men t) refl;
    on_board = fine.on_board t leads.man (ap (λ (placed : Placement). map.get placed t) men ∙ get-insert_same (map.remove p.men from) t leads.man t refl);
    men = men;
    side = ap (λ (s : Setup). s.side) leads.becomes;
    target = ap (λ (s : Setup). s.target) leads.becomes ∙ quiet.unpassed leads.man leads.stands;
    admissible = fine;
    class = λ flipped is_of. keeps p q (plain from t) c flipped ok is_of leads quiet.quiet refl;
  }

-- a move that does not zero takes one man to a free square, and changes nothing else
pub quiet_moved : KeepsClass → (c : ℕ) (p q : Setup) (m : Move) → IsAdmissible p → IsAdmissible q → Leads p m q → ¬ Zeroes p m → IsMoved c p m.from m.to q
quiet_moved keeps c p q m ok fine leads quiet =
    let piece : leads.man.kind ≢ P = λ pawn. quiet (inr (record { man = leads.man; stands = leads.stands; pawn = pawn })) in
    let still = quiet_piece p m.from m.to leads.man leads.stands piece (λ held. quiet (inl held)) (targeted p m m.from refl (q, leads)) in
    is_moved keeps c p q false m.from m.to ok fine (subst (λ (x : Move). Leads p x q) (still.only m refl refl (q, leads)) leads) still
