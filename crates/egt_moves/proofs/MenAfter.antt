-- The men after a move.
use Rattle.std.proofs.Common.{◌≡◌, ◌≢◌, ℕ, ◌⊎◌, ◌&&◌, Option, Some, None, true, false, Bool, refl, sym, ap, ◌∙◌, inl}
use Rattle.std.proofs.Common.{inr, subst, if◌then◌else◌, IfSome, arith}
use Rattle.egt_moves.specs.Prelude.{cases_eq, pawn_of, IsTarget, Reaches, king_of, IsKingOn, is_pawn, arriving, men_left}
use Rattle.egt_moves.specs.Prelude.{eqb_tells, Placement, Stands, IsInCheck, side_twice, IsOfficer, is_target, men_after}
use Rattle.egt_moves.specs.Prelude.{Side, Kind, Q, R, B, N, P, K, Man, IsFree, ahead, Setup, Move, Goes}
use Rattle.egt_moves.specs.Prelude.{other_side, IsOccupiedBy, get-remove_same, Reaches-free, IsAdmissible, sides_differ}
use Rattle.egt_moves.specs.Prelude.{get-insert_same, get-insert_other, get-remove_other, FitsPromotion, takes_in_passing}
use Rattle.std.specs.FinMap as map
pub use Rattle.egt_board.specs.Placement.{one_man}
pub use Rattle.egt_moves.specs.DecidedMoves.{goes_on_board}

pub not_free : {A : Type 0} (men : Placement) (s : ℕ) (man : Man) → IsFree men s → Stands men s man → A
not_free men s man free stands = let bad : Some man ≡ None = sym stands ∙ free in absurd (cc)

-- a pawn takes one that has just passed it
pub record Passing (p : Setup) (man : Man) (to : ℕ) : Type 0 where
  pub target : p.target ≡ Some to
  pub is : IsTarget p.men p.side to
  pub pawn : man.kind ≡ P
  pub left : men_left p man to ≡ map.remove p.men (ahead (other_side p.side) to)

pub target_is : (p : Setup) (t : ℕ) → IsAdmissible p → p.target ≡ Some t → IsTarget p.men p.side t
target_is p t ok is = subst (λ (o : Option ℕ). IfSome o (IsTarget p.men p.side)) is ok.target

-- no pawn is taken in passing, or one is
pub left_cases : (p : Setup) (man : Man) (to : ℕ) → IsAdmissible p → (men_left p man to ≡ p.men) ⊎ Passing p man to
left_cases p man to ok = by_kind man.kind refl
  where
    all_left : takes_in_passing p man to ≡ false → men_left p man to ≡ p.men
    all_left e = ap (λ b. if b then map.remove p.men (ahead (other_side p.side) to) else p.men) e

    one_less : takes_in_passing p man to ≡ true → men_left p man to ≡ map.remove p.men (ahead (other_side p.side) to)
    one_less e = ap (λ b. if b then map.remove p.men (ahead (other_side p.side) to) else p.men) e

    no_pawn : is_pawn man.kind ≡ false → (men_left p man to ≡ p.men) ⊎ Passing p man to
    no_pawn e = inl (all_left (ap (λ b. b && is_target p.target to) e))

    by_target : man.kind ≡ P → (o : Option ℕ) → p.target ≡ o → (men_left p man to ≡ p.men) ⊎ Passing p man to
    by_target pawn None e = inl (all_left (ap (λ k. is_pawn k && is_target p.target to) pawn ∙ ap (λ o. is_target o to) e))
    by_target pawn (Some t) e = elim (eqb_tells t to) [
      | inl h ↦
          let here : p.target ≡ Some to = e ∙ ap Some h.1 in
          inr (record {
            target = here;
            is = target_is p to ok here;
            pawn = pawn;
            left = one_less (ap (λ k. is_pawn k && is_target p.target to) pawn ∙ ap (λ o. is_target o to) e ∙ h.0);
          })
      | inr h ↦ inl (all_left (ap (λ k. is_pawn k && is_target p.target to) pawn ∙ ap (λ o. is_target o to) e ∙ h.0))
    ]

    by_kind : (kind : Kind) → man.kind ≡ kind → (men_left p man to ≡ p.men) ⊎ Passing p man to
    by_kind P e = by_target e p.target refl
    by_kind Q e = no_pawn (ap is_pawn e)
    by_kind R e = no_pawn (ap is_pawn e)
    by_kind B e = no_pawn (ap is_pawn e)
    by_kind N e = no_pawn (ap is_pawn e)
    by_kind K e = no_pawn (ap is_pawn e)

-- what is left stood there before
pub left_stood : (p : Setup) (man : Man) (to t : ℕ) (other : Man) → IsAdmissible p → Stands (men_left p man to) t other → Stands p.men t other
left_stood p man to t other ok stands = elim (left_cases p man to ok) [
  | inl same ↦ ap (λ m. map.get m t) (sym same) ∙ stands
  | inr passing ↦ elim (cases_eq t (ahead (other_side p.side) to)) [
    | inl e ↦ not_free (men_left p man to) t other (ap (λ m. map.get m t) passing.left ∙ get-remove_same p.men (ahead (other_side p.side) to) t e) stands
    | inr apart ↦ sym (get-remove_other p.men (ahead (other_side p.side) to) t apart) ∙ ap (λ m. map.get m t) (sym passing.left) ∙ stands
  ]
]

pub left_free : (p : Setup) (man : Man) (to t : ℕ) → IsAdmissible p → IsFree p.men t → IsFree (men_left p man to) t
left_free p man to t ok free = grind (arith, free, men_left, not_free, left_stood)

-- only an enemy pawn is taken in passing
pub left_keeps : (p : Setup) (man : Man) (to t : ℕ) (other : Man) → IsAdmissible p → other ≢ pawn_of (other_side p.side) → Stands p.men t other → Stands (men_left p man to) t other
left_keeps p man to t other ok not_it stands = elim (left_cases p man to ok) [
  | inl same ↦ ap (λ m. map.get m t) same ∙ stands
  | inr passing ↦ elim (cases_eq t (ahead (other_side p.side) to)) [
    | inl e ↦ absurd (not_it (one_man p.men t other _ stands (ap (map.get p.men) e ∙ passing.is.advanced)))
    | inr apart ↦ ap (λ m. map.get m t) passing.left ∙ get-remove_other p.men (ahead (other_side p.side) to) t apart ∙ stands
  ]
]

-- what stands where after the move
pub after_to : (p : Setup) (man : Man) (m : Move) → map.get (men_after p man m) m.to ≡ Some (arriving man m.promo)
after_to p man m = get-insert_same (map.remove (men_left p man m.to) m.from) m.to (arriving man m.promo) m.to refl

pub after_from : (p : Setup) (man : Man) (m : Move) → m.from ≢ m.to → map.get (men_after p man m) m.from ≡ None
after_from p man m apart = get-insert_other (map.remove (men_left p man m.to) m.from) m.to (arriving man m.promo) m.from apart ∙ get-remove_same (men_left p man m.to) m.from m.from refl

pub after_other : (p : Setup) (man : Man) (m : Move) (t : ℕ) → t ≢ m.from → t ≢ m.to → map.get (men_after p man m) t ≡ map.get (men_left p man m.to) t
after_other p man m t not_from not_to = grind (arith, not_from, not_to, get-insert_other, men_left, arriving, get-remove_other)

-- a man that stands after the move is the one that moved, or was promoted, or stood there before
pub after_cases : (p : Setup) (man : Man) (m : Move) (t : ℕ) (other : Man) → IsAdmissible p → Stands (men_after p man m) t other → ((t ≡ m.to) × (other ≡ arriving man m.promo)) ⊎ ((t ≢ m.from) × (t ≢ m.to) × Stands p.men t other)
after_cases p man m t other ok stands = elim (cases_eq t m.to) [
  | inl e ↦ inl (e, one_man (men_after p man m) t other (arriving man m.promo) stands (ap (map.get (men_after p man m)) e ∙ after_to p man m))
  | inr not_to ↦ elim (cases_eq t m.from) [
    | inl e ↦
        not_free (men_after p man m) t other
        (get-insert_other (map.remove (men_left p man m.to) m.from) m.to (arriving man m.promo) t not_to ∙ get-remove_same (men_left p man m.to) m.from t e) stands
    | inr not_from ↦ inr (not_from, not_to, left_stood p man m.to t other ok (sym (after_other p man m t not_from not_to) ∙ stands))
  ]
]

-- a man that neither moves nor is taken stays
pub after_stays : (p : Setup) (man : Man) (m : Move) (t : ℕ) (other : Man) → IsAdmissible p → other ≢ pawn_of (other_side p.side) → t ≢ m.from → t ≢ m.to → Stands p.men t other → Stands (men_after p man m) t other
after_stays p man m t other ok not_it not_from not_to stands = after_other p man m t not_from not_to ∙ left_keeps p man m.to t other ok not_it stands

-- a man goes to a square of the board on which no man of its side stands
pub goes_not_own : (p : Setup) (man : Man) (from to : ℕ) → IsAdmissible p → Goes p man from to → ¬ IsOccupiedBy p.men to p.side
goes_not_own p man from to ok h held = grind (arith, not_free, sides_differ, one_man)

-- an enemy man on the square that it goes to was attacked
pub goes_to_attacked : (p : Setup) (man other : Man) (from to : ℕ) → Goes p man from to → Stands p.men to other → Reaches (IsFree p.men) man from to
goes_to_attacked p man other from to h stands = grind (arith, not_free)

-- nothing becomes a king
abbrev pub MayBecome : Option Kind → Type 0
MayBecome None = Unit {0}
MayBecome (Some kind) = IsOfficer kind

pub may_become : (b : Bool) (promo : Option Kind) → FitsPromotion b promo → MayBecome promo
may_become b promo fits = grind arith

pub not_king_of : (man : Man) (promo : Option Kind) (side : Side) → MayBecome promo → man.kind ≢ K → king_of side ≢ arriving man promo
not_king_of man promo side may not_king e = grind arith

pub arriving_side : (man : Man) (promo : Option Kind) → (arriving man promo).side ≡ man.side
arriving_side man promo = grind arith

kings_are_no_pawns : (side other : Side) → king_of side ≢ pawn_of other
kings_are_no_pawns side other e = let kinds : K ≡ P = ap (λ (m : Man). m.kind) e in cc

-- the king that moves is then on its new square
pub king_moves : (p : Setup) (man : Man) (m : Move) (k : ℕ) → IsAdmissible p → Stands p.men m.from man → IsKingOn p.men man.side k → man.kind ≡ K → m.promo ≡ None → IsKingOn (men_after p man m) man.side m.to
king_moves p man m k ok stands king is_king none = grind (arith, after_to, arriving, after_cases)

-- another man leaves it where it is
pub king_stays : (p : Setup) (man : Man) (m : Move) (k : ℕ) → IsAdmissible p → Stands p.men m.from man → man.side ≡ p.side → Goes p man m.from m.to → MayBecome m.promo → IsKingOn p.men man.side k → man.kind ≢ K → IsKingOn (men_after p man m) man.side k
king_stays p man m k ok stands mine goes may king not_king = record {
  stands = after_stays p man m k (king_of man.side) ok (kings_are_no_pawns man.side (other_side p.side)) not_from not_to king.stands;
  only = λ t there. elim (after_cases p man m t (king_of man.side) ok there) [
    | inl h ↦ absurd (not_king_of man m.promo man.side may not_king h.1)
    | inr h ↦ king.only t h.2
  ];
}
  where
    not_from : k ≢ m.from
    not_from e = not_king (ap (λ (x : Man). x.kind) (one_man p.men m.from man (king_of man.side) stands (subst (λ s. Stands p.men s (king_of man.side)) e king.stands)))

    not_to : k ≢ m.to
    not_to e = goes_not_own p man m.from m.to ok goes (record { man = king_of man.side; stands = subst (λ s. Stands p.men s (king_of man.side)) e king.stands; theirs = mine })

-- the other side's king stays too: it cannot have been captured, since it was not attacked
pub other_king_stays : (p : Setup) (man : Man) (m : Move) (k : ℕ) → Stands p.men m.from man → man.side ≡ p.side → Goes p man m.from m.to → IsAdmissible p → IsKingOn p.men (other_side p.side) k
    → IsKingOn (men_after p man m) (other_side p.side) k
other_king_stays p man m k stands mine goes ok king = record {
  stands = after_stays p man m k (king_of (other_side p.side)) ok (kings_are_no_pawns (other_side p.side) (other_side p.side)) not_from not_to king.stands;
  only = λ t there. elim (after_cases p man m t (king_of (other_side p.side)) ok there) [
    | inl h ↦ absurd (sides_differ p.side (sym mine ∙ sym (arriving_side man m.promo) ∙ ap (λ (x : Man). x.side) (sym h.1)))
    | inr h ↦ king.only t h.2
  ];
}
  where
    not_from : k ≢ m.from
    not_from e = sides_differ p.side (sym mine ∙ ap (λ (x : Man). x.side) (one_man p.men m.from man (king_of (other_side p.side)) stands (subst (λ s. Stands p.men s (king_of (other_side p.side))) e king.stands)))

    not_to : k ≢ m.to
    not_to e = grind (arith, king_of, other_side, side_twice, goes_to_attacked)

-- what the pawn becomes does not matter to the king of its side
pub check_whatever : (p : Setup) (man : Man) (from to : ℕ) (kind other : Option Kind) → man.side ≡ p.side → king_of p.side ≢ arriving man kind → (king_of p.side ≡ arriving man other → ⊥)
    → IsInCheck (men_after p man (record { from = from; to = to; promo = kind })) p.side → IsInCheck (men_after p man (record { from = from; to = to; promo = other })) p.side
check_whatever p man from to kind other mine not_king _ check = record {
  square = check.square;
  stands = same check.square (king_of p.side) (λ e. not_king (one_man _ to (king_of p.side) (arriving man kind) (subst (λ s. Stands before s (king_of p.side)) e check.stands) (get-insert_same _ to (arriving man kind) to refl))) check.stands;
  attacked = record {
    from = check.attacked.from;
    man = check.attacked.man;
    stands = same check.attacked.from check.attacked.man (λ e. sides_differ p.side (sym mine ∙ sym (arriving_side man kind) ∙ ap (λ (x : Man). x.side) (one_man _ to (arriving man kind) check.attacked.man (get-insert_same _ to (arriving man kind) to refl) (subst (λ s. Stands before s check.attacked.man) e check.attacked.stands)) ∙ check.attacked.theirs)) check.attacked.stands;
    theirs = check.attacked.theirs;
    reaches = Reaches-free (IsFree before) (IsFree behind) check.attacked.man check.attacked.from check.square (λ u _. free u) check.attacked.reaches;
  };
}
  where
    before : Placement
    before = men_after p man (record { from = from; to = to; promo = kind })

    behind : Placement
    behind = men_after p man (record { from = from; to = to; promo = other })

    others : (t : ℕ) → t ≢ to → map.get behind t ≡ map.get before t
    others t apart = get-insert_other _ to (arriving man other) t apart ∙ sym (get-insert_other _ to (arriving man kind) t apart)

    same : (t : ℕ) (x : Man) → (t ≡ to → ⊥) → Stands before t x → Stands behind t x
    same t x apart stands = others t apart ∙ stands

    free : (t : ℕ) → IsFree before t → IsFree behind t
    free t is = elim (cases_eq t to) [
      | inl e ↦ not_free before t (arriving man kind) is (get-insert_same _ to (arriving man kind) t e)
      | inr apart ↦ others t apart ∙ is
    ]
