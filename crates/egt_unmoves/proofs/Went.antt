-- A move led here from a square exactly where what `Went` asks of the square holds.
use Rattle.std.proofs.Common.{◌≡◌, ◌≢◌, ◌↔◌, ℕ, ◌⊎◌, Option, Some, None, IfSome, arith, refl, sym, ap}
use Rattle.std.proofs.Common.{◌∙◌, inl, inr, subst}
use Rattle.egt_unmoves.specs.Prelude.{cases_eq, Side, White, Black, P, Man, king_of}
use Rattle.egt_unmoves.specs.Prelude.{IsInCheck, Rides-free, other_side, pawn_of, ahead, forward, last_rank}
use Rattle.egt_unmoves.specs.Prelude.{farthest_advance, MayStand, Advances, HasPawnBeside, Placement, Stands, IsFree}
use Rattle.egt_unmoves.specs.Prelude.{one_man, get-insert_other, get-remove_other, Setup, IsAdmissible, IsKingOn}
use Rattle.egt_unmoves.specs.Prelude.{HasKings, IsSettled, SettlesTo, rank_of, FitsTarget, IsTarget, Move, Goes, plain}
use Rattle.egt_unmoves.specs.Prelude.{passed, men_after, after, is_pawn, promotes, FitsPromotion, ComesBy, MayComeFrom}
use Rattle.egt_unmoves.specs.Prelude.{Went, GoesOver, led_to, men_before, setup_before, side_twice, sides_differ}
use Rattle.std.specs.FinMap as map
use Rattle.egt_unmoves.proofs.Came.{Came, came, came_man, moved_on, not_free, left_whole, settles_men, settles_side, settles_once}
use Rattle.egt_unmoves.proofs.Room.{few_before}
use Rattle.egt_unmoves.proofs.Ways.{passed_over}

-- a move that led here went so
pub comes_went : (b q : Setup) (m : Move) (man : Man) → Stands q.men m.to man → ComesBy b m q → Went q man m.to m.from
comes_went b q m man stands c = record {
  within = c.admissible.on_board m.from x.man x.stood;
  free = x.free_from;
  fits = subst (λ (y : Man). MayStand y m.from) same_man (c.admissible.pawns m.from x.man x.stood);
  goes = subst (λ (men : Placement). GoesOver men man m.from m.to) men (subst (λ (y : Man). GoesOver b.men y m.from m.to) same_man x.goes);
  quiet = λ check. c.admissible.quiet (subst (λ (y : Placement). IsInCheck y (other_side b.side)) (sym men) (subst (IsInCheck (men_before q.men man m.to m.from)) side check));
  settles = subst (λ p. SettlesTo p q) led c.settles;
}
  where
    x : Came b m q
    x = came b m q c

    same_man : x.man ≡ man
    same_man = came_man b m q man x stands

    men : b.men ≡ men_before q.men man m.to m.from
    men = x.men ∙ ap (λ y. men_before q.men y m.to m.from) same_man

    side : q.side ≡ other_side b.side
    side = sym (side_twice q.side) ∙ ap other_side (sym x.side)

    leader : c.leads.man ≡ man
    leader = one_man b.men m.from c.leads.man x.man c.leads.stands x.stood ∙ same_man

    target : c.led.target ≡ passed man m.from m.to
    target = ap (λ (p : Setup). p.target) c.leads.becomes ∙ ap (λ (y : Man). passed y m.from m.to) leader

    led : c.led ≡ led_to q man m.to m.from
    led = λ i. record { men = sym (settles_men c.led q c.settles) i; side = sym (settles_side c.led q c.settles) i; target = target i }

-- the men with one of them taken back
module _ (q : Setup) (man : Man) (to from : ℕ) (may : MayComeFrom q man to from) where
  there : Stands (men_before q.men man to from) from man × IsFree (men_before q.men man to from) to × (q.men ≡ map.insert (map.remove (men_before q.men man to from) from) to man)
  there = moved_on q.men (men_before q.men man to from) man to from may.stands may.free refl

  pub elsewhere : (u : ℕ) → u ≢ from → u ≢ to → map.get (men_before q.men man to from) u ≡ map.get q.men u
  elsewhere u not_from not_to = get-insert_other (map.remove q.men to) from man u not_from ∙ get-remove_other q.men to u not_to

  -- whoever stands there stood there, but for the man itself
  pub stood : (u : ℕ) (other : Man) → Stands (men_before q.men man to from) u other → ((u ≡ from) × (other ≡ man)) ⊎ (u ≢ from × (u ≢ to) × Stands q.men u other)
  stood u other stands = elim (cases_eq u from) [
    | inl e ↦ inl (e, one_man (men_before q.men man to from) from other man (subst (λ s. Stands (men_before q.men man to from) s other) e stands) there.0)
    | inr not_from ↦ elim (cases_eq u to) [
      | inl e ↦ not_free (men_before q.men man to from) to other there.1 (subst (λ s. Stands (men_before q.men man to from) s other) e stands)
      | inr not_to ↦ inr (not_from, not_to, sym (elsewhere u not_from not_to) ∙ stands)
    ]
  ]

  pub king_taken_back : (side : Side) (k : ℕ) → IsKingOn q.men side k → k ≡ to → IsKingOn (men_before q.men man to from) side from
  king_taken_back side k king e = record {
    stands = there.0 ∙ ap Some (one_man q.men to man (king_of side) may.stands (subst (λ s. Stands q.men s (king_of side)) e king.stands));
    only = λ t stands. elim (stood t (king_of side) stands) [
      | inl h ↦ h.0
      | inr h ↦ absurd (h.1 (king.only t h.2 ∙ e))
    ];
  }

  pub king_stays : (side : Side) (k : ℕ) → IsKingOn q.men side k → k ≢ to → IsKingOn (men_before q.men man to from) side k
  king_stays side k king not_to = record {
    stands = elsewhere k (λ e. not_free q.men from (king_of side) may.free (subst (λ s. Stands q.men s (king_of side)) e king.stands)) not_to ∙ king.stands;
    only = λ t stands. elim (stood t (king_of side) stands) [
      | inl h ↦ absurd (not_to (sym (king.only to (may.stands ∙ ap Some (sym h.1)))))
      | inr h ↦ king.only t h.2
    ];
  }

  king_before : (side : Side) (k : ℕ) → IsKingOn q.men side k → (j : ℕ) × IsKingOn (men_before q.men man to from) side j
  king_before side k king = elim (cases_eq k to) [
    | inl e ↦ (from, king_taken_back side k king e)
    | inr other ↦ (k, king_stays side k king other)
  ]

  kings_before : HasKings q.men → HasKings (men_before q.men man to from)
  kings_before kings =
      let white = king_before White kings.white kings.white_there in
      let black = king_before Black kings.black kings.black_there in
      record { white = white.0; black = black.0; white_there = white.1; black_there = black.1 }

  -- it is admissible before, with a target that fits
  admissible_before : (target : Option ℕ) → IsAdmissible q → Went q man to from → FitsTarget (men_before q.men man to from) (other_side q.side) target → IsAdmissible (setup_before q man to from target)
  admissible_before target ok went fits = grind (arith, few_before, stood, kings_before)

  -- a pawn that advances arrives on no target, since the pawn that has passed it is in the way
  not_taken : (target : Option ℕ) → Went q man to from → FitsTarget (men_before q.men man to from) (other_side q.side) target → man.kind ≡ P → target ≡ Some to → ⊥
  not_taken target went fits pawn e = elim went.goes [
    | inl piece ↦ piece.0 pawn
    | inr advance ↦
        let is : IsTarget (men_before q.men man to from) (other_side q.side) to = subst (λ (o : Option ℕ). IfSome o (IsTarget (men_before q.men man to from) (other_side q.side))) e fits in
        elim (passed_over (IsFree (men_before q.men man to from)) (other_side q.side) from to went.within (subst (λ side. Advances (IsFree (men_before q.men man to from)) side from to) may.theirs advance.1)) [
          | inl here ↦
              let same : man ≡ pawn_of (other_side (other_side q.side)) = one_man (men_before q.men man to from) from man _ there.0 (subst (λ s. Stands (men_before q.men man to from) s (pawn_of (other_side (other_side q.side)))) (sym here) is.advanced) in
              sides_differ (other_side q.side) (sym may.theirs ∙ ap (λ (y : Man). y.side) same)
          | inr free ↦ not_free (men_before q.men man to from) _ _ free is.advanced
        ]
  ]

  -- no pawn stands on its last rank
  no_promotion : IsAdmissible q → FitsPromotion (promotes man to) None
  no_promotion ok = grind (arith, rank_of, is_pawn, last_rank)

  -- a man that went so came by that move
  pub went_comes : (target : Option ℕ) → IsAdmissible q → Went q man to from → FitsTarget (men_before q.men man to from) (other_side q.side) target → IsSettled (setup_before q man to from target)
      → ComesBy (setup_before q man to from target) (plain from to) q
  went_comes target ok went fits settled = record {
    admissible = admissible_before target ok went fits;
    settled = settled;
    led = after b man (plain from to);
    leads = record {
      man = man;
      stands = there.0;
      mine = may.theirs;
      goes = by_going went.goes;
      promotion = no_promotion ok;
      becomes = refl;
      safe = λ check. ok.quiet (subst (λ (men : Placement). IsInCheck men (other_side q.side)) men check);
    };
    no_capture = λ captures. elim captures [
      | inl held ↦ not_free b.men to held.man there.1 held.stands
      | inr pawn ↦ not_taken target went fits (ap (λ (y : Man). y.kind) (one_man b.men from man pawn.0.man there.0 pawn.0.stands) ∙ pawn.0.pawn) pawn.1
    ];
    no_promotion = refl;
    settles = subst (λ p. SettlesTo p q) (sym led) went.settles;
  }
    where
      b : Setup
      b = setup_before q man to from target

      men : men_after b man (plain from to) ≡ q.men
      men = ap (λ x. map.insert (map.remove x from) to man) (left_whole b man to (not_taken target went fits)) ∙ sym there.2

      led : after b man (plain from to) ≡ led_to q man to from
      led = λ i. record { men = men i; side = side_twice q.side i; target = passed man from to }

      by_going : GoesOver b.men man from to → Goes b man from to
      by_going h0 = grind (arith, not_free, b, men, there)

-- what the advance of a pawn leaves settles to a position with the target, where a pawn stands ready to take it
module _ (F : ℕ → Type 0) (q : Setup) (man : Man) (to from target : ℕ) (pawn : man.kind ≡ P) (theirs : man.side ≡ other_side q.side) (advances : Advances F man.side from to) (is : passed man from to ≡ Some target) where
  settled_led : IsSettled (led_to q man to from) ↔ HasPawnBeside q.men q.side to
  settled_led = grind (arith, ahead, other_side, target)

  pub target_stays : HasPawnBeside q.men q.side to → SettlesTo (led_to q man to from) (record { men = q.men; side = q.side; target = Some target })
  target_stays ready = inl (settled_led.1 ready, λ i. record { men = q.men; side = q.side; target = sym is i })

  pub target_goes : (¬ HasPawnBeside q.men q.side to) → SettlesTo (led_to q man to from) (record { men = q.men; side = q.side; target = None })
  target_goes none = inr (λ settled. none (settled_led.0 settled), refl)

-- whatever squares are free
pub advances_anyhow : (F : ℕ → Type 0) (side : Side) (s t : ℕ) → Advances F side s t → Advances (λ _. Unit {0}) side s t
advances_anyhow F side s t a = record { rides = Rides-free F (λ _. Unit {0}) (farthest_advance side s) s t (forward side) (λ u u_in free. tt) a.rides; free = tt }

-- where it settles to one with that target, it settles to q exactly where q has the target
pub same_target : (p q : Setup) (target : Option ℕ) → SettlesTo p (record { men = q.men; side = q.side; target = target }) → (target ≡ q.target) ↔ SettlesTo p q
same_target p q target settles = (
  λ e. subst (SettlesTo p) (λ i. record { men = q.men; side = q.side; target = e i }) settles,
  λ here. ap (λ (x : Setup). x.target) (settles_once p _ q settles here),
)

-- the moves of the man on a square came from squares that it went from
pub left_square : (q : Setup) (man : Man) (to : ℕ) → Stands q.men to man → (b : Setup) (m : Move) → m.to ≡ to → ComesBy b m q → Went q man to m.from
left_square q man to stands b m same comes = subst (λ t. Went q man t m.from) same (comes_went b q m man (ap (map.get q.men) same ∙ stands) comes)
