-- The quiet moves from a position lead to the men after quiet steps, and to all of them that are positions.
use Rattle.std.proofs.Common.{◌≡◌, ◌≢◌, ℕ, ◌<◌, Bool, false, Some, refl, sym, ap, subst, inl, inr}
use Rattle.egt_steps.specs.Prelude.{bit_at, king_of, Reaches-free, other_side, Setup, Side, White, Black, IsListed}
use Rattle.egt_steps.specs.Prelude.{AllStand, HasStand, IsOff, list_of, IsMovedStand, ShelfMen, Stand, Zeroes, Leads}
use Rattle.egt_steps.specs.Prelude.{Move, king_of_men, stand_on, with_king, Facts, IsClear, IsQuietStand}
use Rattle.egt_steps.proofs.Fanned.{king_reaches}
use Rattle.egt_steps.proofs.QuietSteps.{Following, king_piece, stayed, steps, went, went_to}
use Rattle.egt_steps.proofs.Still.{KeepsClass}

module _ (facts : Facts) (keeps : KeepsClass) (follow : Following) (c : ℕ) (class_in : c < 36) (men : ShelfMen) (side : Side) (targeted : Bool) (a b : ℕ) (p : Setup) (has : HasStand c false (stand_on men a b) side targeted p) where
  abbrev pub here : Stand
  here = stand_on men a b

  -- no two men stand on one square
  apart : AllStand false p.men (list_of here)
  apart = has.stood.all

  black_not_white : men.black ≢ men.white
  black_not_white = apart.2.0

  one_not_white : a ≢ men.white
  one_not_white = apart.2.1.0

  last_not_white : b ≢ men.white
  last_not_white = apart.2.1.1.0

  one_not_black : a ≢ men.black
  one_not_black = apart.3.2.0

  last_not_black : b ≢ men.black
  last_not_black = apart.3.2.1.0

  last_not_one : b ≢ a
  last_not_one = apart.3.3.2.0

  -- ---- where each man goes

  -- with the white king on the square, and so on
  white_moves : (k : ℕ) → IsMovedStand men.white k here (stand_on (with_king men White k) a b)
  white_moves k = record {
    white = sym (went men.white k men.white refl);
    black = sym (stayed men.white k men.black black_not_white);
    first = ap (λ s. Some (men.first, s)) (sym (stayed men.white k a one_not_white));
    last = ap (λ s. Some (men.last, s)) (sym (stayed men.white k b last_not_white));
  }

  black_moves : (k : ℕ) → IsMovedStand men.black k here (stand_on (with_king men Black k) a b)
  black_moves k = record {
    white = sym (stayed men.black k men.white (λ e. black_not_white (sym e)));
    black = sym (went men.black k men.black refl);
    first = ap (λ s. Some (men.first, s)) (sym (stayed men.black k a one_not_black));
    last = ap (λ s. Some (men.last, s)) (sym (stayed men.black k b last_not_black));
  }

  one_moves : (t : ℕ) → IsMovedStand a t here (stand_on men t b)
  one_moves t = record {
    white = sym (stayed a t men.white (λ e. one_not_white (sym e)));
    black = sym (stayed a t men.black (λ e. one_not_black (sym e)));
    first = ap (λ s. Some (men.first, s)) (sym (went a t a refl));
    last = ap (λ s. Some (men.last, s)) (sym (stayed a t b last_not_one));
  }

  last_moves : (t : ℕ) → IsMovedStand b t here (stand_on men a t)
  last_moves t = record {
    white = sym (stayed b t men.white (λ e. last_not_white (sym e)));
    black = sym (stayed b t men.black (λ e. last_not_black (sym e)));
    first = ap (λ s. Some (men.first, s)) (sym (stayed b t a (λ e. last_not_one (sym e))));
    last = ap (λ s. Some (men.last, s)) (sym (went b t b refl));
  }

  king_listed : (s : Side) → IsListed (list_of here) (king_of s) (king_of_men men s)
  king_listed White = inl (refl, refl)
  king_listed Black = inr (inl (refl, refl))

  king_moves : (s : Side) (k : ℕ) → IsMovedStand (king_of_men men s) k here (stand_on (with_king men s k) a b)
  king_moves White = white_moves
  king_moves Black = black_moves

  -- ---- the law

  pub comes : (q : Setup) (stand : Stand) → IsQuietStand men side a b stand → HasStand c false stand (other_side side) false q → (m : Move) × Leads p m q × ¬ Zeroes p m
  comes q stand (inl (k, beside, is)) there =
      steps facts keeps follow c class_in here side targeted p has (king_of side) (king_of_men men side) (king_listed side) refl (king_piece side) (IsOff (list_of here)) (λ u off other. off) k
      (king_reaches (λ u. bit_at 0 u ≡ 0) (IsOff (list_of here)) (king_of side) (king_of_men men side) k refl beside.1) (stand_on (with_king men side k) a b) (king_moves side k) q
      (subst (λ (s : Stand). HasStand c false s (other_side side) false q) is there)
  comes q stand (inr (inl (of, piece, t, t_in, reaches, is))) there =
      steps facts keeps follow c class_in here side targeted p has men.first a (inr (inr (inl (refl, refl)))) of piece (IsClear men b) (λ u clear other. ((λ e. clear.0 (sym e)), ((λ e. clear.1 (sym e)), ((λ e. other (sym e)), ((λ e. clear.2 (sym e)), tt))))) t reaches
      (stand_on men t b) (one_moves t) q (subst (λ (s : Stand). HasStand c false s (other_side side) false q) is there)
  comes q stand (inr (inr (of, piece, t, t_in, reaches, is))) there =
      steps facts keeps follow c class_in here side targeted p has men.last b (inr (inr (inr (inl (refl, refl))))) of piece (IsClear men a) (λ u clear other. ((λ e. clear.0 (sym e)), ((λ e. clear.1 (sym e)), ((λ e. clear.2 (sym e)), ((λ e. other (sym e)), tt))))) t reaches
      (stand_on men a t) (last_moves t) q (subst (λ (s : Stand). HasStand c false s (other_side side) false q) is there)

  module _ (q : Setup) (m : Move) (leads : Leads p m q) (keeps_count : ¬ Zeroes p m) where
    abbrev pub Result : Side → Type 0
    Result s = (stand : Stand) × IsQuietStand men s a b stand × HasStand c false stand (other_side side) false q

    -- that king goes, so that it is his side's move
    by_king : (s : Side) → king_of s ≡ leads.man → king_of_men men s ≡ m.from → Result side
    by_king s is at =
        let w = went_to facts keeps follow c class_in here side targeted p has q m leads keeps_count (king_of s) (king_of_men men s) is at (stand_on (with_king men s m.to) a b) (king_moves s m.to) in
        subst Result w.own (
          stand_on (with_king men s m.to) a b,
          inl (m.to, (w.on_board, king_reaches (IsOff (list_of here)) (λ u. bit_at 0 u ≡ 0) (king_of s) (king_of_men men s) m.to refl w.reaches), refl),
          w.there,
        )

    one_goes : men.first ≡ leads.man → a ≡ m.from → Result side
    one_goes is at =
        let w = went_to facts keeps follow c class_in here side targeted p has q m leads keeps_count men.first a is at (stand_on men m.to b) (one_moves m.to) in (
          stand_on men m.to b,
          inr (inl (w.own, w.piece, m.to, w.on_board, Reaches-free (IsOff (list_of here)) (IsClear men b) men.first a m.to (λ u u_in o. ((λ e. o.0 (sym e)), (λ e. o.1.0 (sym e)), (λ e. o.1.1.1.0 (sym e)))) w.reaches, refl)),
          w.there,
        )

    last_goes : men.last ≡ leads.man → b ≡ m.from → Result side
    last_goes is at =
        let w = went_to facts keeps follow c class_in here side targeted p has q m leads keeps_count men.last b is at (stand_on men a m.to) (last_moves m.to) in (
          stand_on men a m.to,
          inr (inr (w.own, w.piece, m.to, w.on_board, Reaches-free (IsOff (list_of here)) (IsClear men a) men.last b m.to (λ u u_in o. ((λ e. o.0 (sym e)), (λ e. o.1.0 (sym e)), (λ e. o.1.1.0 (sym e)))) w.reaches, refl)),
          w.there,
        )

    pub goes : Result side
    goes = of_man ((follow.listed c here side targeted p m.from leads.man has).0 leads.stands)
      where
        of_man : IsListed (list_of here) leads.man m.from → Result side
        of_man (inl k) = by_king White k.0 k.1
        of_man (inr (inl k)) = by_king Black k.0 k.1
        of_man (inr (inr (inl k))) = one_goes k.0 k.1
        of_man (inr (inr (inr (inl k)))) = last_goes k.0 k.1
        of_man (inr (inr (inr (inr none)))) = absurd none
