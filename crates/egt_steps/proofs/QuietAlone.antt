-- The quiet moves of three men lead to the men after quiet steps, and to all of them that are positions; and where no move zeroes.
use Rattle.std.proofs.Common.{arith, ◌≡◌, ◌≢◌, ℕ, ◌<◌, ◌⊎◌, Bool, false, Some, refl, sym, ap, ◌∙◌, subst, inl, inr}
use Rattle.egt_steps.specs.Prelude.{bit_at, king_of, Reaches, Reaches-free, other_side, sides_differ, IsFree, IsOccupiedBy}
use Rattle.egt_steps.specs.Prelude.{one_man, Setup, P, Man, Side, White, Black, IsListed, AllStand, HasStand, IsOff}
use Rattle.egt_steps.specs.Prelude.{list_of, IsMovedStand, ShelfMen, Stand, Zeroes, Leads, Move}
use Rattle.egt_steps.specs.Prelude.{king_of_men, with_king, Facts, IsPastKings, IsQuietAlone, NoneZeroes, stand_alone}
use Rattle.egt_steps.proofs.Fanned.{king_reaches}
use Rattle.egt_steps.proofs.QuietSteps.{Following, king_piece, stayed, steps, went, went_to}
use Rattle.egt_steps.proofs.Still.{KeepsClass}
use Rattle.egt_steps.proofs.Takings.{no_king_taken, taking_reaches}

module _ (facts : Facts) (keeps : KeepsClass) (follow : Following) (c : ℕ) (class_in : c < 36) (men : ShelfMen) (side : Side) (targeted : Bool) (s : ℕ) (p : Setup) (has : HasStand c false (stand_alone men s) side targeted p) where
  abbrev here : Stand
  here = stand_alone men s

  -- no two men stand on one square
  apart : AllStand false p.men (list_of here)
  apart = has.stood.all

  king_moves : (x : Side) (k : ℕ) → IsMovedStand (king_of_men men x) k here (stand_alone (with_king men x k) s)
  king_moves White k = record {
    white = sym (went men.white k men.white refl);
    black = sym (stayed men.white k men.black apart.2.0);
    first = ap (λ t. Some (men.last, t)) (sym (stayed men.white k s apart.2.1.0));
    last = refl;
  }
  king_moves Black k = record {
    white = sym (stayed men.black k men.white (λ e. apart.2.0 (sym e)));
    black = sym (went men.black k men.black refl);
    first = ap (λ t. Some (men.last, t)) (sym (stayed men.black k s apart.3.2.0));
    last = refl;
  }

  man_moves : (t : ℕ) → IsMovedStand s t here (stand_alone men t)
  man_moves t = grind (arith, stayed, apart, went)

  king_listed : (x : Side) → IsListed (list_of here) (king_of x) (king_of_men men x)
  king_listed White = inl (refl, refl)
  king_listed Black = inr (inl (refl, refl))

  pub comes : (q : Setup) (stand : Stand) → IsQuietAlone men side s stand → HasStand c false stand (other_side side) false q → (m : Move) × Leads p m q × ¬ Zeroes p m
  comes q stand (inl (k, beside, is)) there =
      steps facts keeps follow c class_in here side targeted p has (king_of side) (king_of_men men side) (king_listed side) refl (king_piece side) (IsOff (list_of here)) (λ u off other. off) k
      (king_reaches (λ u. bit_at 0 u ≡ 0) (IsOff (list_of here)) (king_of side) (king_of_men men side) k refl beside.1) (stand_alone (with_king men side k) s) (king_moves side k) q
      (subst (λ (x : Stand). HasStand c false x (other_side side) false q) is there)
  comes q stand (inr (of, piece, t, t_in, reaches, is)) there =
      steps facts keeps follow c class_in here side targeted p has men.last s (inr (inr (inl (refl, refl)))) of piece (IsPastKings men) (λ u past other. ((λ e. past.0 (sym e)), ((λ e. past.1 (sym e)), ((λ e. other (sym e)), tt)))) t reaches
      (stand_alone men t) (man_moves t) q (subst (λ (x : Stand). HasStand c false x (other_side side) false q) is there)

  module _ (q : Setup) (m : Move) (leads : Leads p m q) where
    own : leads.man.side ≡ side
    own = leads.mine ∙ has.side_is

    -- that side's king goes, or the man
    abbrev Mover : Side → Type 0
    Mover x = ((king_of x ≡ leads.man) × (king_of_men men x ≡ m.from)) ⊎ ((men.last ≡ leads.man) × (s ≡ m.from))

    mover : Mover side
    mover = of_man ((follow.listed c here side targeted p m.from leads.man has).0 leads.stands)
      where
        some_king : (x : Side) → king_of x ≡ leads.man → king_of_men men x ≡ m.from → Mover side
        some_king x is at = subst Mover (ap (λ (man : Man). man.side) is ∙ own) (inl (is, at))

        of_man : IsListed (list_of here) leads.man m.from → Mover side
        of_man (inl k) = some_king White k.0 k.1
        of_man (inr (inl k)) = some_king Black k.0 k.1
        of_man (inr (inr (inl k))) = inr k
        of_man (inr (inr (inr none))) = absurd none

    pub goes : ¬ Zeroes p m → (stand : Stand) × IsQuietAlone men side s stand × HasStand c false stand (other_side side) false q
    goes keeps_count = elim mover [
      | inl k ↦
          let w = went_to facts keeps follow c class_in here side targeted p has q m leads keeps_count (king_of side) (king_of_men men side) k.0 k.1 (stand_alone (with_king men side m.to) s) (king_moves side m.to) in
          (stand_alone (with_king men side m.to) s, inl (m.to, (w.on_board, king_reaches (IsOff (list_of here)) (λ u. bit_at 0 u ≡ 0) (king_of side) (king_of_men men side) m.to refl w.reaches), refl), w.there)
      | inr k ↦
          let w = went_to facts keeps follow c class_in here side targeted p has q m leads keeps_count men.last s k.0 k.1 (stand_alone men m.to) (man_moves m.to) in
          let past = Reaches-free (IsOff (list_of here)) (IsPastKings men) men.last s m.to (λ u u_in o. ((λ e. o.0 (sym e)), (λ e. o.1.0 (sym e)))) w.reaches in
          (stand_alone men m.to, inr (w.own, w.piece, m.to, w.on_board, past, refl), w.there)
    ]

    -- ---- where no move zeroes

    module _ (none : NoneZeroes men side s) where
      -- a king is no pawn, and the man is none of the side
      no_pawn : (man : Man) → leads.man ≡ man → man.kind ≢ P
      no_pawn man same pawn = elim mover [
        | inl k ↦ king_piece side (ap (λ (x : Man). x.kind) (k.0 ∙ same) ∙ pawn)
        | inr k ↦ none.own (ap (λ (x : Man). x.side) k.0 ∙ own) (ap (λ (x : Man). x.kind) (k.0 ∙ same) ∙ pawn)
      ]

      module _ (held : IsOccupiedBy p.men m.to (other_side p.side)) where
        reached : (man : Man) (from : ℕ) → man ≡ leads.man → from ≡ m.from → Reaches (IsFree p.men) man from m.to
        reached man from is at = subst (λ (x : Man). Reaches (IsFree p.men) x from m.to) (sym is) (subst (λ u. Reaches (IsFree p.men) leads.man u m.to) (sym at) (taking_reaches p leads.man m.from m.to held leads.goes))

        -- only the king could take the man, whom he does not attack
        man_taken : men.last ≡ held.man → s ≡ m.to → ⊥
        man_taken taken there =
            let theirs : men.last.side ≡ other_side side = ap (λ (x : Man). x.side) taken ∙ held.theirs ∙ ap other_side has.side_is in
            elim mover [
              | inl k ↦
                  let reaches = subst (Reaches (IsFree p.men) (king_of side) (king_of_men men side)) (sym there) (reached (king_of side) (king_of_men men side) k.0 k.1) in
                  none.other theirs (apart.3.3.0, king_reaches (IsFree p.men) (λ u. bit_at 0 u ≡ 0) (king_of side) (king_of_men men side) s refl reaches)
              | inr k ↦ sides_differ side (sym own ∙ ap (λ (x : Man). x.side) (sym k.0) ∙ theirs)
            ]

        nobody_taken : IsListed (list_of here) held.man m.to → ⊥
        nobody_taken (inl k) = no_king_taken p q m has.admissible leads held White k.0
        nobody_taken (inr (inl k)) = no_king_taken p q m has.admissible leads held Black k.0
        nobody_taken (inr (inr (inl k))) = man_taken k.0 k.1
        nobody_taken (inr (inr (inr never))) = absurd never

      pub none_zeroes : ¬ Zeroes p m
      none_zeroes (inl held) = nobody_taken held ((follow.listed c here side targeted p m.to held.man has).0 held.stands)
      none_zeroes (inr pawn) = no_pawn pawn.man (one_man p.men m.from leads.man pawn.man leads.stands pawn.stands) pawn.pawn
