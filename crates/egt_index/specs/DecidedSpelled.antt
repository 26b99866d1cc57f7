-- Whether a code spells a position can be told.
use Rattle.std.proofs.Common.{◌≡◌, ◌≢◌, ℕ, ◌<◌, ◌⊎◌, arith, List, [], ◌∷◌, ◌++◌, Option, Some, None, length, slice_index, refl, subst, inl, inr}
use Rattle.egt_board.specs.declared.man.Man.{Man}
use Rattle.egt_board.specs.declared.man.Side.{Side}
use Rattle.egt_board.specs.declared.man.Side.TheVariants.{White, Black}
use Rattle.egt_board.specs.Decided.{Decided, decided_as, decided_both, decided_either, decided_test, decided_eq, decided_le, decided_below, decided_not, decided_some_below}
use Rattle.egt_board.specs.DecidedSetup.{decided_admissible}
use Rattle.egt_board.specs.Images.{side_number}
use Rattle.egt_board.specs.Listed.{FitsBoard, squares_of, setup_of}
use Rattle.egt_board.specs.Placement.{Placement}
use Rattle.egt_board.specs.Setup.{Setup, IsAdmissible}
use Rattle.egt_class.specs.Material.{Material}
use Rattle.egt_index.specs.Code.{SpellsBy, men_at, target_digits, HasTargetDigit}
use Rattle.egt_index.specs.Digits.{AreDigits, number_of}
use Rattle.egt_class.specs.Size.{bases, men_bases, has_target}

-- some digits of these bases
decided_digits : (bs : List ℕ) (P : List ℕ → Type 0) → ((ds : List ℕ) → Decided (P ds)) → Decided ((ds : List ℕ) × AreDigits bs ds × P ds)
decided_digits [] P each = decided_as (λ h. ([], tt, h)) back (each [])
  where
    back : (ds : List ℕ) × AreDigits [] ds × P ds → P []
    back ([], are, h) = h
    back (d ∷ ds, are, h) = absurd are
decided_digits (base ∷ bs) P each = decided_as there back
    (decided_some_below (λ d. (ds : List ℕ) × AreDigits bs ds × P (d ∷ ds)) (λ d. decided_digits bs (λ ds. P (d ∷ ds)) (λ ds. each (d ∷ ds))) base)
  where
    there : (d : ℕ) × (d < base) × ((ds : List ℕ) × AreDigits bs ds × P (d ∷ ds)) → (ds : List ℕ) × AreDigits (base ∷ bs) ds × P ds
    there h = (h.0 ∷ h.2.0, (h.1, h.2.1), h.2.2)

    back : (ds : List ℕ) × AreDigits (base ∷ bs) ds × P ds → (d : ℕ) × (d < base) × ((ds : List ℕ) × AreDigits bs ds × P (d ∷ ds))
    back ([], are, h) = absurd are
    back (d ∷ ds, are, h) = (d, are.0, (ds, are.1, h))

decided_fits_board : (list : List (Man × ℕ)) → Decided (FitsBoard list)
decided_fits_board list = decided_as
    (λ h. record { few = h.0; apart = λ i j lt below. h.1 j below i lt })
    (λ (fits : FitsBoard list). (fits.few, λ j below i lt. fits.apart i j lt below))
    (decided_both (decided_le (length list) 4)
    (λ _. decided_below (λ j. (i : ℕ) → i < j → slice_index (squares_of list) i ≢ slice_index (squares_of list) j)
    (λ j. decided_below (λ i. slice_index (squares_of list) i ≢ slice_index (squares_of list) j) (λ i. decided_not (decided_eq (slice_index (squares_of list) i) (slice_index (squares_of list) j))) j)
    (length list)))

module _ (m : Material) (code : ℕ) where
  -- these digits, this side and this target spell a position by the code
  abbrev Has : List ℕ → Side → Option ℕ → Type 0
  Has ds side target =
      IsAdmissible (setup_of (men_at m ds) side target) × (FitsBoard (men_at m ds) × (HasTargetDigit m target × (code ≡ number_of (bases m) (ds ++ side_number side ∷ target_digits m target))))

  decided_no_target : (target : Option ℕ) → Decided (target ≡ None)
  decided_no_target None = inl refl
  decided_no_target (Some t) = inr (λ e. cc)

  decided_has : (ds : List ℕ) (side : Side) (target : Option ℕ) → Decided (Has ds side target)
  decided_has ds side target =
      decided_both (decided_admissible (setup_of (men_at m ds) side target))
      (λ _. decided_both (decided_fits_board (men_at m ds))
      (λ _. decided_both (decided_either (decided_test (has_target m)) (decided_no_target target))
      (λ _. decided_eq code (number_of (bases m) (ds ++ side_number side ∷ target_digits m target)))))

  -- a target is a square of the board
  on_board : (ds : List ℕ) (side : Side) (t : ℕ) → Has ds side (Some t) → t < 64
  on_board ds White t h = let r = h.0.target.rank in omega (arith, r)
  on_board ds Black t h = let r = h.0.target.rank in omega (arith, r)

  decided_some_target : (ds : List ℕ) (side : Side) → Decided ((target : Option ℕ) × Has ds side target)
  decided_some_target ds side = decided_as there back
      (decided_either (decided_has ds side None) (decided_some_below (λ t. Has ds side (Some t)) (λ t. decided_has ds side (Some t)) 64))
    where
      there : Has ds side None ⊎ ((t : ℕ) × (t < 64) × Has ds side (Some t)) → (target : Option ℕ) × Has ds side target
      there (inl h) = (None, h)
      there (inr h) = (Some h.0, h.2)

      of : (target : Option ℕ) → Has ds side target → Has ds side None ⊎ ((t : ℕ) × (t < 64) × Has ds side (Some t))
      of None h = inl h
      of (Some t) h = inr (t, on_board ds side t h, h)

      back : (target : Option ℕ) × Has ds side target → Has ds side None ⊎ ((t : ℕ) × (t < 64) × Has ds side (Some t))
      back h = of h.0 h.1

  decided_some_side : (ds : List ℕ) → Decided ((side : Side) × (target : Option ℕ) × Has ds side target)
  decided_some_side ds = decided_as there back (decided_either (decided_some_target ds White) (decided_some_target ds Black))
    where
      there : ((target : Option ℕ) × Has ds White target) ⊎ ((target : Option ℕ) × Has ds Black target) → (side : Side) × (target : Option ℕ) × Has ds side target
      there (inl h) = (White, h.0, h.1)
      there (inr h) = (Black, h.0, h.1)

      of : (side : Side) (target : Option ℕ) → Has ds side target → ((target : Option ℕ) × Has ds White target) ⊎ ((target : Option ℕ) × Has ds Black target)
      of White target h = inl (target, h)
      of Black target h = inr (target, h)

      back : (side : Side) × (target : Option ℕ) × Has ds side target → ((target : Option ℕ) × Has ds White target) ⊎ ((target : Option ℕ) × Has ds Black target)
      back h = of h.0 h.1 h.2

  -- whether the code spells a position
  pub decided_spelled : Decided ((p : Setup) × SpellsBy m code p)
  decided_spelled = decided_as there back (decided_digits (men_bases m) (λ ds. (side : Side) × (target : Option ℕ) × Has ds side target) decided_some_side)
    where
      there : (ds : List ℕ) × AreDigits (men_bases m) ds × ((side : Side) × (target : Option ℕ) × Has ds side target) → (p : Setup) × SpellsBy m code p
      there (ds, are, h) = (
        setup_of (men_at m ds) h.0 h.1,
        record {
          admissible = h.2.0;
          digits = ds;
          are_digits = are;
          apart = h.2.1.0;
          men = refl;
          target = h.2.1.1.0;
          number = h.2.1.1.1;
        },
      )

      back : (p : Setup) × SpellsBy m code p → (ds : List ℕ) × AreDigits (men_bases m) ds × ((side : Side) × (target : Option ℕ) × Has ds side target)
      back (p, s) = (
        s.digits,
        s.are_digits,
        (
          p.side,
          p.target,
          (subst (λ (men : Placement). IsAdmissible (record { men = men; side = p.side; target = p.target })) s.men s.admissible, (s.apart, (s.target, s.number))),
        ),
      )
