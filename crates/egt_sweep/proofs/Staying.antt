-- Which moves stay in a class.
use Rattle.std.proofs.Common.{◌≡◌, ℕ, ◌<◌, ◌↔◌, not, Bool, true, false, Option, Some, None, IsTrue, eqb, refl, sym}
use Rattle.std.proofs.Common.{subst, ◌∙◌, inl, inr}
use Rattle.egt_sweep.specs.Prelude.{false≢true, and_parts, eqb-true, eq-eqb, Setup, IsAdmissible, Kind, pawn_told}
use Rattle.egt_sweep.specs.Prelude.{last_rank, rank_of, IsOf, IsIndex, Zeroes, IsPawnOn, Captures, Leads}
use Rattle.egt_sweep.specs.Prelude.{FitsPromotion, promotes, is_pawn, Move, Metric, Mate, Zeroing, GoesOn, Laws}

-- a test of what does not hold
pub does_not_zero : {Z : Type 0} (b : Bool) → (IsTrue b ↔ Z) → IsTrue (not b) ↔ ¬ Z
does_not_zero true is = (λ t. absurd (false≢true t), λ none. absurd (none (is.0 refl)))
does_not_zero false is = (λ t z. false≢true (is.1 z), λ none. refl)

-- a test of equal numbers
pub tests_equal : (b : Bool) (m n : ℕ) → b ≡ eqb m n → IsTrue b ↔ (m ≡ n)
tests_equal b m n is = (λ t. eqb-true m n (sym is ∙ t), λ e. is ∙ eq-eqb m n e)

promoting : (b : Bool) (kind : Kind) → FitsPromotion b (Some kind) → b ≡ true
promoting true kind fits = refl
promoting false kind fits = absurd fits

-- a move that no pawn makes promotes nothing
pub no_promotion : (p q : Setup) (m : Move) → Leads p m q → ¬ IsPawnOn p.men m.from → (promo : Option Kind) → promo ≡ m.promo → m.promo ≡ None
no_promotion p q m leads none None e = sym e
no_promotion p q m leads none (Some kind) e =
    let fits = subst (FitsPromotion (promotes leads.man m.to)) (sym e) leads.promotion in
    let t = promoting (promotes leads.man m.to) kind fits in
    absurd (none (record { man = leads.man; stands = leads.stands; pawn = pawn_told leads.man.kind (and_parts (is_pawn leads.man.kind) (eqb (rank_of m.to) (last_rank leads.man.side)) t).0 }))

module _ (laws : Laws) (c : ℕ) where
  -- a position is of the class where it has an index there
  pub stays_in_class : (d : ℕ) (flipped : Bool) (q : Setup) → c < 36 → d < 36 → IsAdmissible q → IsOf d flipped q → (d ≡ c) ↔ ((i : ℕ) × IsIndex c q i)
  stays_in_class d flipped q c_in d_in ok of = (
    λ e. laws.facts.some_index q c flipped c_in ok (subst (λ k. IsOf k flipped q) e of),
    λ index. let own = laws.indexed_class q c index.0 ok index.1 in laws.facts.one_class q d c flipped own.0 d_in c_in of own.1,
  )

  -- a move that does not zero neither captures nor promotes
  pub quiet_stays : (p q : Setup) (m : Move) → IsAdmissible p → (flipped : Bool) × IsOf c flipped p → Leads p m q → ¬ Zeroes p m → (flipped : Bool) × IsOf c flipped q
  quiet_stays p q m ok of leads quiet = (of.0, laws.quiet_class p q m c of.0 ok of.1 leads no_capture (no_promotion p q m leads (λ pawn. quiet (inr pawn)) m.promo refl))
    where
      no_capture : ¬ Captures p m
      no_capture (inl held) = quiet (inl held)
      no_capture (inr passing) = quiet (inr passing.0)

  -- so it goes on in each game
  pub quiet_goes_on : (metric : Metric) (p q : Setup) (m : Move) → c < 36 → IsAdmissible p → IsAdmissible q → (flipped : Bool) × IsOf c flipped p → Leads p m q → ¬ Zeroes p m → GoesOn metric c p m q
  quiet_goes_on Mate p q m c_in ok q_ok of leads quiet = let stays = quiet_stays p q m ok of leads quiet in (stays_in_class c stays.0 q c_in c_in q_ok stays.1).0 refl
  quiet_goes_on Zeroing p q m c_in ok q_ok of leads quiet = quiet
