-- Tables whose entries have bytes of their own.
use Rattle.std.proofs.Common.{◌≡◌, ◌≢◌, ℕ, ◌<◌, arith, inl, inr}
use Rattle.egt_check.specs.Prelude.{cases_eq, IsVoid, size_of, AreVoidOrAlike, TableValue, Metric, Mate, Zeroing}
use Rattle.egt_check.specs.Prelude.{AreAlike, entry_at, AreAllAlike, TellsVoids, HasBytes}

-- entries that are not 0 are alike
pub alike_there : (mate zeroing : ℕ) → AreVoidOrAlike mate zeroing → mate ≢ 0 → AreAlike mate zeroing
alike_there mate zeroing are some = grind arith

-- beside 0 is 0
none_there : (mate zeroing : ℕ) → AreVoidOrAlike mate zeroing → mate ≡ 0 → zeroing ≡ 0
none_there mate zeroing are none = omega (arith, are)

module _ (t : TableValue) (told : AreAllAlike t) (voids : TellsVoids t) where
  -- the mate entry of a void code is 0
  void_mate : (i : ℕ) → i < size_of t.class → IsVoid t.class i → entry_at t Mate i ≡ 0
  void_mate i below void = elim (cases_eq (entry_at t Mate i) 0) [
    | inl zero ↦ zero
    | inr some ↦ absurd ((voids i below).index some void)
  ]

  void_entry : (metric : Metric) (i : ℕ) → i < size_of t.class → IsVoid t.class i → entry_at t metric i ≡ 0
  void_entry metric i below void = grind (arith, void_mate, none_there, entry_at)

  pub has_bytes : HasBytes t
  has_bytes = record { void = void_entry; alike = λ i below index. alike_there (entry_at t Mate i) (entry_at t Zeroing i) (told i below) (λ none. index ((voids i below).void none)) }
