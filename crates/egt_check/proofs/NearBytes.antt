-- Tables whose entries of the nearest mates have bytes of their own.
use Rattle.std.proofs.Common.{◌≡◌, ◌≢◌, ℕ, ◌*◌, ◌-◌, ◌<◌, arith, inl, inr}
use Rattle.egt_check.specs.Prelude.{cases_eq, IsVoid, size_of, IsVoidOrNear, TableValue, Metric, Mate, Zeroing}
use Rattle.egt_check.specs.Prelude.{AreAlike, entry_at, reach_at, TellsVoids, HasBytes}
use Rattle.egt_check.proofs.NearReading.{near, near_at}

-- an entry as it is read
near_alike : (read entry : ℕ) → read ≡ 2 * entry - 1 → entry ≢ 0 → entry < 128 → AreAlike read read
near_alike read entry is some low = grind arith

module _ (t : TableValue) (voids : TellsVoids t) (told : (i : ℕ) → i < size_of t.class → IsVoidOrNear (entry_at t Mate i) (reach_at t i)) where
  -- it is 0 where the mate entry is
  void_read : (i : ℕ) → i < size_of t.class → IsVoid t.class i → entry_at (near t) Mate i ≡ 0
  void_read i below void = elim (cases_eq (entry_at t Mate i) 0) [
    | inl mate ↦ let read = near_at t i in let none = (told i below).1.1 mate in omega (arith, read, none)
    | inr some ↦ absurd ((voids i below).index some void)
  ]

  void_entry : (metric : Metric) (i : ℕ) → i < size_of t.class → IsVoid t.class i → entry_at (near t) metric i ≡ 0
  void_entry metric = grind (arith, void_read)

  alike : (i : ℕ) → i < size_of t.class → ¬ IsVoid t.class i → AreAlike (entry_at (near t) Mate i) (entry_at (near t) Zeroing i)
  alike i below index =
      near_alike (entry_at (near t) Mate i) (reach_at t i) (near_at t i)
      (λ none. index ((voids i below).void ((told i below).1.0 none))) (told i below).0

  pub has_near_bytes : HasBytes (near t)
  has_near_bytes = record { void = void_entry; alike = alike }
