-- Mate entries that are known of a class before its table is made.
use Rattle.std.proofs.Common.{◌≡◌, ℕ, ◌<◌, Bool, List, length, slice_index, Option, Some, None, IsSome, IfSome, sym, ap}
use Rattle.std.proofs.Common.{◌∙◌, subst, arith}
use Rattle.egt_sweep.specs.Prelude.{false≢true, Setup, IsAdmissible, IsOf, IsIndex, size_of, Value, Mate, TableValue}
use Rattle.egt_sweep.specs.Prelude.{Shows, in_range, read, Tables, entry_at, Laws, IsIndexed, IsMateColumn, shown_below}
use Rattle.egt_sweep.proofs.Linked.{spelled_there}
use Rattle.egt_sweep.proofs.OutOfClass.{shown_is}

module _ (laws : Laws) where
  -- the index of a position has an entry
  pub own_bound : (own c i : ℕ) (mates entries : List ℕ) → IsMateColumn own mates → c ≡ own → IsIndexed c i → entries ≡ mates → i < length entries
  own_bound own c i mates entries metric same at is =
      let lt = subst (λ d. i < size_of d) same (laws.facts.index_below at.position c i at.index) in
      subst (λ (xs : List ℕ). i < length xs) (sym is) (subst (λ n. i < n) (sym metric.0) lt)

  -- which shows a value
  pub own_shows : (own c i : ℕ) (mates entries : List ℕ) → c < 36 → IsMateColumn own mates → c ≡ own → IsIndexed c i → entries ≡ mates → (v : Value) × Shows (slice_index entries i) v
  own_shows own c i mates entries below metric same at is =
      let index = subst (λ d. IsIndex d at.position i) same at.index in
      let range = metric.1 i (laws.facts.index_below at.position own i index) (spelled_there laws own i at.position (subst (λ d. d < 36) same below) at.admissible index) in
      subst (λ (xs : List ℕ). (v : Value) × Shows (slice_index xs i) v) (sym is) (in_range (slice_index mates i) range.0 range.1 range.2)

  -- what the entry shows is what is known of the position
  pub shown_known : (tables : Tables) (d i x : ℕ) (q : Setup) (flipped : Bool) → d < 36 → IsAdmissible q → IsOf d flipped q → IsIndex d q i →
      (o : Option TableValue) → o ≡ tables d → IsSome o → IfSome o (λ t. x ≡ entry_at t Mate i) → shown_below tables 36 q ≡ read x
  shown_known tables d i x q flipped below ok of index None e some is = absurd (false≢true some)
  shown_known tables d i x q flipped below ok of index (Some t) e some is = shown_is laws tables d i t q flipped below ok of (sym e) index 36 below (omega arith) ∙ ap read (sym is)
