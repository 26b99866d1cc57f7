-- The tables that are there after each load.
use Rattle.std.proofs.Common.{◌≡◌, ℕ, ◌+◌, ◌<◌, ◌⊎◌, inl, inr, sym, subst, arith, IsSome}
use Rattle.egt_commands.specs.Prelude.{cases_lt, Tables, HasExactly}

-- a class with a table more
pub one_more : (old new : Tables) (n : ℕ) (P : ℕ → Type 0) → P n → HasExactly old (λ d. (d < n) × P d)
    → HasExactly new (λ d. IsSome (old d) ⊎ (d ≡ n)) → HasExactly new (λ d. (d < n + 1) × P d)
one_more old new n P holds so_far loaded = λ d. (
  (λ there. elim ((loaded d).0 there) [
    | inl before ↦ (let known = (so_far d).0 before in let below = known.0 in (omega arith, known.1))
    | inr own ↦ (omega arith, subst P (sym own) holds)
  ]),
  (λ wanted. elim (cases_lt d n) [
    | inl below ↦ (loaded d).1 (inl ((so_far d).1 (below, wanted.1)))
    | inr above ↦ (let within = wanted.0 in (loaded d).1 (inr (omega arith)))
  ]),
)

-- a class without one
pub none_more : (tables : Tables) (n : ℕ) (P : ℕ → Type 0) → ¬ P n → HasExactly tables (λ d. (d < n) × P d) → HasExactly tables (λ d. (d < n + 1) × P d)
none_more tables n P never so_far = λ d. (
  (λ there. (let known = (so_far d).0 there in let below = known.0 in (omega arith, known.1))),
  (λ wanted. elim (cases_lt d n) [
    | inl below ↦ (so_far d).1 (below, wanted.1)
    | inr above ↦ (let within = wanted.0 in let own : d ≡ n = omega arith in absurd (never (subst P own wanted.1)))
  ]),
)

pub all_there : (tables : Tables) (n : ℕ) (P : ℕ → Type 0) → ((d : ℕ) → P d → d < n) → HasExactly tables (λ d. (d < n) × P d) → HasExactly tables P
all_there tables n P below so_far = λ d. ((λ there. ((so_far d).0 there).1), (λ holds. (so_far d).1 (below d holds, holds)))
