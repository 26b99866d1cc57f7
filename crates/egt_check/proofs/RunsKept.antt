-- Runs whose entries keep the rules.
use Rattle.std.proofs.Common.{◌≡◌, ℕ, ◌+◌, ◌*◌, ◌<◌, ◌≤◌, ◌∙◌, inl, inr, sym, arith, true, false, get_or, replicate}
use Rattle.std.proofs.Common.{Option, Some, None}
use Rattle.egt_check.specs.Prelude.{cases_lt, false≢true, get_or-replicate, get_or_past, length-replicate}
use Rattle.egt_check.specs.Prelude.{mul-le-mul_right, Rule, TableValue, IsFirstBad, Zeroing, IsJudged, Keeps, Tables}

-- nothing is marked at first
pub unmarked : (n i : ℕ) → get_or (replicate n false) i false ≡ true → ⊥
unmarked n i marked = elim (cases_lt i n) [
  | inl below ↦ false≢true (sym (get_or-replicate n i false false below) ∙ marked)
  | inr past ↦ let len = length-replicate n false in false≢true (sym (get_or_past (replicate n false) i false (omega (arith, len, past))) ∙ marked)
]

-- each run ends within all
pub run_within : (runs count len size : ℕ) → runs < count → count * len ≡ size → (runs + 1) * len ≤ size
run_within run count len size below all = let later : run + 1 ≤ count = omega (arith, below) in let most = mul-le-mul_right len later in omega (arith, most, all)

-- where what is before a run is kept, and the run is, so is what is before its end
pub run_kept : (Kept : ℕ → Rule → Type 0) (n m : ℕ) → ((i : ℕ) → i < n → (rule : Rule) → Kept i rule) → ((i : ℕ) → n ≤ i → i < m → (rule : Rule) → Kept i rule) → (i : ℕ) → i < m → (rule : Rule) → Kept i rule
run_kept Kept n m before run i below = grind (arith, cases_lt)

-- the first bad entry stays the first, or there is none yet
pub first_bad_kept : (tables : Tables) (t : TableValue) (n m : ℕ) (known : Option (ℕ × Rule)) → n ≤ m → IsFirstBad tables t n known → ((i : ℕ) → n ≤ i → i < m → IsJudged tables t Zeroing i None) → IsFirstBad tables t m known
first_bad_kept tables t n m (Some bad) later first run = (omega (arith, first.0, later), first.1, first.2)
first_bad_kept tables t n m None later first run = run_kept (Keeps tables t Zeroing) n m first run
