-- The scores of a shelf's mate entries, beside the bits of its indexes.
use Rattle.std.proofs.Common.{◌≡◌, ◌≢◌, ℕ, ◌+◌, ◌*◌, ◌/◌, ◌%◌, ◌^◌, ◌<◌, ◌==◌, if◌then◌else◌, arith, ap, sym, ◌∙◌}
use Rattle.egt_check.specs.Prelude.{bit_at, White, Black, places, Places, Mate}
use Rattle.egt_check.specs.Prelude.{bit_at-zero, AreIndexed, AreIndexes, IsWithin, TableValue, AreAllAlike, TellsVoidsIn}
use Rattle.egt_check.specs.Prelude.{shr-shr, Side, code_of, number_in, size_of, TellsVoid, score_at, side_few, nat_tests}

-- a bit of a number that was shifted down
pub bit_shifted : (n down k : ℕ) → bit_at (n / 2 ^ down) k ≡ bit_at n (k + down)
bit_shifted n down k = ap (λ m. m % 2) (shr-shr n down k ∙ ap (λ s. n / 2 ^ s) (let e : down + k ≡ k + down = omega arith in e))

-- a mark
abbrev pub mark : ℕ → ℕ
mark score = if score == 0 then 0 else 1

pub mark_none : (score : ℕ) → mark score ≡ 0 → score ≡ 0
mark_none score is = grind (arith, nat_tests)

-- where no bit is set there are no scores
pub none_marked : (marks k : ℕ) → marks ≡ 0 → (score : ℕ) → bit_at marks k ≡ mark score → score ≡ 0
none_marked marks k none score is = mark_none score (sym is ∙ ap (λ m. bit_at m k) none ∙ bit_at-zero k)

mark_some : (score : ℕ) → mark score ≡ 1 → score ≢ 0
mark_some score one none = let is = ap mark none in absurd (omega (arith, is, one))

module _ (t : TableValue) where
  abbrev pub TellsAt : ℕ → Type 0
  TellsAt n = TellsVoid t (code_of t.class n)

  -- the numbers of a shelf within
  pub numbers_within : (shelf : ℕ) → IsWithin t.class shelf → (side : Side) (k : ℕ) → k < places t.class → number_in t.class shelf side k < size_of t.class
  numbers_within shelf within side k below = let few = side_few side in omega (arith, within, few, below)

  module _ (alike : AreAllAlike t) (coded : (n : ℕ) → n < size_of t.class → code_of t.class n < size_of t.class) where
    -- the same bits tell both of a code
    tells_at : (first marks bits k n : ℕ) → n ≡ first + 2 * k → bit_at marks k ≡ mark (score_at t Mate (code_of t.class n)) → AreIndexed t.class first bits → marks ≡ bits → k < places t.class → n < size_of t.class → TellsAt n
    tells_at first marks bits k n at marked indexed same below within = grind (arith, code_of, mark_some, score_at)

    pub shelf_told : (shelf white black : ℕ) (indexes : Places) → ((k : ℕ) → k < places t.class → bit_at white k ≡ mark (score_at t Mate (code_of t.class (number_in t.class shelf White k))))
        → ((k : ℕ) → k < places t.class → bit_at black k ≡ mark (score_at t Mate (code_of t.class (number_in t.class shelf Black k)))) → AreIndexes t.class shelf indexes → white ≡ indexes.white → black ≡ indexes.black
        → ((side : Side) (k : ℕ) → k < places t.class → number_in t.class shelf side k < size_of t.class) → TellsVoidsIn t shelf
    shelf_told shelf white black indexes whites blacks are same_white same_black within White k below =
        tells_at (shelf * (2 * places t.class)) white indexes.white k (number_in t.class shelf White k) (omega arith) (whites k below) are.white same_white below (within White k below)
    shelf_told shelf white black indexes whites blacks are same_white same_black within Black k below =
        tells_at (shelf * (2 * places t.class) + 1) black indexes.black k (number_in t.class shelf Black k) (omega arith) (blacks k below) are.black same_black below (within Black k below)
