-- The runs of a text: where the first ends and the rest begins.
use Rattle.std.proofs.Common.{◌≡◌, ◌≢◌, ℕ, suc, ◌+◌, ◌<◌, Bool, true, false, cond, not, ltb, List, [], ◌∷◌, length}
use Rattle.std.proofs.Common.{take, drop, get_or, filter, unwrap_or, arith, refl, sym, ap, ◌∙◌, subst}
use Rattle.egt_fen.specs.Prelude.{slice_split, position_or_len, position, onto_first, false≢true, ne_eqb, eqb-false}
use Rattle.egt_fen.specs.Prelude.{ltb-false, slice_split-cons_yes, prefix_len-le-length, is_space, is_other, has_bytes}
use Rattle.egt_fen.specs.Prelude.{runs_of}

pub runs_of-nil : runs_of [] ≡ []
unfolding runs_of
runs_of-nil = refl

-- a place that is found, or else the length
pub place_or_len : (p : ℕ → Bool) (xs : List ℕ) → unwrap_or (position p xs) (length xs) ≡ position_or_len p xs
place_or_len p xs = grind (arith, ltb, position_or_len, unwrap_or, prefix_len-le-length, ltb-false)

abbrev run_len : List ℕ → ℕ
run_len xs = position_or_len is_space xs

-- the parts behind the first
abbrev parts_behind : List ℕ → List (List ℕ)
parts_behind [] = []
parts_behind (c ∷ cs) = slice_split is_space cs

one : (n : ℕ) → 1 + n ≡ suc n
one n = omega arith

split_is : (xs : List ℕ) → slice_split is_space xs ≡ take (run_len xs) xs ∷ parts_behind (drop (run_len xs) xs)
split_is [] = refl
split_is (x ∷ xs) = elim (is_space x) as (λ b. cond b ([] ∷ slice_split is_space xs) (onto_first x (slice_split is_space xs))
    ≡ take (cond (not b) (1 + run_len xs) 0) (x ∷ xs) ∷ parts_behind (drop (cond (not b) (1 + run_len xs) 0) (x ∷ xs))) [
      | true ↦ refl
      | false ↦ ap (onto_first x) (split_is xs) ∙ ap (λ n. take n (x ∷ xs) ∷ parts_behind (drop n (x ∷ xs))) (sym (one (run_len xs)))
    ]

behind_is : (xs : List ℕ) → filter has_bytes (slice_split is_space (drop (run_len xs) xs)) ≡ filter has_bytes (parts_behind (drop (run_len xs) xs))
behind_is [] = refl
behind_is (x ∷ xs) = at (behind_is xs) (is_space x) refl
  where
    at : filter has_bytes (slice_split is_space (drop (run_len xs) xs)) ≡ filter has_bytes (parts_behind (drop (run_len xs) xs)) → (b : Bool) → b ≡ is_space x
        → filter has_bytes (slice_split is_space (drop (cond (not b) (1 + run_len xs) 0) (x ∷ xs))) ≡ filter has_bytes (parts_behind (drop (cond (not b) (1 + run_len xs) 0) (x ∷ xs)))
    at ih true e = ap (filter has_bytes) (slice_split-cons_yes is_space x xs (sym e))
    at ih false e = subst (λ n. filter has_bytes (slice_split is_space (drop n (x ∷ xs))) ≡ filter has_bytes (parts_behind (drop n (x ∷ xs)))) (sym (one (run_len xs))) ih

-- a run that does not begin with a space has bytes
run_has_bytes : (xs : List ℕ) → 0 < length xs → get_or xs 0 0 ≢ 32 → has_bytes (take (run_len xs) xs) ≡ true
run_has_bytes [] some other = absurd (omega arith)
run_has_bytes (x ∷ xs) some other = at (is_space x) (ne_eqb x 32 other)
  where
    at : (b : Bool) → b ≡ false → has_bytes (take (cond (not b) (1 + run_len xs) 0) (x ∷ xs)) ≡ true
    at true e = absurd (false≢true (sym e))
    at false e = subst (λ n. has_bytes (take n (x ∷ xs)) ≡ true) (sym (one (run_len xs)))
        (ap not (ne_eqb (suc (length (take (run_len xs) xs))) 0 (λ h. omega arith)))

-- a run ends at the first space
pub runs_of-run : (xs : List ℕ) → 0 < length xs → get_or xs 0 0 ≢ 32 → runs_of xs ≡ take (run_len xs) xs ∷ runs_of (drop (run_len xs) xs)
unfolding runs_of
runs_of-run xs some other = grind (arith, has_bytes, split_is, run_has_bytes, behind_is)

abbrev space_len : List ℕ → ℕ
space_len xs = position_or_len is_other xs

-- spaces in front tell nothing
pub runs_of-spaces : (xs : List ℕ) → runs_of (drop (space_len xs) xs) ≡ runs_of xs
unfolding runs_of
runs_of-spaces [] = refl
runs_of-spaces (x ∷ xs) = at (runs_of-spaces xs) (is_space x) refl
  where
    at : filter has_bytes (slice_split is_space (drop (space_len xs) xs)) ≡ filter has_bytes (slice_split is_space xs) → (b : Bool) → b ≡ is_space x → filter has_bytes (slice_split is_space (drop (cond (not (not b)) (1 + space_len xs) 0) (x ∷ xs))) ≡ filter has_bytes (slice_split is_space (x ∷ xs))
    at ih true e = ap (λ n. filter has_bytes (slice_split is_space (drop n (x ∷ xs)))) (one (space_len xs))
        ∙ ih ∙ sym (ap (filter has_bytes) (slice_split-cons_yes is_space x xs (sym e)))
    at ih false e = refl

pub other_first : (xs : List ℕ) → get_or (drop (space_len xs) xs) 0 0 ≢ 32
other_first [] = λ e. omega arith
other_first (x ∷ xs) = at (other_first xs) (is_space x) refl
  where
    at : get_or (drop (space_len xs) xs) 0 0 ≢ 32 → (b : Bool) → b ≡ is_space x → get_or (drop (cond (not (not b)) (1 + space_len xs) 0) (x ∷ xs)) 0 0 ≢ 32
    at ih true e = subst (λ n. get_or (drop n (x ∷ xs)) 0 0 ≢ 32) (sym (one (space_len xs))) ih
    at ih false e = eqb-false x 32 (sym e)
