-- Steps along a rank and along a file.
use Rattle.std.proofs.Common.{◌≡◌, ℕ, ◌<◌, leb, eqb, T}
use Rattle.std.proofs.Common.{List, ◌++◌, length, get_or, replicate, sym, ap, ◌∙◌, arith, ltb-true, ltb-false}
use Rattle.egt_lanes.specs.Prelude.{Way, Step, Away, Further, file_of, rank_of, beside, beyond}
use lib.Lanes.{pick_l}
use Rattle.egt_lanes.proofs.Tests.{passes_below, agreed}
use Rattle.egt_lanes.proofs.Picks.{picked_or_none}

-- a row picked by the table of a step
pub moved_at : (f : Way → ℕ → ℕ → ℕ) (row result ks : List ℕ) (way way' : Way) (n n' : ℕ) → length row ≡ 64 → length ks ≡ 64
    → T (passes_below (λ s. eqb (get_or ks s 0) (f way n s)) 64) → T (passes_below (λ s. leb (f way n s) 64) 64)
    → way' ≡ way → n' ≡ n → result ≡ pick_l 0 (row ++ replicate 64 0) ks → (s : ℕ) → s < 64 → get_or result s 0 ≡ get_or row (f way' n' s) 0
moved_at f row result ks way way' n n' long all right small e e' is s s_in = grind (arith, get_or, picked_or_none)

-- no step
pub beside-zero : (way : Way) (s : ℕ) → s < 64 → beside way 0 s ≡ s
beside-zero way s s_in = grind (arith, agreed, beside)

pub beyond-zero : (way : Way) (s : ℕ) → s < 64 → beyond way 0 s ≡ s
beyond-zero way s s_in = grind (arith, agreed, beyond)

pub stays_at : (f : Way → ℕ → ℕ → ℕ) (row result : List ℕ) (way : Way) (n s : ℕ) → result ≡ row → f way n s ≡ s → get_or result s 0 ≡ get_or row (f way n s) 0
stays_at f row result way n s is stays = ap (λ r. get_or r s 0) is ∙ ap (λ t. get_or row t 0) (sym stays)

-- what a step leads to
pub beside-leads : (way : Way) (n s : ℕ) → s < 64 → beside way n s < 64 → Further way n (file_of s) (file_of (beside way n s)) × (rank_of (beside way n s) ≡ rank_of s)
beside-leads way n s s_in = grind (arith, ltb-true, ltb-false)

pub beyond-leads : (way : Way) (n s : ℕ) → s < 64 → beyond way n s < 64 → Further way n (rank_of s) (rank_of (beyond way n s)) × (file_of (beyond way n s) ≡ file_of s)
beyond-leads way n s s_in = grind (arith, ltb-false)

further_is : (way : Way) (n n' a a' b b' : ℕ) → n ≡ n' → a ≡ a' → b ≡ b' → Further way n a b → Further way n' a' b'
further_is way n n' a a' b b' p q r h = grind arith

-- along the rank to u, and from there along the file to t
pub away_by : (d : Step) (s u t : ℕ) → t < 64 → Further d.files d.wide (file_of s) (file_of u) → rank_of u ≡ rank_of s
    → Further d.ranks d.high (rank_of u) (rank_of t) → file_of t ≡ file_of u → Away d 1 s t
away_by d s u t t_in across same along over = grind (arith, further_is)
