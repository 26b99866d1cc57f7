-- One more entry is written behind those before it.
use Rattle.std.proofs.Common.{◌≡◌, ℕ, ◌+◌, ◌<◌, ◌≤◌, List, [], ◌∷◌, ◌++◌, length, map, take, get_or, set, sym, ap, ◌∙◌, arith}
use Rattle.std.proofs.lemmas.List.{map-append, take_more, take_more_set}

module _ {A B : Type 0} (written : A → B) where
  pub one_more : (listed : List B) (moves : List A) (i k : ℕ) (m : A) (text : B) → length listed ≡ 64 → length moves ≤ 64 → i < length moves → k ≡ i
      → m ≡ get_or moves i m → text ≡ written m → take i listed ≡ map written (take i moves) → take (i + 1) (set listed k text) ≡ map written (take (i + 1) moves)
  one_more listed moves i k m text size few inside at is told before =
      let stored : take (i + 1) (set listed k text) ≡ map written (take i moves) ++ written m ∷ [] =
      ap (λ (j : ℕ). take (i + 1) (set listed j text)) at ∙ take_more_set listed i text (omega arith) ∙ ap (λ (ts : List B). ts ++ text ∷ []) before
      ∙ ap (λ (t : B). map written (take i moves) ++ t ∷ []) told in
      let grown : map written (take (i + 1) moves) ≡ map written (take i moves) ++ written m ∷ [] =
      ap (map written) (take_more moves i m inside) ∙ map-append written (take i moves) (get_or moves i m ∷ [])
      ∙ ap (λ (n : A). map written (take i moves) ++ written n ∷ []) (sym is) in
      stored ∙ sym grown
