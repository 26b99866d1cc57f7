-- Tallies of one entry more.
use Rattle.std.proofs.Common.{◌≡◌, ℕ, ◌+◌, ◌<◌, ◌≤◌, max, inl, inr, Bool, true, false, List, length, take, get_or, slice_index, count_by, Option, Some, None, option_map, unwrap_or, sym, ap, subst, ◌∙◌, arith}
use Rattle.std.proofs.lemmas.Bool.{cases_lt, false≢true}
use Rattle.std.proofs.lemmas.List.Sums.{count_by_more_yes, count_by_more_no}
use borrow.Author.Count.{below_more}
use Rattle.egt_commands.specs.Statistics.{IsLongest, plies_of}

module _ (passes : ℕ → Bool) (xs : List ℕ) (i x : ℕ) (inside : i < length xs) (here : x ≡ slice_index xs i) where
  -- an entry that passes counts, another does not
  pub count_more : (n : ℕ) → passes x ≡ true → n ≡ count_by passes (take i xs) → n + 1 ≡ count_by passes (take (i + 1) xs)
  count_more n passing so_far =
      let there : passes (get_or xs i 0) ≡ true = subst (λ y. passes y ≡ true) here passing in
      ap (λ k. k + 1) so_far ∙ sym (count_by_more_yes passes xs i 0 inside there)

  pub count_same : (n : ℕ) → passes x ≡ false → n ≡ count_by passes (take i xs) → n ≡ count_by passes (take (i + 1) xs)
  count_same n failing so_far =
      let there : passes (get_or xs i 0) ≡ false = subst (λ y. passes y ≡ false) here failing in
      so_far ∙ sym (count_by_more_no passes xs i 0 inside there)

  abbrev AtMost : ℕ → ℕ → Type 0
  AtMost n k = passes (slice_index xs k) ≡ true → plies_of (slice_index xs k) ≤ n

  -- an entry that does not pass changes nothing
  pub longest_same : (known : Option ℕ) → passes x ≡ false → IsLongest passes xs i known → IsLongest passes xs (i + 1) known
  longest_same None failing h = below_more (λ k. passes (slice_index xs k) ≡ false) i h (subst (λ y. passes y ≡ false) here failing)
  longest_same (Some n) failing (found, most) =
      let there : passes (slice_index xs i) ≡ false = subst (λ y. passes y ≡ false) here failing in
      ((found.0, (let less = found.1 in omega arith), found.2, found.3), below_more (AtMost n) i most (λ passing. absurd (false≢true (sym there ∙ passing))))

  here_yes : passes x ≡ true → passes (slice_index xs i) ≡ true
  here_yes passing = subst (λ y. passes y ≡ true) here passing

  -- the longer of two is the longest
  most_of_both : (n most : ℕ) → most ≡ max n (plies_of x) → ((k : ℕ) → k < i → AtMost n k) → (k : ℕ) → k < i + 1 → AtMost most k
  most_of_both n most e known = below_more (AtMost most) i
      (λ k below passing. (let bound = known k below passing in omega (arith, e)))
      (λ passing. subst (λ y. plies_of y ≤ most) here (omega (arith, e)))

  -- one that passes is the longest, or the known one is
  pub longest_more : (known : Option ℕ) (most : ℕ) → passes x ≡ true → most ≡ unwrap_or (option_map (λ n. max n (plies_of x)) known) (plies_of x)
      → IsLongest passes xs i known → IsLongest passes xs (i + 1) (Some most)
  longest_more None most passing e h = (
    (i, omega arith, here_yes passing, e ∙ ap plies_of here),
    below_more (AtMost most) i (λ k below there. absurd (false≢true (sym (h k below) ∙ there))) (λ there. subst (λ y. plies_of y ≤ most) here (omega (arith, e))),
  )
  longest_more (Some n) most passing e (found, known) = elim (cases_lt n (plies_of x)) [
    | inl less ↦
        let is : most ≡ plies_of x = omega (arith, e, less) in
        ((i, omega arith, here_yes passing, is ∙ ap plies_of here), most_of_both n most e known)
    | inr not_less ↦
        let is : most ≡ n = omega (arith, e, not_less) in
        ((found.0, (let below = found.1 in omega arith), found.2, is ∙ found.3), most_of_both n most e known)
  ]
