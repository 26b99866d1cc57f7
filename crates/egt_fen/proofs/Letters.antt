-- Letters of men, told apart, and the squares that a byte adds to a placement that is read from its front.
use Rattle.std.proofs.Common.{◌≡◌, ℕ, ◌+◌, ◌-◌, ◌*◌, ◌<◌, Bool, true, false, cond, ◌&&◌, leb, ltb, List, [], ◌∷◌, ◌++◌}
use Rattle.std.proofs.Common.{Option, Some, None, arith, refl, sym, ap, ◌∙◌}
use Rattle.egt_fen.specs.Prelude.{option_map, is_some, agree_below_at, le-leb, append_assoc, Man, man_of}
use Rattle.egt_fen.specs.Prelude.{is_slash, width_of, on_square, men_left}

-- neither a slash nor a digit is a letter
slash_no_letter : (c : ℕ) → c < 256 → (is_slash c && is_some (man_of c)) ≡ false
slash_no_letter c small = agree_below_at (λ b. is_slash b && is_some (man_of b)) (λ _. false) 256 c refl small

digit_no_letter : (c : ℕ) → c < 256 → (leb 49 c && leb c 56 && is_some (man_of c)) ≡ false
digit_no_letter c small = agree_below_at (λ b. leb 49 b && leb b 56 && is_some (man_of b)) (λ _. false) 256 c refl small

not_both : (a b : Bool) → (a && b) ≡ false → b ≡ true → a ≡ false
not_both a b e h = grind arith

letter_slash : (c : ℕ) (man : Man) → c < 256 → man_of c ≡ Some man → is_slash c ≡ false
letter_slash c man small e = not_both (is_slash c) (is_some (man_of c)) (slash_no_letter c small) (ap is_some e)

letter_width : (c : ℕ) (man : Man) → c < 256 → man_of c ≡ Some man → width_of c ≡ 1
letter_width c man small e = grind (arith, is_some, man_of, not_both, leb, digit_no_letter)

-- a letter puts its man on the next square
put : (men : List (Man × ℕ)) (slash : Bool) (width : ℕ) (o : Option Man) (man : Man) (rest : List ℕ) (rank file : ℕ) (after : Option (List (Man × ℕ)))
    → slash ≡ false → width ≡ 1 → o ≡ Some man → file < 8
    → option_map (λ ms. men ++ ms) (cond slash after (cond (ltb 0 width && leb (file + width) 8) (option_map (λ ms. on_square (8 * rank + file) o ++ ms) (men_left rest rank (file + width))) None))
    ≡ option_map (λ ms. (men ++ (man, 8 * rank + file) ∷ []) ++ ms) (men_left rest rank (file + 1))
put men slash width o man rest rank file after es ew eo room = grind (arith, option_map, ltb, leb, on_square, men_left, le-leb, append_assoc)

pub men_left-letter : (men new : List (Man × ℕ)) (c : ℕ) (man : Man) (rest : List ℕ) (rank file s : ℕ) → c < 256 → man_of c ≡ Some man → file < 8 → s ≡ 8 * rank + file → new ≡ men ++ (man, s) ∷ []
    → option_map (λ ms. men ++ ms) (men_left (c ∷ rest) rank file) ≡ option_map (λ ms. new ++ ms) (men_left rest rank (file + 1))
men_left-letter men new c man rest rank file s small e room es en =
    put men (is_slash c) (width_of c) (man_of c) man rest rank file _ (letter_slash c man small e) (letter_width c man small e) e room
    ∙ ap (λ xs. option_map (λ ms. xs ++ ms) (men_left rest rank (file + 1))) (ap (λ n. men ++ (man, n) ∷ []) (sym es) ∙ sym en)
