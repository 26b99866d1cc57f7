-- The written placement, read again.
use Rattle.std.proofs.Common.{◌≡◌, ℕ, zero, suc, ◌+◌, ◌-◌, ◌*◌, ◌<◌, ◌≤◌, Bool, false, cond, ◌&&◌, ltb, leb, List, []}
use Rattle.std.proofs.Common.{◌∷◌, ◌++◌, length, Option, Some, None, arith, refl, sym, ap, ◌∙◌}
use Rattle.egt_fen.specs.Prelude.{option_map, add-zero, lt-ltb, le-leb, append_assoc, append-nil, Side, Kind, Man}
use Rattle.egt_fen.specs.Prelude.{Placement, man_of, letter_of, is_slash, width_of, on_square, placement_of, men_left}
use Rattle.egt_fen.specs.Prelude.{gap_text, squares_text, squares_of, rank_text, ranks_text, placement_text}
use Rattle.egt_fen.proofs.Written.{length-squares_of}
use Rattle.egt_fen.proofs.Letters.{men_left-letter}
use Rattle.egt_fen.proofs.Ranks.{men_left_is}
use Rattle.egt_fen.proofs.Found.{listed, listed_ranks}

abbrev Men : Type 0
Men = List (Man × ℕ)

-- the digit of a run of n + 1 empty squares
record IsGap (n : ℕ) : Type 0 where
  slash : is_slash (49 + n) ≡ false
  width : width_of (49 + n) ≡ suc n
  empty : man_of (49 + n) ≡ None

gap_is : (n : ℕ) → n < 8 → IsGap n
gap_is h0 n_in = grind arith

map_nothing : (o : Option Men) → option_map (λ men. men) o ≡ o
map_nothing o = grind arith

-- a digit passes its squares
skip : (slash : Bool) (width n : ℕ) (o : Option Man) (rest : List ℕ) (rank file : ℕ) (after : Option Men)
    → slash ≡ false → width ≡ suc n → o ≡ None → file + suc n ≤ 8
    → cond slash after (cond (ltb 0 width && leb (file + width) 8) (option_map (λ men. on_square (8 * rank + file) o ++ men) (men_left rest rank (file + width))) None)
    ≡ men_left rest rank (file + suc n)
skip slash width n o rest rank file after es ew eo room = grind (arith, ltb, leb, option_map, on_square, men_left, lt-ltb, le-leb, map_nothing)

gap_read : (gap rank file : ℕ) (rest : List ℕ) → file + gap ≤ 8 → men_left (gap_text gap ++ rest) rank file ≡ men_left rest rank (file + gap)
gap_read h0 rank file rest room = grind (arith, men_left, add-zero, gap_is, skip, is_slash, width_of, man_of)

-- a letter is below 256 and its man is the one that was written
letter_read : (side : Side) (kind : Kind) → (letter_of (record { side = side; kind = kind }) < 256) × (man_of (letter_of (record { side = side; kind = kind })) ≡ Some (record { side = side; kind = kind }))
letter_read h0 h1 = grind arith

man_read : (man : Man) (rank file : ℕ) (rest : List ℕ) → file < 8 → men_left (letter_of man ∷ rest) rank file ≡ option_map (λ men. (man, 8 * rank + file) ∷ men) (men_left rest rank (file + 1))
man_read man rank file rest room =
    let is = letter_read man.side man.kind in
    sym (map_nothing (men_left (letter_of man ∷ rest) rank file))
    ∙ men_left-letter [] ((man, 8 * rank + file) ∷ []) (letter_of man) man rest rank file (8 * rank + file) is.0 is.1 room refl refl

map_twice : (first : Man × ℕ) (row : Men) (o : Option Men) → option_map (λ men. first ∷ men) (option_map (λ men. row ++ men) o) ≡ option_map (λ men. (first ∷ row) ++ men) o
map_twice first row o = grind arith

-- the rest of a rank, behind so many files and a run of empty squares
squares_read : (squares : List (Option Man)) (gap rank file : ℕ) (rest : List ℕ) → file + gap + length squares ≡ 8
    → men_left (squares_text gap squares ++ rest) rank file ≡ option_map (λ men. listed (8 * rank + (file + gap)) squares ++ men) (men_left rest rank 8)
squares_read [] gap rank file rest whole =
    gap_read gap rank file rest (omega arith)
    ∙ ap (men_left rest rank) (omega arith)
    ∙ sym (map_nothing (men_left rest rank 8))
squares_read (None ∷ squares) gap rank file rest whole =
    squares_read squares (gap + 1) rank file rest (omega arith)
    ∙ ap (λ s. option_map (λ men. listed s squares ++ men) (men_left rest rank 8)) (next (8 * rank) file gap)
  where
    next : (a b c : ℕ) → a + (b + (c + 1)) ≡ a + (b + c) + 1
    next a b c = omega arith
squares_read (Some man ∷ squares) gap rank file rest whole =
    ap (λ xs. men_left xs rank file) (append_assoc (gap_text gap) (letter_of man ∷ squares_text 0 squares) rest)
    ∙ gap_read gap rank file (letter_of man ∷ (squares_text 0 squares ++ rest)) (omega arith)
    ∙ man_read man rank (file + gap) (squares_text 0 squares ++ rest) (omega arith)
    ∙ ap (option_map (λ men. (man, 8 * rank + (file + gap)) ∷ men)) (squares_read squares 0 rank (file + gap + 1) rest (omega arith)
    ∙ ap (λ s. option_map (λ men. listed s squares ++ men) (men_left rest rank 8)) (next (8 * rank) (file + gap)))
    ∙ map_twice (man, 8 * rank + (file + gap)) (listed (8 * rank + (file + gap) + 1) squares) (men_left rest rank 8)
  where
    next : (a b : ℕ) → a + (b + 1 + 0) ≡ a + b + 1
    next a b = omega arith

ranks_read : (men : Placement) (rank : ℕ) → men_left (ranks_text men rank) rank 0 ≡ Some (listed_ranks men rank)
ranks_read men zero =
    ap (λ xs. men_left xs 0 0) (sym (append-nil (rank_text men 0)))
    ∙ squares_read (squares_of men 0) 0 0 0 [] (omega (arith, length-squares_of men 0))
    ∙ ap Some (append-nil (listed 0 (squares_of men 0)))
ranks_read men (suc rank) =
    squares_read (squares_of men (suc rank)) 0 (suc rank) 0 (47 ∷ ranks_text men rank) (omega (arith, length-squares_of men (suc rank)))
    ∙ ap (λ o. option_map (λ ms. listed (8 * suc rank + (0 + 0)) (squares_of men (suc rank)) ++ ms) o) (
    ap (λ b. cond b (men_left (ranks_text men rank) (suc rank - 1) 0) None) (lt-ltb 0 (suc rank) (omega arith))
    ∙ ap (λ n. men_left (ranks_text men rank) n 0) (pred rank)
    ∙ ranks_read men rank)
    ∙ ap (λ s. Some (listed s (squares_of men (suc rank)) ++ listed_ranks men rank)) (add-zero (8 * suc rank))
  where
    pred : (r : ℕ) → suc r - 1 ≡ r
    pred r = omega arith

pub placement_read : (men : Placement) → placement_of (placement_text men) ≡ Some (listed_ranks men 7)
unfolding placement_text
placement_read men = sym (men_left_is (ranks_text men 7)) ∙ ranks_read men 7
