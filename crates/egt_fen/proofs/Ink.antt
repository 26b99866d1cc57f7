-- The fields of a written text have neither spaces nor carriage returns, so they are found again.
use Rattle.std.proofs.Common.{◌≡◌, ◌≢◌, ℕ, zero, suc, ◌+◌, ◌-◌, ◌<◌, Bool, true, false, cond, ◌&&◌, not, ltb, leb, List}
use Rattle.std.proofs.Common.{[], ◌∷◌, ◌++◌, length, get_or, take, filter, Option, Some, None, arith, refl, ap, ◌∙◌}
use Rattle.egt_fen.specs.Prelude.{slice_split, onto_first, list_all, join_with_byte, is_ascii_digit, decimal, AllDigits}
use Rattle.egt_fen.specs.Prelude.{digits_value, and_from, and_parts, ltb-true, lt-ltb, le-leb, ne_eqb, nat_tests}
use Rattle.egt_fen.specs.Prelude.{list_all-append, decimal_is_IsNumeral, decimal_nonempty, length-decimal-le, Side}
use Rattle.egt_fen.specs.Prelude.{Kind, Man, Placement, file_of, rank_of, letter_of, line_of, is_space, has_bytes}
use Rattle.egt_fen.specs.Prelude.{runs_of, counter_of, gap_text, squares_text, squares_of, rank_text, ranks_text}
use Rattle.egt_fen.specs.Prelude.{placement_text, side_text, target_text}
use Rattle.egt_fen.proofs.Digits.{IsDigit, digit_is}

-- above the space, and so no carriage return either
abbrev is_ink : ℕ → Bool
is_ink c = ltb 32 c

-- a word: some bytes, all of them ink
pub record IsWord (text : List ℕ) : Type 0 where
  pub ink : list_all is_ink text ≡ true
  pub some : 0 < length text

ink-append : (xs ys : List ℕ) → list_all is_ink xs ≡ true → list_all is_ink ys ≡ true → list_all is_ink (xs ++ ys) ≡ true
ink-append xs ys x y = list_all-append is_ink xs ys ∙ and_from (list_all is_ink xs) (list_all is_ink ys) x y

gap_ink : (gap : ℕ) → list_all is_ink (gap_text gap) ≡ true
gap_ink h0 = grind (arith, and_from, lt-ltb)

letter_ink : (side : Side) (kind : Kind) → is_ink (letter_of (record { side = side; kind = kind })) ≡ true
letter_ink side kind = grind arith

squares_ink : (gap : ℕ) (squares : List (Option Man)) → list_all is_ink (squares_text gap squares) ≡ true
squares_ink gap [] = gap_ink gap
squares_ink gap (None ∷ squares) = squares_ink (gap + 1) squares
squares_ink gap (Some man ∷ squares) =
    ink-append (gap_text gap) (letter_of man ∷ squares_text 0 squares) (gap_ink gap)
    (and_from (is_ink (letter_of man)) (list_all is_ink (squares_text 0 squares)) (letter_ink man.side man.kind) (squares_ink 0 squares))

ranks_ink : (men : Placement) (rank : ℕ) → list_all is_ink (ranks_text men rank) ≡ true
ranks_ink men zero = squares_ink 0 (squares_of men 0)
ranks_ink men (suc rank) = ink-append (rank_text men (suc rank)) (47 ∷ ranks_text men rank) (squares_ink 0 (squares_of men (suc rank))) (ranks_ink men rank)

after_some : (xs ys : List ℕ) (c : ℕ) → 0 < length (xs ++ c ∷ ys)
after_some [] ys c = omega arith
after_some (x ∷ xs) ys c = omega arith

pub placement_word : (men : Placement) → IsWord (placement_text men)
unfolding placement_text
placement_word men = record { ink = ranks_ink men 7; some = after_some (rank_text men 7) (ranks_text men 6) 47 }

pub side_word : (side : Side) → IsWord (side_text side)
side_word h0 = grind arith

pub target_word : (target : Option ℕ) → IsWord (target_text target)
target_word None = record { ink = refl; some = omega arith }
target_word (Some s) = record {
  ink = and_from (is_ink (97 + file_of s)) (is_ink (49 + rank_of s) && true) (lt-ltb 32 (97 + file_of s) (omega arith))
      (and_from (is_ink (49 + rank_of s)) true (lt-ltb 32 (49 + rank_of s) (omega arith)) refl);
  some = omega arith;
}

digits_ink : (ds : List ℕ) → AllDigits 10 ds → list_all is_ink ds ≡ true
digits_ink [] all = refl
digits_ink (d ∷ ds) all =
    let digit = digit_is d all.0 in
    and_from (is_ink d) (list_all is_ink ds) (lt-ltb 32 d (omega (arith, digit.low))) (digits_ink ds all.1)

pub decimal_word : (n : ℕ) → n < 1000000000 → IsWord (decimal n)
decimal_word n small = record { ink = digits_ink (decimal n) (decimal_is_IsNumeral n (omega arith)).0.1; some = decimal_nonempty n (omega arith) }

digit_test : (c : ℕ) → IsDigit c → is_ascii_digit c ≡ true
digit_test c digit = let low = digit.low in let high = digit.high in grind (arith, nat_tests)

digits_test : (ds : List ℕ) → AllDigits 10 ds → list_all is_ascii_digit ds ≡ true
digits_test [] all = refl
digits_test (d ∷ ds) all = and_from (is_ascii_digit d) (list_all is_ascii_digit ds) (digit_test d (digit_is d all.0)) (digits_test ds all.1)

-- a clock is read as it was written
pub counter_read : (n : ℕ) → n < 1000000000 → counter_of (decimal n) ≡ Some n
counter_read n small =
    let numeral = decimal_is_IsNumeral n (omega arith) in
    let digits = decimal n in
    ap (λ b. cond b (Some (digits_value 10 digits)) None)
    (and_from (ltb 0 (length digits) && leb (length digits) 9) (list_all is_ascii_digit digits)
    (and_from (ltb 0 (length digits)) (leb (length digits) 9) (lt-ltb 0 (length digits) numeral.0.0) (le-leb (length digits) 9 (length-decimal-le 9 n (omega arith) small (omega arith))))
    (digits_test digits numeral.0.1))
    ∙ ap Some numeral.1

-- a word ends at the space behind it
split-word : (word rest : List ℕ) → list_all is_ink word ≡ true → slice_split is_space (word ++ 32 ∷ rest) ≡ word ∷ slice_split is_space rest
split-word [] rest ink = refl
split-word (c ∷ word) rest ink =
    let parts = and_parts (is_ink c) (list_all is_ink word) ink in
    ap (λ b. cond b ([] ∷ slice_split is_space (word ++ 32 ∷ rest)) (onto_first c (slice_split is_space (word ++ 32 ∷ rest)))) (no_space c parts.0)
    ∙ ap (onto_first c) (split-word word rest parts.1)
  where
    no_space : (x : ℕ) → is_ink x ≡ true → is_space x ≡ false
    no_space x h = ne_eqb x 32 (λ e. let lt = ltb-true 32 x h in omega arith)

split-last : (word : List ℕ) → list_all is_ink word ≡ true → slice_split is_space word ≡ word ∷ []
split-last [] ink = refl
split-last (c ∷ word) ink =
    let parts = and_parts (is_ink c) (list_all is_ink word) ink in
    ap (λ b. cond b ([] ∷ slice_split is_space word) (onto_first c (slice_split is_space word))) (no_space c parts.0)
    ∙ ap (onto_first c) (split-last word parts.1)
  where
    no_space : (x : ℕ) → is_ink x ≡ true → is_space x ≡ false
    no_space x h = ne_eqb x 32 (λ e. let lt = ltb-true 32 x h in omega arith)

-- each of these is a word
abbrev pub AreWords : List (List ℕ) → Type 0
AreWords [] = Unit {0}
AreWords (word ∷ words) = IsWord word × AreWords words

filter-word : (word : List ℕ) (words : List (List ℕ)) → IsWord word → filter has_bytes (word ∷ words) ≡ word ∷ filter has_bytes words
filter-word word words is =
    ap (λ b. cond b (word ∷ filter has_bytes words) (filter has_bytes words)) (ap not (ne_eqb (length word) 0 (λ e. let some = is.some in omega arith)))

-- words with a space between are found again
pub runs_of-words : (words : List (List ℕ)) → AreWords words → runs_of (join_with_byte 32 words) ≡ words
unfolding runs_of
runs_of-words [] are = refl
runs_of-words (word ∷ []) are =
    ap (filter has_bytes) (split-last word are.0.ink) ∙ filter-word word [] are.0
runs_of-words (word ∷ next ∷ words) are =
    ap (filter has_bytes) (split-word word (join_with_byte 32 (next ∷ words)) are.0.ink)
    ∙ filter-word word (slice_split is_space (join_with_byte 32 (next ∷ words))) are.0
    ∙ ap (λ ws. word ∷ ws) (runs_of-words (next ∷ words) are.1)

-- not below the space: no carriage return
abbrev is_seen : ℕ → Bool
is_seen c = ltb 31 c

ink_seen : (xs : List ℕ) → list_all is_ink xs ≡ true → list_all is_seen xs ≡ true
ink_seen [] ink = refl
ink_seen (c ∷ xs) ink =
    let parts = and_parts (is_ink c) (list_all is_ink xs) ink in
    and_from (is_seen c) (list_all is_seen xs) (lt-ltb 31 c (let lt = ltb-true 32 c parts.0 in omega arith)) (ink_seen xs parts.1)

words_seen : (words : List (List ℕ)) → AreWords words → list_all is_seen (join_with_byte 32 words) ≡ true
words_seen [] are = refl
words_seen (word ∷ []) are = ink_seen word are.0.ink
words_seen (word ∷ next ∷ words) are =
    list_all-append is_seen word (32 ∷ join_with_byte 32 (next ∷ words))
    ∙ and_from (list_all is_seen word) (list_all is_seen (join_with_byte 32 (next ∷ words))) (ink_seen word are.0.ink) (words_seen (next ∷ words) are.1)

seen-at : (xs : List ℕ) (i : ℕ) → list_all is_seen xs ≡ true → get_or xs i 0 ≢ 13
seen-at [] i seen = λ e. omega arith
seen-at (c ∷ xs) zero seen = λ e. (let lt = ltb-true 31 c (and_parts (is_seen c) (list_all is_seen xs) seen).0 in omega arith)
seen-at (c ∷ xs) (suc i) seen = seen-at xs i (and_parts (is_seen c) (list_all is_seen xs) seen).1

-- no carriage return stands at their end
pub line_of-words : (words : List (List ℕ)) → AreWords words → line_of (join_with_byte 32 words) ≡ join_with_byte 32 words
line_of-words words are =
    let text = join_with_byte 32 words in
    ap (λ b. cond b (take (length text - 1) text) text) (ne_eqb (get_or text (length text - 1) 0) 13 (seen-at text (length text - 1) (words_seen words are)))
