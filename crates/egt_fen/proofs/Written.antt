-- The placement as it is written: a rank square by square, and the ranks one below the other.
use Rattle.std.proofs.Common.{◌≡◌, ℕ, zero, suc, ◌+◌, ◌*◌, ◌<◌, ◌≤◌, List, [], ◌∷◌, ◌++◌, length, drop, get_or, Some}
use Rattle.std.proofs.Common.{None, arith, refl, sym, ap, ◌∙◌}
use Rattle.egt_fen.specs.Prelude.{add-zero, append_assoc, append-nil, at_drop_more, at_drop_all, Man, Placement}
use Rattle.egt_fen.specs.Prelude.{letter_of, gap_text, squares_text, squares_of, rank_text, ranks_text, placement_text}
use Rattle.std.specs.FinMap as placement

-- what stands on a square of the rank
pub squares_of-at : (men : Placement) (rank file : ℕ) → file < 8 → get_or (squares_of men rank) file None ≡ placement.get men (8 * rank + file)
unfolding squares_of
squares_of-at men rank zero file_in = ap (placement.get men) (sym (add-zero (8 * rank)))
squares_of-at men rank file file_in = grind arith

pub length-squares_of : (men : Placement) (rank : ℕ) → length (squares_of men rank) ≡ 8
unfolding squares_of
length-squares_of men rank = refl

-- what is left of a rank, at a square with nothing on it
squares_text-at : (men : Placement) (rank file gap : ℕ) → file < 8
    → squares_text gap (drop file (squares_of men rank)) ≡ squares_text gap (placement.get men (8 * rank + file) ∷ drop (file + 1) (squares_of men rank))
squares_text-at men rank file gap file_in =
    at_drop_more (squares_text gap) (squares_of men rank) file None (omega (arith, length-squares_of men rank))
    ∙ ap (λ o. squares_text gap (o ∷ drop (file + 1) (squares_of men rank))) (squares_of-at men rank file file_in)

pub squares_text-free : (text : List ℕ) (men : Placement) (rank file gap : ℕ) → file < 8 → placement.get men (8 * rank + file) ≡ None
    → text ++ squares_text gap (drop file (squares_of men rank)) ≡ text ++ squares_text (gap + 1) (drop (file + 1) (squares_of men rank))
squares_text-free text men rank file gap file_in free = grind (arith, squares_text-at, squares_text, squares_of)

pub squares_text-man : (text : List ℕ) (men : Placement) (man : Man) (rank file gap : ℕ) → file < 8 → placement.get men (8 * rank + file) ≡ Some man
    → text ++ squares_text gap (drop file (squares_of men rank)) ≡ ((text ++ gap_text gap) ++ letter_of man ∷ []) ++ squares_text 0 (drop (file + 1) (squares_of men rank))
squares_text-man text men man rank file gap file_in there = grind (arith, squares_text-at, squares_text, squares_of, append_assoc, gap_text, letter_of)

-- behind the last square
pub squares_text-end : (text : List ℕ) (men : Placement) (rank file gap : ℕ) → 8 ≤ file → text ++ squares_text gap (drop file (squares_of men rank)) ≡ text ++ gap_text gap
squares_text-end text men rank file gap behind = ap (λ xs. text ++ xs) (at_drop_all (squares_text gap) (squares_of men rank) file (omega (arith, length-squares_of men rank)))

-- the ranks below this one
abbrev pub below : Placement → ℕ → List ℕ
below men zero = []
below men (suc rank) = 47 ∷ ranks_text men rank

ranks_text-below : (men : Placement) (rank : ℕ) → ranks_text men rank ≡ rank_text men rank ++ below men rank
ranks_text-below men h1 = grind (arith, append-nil, rank_text)

pub below-first : (men : Placement) (text : List ℕ) → (text ++ rank_text men 7) ++ below men 7 ≡ text ++ placement_text men
unfolding placement_text
below-first men text = append_assoc text (rank_text men 7) (below men 7)

pub below-more : (men : Placement) (rank next : ℕ) (text : List ℕ) → rank ≡ suc next → text ++ below men rank ≡ ((text ++ 47 ∷ []) ++ rank_text men next) ++ below men next
below-more men rank next text e = grind (arith, ranks_text-below, append_assoc, rank_text)
