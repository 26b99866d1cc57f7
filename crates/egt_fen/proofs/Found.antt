-- The men of a placement, rank by rank and square by square, and the placement that they make.
use Rattle.std.proofs.Common.{◌≡◌, ◌≢◌, ℕ, zero, suc, ◌+◌, ◌-◌, ◌*◌, ◌<◌, ◌≤◌, true, false, cond, List, [], ◌∷◌, ◌++◌}
use Rattle.std.proofs.Common.{length, map, get_or, Option, Some, None, arith, refl, sym, ap, ◌∙◌, inl, inr, subst}
use Rattle.egt_fen.specs.Prelude.{nat_cmp, eq_by_cmp, nat_cmp_total, option_or, is_some, cases_lt, cases_eq, append-nil}
use Rattle.egt_fen.specs.Prelude.{Man, Placement, Stands, same_men, tied, untied, squares_of}
use Rattle.std.specs.FinMap as placement
use Rattle.egt_board.specs.Listed as board
use Rattle.egt_fen.proofs.Written.{squares_of-at, length-squares_of}

-- the men of these squares, of which the first has number s
abbrev pub listed : ℕ → List (Option Man) → List (Man × ℕ)
listed s [] = []
listed s (None ∷ squares) = listed (s + 1) squares
listed s (Some man ∷ squares) = (man, s) ∷ listed (s + 1) squares

-- the men of this rank and of those below it
abbrev pub listed_ranks : Placement → ℕ → List (Man × ℕ)
listed_ranks men zero = listed 0 (squares_of men 0)
listed_ranks men (suc rank) = listed (8 * suc rank) (squares_of men (suc rank)) ++ listed_ranks men rank

-- the man of the first entry with this square
abbrev found : ℕ → List (Man × ℕ) → Option Man
found q list = placement.find nat_cmp q (map board.entry_of list)

found-here : (q s : ℕ) (man : Man) (list : List (Man × ℕ)) → q ≡ s → found q ((man, s) ∷ list) ≡ Some man
found-here q s man list e = ap (λ b. cond b (Some man) (found q list)) (tied q s e)

found-later : (q s : ℕ) (man : Man) (list : List (Man × ℕ)) → q ≢ s → found q ((man, s) ∷ list) ≡ found q list
found-later q s man list other = ap (λ b. cond b (Some man) (found q list)) (untied q s other)

found-append : (xs ys : List (Man × ℕ)) (q : ℕ) → found q (xs ++ ys) ≡ option_or (found q xs) (found q ys)
found-append [] ys q = refl
found-append (x ∷ xs) ys q = elim (eq_by_cmp nat_cmp q x.1) as (λ b. cond b (Some x.0) (found q (xs ++ ys)) ≡ option_or (cond b (Some x.0) (found q xs)) (found q ys)) [
  | true ↦ refl
  | false ↦ found-append xs ys q
]

listed-before : (squares : List (Option Man)) (s q : ℕ) → q < s → found q (listed s squares) ≡ None
listed-before [] s q before = refl
listed-before (None ∷ squares) s q before = listed-before squares (s + 1) q (omega arith)
listed-before (Some man ∷ squares) s q before =
    found-later q s man (listed (s + 1) squares) (λ e. omega arith) ∙ listed-before squares (s + 1) q (omega arith)

listed-behind : (squares : List (Option Man)) (s q : ℕ) → s + length squares ≤ q → found q (listed s squares) ≡ None
listed-behind [] s q behind = refl
listed-behind (None ∷ squares) s q behind = listed-behind squares (s + 1) q (omega arith)
listed-behind (Some man ∷ squares) s q behind =
    found-later q s man (listed (s + 1) squares) (λ e. omega arith) ∙ listed-behind squares (s + 1) q (omega arith)

listed-at : (squares : List (Option Man)) (s k q : ℕ) → k < length squares → q ≡ s + k → found q (listed s squares) ≡ get_or squares k None
listed-at [] s k q k_in e = absurd (omega arith)
listed-at (None ∷ squares) s zero q k_in e = listed-before squares (s + 1) q (omega arith)
listed-at (None ∷ squares) s (suc k) q k_in e = listed-at squares (s + 1) k q (omega arith) (omega arith)
listed-at (Some man ∷ squares) s zero q k_in e = found-here q s man (listed (s + 1) squares) (omega arith)
listed-at (Some man ∷ squares) s (suc k) q k_in e =
    found-later q s man (listed (s + 1) squares) (λ same. omega arith) ∙ listed-at squares (s + 1) k q (omega arith) (omega arith)

-- a rank has what stands on its squares
rank-at : (men : Placement) (rank s q : ℕ) → s ≡ 8 * rank → s ≤ q → q < s + 8 → found q (listed s (squares_of men rank)) ≡ placement.get men q
rank-at men rank s q e low high =
    listed-at (squares_of men rank) s (q - s) q (omega (arith, length-squares_of men rank)) (omega arith)
    ∙ squares_of-at men rank (q - s) (omega arith)
    ∙ ap (placement.get men) (omega arith)

ranks-behind : (men : Placement) (rank q : ℕ) → 8 * rank + 8 ≤ q → found q (listed_ranks men rank) ≡ None
ranks-behind men zero q behind = listed-behind (squares_of men 0) 0 q (omega (arith, length-squares_of men 0))
ranks-behind men (suc rank) q behind =
    found-append (listed (8 * suc rank) (squares_of men (suc rank))) (listed_ranks men rank) q
    ∙ ap (λ o. option_or o (found q (listed_ranks men rank))) (listed-behind (squares_of men (suc rank)) (8 * suc rank) q (omega (arith, length-squares_of men (suc rank))))
    ∙ ranks-behind men rank q (omega arith)

or_none : (o : Option Man) → option_or o None ≡ o
or_none o = grind arith

ranks-at : (men : Placement) (rank q : ℕ) → q < 8 * rank + 8 → found q (listed_ranks men rank) ≡ placement.get men q
ranks-at men zero q q_in = rank-at men 0 0 q refl (omega arith) (omega arith)
ranks-at men (suc rank) q q_in =
    found-append (listed (8 * suc rank) (squares_of men (suc rank))) (listed_ranks men rank) q ∙ elim (cases_lt q (8 * suc rank)) [
      | inl below ↦
          ap (λ o. option_or o (found q (listed_ranks men rank))) (listed-before (squares_of men (suc rank)) (8 * suc rank) q below)
          ∙ ranks-at men rank q (omega arith)
      | inr here ↦
          ap (λ o. option_or (found q (listed (8 * suc rank) (squares_of men (suc rank)))) o) (ranks-behind men rank q (omega arith))
          ∙ or_none (found q (listed (8 * suc rank) (squares_of men (suc rank))))
          ∙ rank-at men (suc rank) (8 * suc rank) q refl here (omega arith)
    ]

-- nothing stands beyond the board
free_beyond : (men : Placement) (q : ℕ) → ((s : ℕ) (man : Man) → Stands men s man → s < 64) → 64 ≤ q → placement.get men q ≡ None
free_beyond men q on_board beyond = grind arith

-- the men of the eight ranks make the placement
pub men_of-ranks : (men : Placement) → ((s : ℕ) (man : Man) → Stands men s man → s < 64) → board.men_of (listed_ranks men 7) ≡ men
unfolding board.men_of
men_of-ranks men on_board = same_men _ _ (λ q. placement.get-from_entries nat_cmp_total (map board.entry_of (listed_ranks men 7)) q ∙ elim (cases_lt q 64) [
  | inl q_in ↦ ranks-at men 7 q (omega arith)
  | inr beyond ↦ ranks-behind men 7 q (omega arith) ∙ sym (free_beyond men q on_board beyond)
])

-- no square twice, from the front
abbrev Apart : List (Man × ℕ) → Type 0
Apart [] = Unit {0}
Apart (x ∷ xs) = (found x.1 xs ≡ None) × Apart xs

listed-Apart : (squares : List (Option Man)) (s : ℕ) (rest : List (Man × ℕ)) → Apart rest → ((q : ℕ) → s ≤ q → found q rest ≡ None) → Apart (listed s squares ++ rest)
listed-Apart [] s rest apart free = apart
listed-Apart (None ∷ squares) s rest apart free = listed-Apart squares (s + 1) rest apart (λ q le. free q (omega arith))
listed-Apart (Some man ∷ squares) s rest apart free = (
  found-append (listed (s + 1) squares) rest s ∙ ap (λ o. option_or o (found s rest)) (listed-before squares (s + 1) s (omega arith)) ∙ free s (omega arith),
  listed-Apart squares (s + 1) rest apart (λ q le. free q (omega arith)),
)

ranks-Apart : (men : Placement) (rank : ℕ) → Apart (listed_ranks men rank)
ranks-Apart men zero = subst Apart (append-nil (listed 0 (squares_of men 0))) (listed-Apart (squares_of men 0) 0 [] tt (λ q le. refl))
ranks-Apart men (suc rank) =
    listed-Apart (squares_of men (suc rank)) (8 * suc rank) (listed_ranks men rank) (ranks-Apart men rank) (λ q le. ranks-behind men rank q (omega arith))

-- so the placement has as many men
len-men_of : (xs : List (Man × ℕ)) → Apart xs → placement.len (board.men_of xs) ≡ length xs
unfolding board.men_of
len-men_of [] apart = placement.len-empty nat_cmp Man
len-men_of (x ∷ xs) apart =
    let rest = placement.from_entries {R = nat_cmp} (map board.entry_of xs) in
    let none = placement.get-from_entries nat_cmp_total (map board.entry_of xs) x.1 ∙ apart.0 in
    let more = placement.len-insert nat_cmp_total rest x.1 x.0 ∙ ap (λ o. cond (is_some o) (placement.len rest) (placement.len rest + 1)) none in
    let fewer = len-men_of xs apart.1 in
    omega arith

absent : (xs : List (Man × ℕ)) (s : ℕ) → found s xs ≡ None → (j : ℕ) → j < length xs → get_or (board.squares_of xs) j 0 ≢ s
absent [] s none j j_in = λ e. omega arith
absent (x ∷ xs) s none zero j_in = λ e. some_none (sym (found-here s x.1 x.0 xs (sym e)) ∙ none)
  where
    some_none : Some x.0 ≡ None → ⊥
    some_none e = cc
absent (x ∷ xs) s none (suc j) j_in = elim (cases_eq s x.1) [
  | inl e ↦ absurd (some_none (sym (found-here s x.1 x.0 xs e) ∙ none))
  | inr other ↦ absent xs s (sym (found-later s x.1 x.0 xs other) ∙ none) j (omega arith)
]
  where
    some_none : Some x.0 ≡ None → ⊥
    some_none e = cc

apart-at : (xs : List (Man × ℕ)) → Apart xs → (i j : ℕ) → i < j → j < length xs → get_or (board.squares_of xs) i 0 ≢ get_or (board.squares_of xs) j 0
apart-at [] apart i j less j_in = λ e. omega arith
apart-at (x ∷ xs) apart i zero less j_in = λ e. omega arith
apart-at (x ∷ xs) apart zero (suc j) less j_in = λ e. absent xs x.1 apart.0 j (omega arith) (sym e)
apart-at (x ∷ xs) apart (suc i) (suc j) less j_in = apart-at xs apart.1 i j (omega arith) (omega arith)

-- the men of a placement of at most four fit the board
pub ranks-FitsBoard : (men : Placement) → ((s : ℕ) (man : Man) → Stands men s man → s < 64) → placement.len men ≤ 4 → board.FitsBoard (listed_ranks men 7)
ranks-FitsBoard men on_board few =
    let apart = ranks-Apart men 7 in
    let count = sym (len-men_of (listed_ranks men 7) apart) ∙ ap placement.len (men_of-ranks men on_board) in
    record { few = omega arith; apart = apart-at (listed_ranks men 7) apart }
