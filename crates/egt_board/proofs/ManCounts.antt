-- How many of each man stand on a board.
use Rattle.std.proofs.Common.{◌≡◌, ◌≢◌, ℕ, zero, suc, ◌+◌, ◌*◌, ◌<◌, ◌⊎◌, List, [], ◌∷◌, map, Option, Some, None, cond}
use Rattle.std.proofs.Common.{arith, add-zero, refl, ap, ◌∙◌, inl, inr, T, count_by}
use Rattle.egt_board.specs.Prelude.{nat_cmp, below_all, cases_eq, sum_by-cons, eqb_tells, Side, Kind, K, Man, Placement}
use Rattle.egt_board.specs.Prelude.{Stands, get-insert_same, get-insert_other, get-remove_same, get-remove_other}
use Rattle.egt_board.specs.Prelude.{king_of, IsKingOn, total, kind_number, side_number, stands_here, count_of, is_man}
use Rattle.egt_board.specs.Prelude.{first_half, second_half}
use Rattle.std.specs.FinMap as placement
use Rattle.egt_board.proofs.Placed.{find-here, find-later, Sorted, lt_of_less}
use Rattle.egt_board.proofs.Sides.{kind_few}
use Rattle.egt_board.proofs.Sizes.{total-same}

-- totals of numbers that differ at one square alone
but_one : (f g : ℕ → ℕ) (n k : ℕ) → k < n → ((t : ℕ) → t ≢ k → f t ≡ g t) → total f n + g k ≡ total g n + f k
but_one f g zero k k_in same = absurd (omega arith)
but_one f g (suc n) k k_in same = elim (cases_eq k n) [
  | inl e ↦
      let rest : total f n ≡ total g n = total-same f g n (λ t t_in. same t (λ t_is. omega arith)) in
      let f_k : f k ≡ f n = ap f e in
      let g_k : g k ≡ g n = ap g e in omega arith
  | inr other ↦
      let rest : total f n + g k ≡ total g n + f k = but_one f g n k (omega arith) same in
      let last : f n ≡ g n = same n (λ n_is. omega arith) in omega arith
]

none_at_all : (n : ℕ) → total (λ s. 0) n ≡ 0
none_at_all zero = refl
none_at_all (suc n) = let rest = none_at_all n in omega arith

pub count-insert : (men : Placement) (s : ℕ) (other man : Man) → s < 64 → count_of (placement.insert men s other) man + stands_here man (placement.get men s) ≡ count_of men man + stands_here man (Some other)
unfolding count_of
count-insert men s other man s_in =
    but_one (λ t. stands_here man (placement.get (placement.insert men s other) t)) (λ t. stands_here man (placement.get men t)) 64 s s_in
    (λ t apart. ap (stands_here man) (get-insert_other men s other t apart))
    ∙ ap (λ o. total (λ t. stands_here man (placement.get men t)) 64 + stands_here man o) (get-insert_same men s other s refl)

pub count-remove : (men : Placement) (s : ℕ) (man : Man) → s < 64 → count_of (placement.remove men s) man + stands_here man (placement.get men s) ≡ count_of men man
unfolding count_of
count-remove men s man s_in =
    but_one (λ t. stands_here man (placement.get (placement.remove men s) t)) (λ t. stands_here man (placement.get men t)) 64 s s_in
    (λ t apart. ap (stands_here man) (get-remove_other men s t apart))
    ∙ ap (λ o. total (λ t. stands_here man (placement.get men t)) 64 + stands_here man o) (get-remove_same men s s refl)
    ∙ add-zero _

-- below the first key there is none
find-below : (k : ℕ) (es : List (ℕ × Man)) → T (below_all nat_cmp k es) → placement.find nat_cmp k es ≡ None
find-below k [] below = refl
find-below k (e ∷ es) below =
    let lt = lt_of_less k e.0 (first_half _ _ below) in
    find-later k e.0 e.1 es (λ same. omega arith) ∙ find-below k es (second_half _ _ below)

-- the men of a list in order of square are those that its squares show
count_listed : (es : List (ℕ × Man)) (man : Man) (n : ℕ) → Sorted es → ((s : ℕ) (other : Man) → placement.find nat_cmp s es ≡ Some other → s < n) → total (λ s. stands_here man (placement.find nat_cmp s es)) n ≡ count_by (is_man man) (map (λ e. e.1) es)
count_listed [] man n sorted below = none_at_all n
count_listed (e ∷ es) man n sorted below =
    let none : placement.find nat_cmp e.0 es ≡ None = find-below e.0 es (first_half _ _ sorted) in
    let rest : total (λ s. stands_here man (placement.find nat_cmp s es)) n ≡ count_by (is_man man) (map (λ e. e.1) es) =
    count_listed es man n (second_half _ _ sorted) (λ s other found. later s other found (cases_eq s e.0)) in
    let one : total (λ s. stands_here man (placement.find nat_cmp s (e ∷ es))) n + stands_here man (placement.find nat_cmp e.0 es)
    ≡ total (λ s. stands_here man (placement.find nat_cmp s es)) n + stands_here man (placement.find nat_cmp e.0 (e ∷ es)) =
    but_one _ _ n e.0 (below e.0 e.1 (find-here e.0 e.0 e.1 es refl)) (λ t apart. ap (stands_here man) (find-later t e.0 e.1 es apart)) in
    let here : stands_here man (placement.find nat_cmp e.0 (e ∷ es)) ≡ stands_here man (Some e.1) = ap (stands_here man) (find-here e.0 e.0 e.1 es refl) in
    let gone : stands_here man (placement.find nat_cmp e.0 es) ≡ 0 = ap (stands_here man) none in
    let both : count_by (is_man man) (map (λ e. e.1) (e ∷ es)) ≡ stands_here man (Some e.1) + count_by (is_man man) (map (λ e. e.1) es) =
    sum_by-cons (λ other. cond (is_man man other) 1 0) e.1 (map (λ e. e.1) es) in
    omega arith
  where
    later : (s : ℕ) (other : Man) → placement.find nat_cmp s es ≡ Some other → (s ≡ e.0) ⊎ (s ≢ e.0) → s < n
    later s other found (inl same) = below s e.1 (find-here s e.0 e.1 es same)
    later s other found (inr apart) = below s other (find-later s e.0 e.1 es apart ∙ found)

pub men_counted : (men : Placement) → ((s : ℕ) (man : Man) → Stands men s man → s < 64) → (man : Man) → count_of men man ≡ count_by (is_man man) (placement.values men)
unfolding count_of
men_counted men on_board man =
    total-same _ _ 64 (λ s _. ap (stands_here man) (placement.get-entries men s))
    ∙ count_listed (placement.entries men) man 64 (placement.entries_sorted men) (λ s other found. on_board s other (placement.get-entries men s ∙ found))

-- men of one number are one man
is_king : (kind : Kind) → kind_number kind ≡ 5 → kind ≡ K
is_king kind e = grind arith

king_number : (side other : Side) (kind : Kind) → 6 * side_number side + 5 ≡ 6 * side_number other + kind_number kind → let man : Man = record { side = other; kind = kind } in man ≡ king_of side
king_number side other kind e = grind (arith, is_king, kind_few)

king_here : (side : Side) → stands_here (king_of side) (Some (king_of side)) ≡ 1
king_here side = grind arith

one_king : (men : Placement) (side : Side) (s n : ℕ) → s < n → IsKingOn men side s → total (λ t. stands_here (king_of side) (placement.get men t)) n ≡ 1
one_king men side s n s_in king =
    let one : total (λ t. stands_here (king_of side) (placement.get men t)) n + 0 ≡ total (λ t. 0) n + stands_here (king_of side) (placement.get men s) =
    but_one (λ t. stands_here (king_of side) (placement.get men t)) (λ t. 0) n s s_in (λ t apart. other t apart (placement.get men t) refl) in
    let here : stands_here (king_of side) (placement.get men s) ≡ 1 = ap (stands_here (king_of side)) king.stands ∙ king_here side in
    let none = none_at_all n in omega arith
  where
    other : (t : ℕ) → t ≢ s → (o : Option Man) → placement.get men t ≡ o → stands_here (king_of side) (placement.get men t) ≡ 0
    other t apart o e = grind (arith, eqb_tells, king_number)

pub king_counted : (men : Placement) (side : Side) (s : ℕ) → s < 64 → IsKingOn men side s → count_of men (king_of side) ≡ 1
unfolding count_of
king_counted men side s s_in king = one_king men side s 64 s_in king
