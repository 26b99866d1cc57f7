-- The tables of attacks, each entry computed anew.
use Rattle.std.proofs.Common.{◌≡◌, ◌↔◌, ℕ, zero, suc, ◌+◌, ◌-◌, ◌*◌, ◌^◌, ◌<◌, ◌/◌, ◌%◌, Bool, true, false, eqb, List}
use Rattle.std.proofs.Common.{[], ◌∷◌, length, get_or, arith, refl, zero-add, sym, ap, ◌∙◌, subst, inl, inr}
use Rattle.egt_board.specs.Prelude.{bit_at, bit_and, bit_xor, cases_eq, eqb-true, false≢true, bit_at-zero, Side, White}
use Rattle.egt_board.specs.Prelude.{Black, Kind, Q, R, B, N, P, K, Man, row_by, below, beyond, line_of, Step, LONE}
use Rattle.egt_board.specs.Prelude.{Away, Reaches, farthest, steps_of, IsBetween}
use Rattle.egt_board.proofs.Bits.{bit_at-within}
use Rattle.egt_board.proofs.Towards.{within_board, toward, distance, are_aligned, joined, on_line, Away-sum, Away-rest}
use Rattle.egt_board.proofs.Beams.{further_on, joint, next_square, beam, beams, beam-reached, beams-reached}

-- each entry from the n-th on is what the function gives there
unfoldable agree : (ℕ → ℕ) → ℕ → List ℕ → Bool
agree f n [] = true
agree f n (x ∷ xs) = elim (eqb x (f n)) as (λ _. Bool) [ true ↦ agree f (suc n) xs | false ↦ false ]

agree-at : (f : ℕ → ℕ) (xs : List ℕ) (n i : ℕ) → agree f n xs ≡ true → i < length xs → get_or xs i 0 ≡ f (n + i)
unfolding agree
agree-at f [] n i h i_in = absurd (omega arith)
agree-at f (x ∷ xs) n i h i_in = go (eqb x (f n)) refl h (agree-at f xs (suc n))
  where
    first : (i : ℕ) → i < suc (length xs) → x ≡ f n → ((j : ℕ) → j < length xs → get_or xs j 0 ≡ f (suc n + j)) → get_or (x ∷ xs) i 0 ≡ f (n + i)
    first zero i_in here rest = here ∙ ap f (let e : n ≡ n + 0 = omega arith in e)
    first (suc j) i_in here rest = rest j (omega arith) ∙ ap f (let e : suc n + j ≡ n + suc j = omega arith in e)

    go : (b : Bool) → eqb x (f n) ≡ b → (elim b as (λ _. Bool) [ true ↦ agree f (suc n) xs | false ↦ false ]) ≡ true
        → ((i : ℕ) → agree f (suc n) xs ≡ true → i < length xs → get_or xs i 0 ≡ f (suc n + i)) → get_or (x ∷ xs) i 0 ≡ f (n + i)
    go true here all rest = first i i_in (eqb-true x (f n) here) (λ j. rest j all)
    go false here all rest = absurd (false≢true all)

-- the men of the rows
unfoldable man_of_row : ℕ → Man
man_of_row zero = record { side = White; kind = Q }
man_of_row (suc zero) = record { side = White; kind = R }
man_of_row (suc (suc zero)) = record { side = White; kind = B }
man_of_row (suc (suc (suc zero))) = record { side = White; kind = N }
man_of_row (suc (suc (suc (suc zero)))) = record { side = White; kind = P }
man_of_row (suc (suc (suc (suc (suc zero))))) = record { side = Black; kind = P }
man_of_row (suc (suc (suc (suc (suc (suc n)))))) = record { side = White; kind = K }

-- what a man attacks on the bare board
abbrev reached_by : Man → ℕ → ℕ
reached_by man s = beams (farthest man.kind) (steps_of man.side man.kind) s

unfoldable by_row : ℕ → ℕ
by_row n = reached_by (man_of_row (n / 64)) (n % 64)

lone_right : agree by_row 0 LONE ≡ true
unfolding agree by_row man_of_row further_on joint next_square beam beams
lone_right = refl

row_at : (r s : ℕ) → r < 7 → s < 64 → get_or LONE (64 * r + s) 0 ≡ reached_by (man_of_row r) s
unfolding by_row
row_at r s r_in s_in =
    let row : (64 * r + s) / 64 ≡ r = omega arith in
    let column : (64 * r + s) % 64 ≡ s = omega arith in
    agree-at by_row LONE 0 (64 * r + s) lone_right (omega arith) ∙ ap by_row (zero-add (64 * r + s))
    ∙ ap (λ x. reached_by (man_of_row x) ((64 * r + s) % 64)) row ∙ ap (reached_by (man_of_row r)) column

row_of_man : (side : Side) (kind : Kind) (s : ℕ) → s < 64 → get_or LONE (64 * row_by side kind + s) 0 ≡ reached_by (record { side = side; kind = kind }) s
unfolding man_of_row
row_of_man side Q s s_in = row_at 0 s (omega arith) s_in
row_of_man side R s s_in = row_at 1 s (omega arith) s_in
row_of_man side B s s_in = row_at 2 s (omega arith) s_in
row_of_man side N s s_in = row_at 3 s (omega arith) s_in
row_of_man White P s s_in = row_at 4 s (omega arith) s_in
row_of_man Black P s s_in = row_at 5 s (omega arith) s_in
row_of_man side K s s_in = row_at 6 s (omega arith) s_in

-- the entry of a man shows what it attacks on the bare board
pub lone_shows : (man : Man) (s n : ℕ) → s < 64 → n ≡ get_or LONE (64 * row_by man.side man.kind + s) 0 → (t : ℕ) → t < 64 → (bit_at n t ≡ 1) ↔ Reaches (λ u. bit_at 0 u ≡ 0) man s t
lone_shows man s n s_in is t t_in =
    subst (λ m. (bit_at m t ≡ 1) ↔ Reaches (λ u. bit_at 0 u ≡ 0) man s t) (sym (is ∙ row_of_man man.side man.kind s s_in))
    (beams-reached (farthest man.kind) s (steps_of man.side man.kind) s_in t t_in)

-- the squares between two, and those that the second hides from the first
unfoldable squares_between : ℕ → ℕ → ℕ
squares_between s t = elim (are_aligned s t) as (λ _. ℕ) [ true ↦ beam (distance s t - 1) (toward s t) s 0 | false ↦ 0 ]

unfoldable squares_behind : ℕ → ℕ → ℕ
squares_behind s t = elim (are_aligned s t) as (λ _. ℕ) [ true ↦ beam 7 (toward s t) t 0 | false ↦ 0 ]

-- both functions give the same at each number less than n
unfoldable agree_below : (ℕ → ℕ) → (ℕ → ℕ) → ℕ → Bool
agree_below f g zero = true
agree_below f g (suc n) = elim (eqb (f n) (g n)) as (λ _. Bool) [ true ↦ agree_below f g n | false ↦ false ]

agree_below-at : (f g : ℕ → ℕ) (n i : ℕ) → agree_below f g n ≡ true → i < n → f i ≡ g i
unfolding agree_below
agree_below-at f g zero i h i_in = absurd (omega arith)
agree_below-at f g (suc n) i h i_in = go (eqb (f n) (g n)) refl h (agree_below-at f g n i)
  where
    go : (b : Bool) → eqb (f n) (g n) ≡ b → (elim b as (λ _. Bool) [ true ↦ agree_below f g n | false ↦ false ]) ≡ true → (agree_below f g n ≡ true → i < n → f i ≡ g i) → f i ≡ g i
    go true here all rest = elim (cases_eq i n) [
      | inl last ↦ ap f last ∙ eqb-true (f n) (g n) here ∙ ap g (sym last)
      | inr other ↦ rest all (omega arith)
    ]
    go false here all rest = absurd (false≢true all)

unfoldable by_pair : (ℕ → ℕ → ℕ) → ℕ → ℕ
by_pair f n = f (n / 64) (n % 64)

pair_at : (f g : ℕ → ℕ → ℕ) → agree_below (by_pair f) (by_pair g) 4096 ≡ true → (s t : ℕ) → s < 64 → t < 64 → f s t ≡ g s t
unfolding by_pair
pair_at f g right s t s_in t_in =
    let row : (64 * s + t) / 64 ≡ s = omega arith in
    let column : (64 * s + t) % 64 ≡ t = omega arith in
    let at_pair : (h : ℕ → ℕ → ℕ) → h ((64 * s + t) / 64) ((64 * s + t) % 64) ≡ h s t = λ h. ap (λ x. h x ((64 * s + t) % 64)) row ∙ ap (h s) column in
    sym (at_pair f) ∙ agree_below-at (by_pair f) (by_pair g) 4096 (64 * s + t) right (omega arith) ∙ at_pair g

-- the squares of the line, between the two or on the second's side of them
abbrev line_between : ℕ → ℕ → ℕ
line_between s t = bit_and (line_of s t) (bit_xor (below s) (below t))

abbrev line_beyond : ℕ → ℕ → ℕ
line_beyond s t = bit_and (line_of s t) (beyond s t)

between_right : agree_below (by_pair line_between) (by_pair squares_between) 4096 ≡ true
unfolding agree_below by_pair squares_between further_on joint next_square beam
between_right = refl

behind_right : agree_below (by_pair line_beyond) (by_pair squares_behind) 4096 ≡ true
unfolding agree_below by_pair squares_behind further_on joint next_square beam
behind_right = refl

between_is : (s t u : ℕ) → s < 64 → t < 64 → u < 64 → (bit_at (squares_between s t) u ≡ 1) ↔ IsBetween s t u
unfolding squares_between
between_is s t u s_in t_in u_in = go (are_aligned s t) refl
  where
    on : are_aligned s t ≡ true → (bit_at (beam (distance s t - 1) (toward s t) s 0) u ≡ 1) ↔ IsBetween s t u
    on aligned =
        let line = on_line s t s_in t_in aligned in
        let some = line.apart in
        let reached = beam-reached (distance s t - 1) s (toward s t) s_in u u_in in (
          λ one.
              let r = reached.0 one in
              let within = r.within in
              record { step = toward s t; royal = line.royal; near = r.count; far = distance s t; some = r.moves; less = omega arith; here = r.away; there = line.away },
          λ b.
              let near_some = b.some in
              let less = b.less in
              let far = joined b.step b.far s t b.royal (omega arith) b.there in
              let count = far.count in
              reached.1 (record {
                count = b.near;
                moves = b.some;
                within = omega arith;
                away = subst (λ (d : Step). Away d b.near s u) (sym far.step) b.here;
                clear = λ k v k_some k_less away. bit_at-zero v;
              }),
        )

    go : (b : Bool) → are_aligned s t ≡ b → (bit_at (elim b as (λ _. ℕ) [ true ↦ beam (distance s t - 1) (toward s t) s 0 | false ↦ 0 ]) u ≡ 1) ↔ IsBetween s t u
    go true aligned = on aligned
    go false apart = (
      λ one. let none = bit_at-zero u in absurd (omega arith),
      λ b. let some = b.some in let less = b.less in absurd (false≢true (sym apart ∙ (joined b.step b.far s t b.royal (omega arith) b.there).aligned)),
    )

behind_is : (s t u : ℕ) → s < 64 → t < 64 → u < 64 → (bit_at (squares_behind s t) u ≡ 1) ↔ IsBetween s u t
unfolding squares_behind
behind_is s t u s_in t_in u_in = go (are_aligned s t) refl
  where
    on : are_aligned s t ≡ true → (bit_at (beam 7 (toward s t) t 0) u ≡ 1) ↔ IsBetween s u t
    on aligned =
        let line = on_line s t s_in t_in aligned in
        let reached = beam-reached 7 t (toward s t) t_in u u_in in (
          λ one.
              let r = reached.0 one in
              let moves = r.moves in
              record { step = toward s t; royal = line.royal; near = distance s t; far = distance s t + r.count; some = line.apart; less = omega arith; here = line.away; there = Away-sum (toward s t) (distance s t) r.count s t u line.away r.away },
          λ b.
              let some = b.some in
              let less = b.less in
              let here = joined b.step b.near s t b.royal b.some b.here in
              let there = joined b.step b.far s u b.royal (omega arith) b.there in
              let count = there.count in
              let whole : b.near + (b.far - b.near) ≡ b.far = omega arith in
              let few : distance s u < 8 = within_board s u s_in u_in in
              reached.1 (record {
                count = b.far - b.near;
                moves = omega arith;
                within = omega arith;
                away = subst (λ (d : Step). Away d (b.far - b.near) t u) (sym here.step) (Away-rest b.step b.near (b.far - b.near) s t u b.here (subst (λ k. Away b.step k s u) (sym whole) b.there));
                clear = λ k v k_some k_less away. bit_at-zero v;
              }),
        )

    go : (b : Bool) → are_aligned s t ≡ b → (bit_at (elim b as (λ _. ℕ) [ true ↦ beam 7 (toward s t) t 0 | false ↦ 0 ]) u ≡ 1) ↔ IsBetween s u t
    go true aligned = on aligned
    go false apart = (
      λ one. let none = bit_at-zero u in absurd (omega arith),
      λ b. absurd (false≢true (sym apart ∙ (joined b.step b.near s t b.royal b.some b.here).aligned)),
    )

pub between_shows : (s t n : ℕ) → s < 64 → t < 64 → n < 2 ^ 64 → n ≡ bit_and (line_of s t) (bit_xor (below s) (below t)) → (u : ℕ) → (bit_at n u ≡ 1) ↔ IsBetween s t u
between_shows s t n s_in t_in n_in is u =
    let same = is ∙ pair_at line_between squares_between between_right s t s_in t_in in (
      λ one. (between_is s t u s_in t_in (bit_at-within n u n_in one)).0 (ap (λ m. bit_at m u) (sym same) ∙ one),
      λ b. ap (λ m. bit_at m u) same ∙ (between_is s t u s_in t_in b.here.on_board).1 b,
    )

pub behind_shows : (s t n : ℕ) → s < 64 → t < 64 → n < 2 ^ 64 → n ≡ bit_and (line_of s t) (beyond s t) → (u : ℕ) → (bit_at n u ≡ 1) ↔ IsBetween s u t
behind_shows s t n s_in t_in n_in is u =
    let same = is ∙ pair_at line_beyond squares_behind behind_right s t s_in t_in in (
      λ one. (behind_is s t u s_in t_in (bit_at-within n u n_in one)).0 (ap (λ m. bit_at m u) (sym same) ∙ one),
      λ b. ap (λ m. bit_at m u) same ∙ (behind_is s t u s_in t_in b.there.on_board).1 b,
    )
