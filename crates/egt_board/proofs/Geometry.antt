-- How far squares are from one another.
use Rattle.std.proofs.Common.{◌≡◌, ℕ, ◌+◌, ◌-◌, ◌*◌, ◌<◌, ◌≤◌, arith, refl, sym, subst}
use Rattle.egt_board.specs.Prelude.{mul-le-mul_right, Way, Up, Down, Still, Step, file_of, rank_of, Further, Away}

-- a coordinate as many times 0 further is the same
Further-zero : (w : Way) (by a : ℕ) → Further w (0 * by) a a
Further-zero w by a = grind arith

Further-more : (w : Way) (n by a b c : ℕ) → Further w (n * by) a b → Further w (1 * by) b c → Further w ((n + 1) * by) a c
Further-more w n by a b c p q = grind arith

Further-same : (w : Way) (n a b c : ℕ) → Further w n a b → Further w n a c → b ≡ c
Further-same w n a b c p q = grind arith

-- on the way to a coordinate of the board each nearer one is on it too
Further-next : (w : Way) (n k by a b c : ℕ) → n + 1 ≤ k → b < 8 → c < 8 → Further w (n * by) a b → Further w (k * by) a c → (e : ℕ) × (e < 8) × Further w (1 * by) b e
Further-next Up n k by a b c far b_in c_in p q =
    let most = mul-le-mul_right by far in (b + by, omega (arith, most), omega arith)
Further-next Down n k by a b c far b_in c_in p q =
    let most = mul-le-mul_right by far in
    let room : by ≤ b = omega (arith, most) in
    let e = sub_back by b room in (e.0, omega (arith, e.1), omega (arith, e.1))
  where
    sub_back : (x y : ℕ) → x ≤ y → (e : ℕ) × (y ≡ e + x)
    sub_back x y h = (y - x, omega arith)
Further-next Still n k by a b c far b_in c_in p q = (b, b_in, refl)

pub Away-zero : (d : Step) (s : ℕ) → s < 64 → Away d 0 s s
Away-zero d s h = record { on_board = h; across = Further-zero d.files d.wide (file_of s); along = Further-zero d.ranks d.high (rank_of s) }

pub Away-more : (d : Step) (n s t u : ℕ) → Away d n s t → Away d 1 t u → Away d (n + 1) s u
Away-more d n s t u p q = grind (arith, Further-more)

same_square : (t u : ℕ) → file_of t ≡ file_of u → rank_of t ≡ rank_of u → t ≡ u
same_square t u f r = omega arith

pub Away-same : (d : Step) (n s t u : ℕ) → Away d n s t → Away d n s u → t ≡ u
Away-same d n s t u p q = grind (arith, same_square, Further-same)

file_at : (f r : ℕ) → f < 8 → file_of (8 * r + f) ≡ f
file_at f r h = omega arith

rank_at : (f r : ℕ) → f < 8 → rank_of (8 * r + f) ≡ r
rank_at f r h = omega arith

-- on the way to a square of the board each nearer one is on it too
pub Away-next : (d : Step) (n k s a t : ℕ) → n < k → a < 64 → Away d n s a → Away d k s t → (u : ℕ) × Away d 1 a u
Away-next d n k s a t far a_in p q =
    let t_in = q.on_board in
    let f = Further-next d.files n k d.wide (file_of s) (file_of a) (file_of t) (omega arith) (omega arith) (omega arith) p.across q.across in
    let r = Further-next d.ranks n k d.high (rank_of s) (rank_of a) (rank_of t) (omega arith) (omega arith) (omega arith) p.along q.along in (
      8 * r.0 + f.0,
      record {
        on_board = omega (arith, f.1, r.1);
        across = subst (λ x. Further d.files (1 * d.wide) (file_of a) x) (sym (file_at f.0 r.0 f.1)) f.2;
        along = subst (λ x. Further d.ranks (1 * d.high) (rank_of a) x) (sym (rank_at f.0 r.0 f.1)) r.2;
      },
    )
