-- The one step that leads from a square to another on its line, and how many of them.
use Rattle.std.proofs.Common.{◌≡◌, ℕ, ◌+◌, ◌-◌, ◌*◌, ◌<◌, Bool, true, false, cond, eqb, ltb, max, min, arith, ap, ◌∙◌}
use Rattle.std.proofs.Common.{◌⊎◌}
use Rattle.egt_board.specs.Prelude.{lt-ltb, le-ltb, ltb-true, eqb-true, eq-eqb, false≢true, Way, Up, Down, Still, Step}
use Rattle.egt_board.specs.Prelude.{file_of, rank_of, Further, Away, size_of_way, unit, IsRoyal}

-- along one coordinate
abbrev pub way_to : ℕ → ℕ → Way
way_to a b = cond (ltb a b) Up (cond (ltb b a) Down Still)

abbrev pub apart : ℕ → ℕ → ℕ
apart a b = (a - b) + (b - a)

-- on the board
abbrev pub toward : ℕ → ℕ → Step
toward s t = unit (way_to (file_of s) (file_of t)) (way_to (rank_of s) (rank_of t))

abbrev pub distance : ℕ → ℕ → ℕ
distance s t = max (apart (file_of s) (file_of t)) (apart (rank_of s) (rank_of t))

-- 0 on one line, and 1 elsewhere
abbrev pub off_line : ℕ → ℕ → ℕ
off_line f r = min f (min r (apart f r))

-- whether they are two squares of one line
abbrev pub are_aligned : ℕ → ℕ → Bool
are_aligned s t = cond (ltb 0 (distance s t)) (eqb (off_line (apart (file_of s) (file_of t)) (apart (rank_of s) (rank_of t))) 0) false

way_up : (a b : ℕ) → a < b → way_to a b ≡ Up
way_up a b h = ap (λ x. cond x Up (cond (ltb b a) Down Still)) (lt-ltb a b h)

way_down : (a b : ℕ) → b < a → way_to a b ≡ Down
way_down a b h = ap (λ x. cond x Up (cond (ltb b a) Down Still)) (le-ltb a b (omega arith)) ∙ ap (λ x. cond x Down Still) (lt-ltb b a h)

way_still : (a b : ℕ) → a ≡ b → way_to a b ≡ Still
way_still a b h = ap (λ x. cond x Up (cond (ltb b a) Down Still)) (le-ltb a b (omega arith)) ∙ ap (λ x. cond x Down Still) (le-ltb b a (omega arith))

-- k times this way leads there by the way that is found
pub way_found : (w : Way) (k a b : ℕ) → 0 < k → Further w (k * size_of_way w) a b → (way_to a b ≡ w) × (apart a b ≡ k * size_of_way w)
way_found w k a b some h = grind (arith, way_up, way_down, way_still)

-- and the way that is found leads there
pub way_leads : (n a b : ℕ) → (apart a b ≡ n) ⊎ (apart a b ≡ 0) → Further (way_to a b) (n * size_of_way (way_to a b)) a b
way_leads n a b h = grind (arith, way_still, way_up, way_down)

sizes : (fw rw : Way) (k f r : ℕ) → 0 < k → 0 < size_of_way fw + size_of_way rw → f ≡ k * size_of_way fw → r ≡ k * size_of_way rw
    → (max f r ≡ k) × (off_line f r ≡ 0)
sizes fw rw k f r some moves e h = grind arith

pub record AreJoined (d : Step) (k s t : ℕ) : Type 0 where
  pub aligned : are_aligned s t ≡ true
  pub step : toward s t ≡ d
  pub count : distance s t ≡ k

-- a step to a neighbour that leads there k times over is the one that is found
pub joined : (d : Step) (k s t : ℕ) → IsRoyal d → 0 < k → Away d k s t → AreJoined d k s t
joined d k s t royal some away = grind (arith, unit, way_found, file_of, rank_of, sizes, eqb, lt-ltb, eq-eqb)

-- two squares of one line
pub record AreOnLine (s t : ℕ) : Type 0 where
  pub royal : IsRoyal (toward s t)
  pub apart : 0 < distance s t
  pub near : distance s t < 8
  pub away : Away (toward s t) (distance s t) s t

far_ways : (a b c d : ℕ) → 0 < max (apart a b) (apart c d) → 0 < size_of_way (way_to a b) + size_of_way (way_to c d)
far_ways a b c d far = grind (arith, way_up, way_down)

first_size : (f r : ℕ) → off_line f r ≡ 0 → (f ≡ max f r) ⊎ (f ≡ 0)
first_size f r h = grind arith

second_size : (f r : ℕ) → off_line f r ≡ 0 → (r ≡ max f r) ⊎ (r ≡ 0)
second_size f r h = grind arith

pub on_line : (s t : ℕ) → s < 64 → t < 64 → are_aligned s t ≡ true → AreOnLine s t
on_line s t s_in t_in h = grind (arith, ltb, file_of, rank_of, eqb, ltb-true, eqb-true, far_ways, way_leads, first_size, second_size, false≢true)

-- steps one after another
further_sum : (w : Way) (by m n a b c : ℕ) → Further w (m * by) a b → Further w (n * by) b c → Further w ((m + n) * by) a c
further_sum w by m n a b c p q = grind arith

pub Away-sum : (d : Step) (m n s t u : ℕ) → Away d m s t → Away d n t u → Away d (m + n) s u
Away-sum d m n s t u p q = grind (arith, further_sum)

further_rest : (w : Way) (by m n a b c : ℕ) → Further w (m * by) a b → Further w ((m + n) * by) a c → Further w (n * by) b c
further_rest w by m n a b c p q = grind arith

pub Away-rest : (d : Step) (m n s t u : ℕ) → Away d m s t → Away d (m + n) s u → Away d n t u
Away-rest d m n s t u p q = grind (arith, further_rest)

pub within_board : (s t : ℕ) → s < 64 → t < 64 → distance s t < 8
within_board s t s_in t_in = omega arith

pub gap_of : (s t : ℕ) → are_aligned s t ≡ true → off_line (apart (file_of s) (file_of t)) (apart (rank_of s) (rank_of t)) ≡ 0
gap_of s t h = grind (arith, eqb-true)
