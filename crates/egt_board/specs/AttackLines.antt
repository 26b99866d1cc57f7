-- Squares that each man attacks: FIDE Laws of Chess 2023, articles 3.2 to 3.8.
use Rattle.std.specs.Prelude.{Bool, true, false, ℕ, ◌<◌, ◌≤◌, List, [], ◌∷◌, ◌++◌, ◌⊎◌}
use Rattle.std.proofs.Common.{inl, inr}
use Rattle.egt_board.specs.declared.man.Side.{Side}
use Rattle.egt_board.specs.declared.man.Side.TheVariants.{White, Black}
use Rattle.egt_board.specs.declared.man.Kind.{Kind}
use Rattle.egt_board.specs.declared.man.Kind.TheVariants.{Q, R, B, N, P, K}
use Rattle.egt_board.specs.declared.man.Man.{Man}
use Rattle.egt_board.specs.declared.step.Way.{Way}
use Rattle.egt_board.specs.declared.step.Way.TheVariants.{Up, Down, Still}
use Rattle.egt_board.specs.declared.step.Step.{Step}
use Rattle.egt_board.specs.Step.{Away}

abbrev pub step : Way → ℕ → Way → ℕ → Step
step files wide ranks high = record { files = files; wide = wide; ranks = ranks; high = high }

-- along a file or a rank
abbrev pub straight_steps : List Step
straight_steps = step Up 1 Still 0 ∷ step Down 1 Still 0 ∷ step Still 0 Up 1 ∷ step Still 0 Down 1 ∷ []

-- along a diagonal
abbrev pub diagonal_steps : List Step
diagonal_steps = step Up 1 Up 1 ∷ step Up 1 Down 1 ∷ step Down 1 Up 1 ∷ step Down 1 Down 1 ∷ []

-- to one of the nearest squares that are not on the same file, rank or diagonal
abbrev pub knight_steps : List Step
knight_steps =
    step Up 1 Up 2 ∷ step Up 1 Down 2 ∷ step Down 1 Up 2 ∷ step Down 1 Down 2
    ∷ step Up 2 Up 1 ∷ step Up 2 Down 1 ∷ step Down 2 Up 1 ∷ step Down 2 Down 1 ∷ []

-- diagonally forward, which is up the ranks for White and down for Black
abbrev pub pawn_steps : Side → List Step
pawn_steps White = step Up 1 Up 1 ∷ step Down 1 Up 1 ∷ []
pawn_steps Black = step Up 1 Down 1 ∷ step Down 1 Down 1 ∷ []

-- the steps by which a man attacks
abbrev pub steps_of : Side → Kind → List Step
steps_of side Q = straight_steps ++ diagonal_steps
steps_of side R = straight_steps
steps_of side B = diagonal_steps
steps_of side N = knight_steps
steps_of side P = pawn_steps side
steps_of side K = straight_steps ++ diagonal_steps

-- how many of its steps a man may go at once
abbrev pub farthest : Kind → ℕ
farthest Q = 7
farthest R = 7
farthest B = 7
farthest N = 1
farthest P = 1
farthest K = 1

-- a queen, a rook and a bishop go along whole lines
abbrev pub is_slider : Kind → Bool
is_slider Q = true
is_slider R = true
is_slider B = true
is_slider N = false
is_slider P = false
is_slider K = false

-- this holds of one of these steps
abbrev pub OneOf : (Step → Type 0) → List Step → Type 0
OneOf Holds [] = ⊥
OneOf Holds (d ∷ ds) = Holds d ⊎ OneOf Holds ds

-- t is this step away, from one to `most` times, and each square before it is free
pub record Rides (Free : ℕ → Type 0) (most : ℕ) (s t : ℕ) (d : Step) : Type 0 where
  pub count : ℕ
  pub moves : 0 < count
  pub within : count ≤ most
  pub away : Away d count s t
  pub clear : (k u : ℕ) → 0 < k → k < count → Away d k s u → Free u

-- this man on s attacks t, where only free squares are passed
abbrev pub Reaches : (ℕ → Type 0) → Man → ℕ → ℕ → Type 0
Reaches Free man s t = OneOf (Rides Free (farthest man.kind) s t) (steps_of man.side man.kind)

-- what is reached is on the board
pub Reaches-on_board : (F : ℕ → Type 0) (man : Man) (s t : ℕ) → Reaches F man s t → t < 64
Reaches-on_board F man s t r = one (steps_of man.side man.kind) r
  where
    one : (ds : List Step) → OneOf (Rides F (farthest man.kind) s t) ds → t < 64
    one [] none = absurd none
    one (d ∷ ds) some = elim some [ inl p ↦ p.away.on_board | inr q ↦ one ds q ]

OneOf-weaker : (Holds Kept : Step → Type 0) (ds : List Step) → ((d : Step) → Holds d → Kept d) → OneOf Holds ds → OneOf Kept ds
OneOf-weaker Holds Kept [] h none = none
OneOf-weaker Holds Kept (d ∷ ds) h some = elim some [ inl p ↦ inl (h d p) | inr r ↦ inr (OneOf-weaker Holds Kept ds h r) ]

-- only which squares are free counts
pub Rides-free : (F G : ℕ → Type 0) (most s t : ℕ) (d : Step) → ((u : ℕ) → u < 64 → F u → G u) → Rides F most s t d → Rides G most s t d
Rides-free F G most s t d free r = record {
  count = r.count;
  moves = r.moves;
  within = r.within;
  away = r.away;
  clear = λ k u some less away. free u away.on_board (r.clear k u some less away);
}

pub Reaches-free : (F G : ℕ → Type 0) (man : Man) (s t : ℕ) → ((u : ℕ) → u < 64 → F u → G u) → Reaches F man s t → Reaches G man s t
Reaches-free F G man s t free =
    OneOf-weaker (Rides F (farthest man.kind) s t) (Rides G (farthest man.kind) s t) (steps_of man.side man.kind) (λ d. Rides-free F G (farthest man.kind) s t d free)
