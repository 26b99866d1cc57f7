-- No man passes or reaches the square on which it stands.
use Rattle.std.proofs.Common.{◌≢◌, ℕ, ◌<◌, List, [], ◌∷◌, inl, inr, arith, subst}
use Rattle.egt_steps.specs.Prelude.{OneOf, Reaches, Rides, farthest, step, steps_of, Away, Kind, Man}
use Rattle.egt_steps.specs.Prelude.{Side, Step, Way, Up, Down}

-- n steps that way, n above 0, end on another square
abbrev Departs : Step → Type 0
Departs d = (n s : ℕ) → 0 < n → Away d n s s → ⊥

abbrev AllDepart : List Step → Type 0
AllDepart [] = Unit {0}
AllDepart (d ∷ ds) = Departs d × AllDepart ds

right : (ranks : Way) (h : ℕ) → Departs (step Up 1 ranks h)
right ranks h n s some away = let is = away.across in omega (arith, is, some)

left : (ranks : Way) (h : ℕ) → Departs (step Down 1 ranks h)
left ranks h n s some away = let is = away.across in omega (arith, is, some)

up : (files : Way) (w : ℕ) → Departs (step files w Up 1)
up files w n s some away = let is = away.along in omega (arith, is, some)

down : (files : Way) (w : ℕ) → Departs (step files w Down 1)
down files w n s some away = let is = away.along in omega (arith, is, some)

all_depart : (side : Side) (kind : Kind) → AllDepart (steps_of side kind)
all_depart side kind = grind arith

ride_departs : (F : ℕ → Type 0) (most s t : ℕ) (ds : List Step) → AllDepart ds → OneOf (Rides F most s t) ds → (t ≢ s) × OneOf (Rides (λ u. (u ≢ s) × F u) most s t) ds
ride_departs F most s t [] all none = absurd none
ride_departs F most s t (d ∷ ds) all (inl r) = (
  λ here. all.0 r.count s r.moves (subst (λ u. Away d r.count s u) here r.away),
  inl (record {
    count = r.count;
    moves = r.moves;
    within = r.within;
    away = r.away;
    clear = λ k u some less away. ((λ here. all.0 k s some (subst (λ v. Away d k s v) here away)), r.clear k u some less away);
  }),
)
ride_departs F most s t (d ∷ ds) all (inr rest) = let further = ride_departs F most s t ds all.1 rest in (further.0, inr further.1)

pub departs : (F : ℕ → Type 0) (man : Man) (s t : ℕ) → Reaches F man s t → (t ≢ s) × Reaches (λ u. (u ≢ s) × F u) man s t
departs F man s t r = ride_departs F (farthest man.kind) s t (steps_of man.side man.kind) (all_depart man.side man.kind) r
