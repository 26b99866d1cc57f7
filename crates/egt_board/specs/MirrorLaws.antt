-- Laws of mirrors: they keep what men reach and attack.
use Rattle.std.proofs.Common.{◌≡◌, ◌≢◌, ℕ, ◌+◌, ◌-◌, ◌*◌, ◌<◌, Bool, true, false, ◌&&◌, ◌||◌, eqb, ◌==◌, if◌then◌else◌, List, [], ◌∷◌, arith, refl, sym, ap, ◌∙◌, subst, inl, inr, Option, Some, None}
use Rattle.std.specs.List.{list_any, list_all}
use Rattle.std.proofs.lemmas.Bool.{false≢true, eqb-true, eq-eqb, and_parts}
use Rattle.std.proofs.lemmas.Bool.Decides.{eqb_tells}
use Rattle.std.specs.Option.{option_map}
use Rattle.std.specs.FinMap as map
use Rattle.egt_board.specs.declared.man.Side.{Side}
use Rattle.egt_board.specs.declared.man.Side.TheVariants.{White, Black}
use Rattle.egt_board.specs.declared.man.Man.{Man}
use Rattle.egt_board.specs.Man.{other_side}
use Rattle.egt_board.specs.Placement.{Placement, Stands, IsFree}
use Rattle.egt_board.specs.Attack.{IsAttacked}
use Rattle.egt_board.specs.declared.mirror.Mirror.{Mirror}
use Rattle.egt_board.specs.declared.mirror.Mirror.TheVariants.{Files, Ranks, Diagonal, Colours}
use Rattle.egt_board.specs.declared.man.Kind.{Kind}
use Rattle.egt_board.specs.declared.man.Kind.TheVariants.{Q, R, B, N, P, K}
use Rattle.egt_board.specs.declared.step.Way.{Way}
use Rattle.egt_board.specs.declared.step.Way.TheVariants.{Up, Down, Still}
use Rattle.egt_board.specs.declared.step.Step.{Step}
use Rattle.egt_board.specs.Square.{file_of, rank_of}
use Rattle.egt_board.specs.Coordinate.{Further}
use Rattle.egt_board.specs.Step.{Away}
use Rattle.egt_board.specs.AttackLines.{Rides, OneOf, Reaches, farthest, steps_of}
use Rattle.egt_board.specs.Mirror.{square_by, side_by, man_by, Allows}
use Rattle.egt_board.specs.Pawn.{forward, ahead, home_rank, last_rank, farthest_advance, Advances, HasNoPawn}
use Rattle.egt_board.specs.Target.{target_rank}

pub square_by-within : (m : Mirror) (s : ℕ) → s < 64 → square_by m s < 64
square_by-within Files s h = omega arith
square_by-within Ranks s h = omega arith
square_by-within Diagonal s h = omega arith
square_by-within Colours s h = omega arith

pub square_by-twice : (m : Mirror) (s : ℕ) → s < 64 → square_by m (square_by m s) ≡ s
square_by-twice Files s h = omega arith
square_by-twice Ranks s h = omega arith
square_by-twice Diagonal s h = omega arith
square_by-twice Colours s h = omega arith

turned : Way → Way
turned Up = Down
turned Down = Up
turned Still = Still

turned-twice : (w : Way) → turned (turned w) ≡ w
unfolding turned
turned-twice Up = refl
turned-twice Down = refl
turned-twice Still = refl

step_by : Mirror → Step → Step
step_by Files d = record { files = turned d.files; wide = d.wide; ranks = d.ranks; high = d.high }
step_by Ranks d = record { files = d.files; wide = d.wide; ranks = turned d.ranks; high = d.high }
step_by Diagonal d = record { files = d.ranks; wide = d.high; ranks = d.files; high = d.wide }
step_by Colours d = record { files = d.files; wide = d.wide; ranks = turned d.ranks; high = d.high }

step_by-twice : (m : Mirror) (d : Step) → step_by m (step_by m d) ≡ d
unfolding step_by
step_by-twice Files d = λ i. record { files = turned-twice d.files i; wide = d.wide; ranks = d.ranks; high = d.high }
step_by-twice Ranks d = λ i. record { files = d.files; wide = d.wide; ranks = turned-twice d.ranks i; high = d.high }
step_by-twice Diagonal d = refl
step_by-twice Colours d = λ i. record { files = d.files; wide = d.wide; ranks = turned-twice d.ranks i; high = d.high }

-- a coordinate in a mirror goes the other way
Further-turned : (w : Way) (n a b : ℕ) → a < 8 → b < 8 → Further w n a b → Further (turned w) n (7 - a) (7 - b)
unfolding turned
Further-turned Up n a b a_in b_in h = omega arith
Further-turned Down n a b a_in b_in h = omega arith
Further-turned Still n a b a_in b_in h = ap (λ x. 7 - x) h

file_by_files : (s : ℕ) → s < 64 → file_of (8 * rank_of s + (7 - file_of s)) ≡ 7 - file_of s
file_by_files s h = omega arith

rank_by_files : (s : ℕ) → s < 64 → rank_of (8 * rank_of s + (7 - file_of s)) ≡ rank_of s
rank_by_files s h = omega arith

file_by_ranks : (s : ℕ) → s < 64 → file_of (8 * (7 - rank_of s) + file_of s) ≡ file_of s
file_by_ranks s h = omega arith

rank_by_ranks : (s : ℕ) → s < 64 → rank_of (8 * (7 - rank_of s) + file_of s) ≡ 7 - rank_of s
rank_by_ranks s h = omega arith

file_by_diagonal : (s : ℕ) → s < 64 → file_of (8 * file_of s + rank_of s) ≡ rank_of s
file_by_diagonal s h = omega arith

rank_by_diagonal : (s : ℕ) → s < 64 → rank_of (8 * file_of s + rank_of s) ≡ file_of s
rank_by_diagonal s h = omega arith

file_in : (s : ℕ) → file_of s < 8
file_in s = omega arith

rank_in : (s : ℕ) → s < 64 → rank_of s < 8
rank_in s h = omega arith

along_by : (w : Way) (n a b a' b' : ℕ) → a' ≡ a → b' ≡ b → Further w n a b → Further w n a' b'
along_by w n a b a' b' e f h = subst (λ x. Further w n x b') (sym e) (subst (Further w n a) (sym f) h)

Away-ranks : (d : Step) (n s t : ℕ) → s < 64 → Away d n s t → Away (step_by Ranks d) n (square_by Ranks s) (square_by Ranks t)
unfolding step_by
Away-ranks d n s t s_in away =
    let t_in = away.on_board in
    record {
      on_board = square_by-within Ranks t t_in;
      across = along_by d.files (n * d.wide) _ _ _ _ (file_by_ranks s s_in) (file_by_ranks t t_in) away.across;
      along = along_by (turned d.ranks) (n * d.high) _ _ _ _ (rank_by_ranks s s_in) (rank_by_ranks t t_in) (Further-turned d.ranks (n * d.high) _ _ (rank_in s s_in) (rank_in t t_in) away.along);
    }

Away-by : (m : Mirror) (d : Step) (n s t : ℕ) → s < 64 → Away d n s t → Away (step_by m d) n (square_by m s) (square_by m t)
unfolding step_by
Away-by Files d n s t s_in away =
    let t_in = away.on_board in
    record {
      on_board = square_by-within Files t t_in;
      across = along_by (turned d.files) (n * d.wide) _ _ _ _ (file_by_files s s_in) (file_by_files t t_in) (Further-turned d.files (n * d.wide) _ _ (file_in s) (file_in t) away.across);
      along = along_by d.ranks (n * d.high) _ _ _ _ (rank_by_files s s_in) (rank_by_files t t_in) away.along;
    }
Away-by Ranks d n s t s_in away = Away-ranks d n s t s_in away
Away-by Diagonal d n s t s_in away =
    let t_in = away.on_board in
    record {
      on_board = square_by-within Diagonal t t_in;
      across = along_by d.ranks (n * d.high) _ _ _ _ (file_by_diagonal s s_in) (file_by_diagonal t t_in) away.along;
      along = along_by d.files (n * d.wide) _ _ _ _ (rank_by_diagonal s s_in) (rank_by_diagonal t t_in) away.across;
    }
Away-by Colours d n s t s_in away = Away-ranks d n s t s_in away

Rides-by : (m : Mirror) (F G : ℕ → Type 0) (most s t : ℕ) (d : Step) → s < 64 → ((u : ℕ) → u < 64 → F u → G (square_by m u)) → Rides F most s t d → Rides G most (square_by m s) (square_by m t) (step_by m d)
Rides-by m F G most s t d s_in free r = record {
  count = r.count;
  moves = r.moves;
  within = r.within;
  away = Away-by m d r.count s t s_in r.away;
  clear = λ k u some less away.
      let u_in = away.on_board in
      let back = Away-by m (step_by m d) k (square_by m s) u (square_by-within m s s_in) away in
      let here : Away d k s (square_by m u) = subst (λ x. Away x k s (square_by m u)) (step_by-twice m d) (subst (λ x. Away (step_by m (step_by m d)) k x (square_by m u)) (square_by-twice m s s_in) back) in
      subst G (square_by-twice m u u_in) (free (square_by m u) (square_by-within m u u_in) (r.clear k (square_by m u) some less here));
}

same_way : Way → Way → Bool
same_way Up Up = true
same_way Down Down = true
same_way Still Still = true
same_way _ _ = false

same_step : Step → Step → Bool
same_step d e = same_way d.files e.files && (eqb d.wide e.wide && (same_way d.ranks e.ranks && eqb d.high e.high))

same_way-is : (v w : Way) → same_way v w ≡ true → v ≡ w
unfolding same_way
same_way-is Up Up e = refl
same_way-is Down Down e = refl
same_way-is Still Still e = refl
same_way-is Up Down e = absurd (false≢true e)
same_way-is Up Still e = absurd (false≢true e)
same_way-is Down Up e = absurd (false≢true e)
same_way-is Down Still e = absurd (false≢true e)
same_way-is Still Up e = absurd (false≢true e)
same_way-is Still Down e = absurd (false≢true e)

same_step-is : (d e : Step) → same_step d e ≡ true → d ≡ e
unfolding same_step
same_step-is d e h =
    let files = same_way-is d.files e.files (and_parts _ _ h).0 in
    let rest = (and_parts (same_way d.files e.files) _ h).1 in
    let wide = eqb-true d.wide e.wide (and_parts _ _ rest).0 in
    let more = (and_parts (eqb d.wide e.wide) _ rest).1 in
    let ranks = same_way-is d.ranks e.ranks (and_parts _ _ more).0 in
    let high = eqb-true d.high e.high (and_parts (same_way d.ranks e.ranks) _ more).1 in
    λ i. record { files = files i; wide = wide i; ranks = ranks i; high = high i }

-- a step of the list, found by a test
found_step : (Holds : Step → Type 0) (d : Step) (es : List Step) → list_any (same_step d) es ≡ true → Holds d → OneOf Holds es
found_step Holds d [] none p = absurd (false≢true none)
found_step Holds d (e ∷ es) some p = by_test (same_step d e) refl (λ h. found_step Holds d es h p) some
  where
    by_test : (b : Bool) → same_step d e ≡ b → (list_any (same_step d) es ≡ true → OneOf Holds es) → (b || list_any (same_step d) es) ≡ true → OneOf Holds (e ∷ es)
    by_test true is later h = inl (subst Holds (same_step-is d e is) p)
    by_test false is later h = inr (later h)

-- what holds of one step holds of its mirrored step, which is in the other list
OneOf-by : (m : Mirror) (Holds Kept : Step → Type 0) (ds es : List Step) → list_all (λ d. list_any (same_step (step_by m d)) es) ds ≡ true → ((d : Step) → Holds d → Kept (step_by m d)) → OneOf Holds ds → OneOf Kept es
OneOf-by m Holds Kept [] es all h none = absurd none
OneOf-by m Holds Kept (d ∷ ds) es all h some = elim some [
  | inl p ↦ found_step Kept (step_by m d) es (and_parts _ _ all).0 (h d p)
  | inr rest ↦ OneOf-by m Holds Kept ds es (and_parts (list_any (same_step (step_by m d)) es) _ all).1 h rest
]

abbrev Keeps : Mirror → Side → Kind → Type 0
Keeps m side kind = list_all (λ d. list_any (same_step (step_by m d)) (steps_of (side_by m side) kind)) (steps_of side kind) ≡ true

-- the mirror leaves the steps of this kind what they are, the side's being turned with it
abbrev pub Suits : Mirror → Kind → Type 0
Suits Files kind = Unit {0}
Suits Ranks kind = kind ≢ P
Suits Diagonal kind = kind ≢ P
Suits Colours kind = Unit {0}

-- the mirrored steps of a kind are its steps
keeps_steps : (m : Mirror) (side : Side) (kind : Kind) → Suits m kind → Keeps m side kind
unfolding same_step same_way step_by turned
keeps_steps Files side Q suits = refl
keeps_steps Files side R suits = refl
keeps_steps Files side B suits = refl
keeps_steps Files side N suits = refl
keeps_steps Files White P suits = refl
keeps_steps Files Black P suits = refl
keeps_steps Files side K suits = refl
keeps_steps Ranks side Q suits = refl
keeps_steps Ranks side R suits = refl
keeps_steps Ranks side B suits = refl
keeps_steps Ranks side N suits = refl
keeps_steps Ranks side P suits = absurd (suits refl)
keeps_steps Ranks side K suits = refl
keeps_steps Diagonal side Q suits = refl
keeps_steps Diagonal side R suits = refl
keeps_steps Diagonal side B suits = refl
keeps_steps Diagonal side N suits = refl
keeps_steps Diagonal side P suits = absurd (suits refl)
keeps_steps Diagonal side K suits = refl
keeps_steps Colours side Q suits = refl
keeps_steps Colours side R suits = refl
keeps_steps Colours side B suits = refl
keeps_steps Colours side N suits = refl
keeps_steps Colours White P suits = refl
keeps_steps Colours Black P suits = refl
keeps_steps Colours side K suits = refl

-- what a man attacks it attacks in the mirror
pub Reaches-by : (m : Mirror) (F G : ℕ → Type 0) (man : Man) (s t : ℕ) → Suits m man.kind → s < 64 → ((u : ℕ) → u < 64 → F u → G (square_by m u)) → Reaches F man s t → Reaches G (man_by m man) (square_by m s) (square_by m t)
Reaches-by m F G man s t suits s_in free r =
    OneOf-by m (Rides F (farthest man.kind) s t) (Rides G (farthest man.kind) (square_by m s) (square_by m t)) (steps_of man.side man.kind) (steps_of (side_by m man.side) man.kind) (keeps_steps m man.side man.kind suits)
    (λ d ride. Rides-by m F G (farthest man.kind) s t d s_in free ride) r

-- what stands in the mirror
abbrev pub ShowsMen : Mirror → Placement → Placement → Type 0
ShowsMen m men men' = (t : ℕ) → t < 64 → map.get men' (square_by m t) ≡ option_map (man_by m) (map.get men t)

abbrev pub OnBoard : Placement → Type 0
OnBoard men = (s : ℕ) (man : Man) → Stands men s man → s < 64

-- seen from the mirror
pub shows_back : (m : Mirror) (men men' : Placement) → ShowsMen m men men' → (t : ℕ) → t < 64 → map.get men' t ≡ option_map (man_by m) (map.get men (square_by m t))
shows_back m men men' shows t t_in =
    subst (λ x. map.get men' x ≡ option_map (man_by m) (map.get men (square_by m t))) (square_by-twice m t t_in) (shows (square_by m t) (square_by-within m t t_in))

pub side_by-twice : (m : Mirror) (side : Side) → side_by m (side_by m side) ≡ side
side_by-twice Files side = refl
side_by-twice Ranks side = refl
side_by-twice Diagonal side = refl
side_by-twice Colours White = refl
side_by-twice Colours Black = refl

pub side_by-other : (m : Mirror) (side : Side) → side_by m (other_side side) ≡ other_side (side_by m side)
side_by-other Files side = refl
side_by-other Ranks side = refl
side_by-other Diagonal side = refl
side_by-other Colours side = refl

pub side_by-turned : (m : Mirror) (side : Side) → side_by m (other_side (side_by m side)) ≡ other_side side
side_by-turned Files side = refl
side_by-turned Ranks side = refl
side_by-turned Diagonal side = refl
side_by-turned Colours White = refl
side_by-turned Colours Black = refl

pub side_by-turned_twice : (m : Mirror) (side : Side) → side_by m (other_side (other_side (side_by m side))) ≡ other_side (other_side side)
side_by-turned_twice Files side = refl
side_by-turned_twice Ranks side = refl
side_by-turned_twice Diagonal side = refl
side_by-turned_twice Colours White = refl
side_by-turned_twice Colours Black = refl

pub man_by-twice : (m : Mirror) (man : Man) → man_by m (man_by m man) ≡ man
man_by-twice m man = λ i. record { side = side_by-twice m man.side i; kind = man.kind }

-- a man that stands in the mirror stands on the board
pub stands_back : (m : Mirror) (men men' : Placement) → ShowsMen m men men' → (t : ℕ) (man : Man) → t < 64 → Stands men' t man → Stands men (square_by m t) (man_by m man)
stands_back m men men' shows t man t_in stands = go (map.get men (square_by m t)) (sym (shows_back m men men' shows t t_in) ∙ stands)
  where
    go : (o : Option Man) → option_map (man_by m) o ≡ Some man → o ≡ Some (man_by m man)
    go None e = let bad : None ≡ Some man = e in absurd (cc)
    go (Some x) e =
        let both : Some (man_by m x) ≡ Some man = e in
        let same : man_by m x ≡ man = cc in
        ap Some (sym (man_by-twice m x) ∙ ap (man_by m) same)

pub free_back : (m : Mirror) (men men' : Placement) → ShowsMen m men men' → (t : ℕ) → t < 64 → IsFree men' t → IsFree men (square_by m t)
free_back m men men' shows t t_in free = go (map.get men (square_by m t)) (sym (shows_back m men men' shows t t_in) ∙ free)
  where
    go : (o : Option Man) → option_map (man_by m) o ≡ None → o ≡ None
    go None e = refl
    go (Some x) e = let bad : Some (man_by m x) ≡ None = e in absurd (cc)

-- a mirror that these men allow suits each of them
pub suits_of : (m : Mirror) (men : Placement) (s : ℕ) (man : Man) → Allows m men → Stands men s man → Suits m man.kind
suits_of Files men s man allows stands = tt
suits_of Ranks men s man allows stands = allows s man stands
suits_of Diagonal men s man allows stands = allows s man stands
suits_of Colours men s man allows stands = tt

pub attacked_back : (m : Mirror) (men men' : Placement) (side : Side) (t : ℕ) → Allows m men → ShowsMen m men men' → OnBoard men' → IsAttacked men' t side → IsAttacked men (square_by m t) (side_by m side)
attacked_back m men men' side t allows shows ok' a =
    let s_in = ok' a.from a.man a.stands in
    let back = stands_back m men men' shows a.from a.man s_in a.stands in
    record {
      from = square_by m a.from;
      man = man_by m a.man;
      stands = back;
      theirs = ap (side_by m) a.theirs;
      reaches = Reaches-by m (IsFree men') (IsFree men) a.man a.from t (suits_of m men (square_by m a.from) (man_by m a.man) allows back) s_in (free_back m men men' shows) a.reaches;
    }

-- under a mirror that suits pawns, forward is forward for the side that the side becomes
step_by-forward : (m : Mirror) (side : Side) → Suits m P → step_by m (forward side) ≡ forward (side_by m side)
unfolding step_by turned
step_by-forward Files White suits = refl
step_by-forward Files Black suits = refl
step_by-forward Ranks side suits = absurd (suits refl)
step_by-forward Diagonal side suits = absurd (suits refl)
step_by-forward Colours White suits = refl
step_by-forward Colours Black suits = refl

pub ahead_by : (m : Mirror) (side : Side) (t : ℕ) → Suits m P → 0 < rank_of t → rank_of t < 7 → square_by m (ahead side t) ≡ ahead (side_by m side) (square_by m t)
ahead_by Files White t suits low high = omega arith
ahead_by Files Black t suits low high = omega arith
ahead_by Ranks side t suits low high = absurd (suits refl)
ahead_by Diagonal side t suits low high = absurd (suits refl)
ahead_by Colours White t suits low high = omega arith
ahead_by Colours Black t suits low high = omega arith

-- tests of two facts of which each gives the other
pub same_test : (a b c d : ℕ) → (a ≡ b → c ≡ d) → (c ≡ d → a ≡ b) → (a == b) ≡ (c == d)
same_test a b c d there back = elim (eqb_tells a b) [
  | inl h ↦ h.0 ∙ sym (eq-eqb c d (there h.1))
  | inr h ↦ elim (eqb_tells c d) [
    | inl k ↦ absurd (h.1 (back k.1))
    | inr k ↦ h.0 ∙ sym k.0
  ]
]

-- the original rank of a side's pawns becomes that of the side that it becomes
home_by : (m : Mirror) (side : Side) (s : ℕ) → Suits m P → s < 64 → (rank_of (square_by m s) == home_rank (side_by m side)) ≡ (rank_of s == home_rank side)
home_by Files side s suits s_in = ap (λ r. r == home_rank side) (rank_by_files s s_in)
home_by Ranks side s suits s_in = absurd (suits refl)
home_by Diagonal side s suits s_in = absurd (suits refl)
home_by Colours White s suits s_in = same_test _ _ _ _ (λ e. omega arith) (λ e. omega arith)
home_by Colours Black s suits s_in = same_test _ _ _ _ (λ e. omega arith) (λ e. omega arith)

-- and so does the last rank
pub last_by : (m : Mirror) (side : Side) (s : ℕ) → Suits m P → s < 64 → (rank_of (square_by m s) == last_rank (side_by m side)) ≡ (rank_of s == last_rank side)
last_by Files side s suits s_in = ap (λ r. r == last_rank side) (rank_by_files s s_in)
last_by Ranks side s suits s_in = absurd (suits refl)
last_by Diagonal side s suits s_in = absurd (suits refl)
last_by Colours White s suits s_in = same_test _ _ _ _ (λ e. omega arith) (λ e. omega arith)
last_by Colours Black s suits s_in = same_test _ _ _ _ (λ e. omega arith) (λ e. omega arith)

-- a pawn that advances advances in the mirror
pub Advances-by : (m : Mirror) (F G : ℕ → Type 0) (side : Side) (s t : ℕ) → Suits m P → s < 64 → ((u : ℕ) → u < 64 → F u → G (square_by m u)) → Advances F side s t → Advances G (side_by m side) (square_by m s) (square_by m t)
Advances-by m F G side s t suits s_in free a = record {
  rides =
      let most : farthest_advance side s ≡ farthest_advance (side_by m side) (square_by m s) = ap (λ b. if b then 2 else 1) (sym (home_by m side s suits s_in)) in
      subst (λ n. Rides G n (square_by m s) (square_by m t) (forward (side_by m side))) most
      (subst (Rides G (farthest_advance side s) (square_by m s) (square_by m t)) (step_by-forward m side suits) (Rides-by m F G (farthest_advance side s) s t (forward side) s_in free a.rides));
  free = free t a.rides.away.on_board a.free;
}

-- no pawn comes by a mirror
pub no_pawn_by : (m : Mirror) (men men' : Placement) → ShowsMen m men men' → OnBoard men' → HasNoPawn men → HasNoPawn men'
no_pawn_by m men men' shows ok' none = λ t man stands. none (square_by m t) (man_by m man) (stands_back m men men' shows t man (ok' t man stands) stands)

-- a target lies between the first rank and the last
pub target_between : (mover : Side) (t : ℕ) → rank_of t ≡ target_rank mover → (0 < rank_of t) × (rank_of t < 7)
target_between White t e = (omega arith, omega arith)
target_between Black t e = (omega arith, omega arith)
