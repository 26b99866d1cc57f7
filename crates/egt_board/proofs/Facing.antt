-- A man attacks the squares from which it is attacked: of a pawn the enemy's attacks his.
use Rattle.std.proofs.Common.{◌≡◌, ◌↔◌, ℕ, ◌+◌, ◌-◌, ◌*◌, ◌<◌, ◌++◌, arith, sym, ap, ◌∙◌, subst}
use Rattle.egt_board.specs.Prelude.{add-mul, cases_eq, Side, Kind, Q, R, B, N, P, K, Man, Way, Up, Down, Still, Step}
use Rattle.egt_board.specs.Prelude.{Further, OneOf, Rides, Reaches, straight_steps, diagonal_steps, knight_steps}
use Rattle.egt_board.specs.Prelude.{pawn_steps, steps_of, farthest, other_side, facing, Placement, IsFree}
use Rattle.egt_board.specs.Prelude.{get-insert_same, get-insert_other, Away}
use Rattle.std.specs.FinMap as map
use Rattle.egt_board.proofs.Sides.{side_twice}

abbrev opposite : Way → Way
opposite Up = Down
opposite Down = Up
opposite Still = Still

abbrev back : Step → Step
back d = record { files = opposite d.files; wide = d.wide; ranks = opposite d.ranks; high = d.high }

Further-back : (w : Way) (n a b : ℕ) → Further w n a b → Further (opposite w) n b a
Further-back w n a b e = grind arith

-- so many back from further on
Further-less : (w : Way) (j k n a b c : ℕ) → n ≡ j + k → Further w n a b → Further (opposite w) k b c → Further w j a c
Further-less w j k n a b c e f g = grind arith

spread : (j k n by : ℕ) → j + k ≡ n → n * by ≡ j * by + k * by
spread j k n by e = ap (λ x. x * by) (sym e) ∙ add-mul j k by

Away-back : (d : Step) (n s t : ℕ) → s < 64 → Away d n s t → Away (back d) n t s
Away-back d n s t s_in away = grind (arith, Further-back)

Away-less : (d : Step) (j k n s t u : ℕ) → j + k ≡ n → Away d n s t → Away (back d) k t u → Away d j s u
Away-less d j k n s t u e there back_again = grind (arith, Further-less, spread)

Rides-back : (F G : ℕ → Type 0) (most s t : ℕ) (d : Step) → ((u : ℕ) → F u → G u) → s < 64 → Rides F most s t d → Rides G most t s (back d)
Rides-back F G most s t d free s_in r = record {
  count = r.count;
  moves = r.moves;
  within = r.within;
  away = Away-back d r.count s t s_in r.away;
  clear = λ k u some less away. free u (r.clear (r.count - k) u (omega arith) (omega arith) (Away-less d (r.count - k) k r.count s t u (omega arith) r.away away));
}

module _ (A B : Step → Type 0) (turn : (d : Step) → A d → B (back d)) where
  straight_back : OneOf A straight_steps → OneOf B straight_steps
  straight_back h = grind arith

  diagonal_back : OneOf A diagonal_steps → OneOf B diagonal_steps
  diagonal_back h = grind arith

  royal_back : OneOf A (straight_steps ++ diagonal_steps) → OneOf B (straight_steps ++ diagonal_steps)
  royal_back h = grind (arith, diagonal_back)

  knight_back : OneOf A knight_steps → OneOf B knight_steps
  knight_back h = grind arith

pawn_back : (X Y : Step → Type 0) → ((d : Step) → X d → Y (back d)) → (side : Side) → OneOf X (pawn_steps side) → OneOf Y (pawn_steps (other_side side))
pawn_back X Y turn side h = grind arith

-- a man reaches the squares from which it is reached, and a pawn those from which an enemy pawn reaches it
pub Reaches-back : (F G : ℕ → Type 0) (man : Man) (s t : ℕ) → ((u : ℕ) → F u → G u) → s < 64 → Reaches F man s t → Reaches G (facing man) t s
Reaches-back F G man s t free s_in = by_kind man.kind
  where
    by_kind : (kind : Kind) → OneOf (Rides F (farthest kind) s t) (steps_of man.side kind)
        → Reaches G (facing (record { side = man.side; kind = kind })) t s
    by_kind Q = royal_back (Rides F 7 s t) (Rides G 7 t s) (λ d. Rides-back F G 7 s t d free s_in)
    by_kind R = straight_back (Rides F 7 s t) (Rides G 7 t s) (λ d. Rides-back F G 7 s t d free s_in)
    by_kind B = diagonal_back (Rides F 7 s t) (Rides G 7 t s) (λ d. Rides-back F G 7 s t d free s_in)
    by_kind N = knight_back (Rides F 1 s t) (Rides G 1 t s) (λ d. Rides-back F G 1 s t d free s_in)
    by_kind P = pawn_back (Rides F 1 s t) (Rides G 1 t s) (λ d. Rides-back F G 1 s t d free s_in) man.side
    by_kind K = royal_back (Rides F 1 s t) (Rides G 1 t s) (λ d. Rides-back F G 1 s t d free s_in)

facing_twice : (man : Man) → facing (facing man) ≡ man
facing_twice man = grind (arith, side_twice)

-- what is free with a man put on a square was free before
pub unput_free : (men : Placement) (t u : ℕ) (man : Man) → IsFree (map.insert men t man) u → IsFree men u
unput_free men t u man free = grind (arith, cases_eq, get-insert_same, get-insert_other)

-- whether a man attacks a square does not hang on what stands there
abbrev pub PassesOver : Type 0
PassesOver = (men : Placement) (man occupant : Man) (s t : ℕ) → Reaches (IsFree (map.insert men t occupant)) man s t ↔ Reaches (IsFree men) man s t

-- the squares from which a man attacks one are those that the man facing him attacks from there
pub attacks_back : (men : Placement) (man : Man) (s to : ℕ) → PassesOver → s < 64 → to < 64 → Reaches (IsFree men) (facing man) to s ↔ Reaches (IsFree (map.insert men s man)) man s to
attacks_back men man s to law s_in to_in = (
  λ r.
      let there = (law men (facing man) man to s).1 r in
      let F : ℕ → Type 0 = IsFree (map.insert men s man) in
      subst (λ x. Reaches F x s to) (facing_twice man) (Reaches-back F F (facing man) to s (λ u free. free) to_in there),
  λ r. Reaches-back (IsFree (map.insert men s man)) (IsFree men) man s to (λ u. unput_free men s u man) s_in r,
)
