-- The graph of a class's game, and that it is lawful.
use Rattle.std.specs.Prelude.{◌≡◌, ℕ, zero, suc, ◌<◌, ◌&&◌, not, Bool, true, false, if◌then◌else◌, List, [], ◌∷◌}
use Rattle.std.specs.Prelude.{Option, Some, None, All, filter}
use Rattle.std.proofs.Common.{refl, inl, inr, arith}
use Rattle.std.proofs.lemmas.List.Elements.{All-cons, All-nil, All-append}
use Rattle.egt_check.specs.Prelude.{is_some, option_to_list, false≢true, and_parts, Decided, tells, tells_so, Setup}
use Rattle.egt_check.specs.Prelude.{Value, Win, Loss, Draw, size_of, TableValue, read, Tables, entry_at}
use Rattle.egt_moves.specs.Prelude.{decided_legal, decided_checkmate, all_moves, is_legal, played, IsStuck}
use Rattle.egt_graph.specs.Prelude.{Graph, IsNode, IsGame, HasShortDistance}
use Rattle.egt_table.specs.Prelude.{flat_map}
use Rattle.egt_entries.specs.Prelude.{IsShort}
use Rattle.egt_moves.specs.declared.chess_move.Move.{Move}
use Rattle.egt_graph.specs.Filtered.{passing_below, passing_has, passing_passes, passing_all, passing_ascends}
use Rattle.egt_graph.specs.Filtered.{passing_none}
use Rattle.egt_entries.specs.declared.metric.Metric.{Metric}
use Rattle.egt_entries.specs.declared.metric.Metric.TheVariants.{Mate, Zeroing}
use Rattle.egt_check.specs.Reading.{read_short}
use Rattle.egt_sweep.specs.Nodes.{position_at, connects_from, is_mated, exits_from, exit_by, exit_of, shown_in, or_else}
use Rattle.egt_sweep.specs.Nodes.{goes_on, index_in, connects, exits_at, shown_below}
use Rattle.egt_moves.specs.Moves.{moves_of}

-- nodes are the indexes, and edges the moves that go on
abbrev pub class_game : Tables → Metric → ℕ → Graph
class_game tables metric c = record {
  size = size_of c;
  void = λ i. not (is_some (position_at c i));
  mated = λ i. is_mated (position_at c i);
  out = λ i. passing_below (size_of c) (λ j. connects metric c i j);
  into = λ j. passing_below (size_of c) (λ i. connects metric c i j);
  exits = λ i. exits_at tables metric c i;
}

-- ---- nothing goes on from checkmate

none_kept : {A : Type 0} (p : A → Bool) → ((x : A) → p x ≡ false) → (xs : List A) → filter p xs ≡ []
none_kept p h [] = refl
none_kept p h (x ∷ xs) = rw (h x) (none_kept p h xs)

not_told : {P : Type 0} (d : Decided P) → (P → ⊥) → tells d ≡ false
not_told (inl h) never = absurd (never h)
not_told (inr h) never = refl

pub no_moves : (p : Setup) → IsStuck p → moves_of p ≡ []
unfolding moves_of
no_moves p stuck = none_kept (is_legal p) (λ m. not_told (decided_legal p m) (stuck m)) all_moves

mated_stuck : (p : Setup) → tells (decided_checkmate p) ≡ true → IsStuck p
mated_stuck p t = let mate = tells_so (decided_checkmate p) t in mate.stuck

-- ---- an entry has room for what is told of an exit

IsShortValue : Value → Type 0
IsShortValue v = (metric : Metric) → HasShortDistance (exit_of metric v)

short_value : (v : Value) → IsShort v → IsShortValue v
unfolding IsShortValue
short_value (Win n) short Mate = short.1
short_value (Loss n) short Mate = short
short_value Draw short Mate = tt
short_value (Win n) short Zeroing = omega arith
short_value (Loss n) short Zeroing = omega arith
short_value Draw short Zeroing = tt

short_read : (x : ℕ) → IsShortValue (read x)
short_read x = short_value (read x) (read_short x)

short_shown : (t : Option TableValue) (i : Option ℕ) (v : Value) → IsShortValue v → IsShortValue (or_else (shown_in t i) v)
short_shown None None v h = h
short_shown None (Some i) v h = h
short_shown (Some t) None v h = h
short_shown (Some t) (Some i) v h = short_read (entry_at t Mate i)

short_below : (tables : Tables) (n : ℕ) (q : Setup) → IsShortValue (shown_below tables n q)
unfolding shown_below
short_below tables zero q = short_value Draw tt
short_below tables (suc n) q = short_shown (tables n) (index_in n q) (shown_below tables n q) (short_below tables n q)

short_exit : (tables : Tables) (metric : Metric) (c : ℕ) (p q : Setup) (m : Move) (b : Bool) → All HasShortDistance (option_to_list (if b then None else Some (exit_of metric (shown_below tables 36 q))))
unfolding IsShortValue
short_exit tables metric c p q m true = All-nil HasShortDistance
short_exit tables metric c p q m false = All-cons HasShortDistance (exit_of metric (shown_below tables 36 q)) [] (short_below tables 36 q metric) (All-nil HasShortDistance)

short_step : (tables : Tables) (metric : Metric) (c : ℕ) (p : Setup) (m : Move) (o : Option Setup) → All HasShortDistance (option_to_list (exit_by tables metric c p m o))
short_step tables metric c p m None = All-nil HasShortDistance
short_step tables metric c p m (Some q) = short_exit tables metric c p q m (goes_on metric c p m q)

short_steps : (tables : Tables) (metric : Metric) (c : ℕ) (p : Setup) (ms : List Move) → All HasShortDistance (flat_map (λ m. option_to_list (exit_by tables metric c p m (played p m))) ms)
short_steps tables metric c p [] = All-nil HasShortDistance
short_steps tables metric c p (m ∷ ms) =
    All-append HasShortDistance (option_to_list (exit_by tables metric c p m (played p m))) (flat_map (λ k. option_to_list (exit_by tables metric c p k (played p k))) ms)
    (short_step tables metric c p m (played p m)) (short_steps tables metric c p ms)

short_exits_from : (tables : Tables) (metric : Metric) (c : ℕ) (o : Option Setup) → All HasShortDistance (exits_from tables metric c o)
short_exits_from tables metric c None = All-nil HasShortDistance
short_exits_from tables metric c (Some p) = short_steps tables metric c p (moves_of p)

-- ---- the law

module _ (tables : Tables) (metric : Metric) (c : ℕ) where
  g : Graph
  g = class_game tables metric c

  some_not_void : (o : Option Setup) → is_some o ≡ true → not (is_some o) ≡ false
  some_not_void None t = absurd (false≢true t)
  some_not_void (Some p) t = refl

  from_some : (j : ℕ) (o : Option Setup) → connects_from metric c j o ≡ true → is_some o ≡ true
  from_some j None t = t
  from_some j (Some p) t = refl

  to_node : (i j : ℕ) → connects metric c i j ≡ true → is_some (position_at c j) ≡ true
  unfolding connects
  to_node i j t = (and_parts (is_some (position_at c j)) (connects_from metric c j (position_at c i)) t).0

  from_node : (i j : ℕ) → connects metric c i j ≡ true → is_some (position_at c i) ≡ true
  unfolding connects
  from_node i j t = from_some j (position_at c i) (and_parts (is_some (position_at c j)) (connects_from metric c j (position_at c i)) t).1

  stuck_from : (j : ℕ) (o : Option Setup) → is_mated o ≡ true → connects_from metric c j o ≡ false
  stuck_from j None t = refl
  stuck_from j (Some p) t = rw (no_moves p (mated_stuck p t)) refl

  and_false : (b x : Bool) → x ≡ false → (b && x) ≡ false
  and_false true x e = e
  and_false false x e = refl

  pub stuck_edge : (i j : ℕ) → is_mated (position_at c i) ≡ true → connects metric c i j ≡ false
  unfolding connects
  stuck_edge i j t = and_false (is_some (position_at c j)) (connects_from metric c j (position_at c i)) (stuck_from j (position_at c i) t)

  stuck_exits : (o : Option Setup) → is_mated o ≡ true → exits_from tables metric c o ≡ []
  stuck_exits None t = refl
  stuck_exits (Some p) t = rw (no_moves p (mated_stuck p t)) refl

  pub exits_short : (i : ℕ) → All HasShortDistance (exits_at tables metric c i)
  unfolding exits_at
  exits_short i = short_exits_from tables metric c (position_at c i)

  pub exits_none : (i : ℕ) → is_mated (position_at c i) ≡ true → exits_at tables metric c i ≡ []
  unfolding exits_at
  exits_none i t = stuck_exits (position_at c i) t

  out_node : (i j : ℕ) → j < size_of c → connects metric c i j ≡ true → IsNode g j
  unfolding g
  out_node i j lt t = record { in_range = lt; not_void = some_not_void (position_at c j) (to_node i j t) }

  into_node : (i j : ℕ) → i < size_of c → connects metric c i j ≡ true → IsNode g i
  unfolding g
  into_node i j lt t = record { in_range = lt; not_void = some_not_void (position_at c i) (from_node i j t) }

  pub class_game_is_lawful : IsGame (class_game tables metric c)
  unfolding g
  class_game_is_lawful = record {
    out_nodes = λ i node. passing_all (IsNode g) (size_of c) (λ j. connects metric c i j) (out_node i);
    into_nodes = λ j node. passing_all (IsNode g) (size_of c) (λ i. connects metric c i j) (λ i. into_node i j);
    out_ascends = λ i node. passing_ascends (size_of c) (λ j. connects metric c i j);
    into_ascends = λ j node. passing_ascends (size_of c) (λ i. connects metric c i j);
    back = λ i j here there edge. passing_has (size_of c) (λ k. connects metric c k j) i here.in_range (passing_passes (size_of c) (λ k. connects metric c i k) j edge);
    forth = λ i j here there edge. passing_has (size_of c) (λ k. connects metric c i k) j there.in_range (passing_passes (size_of c) (λ k. connects metric c k j) i edge);
    short_exits = λ i node. exits_short i;
    mate_ends = λ i node t. (passing_none (size_of c) (λ j. connects metric c i j) (λ j. stuck_edge i j t), exits_none i t);
  }
