-- The game of the nearest mates over a class.
use Rattle.std.specs.Prelude.{ℕ, map, List, [], ◌∷◌, All}
use Rattle.std.proofs.Common.{ap}
use Rattle.std.proofs.lemmas.List.Elements.{All-cons, All-nil}
use Rattle.egt_graph.specs.Prelude.{All-head, All-tail, Graph, HasShortDistance, IsGame, IsNode}
use Rattle.egt_check.specs.Prelude.{near_tables, Tables}
use Rattle.egt_graph.specs.declared.game.Exit.{Exit}
use Rattle.egt_graph.specs.declared.game.Exit.TheVariants.{Win, Loss, Draw}
use Rattle.egt_entries.specs.declared.metric.Metric.TheVariants.{Mate}
use Rattle.egt_sweep.specs.ClassGame.{class_game, class_game_is_lawful}
use Rattle.egt_sweep.specs.Nodes.{exits_at}

-- a mate so near, whoever is mated
abbrev pub as_win : Exit → Exit
as_win (Win k) = Win k
as_win (Loss k) = Win k
as_win Draw = Draw

-- what is told of where the moves that leave the class lead
abbrev pub reach_exits_at : Tables → ℕ → ℕ → List Exit
reach_exits_at tables c i = map as_win (exits_at (near_tables tables) Mate c i)

-- nodes and edges are those of the game of mates; an exit is a win in as many plies as the nearest mate is away from where the move leads, or a draw where
-- there is none
abbrev pub reach_game : Tables → ℕ → Graph
reach_game tables c = record {
  size = (class_game tables Mate c).size;
  void = (class_game tables Mate c).void;
  mated = (class_game tables Mate c).mated;
  out = (class_game tables Mate c).out;
  into = (class_game tables Mate c).into;
  exits = λ i. reach_exits_at tables c i;
}

-- ---- the law

short_win : (e : Exit) → HasShortDistance e → HasShortDistance (as_win e)
short_win (Win k) h = h
short_win (Loss k) h = h
short_win Draw h = h

short_wins : (es : List Exit) → All HasShortDistance es → All HasShortDistance (map as_win es)
short_wins [] h = All-nil HasShortDistance
short_wins (e ∷ es) h = All-cons HasShortDistance (as_win e) (map as_win es) (short_win e (All-head HasShortDistance e es h)) (short_wins es (All-tail HasShortDistance e es h))

module _ (tables : Tables) (c : ℕ) where
  g : Graph
  g = reach_game tables c

  h : Graph
  h = class_game (near_tables tables) Mate c

  was : IsGame h
  unfolding h
  was = class_game_is_lawful (near_tables tables) Mate c

  same : (i : ℕ) → IsNode g i → IsNode h i
  unfolding g h
  same i node = record { in_range = node.in_range; not_void = node.not_void }

  as_before : (ns : List ℕ) → All (IsNode h) ns → All (IsNode g) ns
  unfolding g h
  as_before [] all = All-nil (IsNode g)
  as_before (n ∷ ns) all =
      let node = All-head (IsNode h) n ns all in
      All-cons (IsNode g) n ns (record { in_range = node.in_range; not_void = node.not_void }) (as_before ns (All-tail (IsNode h) n ns all))

  pub reach_game_is_lawful : IsGame (reach_game tables c)
  unfolding g h
  reach_game_is_lawful = record {
    out_nodes = λ i node. as_before (h.out i) (was.out_nodes i (same i node));
    into_nodes = λ j node. as_before (h.into j) (was.into_nodes j (same j node));
    out_ascends = λ i node. was.out_ascends i (same i node);
    into_ascends = λ j node. was.into_ascends j (same j node);
    back = λ i j here there edge. was.back i j (same i here) (same j there) edge;
    forth = λ i j here there edge. was.forth i j (same i here) (same j there) edge;
    short_exits = λ i node. short_wins (exits_at (near_tables tables) Mate c i) (was.short_exits i (same i node));
    mate_ends = λ i node t. ((was.mate_ends i (same i node) t).0, ap (map as_win) (was.mate_ends i (same i node) t).1);
  }
