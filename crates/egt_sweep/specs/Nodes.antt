-- A class as a game: its nodes are the indexes of the class's positions. In the game of mates the moves that stay in the class go on, and
-- the others leave it with the mate value of where they lead. In the game of zeroing moves those that do not zero go on, and the others
-- leave it at once: with a loss in 0, a win in 0 or a draw, as they reach a lost, a won or a drawn position.
use Rattle.std.specs.Prelude.{ℕ, zero, suc, ◌==◌, ◌&&◌, not, Bool, true, false, if◌then◌else◌, List, [], ◌∷◌, Option}
use Rattle.std.specs.Prelude.{Some, None}
use Rattle.std.proofs.Common.{inl, inr}
use Rattle.egt_check.specs.Prelude.{is_some, option_to_list, Decided, tells, Setup, material_of, size_of, Value, Win}
use Rattle.egt_check.specs.Prelude.{Loss, Draw, decided_zeroes, TableValue, read, Tables, entry_at}
use Rattle.egt_index.specs.Prelude.{settled_form, Material, SpellsBy, decided_spelled}
use Rattle.egt_moves.specs.Prelude.{decided_checkmate, moves_of, played}
use Rattle.egt_graph.specs.Prelude.{list_any}
use Rattle.egt_table.specs.Prelude.{flat_map}
use Rattle.egt_board.specs.DecidedTurns.{decided_turn}
use Rattle.egt_moves.specs.declared.chess_move.Move.{Move}
use Rattle.egt_graph.specs.declared.game.Exit.{Exit}
use Rattle.egt_graph.specs.Filtered.{passing_below}
use Rattle.egt_entries.specs.declared.metric.Metric.{Metric}
use Rattle.egt_entries.specs.declared.metric.Metric.TheVariants.{Mate, Zeroing}
use Rattle.egt_graph.specs.declared.game.Exit.TheVariants as exits

-- the first number of a list
abbrev pub first_of : List ℕ → Option ℕ
first_of [] = None
first_of (n ∷ ns) = Some n

-- the position that is told to be spelled
abbrev pub spelled_by : {m : Material} {code : ℕ} → Decided ((p : Setup) × SpellsBy m code p) → Option Setup
spelled_by (inl found) = Some found.0
spelled_by (inr none) = None

-- the position that the code spells
unfoldable pub spelled : ℕ → ℕ → Option Setup
spelled c code = spelled_by (decided_spelled (material_of c) code)

-- it is what a turn makes of this one
abbrev pub is_turned : Setup → Option Setup → Bool
is_turned s None = false
is_turned s (Some x) = tells (decided_turn s x)

-- the least code that spells what a turn makes of the settled position: its index, where it is of the class
unfoldable pub index_in : ℕ → Setup → Option ℕ
index_in c q = first_of (passing_below (size_of c) (λ code. is_turned (settled_form q) (spelled c code)))

abbrev pub is_number : ℕ → Option ℕ → Bool
is_number i None = false
is_number i (Some j) = i == j

abbrev pub kept_if : Bool → Option Setup → Option Setup
kept_if true found = found
kept_if false found = None

abbrev pub has_index : ℕ → ℕ → Option Setup → Bool
has_index c i None = false
has_index c i (Some p) = is_number i (index_in c p)

-- the position at the index
unfoldable pub position_at : ℕ → ℕ → Option Setup
position_at c i = kept_if (has_index c i (spelled c i)) (spelled c i)

-- the side to move is checkmated
abbrev pub is_mated : Option Setup → Bool
is_mated None = false
is_mated (Some p) = tells (decided_checkmate p)

-- the move goes on in the game
abbrev pub goes_on : Metric → ℕ → Setup → Move → Setup → Bool
goes_on Mate c p m q = is_some (index_in c q)
goes_on Zeroing c p m q = not (tells (decided_zeroes p m))

-- the move leads on to a position whose index is j
abbrev pub leads_on : Metric → ℕ → ℕ → Setup → Move → Option Setup → Bool
leads_on metric c j p m None = false
leads_on metric c j p m (Some q) = goes_on metric c p m q && is_number j (index_in c q)

abbrev pub connects_from : Metric → ℕ → ℕ → Option Setup → Bool
connects_from metric c j None = false
connects_from metric c j (Some p) = list_any (λ m. leads_on metric c j p m (played p m)) (moves_of p)

-- some move goes on from the position at i to one whose index is j
unfoldable pub connects : Metric → ℕ → ℕ → ℕ → Bool
connects metric c i j = is_some (position_at c j) && connects_from metric c j (position_at c i)

-- the plies that are told of a value outside the game: in the game of zeroing moves the move itself has zeroed
abbrev pub plies_left : Metric → ℕ → ℕ
plies_left Mate n = n
plies_left Zeroing n = 0

-- the value as it is told outside the game
abbrev pub exit_of : Metric → Value → Exit
exit_of metric (Win n) = exits.Win (plies_left metric n)
exit_of metric (Loss n) = exits.Loss (plies_left metric n)
exit_of metric Draw = exits.Draw

-- what the tables of the classes below n show of the position
abbrev pub shown_in : Option TableValue → Option ℕ → Option Value
shown_in (Some t) (Some i) = Some (read (entry_at t Mate i))
shown_in _ _ = None

abbrev pub or_else : Option Value → Value → Value
or_else None v = v
or_else (Some w) v = w

unfoldable pub shown_below : Tables → ℕ → Setup → Value
shown_below tables zero q = Draw
shown_below tables (suc n) q = or_else (shown_in (tables n) (index_in n q)) (shown_below tables n q)

-- what is told of where the move leads, if it leaves the game
abbrev pub exit_by : Tables → Metric → ℕ → Setup → Move → Option Setup → Option Exit
exit_by tables metric c p m None = None
exit_by tables metric c p m (Some q) = if goes_on metric c p m q then None else Some (exit_of metric (shown_below tables 36 q))

-- what is told of where those of these moves lead that leave the game
abbrev pub exits_by : Tables → Metric → ℕ → Setup → List Move → List Exit
exits_by tables metric c p moves = flat_map (λ m. option_to_list (exit_by tables metric c p m (played p m))) moves

abbrev pub exits_from : Tables → Metric → ℕ → Option Setup → List Exit
exits_from tables metric c None = []
exits_from tables metric c (Some p) = exits_by tables metric c p (moves_of p)

-- what is told of where the moves that leave the game lead, in the order of moves
unfoldable pub exits_at : Tables → Metric → ℕ → ℕ → List Exit
exits_at tables metric c i = exits_from tables metric c (position_at c i)
