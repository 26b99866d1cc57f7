-- Tables made of the ranks of a class's two games are true.
use Rattle.std.proofs.Common.{◌≡◌, ℕ, zero, suc, ◌<◌, ◌≤◌, None, not, IsTrue, List, length, slice_index, sym, ap, ◌∙◌}
use Rattle.std.proofs.Common.{subst, arith}
use Rattle.egt_sweep.specs.Prelude.{false≢true, Setup, IsAdmissible, IsIndex, IsVoid, size_of, Value, Win, Loss, Draw}
use Rattle.egt_sweep.specs.Prelude.{HasValue, chess, HasZeroing, Graph, IsNode, decided_within, entry_of, HasRank}
use Rattle.egt_sweep.specs.Prelude.{IsWithin, AreRanks, SomeAbove, Exit, Metric, Mate, Zeroing, Column, TableValue}
use Rattle.egt_sweep.specs.Prelude.{HasColumn, IsTable, entries_of, Shows, Tables, beside, entry_at, Tells, IsTrueTable}
use Rattle.egt_sweep.specs.Prelude.{IsWithinLimit, AllWithinLimit, class_game, Laws, mate_table, ShowsValues, exit_of}
use Rattle.egt_graph.specs.declared.game.Exit.TheVariants as exits
use Rattle.egt_table.specs.declared.column.Column.TheVariants as columns
use Rattle.egt_sweep.proofs.Linked.{node_at, spelled_there, void_is}

-- the ranks of these nodes are what P tells
abbrev pub RanksTell : Graph → ℕ → (Setup → Value → Type 0) → Type 0
RanksTell g c P = (i : ℕ) (p : Setup) (v : Value) → IsAdmissible p → IsIndex c p i → HasRank g i (exit_of Mate v) → P p v

-- the entry shows what is told of the position, within the limit
abbrev pub TellsWithin : ℕ → ℕ → (Value → Type 0) → Type 0
TellsWithin limit x P = (v : Value) × P v × Shows x v × IsWithinLimit limit v

entry_tells : (g : Graph) (i x limit : ℕ) (e : Exit) (P : Value → Type 0) → ¬ P (Win 0) → limit ≤ 32000 → ((v : Value) → HasRank g i (exit_of Mate v) → P v) → HasRank g i e → IsWithin limit e → x ≡ entry_of e → TellsWithin limit x P
entry_tells g i x limit (exits.Win zero) P never short told rank within e = absurd (never (told (Win 0) rank))
entry_tells g i x limit (exits.Win (suc n)) P never short told rank within e = (Win (suc n), told (Win (suc n)) rank, ((omega arith, omega (arith, within, short)), e), within)
entry_tells g i x limit (exits.Loss n) P never short told rank within e = (Loss n, told (Loss n) rank, (omega (arith, within, short), e), within)
entry_tells g i x limit exits.Draw P never short told rank within e = (Draw, told Draw rank, (tt, e), tt)

module _ (laws : Laws) (c : ℕ) (below : c < 36) (tables : Tables) (metric : Metric) (limit : ℕ) (short : limit ≤ 32000) (entries : List ℕ) (are : AreRanks (class_game tables metric c) limit entries) where
  node : (i : ℕ) (p : Setup) → IsAdmissible p → IsIndex c p i → IsNode (class_game tables metric c) i
  node i p ok is = record { in_range = laws.facts.index_below p c i is; not_void = ap not (spelled_there laws c i p below ok is) }

  -- each entry of a position shows what its rank is
  pub ranks_tell : (P : Setup → Value → Type 0) → ((p : Setup) → ¬ P p (Win 0)) → RanksTell (class_game tables metric c) c P →
      (p : Setup) (i : ℕ) → IsAdmissible p → IsIndex c p i → TellsWithin limit (slice_index entries i) (P p)
  ranks_tell P never told p i ok is =
      let rank = are.ranks i (node i p ok is) in
      entry_tells (class_game tables metric c) i (slice_index entries i) limit rank.0 (P p) (never p) short (λ v h. told i p v ok is h) rank.1 rank.2 rank.3

  -- void entries are 0
  pub voids_are : (i : ℕ) → i < size_of c → IsVoid c i → slice_index entries i ≡ 0
  voids_are i lt void = are.voids i lt (ap not (void_is laws c i void))

module _ (laws : Laws) (c : ℕ) (below : c < 36) (tables : Tables) (limit : ℕ) (short : limit ≤ 32000)
    (mate : List ℕ) (are_mate : AreRanks (class_game tables Mate c) limit mate) (told_mate : RanksTell (class_game tables Mate c) c (HasValue chess)) where
  mates : (p : Setup) (i : ℕ) → IsAdmissible p → IsIndex c p i → TellsWithin limit (slice_index mate i) (HasValue chess p)
  mates = ranks_tell laws c below tables Mate limit short mate are_mate (HasValue chess) (λ p h. h) told_mate

  -- the mate column shows the values
  pub mates_show_values : ShowsValues (mate_table c mate)
  mates_show_values p i ok is = let told = mates p i ok is in (told.0, told.1, told.2)

  -- no node of the game of zeroing moves beside it has a rank above the limit
  pub none_above : ((n i : ℕ) (p : Setup) (v : Value) → IsAdmissible p → IsIndex c p i → HasValue chess p v → IsWithinLimit limit v →
      IsTrue (decided_within (class_game (beside tables (mate_table c mate)) Zeroing c) n i) → IsTrue (decided_within (class_game (beside tables (mate_table c mate)) Zeroing c) limit i)) →
      SomeAbove (class_game (beside tables (mate_table c mate)) Zeroing c) limit → ⊥
  none_above in_time (i, node, some, none) =
      let at = node_at laws c i node.not_void in
      let ok = at.1.spells.admissible in
      let told = mates at.0 i ok at.1.index in
      false≢true (sym none ∙ in_time some.0 i at.0 told.0 ok at.1.index told.1 told.3 some.1)

  -- and none is above the limit
  pub values_within : ((p : Setup) (v w : Value) → HasValue chess p v → HasValue chess p w → v ≡ w) → AllWithinLimit c limit
  values_within one p flipped v ok of has =
      let index = laws.facts.some_index p c flipped below ok of in
      let told = mates p index.0 ok index.1 in
      subst (IsWithinLimit limit) (one p told.0 v told.1 has) told.3

  module _ (others : Tables) (zeroing : List ℕ) (are_zeroing : AreRanks (class_game others Zeroing c) limit zeroing) (told_zeroing : RanksTell (class_game others Zeroing c) c (HasZeroing chess)) where
    built : TableValue
    built = record { class = c; mate = mate; zeroing = zeroing; reach = None }

    zeroes : (p : Setup) (i : ℕ) → IsAdmissible p → IsIndex c p i → TellsWithin limit (slice_index zeroing i) (HasZeroing chess p)
    zeroes = ranks_tell laws c below others Zeroing limit short zeroing are_zeroing (HasZeroing chess) (λ p h. h) told_zeroing

    voids : (metric : Metric) (i : ℕ) → i < size_of c → IsVoid c i → entry_at built metric i ≡ 0
    unfolding built
    voids Mate i lt void = voids_are laws c below tables Mate limit short mate are_mate i lt void
    voids Zeroing i lt void = voids_are laws c below others Zeroing limit short zeroing are_zeroing i lt void

    tells : (metric : Metric) (p : Setup) (i : ℕ) → IsAdmissible p → IsIndex c p i → (v : Value) × Tells metric p v × Shows (entry_at built metric i) v
    unfolding built
    tells Mate p i ok is = let told = mates p i ok is in (told.0, told.1, told.2)
    tells Zeroing p i ok is = let told = zeroes p i ok is in (told.0, told.1, told.2)

    sizes : (column : Column) → HasColumn column built → length (entries_of column built) ≡ size_of c
    unfolding built
    sizes columns.Mate there = are_mate.all
    sizes columns.Zeroing there = are_zeroing.all
    sizes columns.Reach there = absurd (false≢true there)

    pub built_is_table : IsTable (record { class = c; mate = mate; zeroing = zeroing; reach = None })
    unfolding built
    built_is_table = record { class_in = below; sizes = sizes }

    -- the table of both is true
    pub built_is_true : IsTrueTable (record { class = c; mate = mate; zeroing = zeroing; reach = None })
    unfolding built
    built_is_true = record { void = voids; true = tells; reach = λ there. absurd (false≢true there) }
