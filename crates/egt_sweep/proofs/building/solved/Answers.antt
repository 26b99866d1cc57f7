use Rattle.std.proofs.Common.{ℕ, ◌<◌, None, refl, sym, subst, rules}
use Rattle.egt_sweep.specs.Prelude.{HasValue, chess, HasZeroing, TableValue, Mate, Zeroing, Tables, table_at, beside}
use Rattle.egt_sweep.specs.Prelude.{IsBuilt, class_game, mate_table, reaches_below, values_below}
use Rattle.egt_sweep.proofs.BuiltTables.{RanksTell, built_is_table, built_is_true, mates_show_values, values_within}
use Rattle.egt_sweep.proofs.JoinedTables.{NearsTell, joined_is_accepted, joined_is_true}
use Rattle.egt_sweep.proofs.TrueChildren.{true_children}
use Rattle.egt_sweep.proofs.building.solved.Goals as goal

pub returns-in_err-nears-clause-refused : goal.returns-in_err-nears-clause-refused
returns-in_err-nears-clause-refused c =
    let tables : Tables = table_at c.args.library.now in
    let class = c.args.class in
    let below = subst (λ (n : ℕ). n < 36) c.number-number.ensures.value c.number-number.ensures.below in
    let children = true_children tables class c.children_are_true.ensures c.requires.children in
    let told : RanksTell (class_game tables Mate class) class (HasValue chess) = λ i p v ok is rank. c.mate_ranks_are_values.ensures.values tables class i p v below (values_below tables class children) ok is rank in
    let all = values_within c.laws.ensures class below tables c.args.limit c.requires.limit c.in_ok-columns.columns.0 c.in_ok-columns.ensures.mates told c.one_value.ensures.one in
    let refused = c.in_err-nears.ensures.refused c.args.limit all in
    search rules

pub returns-clause-built : goal.returns-clause-built
returns-clause-built c =
    let tables : Tables = table_at c.args.library.now in
    let class = c.args.class in
    let limit = c.args.limit in
    let mate = c.in_ok-columns.columns.0 in
    let zeroing = c.in_ok-columns.columns.1 in
    let nears = c.in_ok-nears.nears in
    let other : Tables = beside tables (mate_table class mate) in
    let plain : TableValue = record { class = class; mate = mate; zeroing = zeroing; reach = None } in
    let below = subst (λ (n : ℕ). n < 36) c.number-number.ensures.value c.number-number.ensures.below in
    let reach_children = c.requires.reach_children in
    let children = true_children tables class c.children_are_true.ensures c.requires.children in
    let told : RanksTell (class_game tables Mate class) class (HasValue chess) = λ i p v ok is rank. c.mate_ranks_are_values.ensures.values tables class i p v below (values_below tables class children) ok is rank in
    let shows = mates_show_values c.laws.ensures class below tables limit c.requires.limit mate c.in_ok-columns.ensures.mates told in
    let told_zeroing : RanksTell (class_game other Zeroing class) class (HasZeroing chess) =
    λ i p v ok is rank. c.zeroing_ranks_are_distances.ensures.distances tables (mate_table class mate) i p v below (values_below tables class children) shows ok is rank in
    let near : NearsTell tables class = λ i p number ok is found. c.reach_numbers_are_the_nearest_mates.ensures.numbers tables class i p number below (reaches_below tables class children reach_children) ok is found in
    let table = built_is_table c.laws.ensures class below tables limit c.requires.limit mate c.in_ok-columns.ensures.mates told other zeroing c.in_ok-columns.ensures.zeroing told_zeroing in
    let truth = built_is_true c.laws.ensures class below tables limit c.requires.limit mate c.in_ok-columns.ensures.mates told other zeroing c.in_ok-columns.ensures.zeroing told_zeroing in
    subst (IsBuilt tables class limit) (sym c.in-Some.ensures.table) (record {
      class = refl;
      reach = refl;
      true = joined_is_true c.laws.ensures tables plain below nears c.in_ok-nears.ensures.nears near truth;
      accepted = joined_is_accepted c.laws.ensures tables plain below nears c.in_ok-nears.ensures.nears near table truth c.requires.children children reach_children c.rules_are_kept_by_true_tables_alone.ensures;
      within = values_within c.laws.ensures class below tables limit c.requires.limit mate c.in_ok-columns.ensures.mates told c.one_value.ensures.one;
    })
