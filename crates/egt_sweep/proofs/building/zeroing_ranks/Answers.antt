use Rattle.std.proofs.Common.{◌≡◌, ℕ, ◌<◌, List, Option, Err, sym, ap, ◌∙◌, subst}
use Rattle.egt_graph.proofs.Histories.{alike_ranks}
use Rattle.egt_sweep.specs.Prelude.{HasValue, chess, AreRanks, SomeAbove, TableValue, Mate, Zeroing, table_at, beside}
use Rattle.egt_sweep.specs.Prelude.{class_game, class_game_is_lawful, mate_table, values_below}
use Rattle.egt_sweep.proofs.BuiltTables.{RanksTell, mates_show_values, none_above}
use Rattle.egt_sweep.proofs.KingsAlone.{kings_have_one_game, kings_without_pawns}
use Rattle.egt_sweep.proofs.TrueChildren.{true_children}
use Rattle.egt_sweep.proofs.building.zeroing_ranks.Goals as goal

pub returns-in-Ok-clause-ranks : goal.returns-in-Ok-clause-ranks
returns-in-Ok-clause-ranks c =
    let class = c.args.class in
    let tables = table_at c.args.library.now in
    let mates = c.args.mates.now in
    let other = beside tables (mate_table class mates) in
    let first : class ≡ 0 = sym c.number.ensures.value ∙ c.if-number-eq0.true in
    let one = kings_have_one_game c.laws.ensures class first (λ flipped p ok of. c.a_class_without_pawns_has_none.ensures class flipped p ok of (kings_without_pawns class first)) tables other in
    let ranks = alike_ranks (class_game other Zeroing class) (class_game tables Mate class) (class_game_is_lawful other Zeroing class) one c.args.limit mates c.requires.mates in
    subst (AreRanks (class_game other Zeroing class) c.args.limit) (sym (c.from_entries.ensures ∙ c.in-Ok.ensures.items ∙ c.entries.ensures)) ranks

pub unreachable-requires : goal.unreachable-requires
unreachable-requires c =
    let tables = table_at c.args.library.now in
    let class = c.args.class in
    let limit = c.args.limit in
    let mates = c.args.mates.now in
    let game = c.in-Ok-new.game in
    let made = c.in-Ok-new.ensures in
    let below = subst (λ (n : ℕ). n < 36) c.number.ensures.value c.number.ensures.below in
    let children = true_children tables class c.children_are_true.ensures c.requires.children in
    let told : RanksTell (class_game tables Mate class) class (HasValue chess) = λ i p v ok is rank. c.mate_ranks_are_values.ensures.values tables class i p v below (values_below tables class children) ok is rank in
    let shows = mates_show_values c.laws.ensures class below tables limit c.requires.limit mates c.requires.mates told in
    let above = c.solve.ensures.too_deep (c.in-Err-TooDeep.is ∙ ap Err c.in-Err-TooDeep.field-0-is) in
    let here = subst (λ (xs : List ℕ). SomeAbove (class_game (beside tables (mate_table class xs)) Zeroing class) limit) made.mates
    (subst (λ (xs : List (Option TableValue)). SomeAbove (class_game (beside (table_at xs) (mate_table class game.mates.now)) Zeroing class) limit) made.library
    (subst (λ (k : ℕ). SomeAbove (class_game (beside (table_at game.library.now) (mate_table k game.mates.now)) Zeroing k) limit) made.class above)) in
    none_above c.laws.ensures class below tables limit c.requires.limit mates c.requires.mates told
    (λ n i p v ok is has within t. c.zeroing_ranks_are_distances.ensures.in_time tables (mate_table class mates) n limit i p v below (values_below tables class children) shows ok is has within t) here
