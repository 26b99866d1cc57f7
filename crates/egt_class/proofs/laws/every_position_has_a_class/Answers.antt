use Rattle.std.specs.Prelude.{◌+◌, ◌*◌, None, map}
use Rattle.egt_class.specs.Prelude.{man_entry, slot_of, class_at, flip_at}
use Rattle.std.specs.FinMap as placement
use Rattle.egt_class.proofs.NonKings.{last_two, last_two-beside, one_king_each}
use Rattle.egt_class.proofs.PairTable.{pair_is_of, pair_below, slot_below}
use Rattle.egt_class.proofs.laws.every_position_has_a_class.Goals as goal

pub returns : goal.returns
returns c p ok =
    let pair = last_two None None (map man_entry (placement.entries p.men)) in
    let men = last_two-beside p ok.few (c.listed_men_are_counted.ensures p.men ok.on_board) (one_king_each p ok c.one_king_is_counted.ensures) in
    let at = 11 * slot_of pair.0 + slot_of pair.1 in (
      class_at at,
      flip_at at,
      pair_below (slot_of pair.0) (slot_of pair.1) (slot_below pair.0 men.first_other) (slot_below pair.1 men.second_other),
      pair_is_of p pair.0 pair.1 men,
    )
